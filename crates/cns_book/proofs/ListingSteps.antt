-- A member, an issue, a price or a dividend more: each leaves all parts but its own.
-- For `list_issue`, `add_member` and `set_price` of parts/listing.rt, and `declare_dividend` of parts/dividend.rt, clause step.
use Rattle.cns_book.proofs.Common.{◌≡◌, ℕ, ◌≤◌, Bool, false, ◌||◌, cond, eqb, List, [], ◌∷◌, bytes_eq, is_some, Option, Some, None, arith, Activity, Contents, Cusip, Declared, Follows, FollowsListings, FollowsPending, FollowsReferences, IsInRange, Listed, bytes_eq-Decides, entries, eqb_sym, is_close, is_listed, journal, member_limit, members, pays_before, price_in, price_limit, rate_limit, refusal, retired_in, put, price_branch, FollowsDividends, Command, Ok, Steps, Reply, Refusal, first_refusal, issue_rules, is_account, is_retired, IsSome, executed}
use Rattle.cns_terms.proofs.Everywhere.{any_put}
use Rattle.cns_terms.specs.declared.command.Listing.{Listing}
use Rattle.cns_book.specs.Members.{has_member}
use Rattle.cns_book.proofs.PartsStaying.{accepted, batches_stay, is_noticing, notices_stay, rows_stay}

module _ (L : List Activity) (s : Contents) where
  -- an activity that books nothing and closes no day, where the listings and the dividends follow it
  entered : (x : Activity) (members : List Bool) (prices : Listed) (dividends : List Declared) → Follows L s → IsInRange x → refusal s.opening (journal s.opening L) (Command.Activity x) ≡ None → is_close x ≡ false → is_noticing x ≡ false → is_some (executed x) ≡ false → entries s.opening (journal s.opening L) x ≡ []
      → FollowsReferences (journal s.opening (x ∷ L)) s → FollowsPending (journal s.opening (x ∷ L)) s
      → FollowsListings (journal s.opening (x ∷ L)) (record s { members = members; prices = prices; dividends = dividends })
      → FollowsDividends (journal s.opening (x ∷ L)) (record s { dividends = dividends }) → Follows (x ∷ L) (record s { members = members; prices = prices; dividends = dividends })
  entered x members prices dividends f range none still unnoticed unexecuted books references pending listings declared = grind (arith, rows_stay, notices_stay, batches_stay)

  -- a member more
  pub member_added : (m : ℕ) (new : List Bool) → Follows L s → m ≤ member_limit → is_account (journal s.opening L) m ≡ false → ((a : ℕ) → has_member new a ≡ (eqb m a || has_member s.members a)) → Steps L (Command.Activity (Activity.Member m)) (Ok Reply.Accepted) (record s { members = new })
  member_added m new f range absent h = grind (arith, accepted, entered (Activity.Member m) new s.prices s.dividends f, f.listings, eqb_sym, any_put)

-- a dividend more
pub dividend_declared : (L : List Activity) (s : Contents) (d : Declared) (new : List Declared) → Follows L s → d.rate ≤ rate_limit → refusal s.opening (journal s.opening L) (Command.Activity (Activity.Dividend d)) ≡ None → new ≡ put pays_before d s.dividends
    → Steps L (Command.Activity (Activity.Dividend d)) (Ok Reply.Accepted) (record s { dividends = new })
dividend_declared L s d new f range none is = grind (arith, accepted, entered L s (Activity.Dividend d) s.members s.prices new f range none, f.references, f.pending, f.listings, f.dividends)

-- an issue more
pub issue_listed : (L : List Activity) (s : Contents) (l : Listing) (new : Listed) → Follows L s → l.price ≤ price_limit → is_some (price_in s.prices l.issue) ≡ false → ((c : Cusip) → price_in new c ≡ cond (bytes_eq l.issue c) (Some l.price) (price_in s.prices c))
    → ((c : Cusip) → retired_in new c ≡ retired_in s.prices c) → Steps L (Command.Activity (Activity.Issue l)) (Ok Reply.Accepted) (record s { prices = new })
issue_listed L s l new f range absent h r = grind (arith, accepted, entered L s (Activity.Issue l) s.members new s.dividends f range, f.listings, f.references, f.pending, f.dividends, price_branch, any_put, h, r)

-- a price set anew
pub price_set : (L : List Activity) (s : Contents) (l : Listing) (new : Listed) (o : Option Refusal) → Follows L s → l.price ≤ price_limit → o ≡ first_refusal (issue_rules (is_listed (journal s.opening L) l.issue) (is_retired (journal s.opening L) l.issue)) → o ≡ None → ((c : Cusip) → price_in new c ≡ cond (bytes_eq l.issue c) (Some l.price) (price_in s.prices c))
    → ((c : Cusip) → retired_in new c ≡ retired_in s.prices c) → Steps L (Command.Activity (Activity.Price l)) (Ok Reply.Accepted) (record s { prices = new })
price_set L s l new o f range said is h r = grind (arith, accepted, entered L s (Activity.Price l) s.members new s.dividends f range, f.listings, f.references, f.pending, f.dividends, price_branch, bytes_eq-Decides l.issue, h, r)

-- an issue that the rules let be booked in is listed, and is not retired
pub issue_current : (L : List Activity) (s : Contents) (i : Cusip) (o : Option Refusal) → Follows L s → o ≡ first_refusal (issue_rules (is_listed (journal s.opening L) i) (is_retired (journal s.opening L) i)) → o ≡ None → IsSome (price_in s.prices i) × (retired_in s.prices i ≡ false)
issue_current L s i o f said is = grind (arith, f.listings.prices i, f.listings.retired i)
