-- What an activity leaves of each group of parts, and the machine's reply and step, by whether a command is refused.
-- For `add_member` of parts/listing.rt, `withdraw` of parts/notice.rt and every other command, clause step.
use Rattle.cns_book.proofs.Common.{◌≡◌, ap, false, List, [], ◌∷◌, Some, None, Ok, Result, IsErr, arith, Activity, Command, Contents, Follows, Refusal, Reply, journal, refusal, activity_reply, Steps, ◌∙◌, sym, Bool, true, is_some, FollowsNotices, FollowsRows, Journal, Key, Rows, books, entries, exchanged, holding_at, is_close, posting, FollowsBatches, refl, ℕ, ◌++◌, length, map, filter, reverse, nat_lt, Cusip, Day, Liable, Liables, Posting, batches_since, closings, day, executes, issues, kept_batches, map-append, reverse-append, batch_same, executed}
use Rattle.cns_terms.specs.declared.fault.NoMemory.{NoMemory}
use Rattle.cns_book.proofs.EffectEntries.{holding-post}

-- a batch in an issue
abbrev pub in_issue : (Cusip → List Liable) → Cusip → Liables
in_issue f c = record { issue = c; members = f c }

-- the batches of a day, after an activity that executes no notice of that day
pub since_same : (p : Posting) (J K : Journal) → ((c : Cusip) → executes J (day K) c p.activity ≡ false) → batches_since (p ∷ J) K ≡ batches_since J K
since_same p J K h i = filter (λ b. nat_lt 0 (length b.members)) (map (λ c. record { issue = c; members = batch_same p J K c (h c) i }) (issues K))

-- those of many days, after one that executes none at all
pub batches_same : (p : Posting) (J : Journal) (Ks : List Journal) → ((n : ℕ) (c : Cusip) → executes J n c p.activity ≡ false) → map (batches_since (p ∷ J)) Ks ≡ map (batches_since J) Ks
batches_same p J Ks h i = map (λ K. since_same p J K (h (day K)) i) Ks

-- the batches of the day that was closed come last
pub batches_more : (opening : Day) (J : Journal) (d : Day) → kept_batches (posting opening J (Activity.Close d) ∷ J) ≡ kept_batches J ++ batches_since J J ∷ []
batches_more opening J d = grind (arith, reverse-append (J ∷ []) (closings J), map-append, batches_same (posting opening J (Activity.Close d)) J (reverse (closings J)) (λ n c. refl), since_same (posting opening J (Activity.Close d)) J J (λ c. refl))

-- an accepted activity
pub accepted : {s : Contents} (L : List Activity) (x : Activity) (r : Reply) → refusal s.opening (journal s.opening L) (Command.Activity x) ≡ None → r ≡ activity_reply s.opening (journal s.opening L) x → Follows (x ∷ L) s → Steps L (Command.Activity x) (Ok r) s
accepted {s} L x r none same f = grind arith

-- a refused one
pub refused : {s : Contents} (L : List Activity) (x : Activity) (r : Refusal) → refusal s.opening (journal s.opening L) (Command.Activity x) ≡ Some r → Follows L s → Steps L (Command.Activity x) (Ok (Reply.Refused r)) s
refused {s} L x r some f = grind arith

-- without memory nothing that is shown has changed
pub stopped : {s : Contents} (L : List Activity) (cmd : Command) (r : Result Reply NoMemory) → IsErr r → refusal s.opening (journal s.opening L) cmd ≡ None → Follows L s → Steps L cmd r s
stopped L cmd r h1 h2 h3 = grind arith

-- whether an activity changes members, listed issues or retired ones
abbrev pub is_listing : Activity → Bool
is_listing (Activity.Member m) = true
is_listing (Activity.Issue l) = true
is_listing (Activity.Price l) = true
is_listing (Activity.Exchange x) = true
is_listing _ = false

-- whether an activity gives notice or touches one
abbrev pub is_noticing : Activity → Bool
is_noticing (Activity.Receive m) = true
is_noticing (Activity.Split s) = true
is_noticing (Activity.Exchange x) = true
is_noticing (Activity.Notice m) = true
is_noticing (Activity.Withdraw k) = true
is_noticing (Activity.Execute x) = true
is_noticing (Activity.Close d) = true
is_noticing _ = false

module _ (s : Contents) (J : Journal) where
  abbrev after : Activity → Journal
  after x = posting s.opening J x ∷ J

  -- what an activity books that is no exchange, and no more, is the effect on the rows
  pub rows_booked : (x : Activity) (rows : Rows) → is_close x ≡ false → is_listing x ≡ false → ((k : Key) → holding_at rows k ≡ books (entries s.opening J x) k (holding_at s.rows k)) → FollowsRows J s → FollowsRows (after x) (record s { rows = rows })
  rows_booked x rows still unlisted b f k = let none : exchanged x ≡ None = grind arith in b k ∙ ap (books (entries s.opening J x) k) (f k) ∙ sym (holding-post (posting s.opening J x) J k still none)

  -- an activity that books nothing and touches no notice leaves them
  pub rows_stay : (x : Activity) → is_close x ≡ false → is_noticing x ≡ false → entries s.opening J x ≡ [] → FollowsRows J s → FollowsRows (after x) s
  rows_stay x still unnoticed nothing f k = grind arith

  -- an activity that touches no notice leaves them
  pub notices_stay : (x : Activity) → is_noticing x ≡ false → FollowsNotices J s → FollowsNotices (after x) s
  notices_stay x h1 h2 = grind arith

  -- one that executes none leaves the batches
  pub batches_stay : (x : Activity) → is_close x ≡ false → is_some (executed x) ≡ false → FollowsBatches J s → FollowsBatches (after x) s
  batches_stay x still unexecuted f = grind (arith, batches_same)
