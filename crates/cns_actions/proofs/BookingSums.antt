-- What is booked for a split or an exchange: that it makes of every holding what the definitions do.
-- For `bookings_for` of acting.rt.
use Rattle.cns_actions.proofs.Common.{◌≡◌, ◌∙◌, sym, refl, ℕ, ℤ, pos, ◌+ℤ◌, ◌-ℤ◌, neg_ℤ, Bool, true, false, cond, ◌&&◌, ◌==◌, List, [], ◌∷◌, ◌++◌, map, None, arith, int_eq, flat_map, Account, Action, AreHolders, Booking, Change, Cusip, Entry, Holder, Holding, Key, Member, Rows, against_corporation, age_brought, all_bookings, all_holders_of, bookings_for, books, carried_to, cents_for, converted, corporation, entries_in, entries_of, entry, greatest, has_position, has_position_or_age, held_above, holders, holders_in, holders_of, holding_at, ints, is_sorted, issue_of, key_cmp, makes, map-append, member_bookings, nat_tests, new_entry, old_entry, oldest_of, opposite, positions_in, same_issue, shares_for, sum_of, total, total-add, total-append, total-map, total-zero, with_age, with_position, total-neg, split_entry}
use Rattle.cns_terms.proofs.CarriedAges.{greatest-append}
use Rattle.cns_actions.proofs.ByAccount.{listed_at, listed_rising, place, greatest_at, Alike, legs_alike, shown}

-- the entries for such members
abbrev pub entries_by : Action → List Holder → List Entry
entries_by (Action.Split s) hs = against_corporation s.issue (map (λ h. split_entry s (λ _. h.shares) h.account) hs)
entries_by (Action.Exchange x) hs = against_corporation x.old (map (λ h. old_entry x (λ _. h.shares) h.account) hs) ++ against_corporation x.successor (map (λ h. new_entry x (λ _. h.shares) h.account) hs)

-- they are alike, whether the members are named or shown
against_alike : (c : Cusip) (es fs : List Entry) → Alike es fs → Alike (against_corporation c es) (against_corporation c fs)
against_alike c es fs same f = λ i. f (entry corporation c (neg_ℤ (same (λ e. e.shares) i)) (neg_ℤ (same (λ e. e.cents) i))) +ℤ same f i

pub entries_alike : (R : Rows) → is_sorted key_cmp R ≡ true → (x : Action) (ms : List Member) → AreHolders (positions_in R (issue_of x)) ms → Alike (entries_of x (positions_in R (issue_of x)) ms) (entries_by x (holders_of x R))
entries_alike R order (Action.Split s) ms are f = against_alike s.issue _ _ (legs_alike R order s.issue ms are (λ a n. split_entry s (λ _. n) a)) f
entries_alike R order (Action.Exchange x) ms are f = grind (arith, against_alike x.old _ _ (legs_alike R order x.old ms are (λ a n. old_entry x (λ _. n) a)) f, against_alike x.successor _ _ (legs_alike R order x.old ms are (λ a n. new_entry x (λ _. n) a)) f, total-append f (against_corporation x.old (map (old_entry x (positions_in R x.old)) (holders (positions_in R x.old) ms))), total-append f (against_corporation x.old (map (λ h. old_entry x (λ _. h.shares) h.account) (shown R x.old))))

-- ---- what is booked adds up to the same

-- sums that nothing adds to
abbrev IsSum : (Entry → ℤ) → Type 0
IsSum f = (a : Account) (c : Cusip) → f (entry a c (pos 0) (pos 0)) ≡ pos 0

-- a sum over a member's entries
abbrev legs : (Entry → ℤ) → Action → Holder → ℤ
legs f (Action.Split s) h = f (split_entry s (λ _. h.shares) h.account)
legs f (Action.Exchange x) h = f (old_entry x (λ _. h.shares) h.account) +ℤ f (new_entry x (λ _. h.shares) h.account)

-- what is booked for members adds up over those with a position
member_total : (f : Entry → ℤ) → IsSum f → (x : Action) (h : Holder) → total f (entries_in (member_bookings x h)) ≡ cond (int_eq h.shares (pos 0)) (pos 0) (legs f x h)
member_total f sum x h = grind (arith, ints)

members_total : (f : Entry → ℤ) → IsSum f → (x : Action) (hs : List Holder) → total f (entries_in (flat_map (member_bookings x) hs)) ≡ total (legs f x) (with_position hs)
members_total f sum x [] = refl
members_total f sum x (h ∷ hs) = grind (arith, ints, map-append, total-append, member_total f sum x h, members_total f sum x hs)

-- a sum of differences
differences : (f g : Holder → ℤ) (hs : List Holder) → neg_ℤ (total f hs) -ℤ neg_ℤ (total g hs) ≡ neg_ℤ (total (λ h. f h -ℤ g h) hs)
differences f g hs = omega (arith, ints, total-add f (λ h. neg_ℤ (g h)) hs, total-neg g hs)

-- a sum over the entries for members, and the corporation's against them
against : (f : Entry → ℤ) (c : Cusip) (L : Holder → Entry) (hs : List Holder) → total f (against_corporation c (map L hs)) ≡ f (entry corporation c (neg_ℤ (total (λ h. (L h).shares) hs)) (neg_ℤ (total (λ h. (L h).cents) hs))) +ℤ total (λ h. f (L h)) hs
against f c L hs = rw (total-map f L hs, total-map (λ e. e.shares) L hs, total-map (λ e. e.cents) L hs) refl

-- a sum over two bookings in either order
pair_total : (f : Entry → ℤ) (t : Bool) (b d : Booking) (bs : List Booking) → total f (entries_in (cond t (b ∷ d ∷ []) (d ∷ b ∷ []) ++ bs)) ≡ f b.entry +ℤ (f d.entry +ℤ total f (entries_in bs))
pair_total f t b d bs = grind (arith, ints)

-- with the corporation's, all that is booked
bookings_alike : (f : Entry → ℤ) → IsSum f → (x : Action) (n : ℕ) (hs : List Holder) → total f (entries_in (all_bookings x (sum_of x (with_position hs)) n hs)) ≡ total f (entries_by x (with_position hs))
bookings_alike f sum (Action.Split s) n hs =
    let ks = with_position hs in
    rw (members_total f sum (Action.Split s) hs, against f s.issue (λ h. split_entry s (λ _. h.shares) h.account) ks, differences (λ h. converted s.ratio h.shares) (λ h. h.shares) ks) refl
bookings_alike f sum (Action.Exchange x) n hs =
    let ks = with_position hs in
    let O = λ (h : Holder). old_entry x (λ _. h.shares) h.account in
    let N = λ (h : Holder). new_entry x (λ _. h.shares) h.account in
    pair_total f _ _ _ (flat_map (member_bookings (Action.Exchange x)) hs)
    ∙ rw (members_total f sum (Action.Exchange x) hs, total-add (λ h. f (O h)) (λ h. f (N h)) ks, total-append f (against_corporation x.old (map O ks)) (against_corporation x.successor (map N ks)), against f x.old O ks, against f x.successor N ks, total-neg (λ h. h.shares) ks, total-zero ks)
    (omega (arith, ints))

-- those with a position are the holders of one
pub positions_kept : (c : Cusip) (rows : Rows) → with_position (holders_in has_position_or_age c rows) ≡ holders_in has_position c rows
positions_kept c [] = refl
positions_kept c (r ∷ rows) = grind (arith, positions_kept c rows)

-- ---- the ages

-- whether ages are brought to a key
abbrev brings : Action → Key → Bool
brings (Action.Split s) k = false
brings (Action.Exchange x) k = same_issue x.successor k.issue

-- the age that an account's bookings bring to a key, and the greatest that the members' do
members_age : (x : Action) (k : Key) (hs : List Holder) → greatest (carried_to k) (flat_map (member_bookings x) hs) ≡ greatest (λ h. cond ((h.account == k.account) && brings x k) h.oldest 0) hs
members_age x k [] = refl
members_age x k (h ∷ hs) = grind (arith, nat_tests, greatest-append (carried_to k) (member_bookings x h) (flat_map (member_bookings x) hs), members_age x k hs)

same_ages : (R : Rows) → is_sorted key_cmp R ≡ true → (k : Key) (x : Action) (sum : Change) → greatest (carried_to k) (all_bookings x sum (oldest_of (holding_at R (place (issue_of x) corporation))) (all_holders_of x R)) ≡ age_brought R x k
same_ages R order k x sum =
    let hs = all_holders_of x R in
    let rising = listed_rising has_position_or_age refl (issue_of x) R order in
    grind (arith, nat_tests, members_age x k hs, greatest_at k.account (brings x k) hs rising, listed_at has_position_or_age refl (issue_of x) R order k.account, greatest-append (carried_to k) (bookings_for x corporation (opposite sum) (oldest_of (holding_at R (place (issue_of x) corporation)))) (flat_map (member_bookings x) hs))

-- what is booked makes of a holding what the definitions do
pub same_makes : (R : Rows) → is_sorted key_cmp R ≡ true → (x : Action) (ms : List Member) → AreHolders (positions_in R (issue_of x)) ms → (k : Key) (h : Holding)
    → makes (all_bookings x (sum_of x (holders_of x R)) (oldest_of (holding_at R (place (issue_of x) corporation))) (all_holders_of x R)) k h ≡ with_age (age_brought R x k) (books (entries_of x (positions_in R (issue_of x)) ms) k h)
same_makes R order x ms are k h =
    let same = λ (f : Entry → ℤ) (sum : IsSum f). (rw (positions_kept (issue_of x) (held_above R None)) at (bookings_alike f sum x (oldest_of (holding_at R (place (issue_of x) corporation))) (all_holders_of x R))) ∙ sym (entries_alike R order x ms are f) in
    rw (same_ages R order k x (sum_of x (holders_of x R)), same (shares_for k.account k.issue) (λ a c. grind arith), same (cents_for k.account k.issue) (λ a c. grind arith)) refl
