-- What is booked for a split or an exchange: that its numbers are small, its order and its issues.
-- For `all_bookings` and `bookings_for` of acting.rt, `book` of bookings.rt.
use Rattle.cns_actions.proofs.Common.{◌≡◌, refl, ℕ, ◌≤◌, ◌<◌, true, false, List, [], ◌∷◌, ◌++◌, arith, is_lt, nat_cmp, flat_map, Account, Action, AllByRecursion, AreInIssues, AreSmall, Booking, CanBeBooked, Change, Cusip, HasSpace, Holder, IsFew, IsForAnother, Key, Rows, all_bookings, all_holders_of, below_all, bookings_for, by_key, change_of, corporation, each_append, has_position_or_age, holding_at, ints, is_eq-slice_cmp, is_sorted, issue_of, key_cmp, member_bookings, member_limit, nat_list_cmp_total, nat_tests, opposite, same_issue, slice_cmp, not}
use Rattle.cns_actions.proofs.ByAccount.{above_zero, are_above, are_rising, each_listed, listed_rising, place}

-- few members' changes make small entries
pub small_bookings : (x : Action) (a : Account) (c : Change) (n : ℕ) → IsFew member_limit c → AreSmall (bookings_for x a c n)
small_bookings x a c n few = grind (arith, ints)

-- positions that can be booked leave room for more
pub has_space : (R : Rows) → CanBeBooked R → (k : Key) → HasSpace (holding_at R k)
has_space R can k = grind (arith, can.members k.account k.issue, can.corporation k.issue, can.cents k)

-- a key is below those of higher accounts
below_accounts : (k : Key) (bs : List Booking) → AllByRecursion (λ b. k.account < b.entry.account) bs → below_all key_cmp k (by_key bs) ≡ true
below_accounts k [] h = refl
below_accounts k (b ∷ bs) h = grind (arith, nat_tests, below_accounts k bs h.1)

-- ---- their issues

-- an account's keys in two issues, in either order
in_issues : (a : ℕ) (c d : Cusip) → same_issue c d ≡ false → is_lt (key_cmp (place d a) (place c a)) ≡ not (is_lt (slice_cmp nat_cmp c d))
in_issues a c d other = grind (arith, nat_tests, nat_list_cmp_total.antisymm d c, is_eq-slice_cmp c d)

-- bookings of an account, and then those of higher ones, are in order
change_sorted : (x : Action) → IsForAnother x → (a : Account) (c : Change) (n : ℕ) (ds : List Booking) → AllByRecursion (λ b. a < b.entry.account) ds → is_sorted key_cmp (by_key ds) ≡ true → is_sorted key_cmp (by_key (bookings_for x a c n ++ ds)) ≡ true
change_sorted x another a c n ds above sorted = grind (arith, nat_tests, below_accounts, in_issues)

module _ (x : Action) (another : IsForAnother x) where
  -- the bookings of higher members
  above_bookings : (a : ℕ) (hs : List Holder) → are_above a hs ≡ true → AllByRecursion (λ b. a < b.entry.account) (flat_map (member_bookings x) hs)
  above_bookings a [] l = tt
  above_bookings a (h ∷ hs) l = each_append _ (member_bookings x h) (flat_map (member_bookings x) hs) (grind (arith, nat_tests)) (above_bookings a hs (grind arith))

  -- members' bookings are in order
  members_sorted : (hs : List Holder) → are_rising hs ≡ true → is_sorted key_cmp (by_key (flat_map (member_bookings x) hs)) ≡ true
  members_sorted [] r = refl
  members_sorted (h ∷ hs) r = grind (arith, below_accounts, change_sorted x another h.account (change_of x h.shares) h.oldest (flat_map (member_bookings x) hs), above_bookings h.account hs, members_sorted hs)

  -- and so with the corporation's before them
  pub all_sorted : (sum : Change) (n : ℕ) (R : Rows) → is_sorted key_cmp R ≡ true → is_sorted key_cmp (by_key (all_bookings x sum n (all_holders_of x R))) ≡ true
  all_sorted sum n R order = grind (arith, nat_tests, change_sorted x another corporation (opposite sum) n, above_bookings corporation (all_holders_of x R), above_zero (all_holders_of x R), each_listed has_position_or_age refl (issue_of x) R order (λ h. 1 ≤ h.account) (λ a le held. le), members_sorted (all_holders_of x R), listed_rising has_position_or_age refl (issue_of x) R order)

members_in_issues : (x : Action) (hs : List Holder) → AreInIssues x (flat_map (member_bookings x) hs)
members_in_issues x [] = tt
members_in_issues x (h ∷ hs) = grind (arith, members_in_issues x hs)

-- each booking is in one of the issues of the split or exchange
pub all_in_issues : (x : Action) (sum : Change) (n : ℕ) (hs : List Holder) → AreInIssues x (all_bookings x sum n hs)
all_in_issues x sum n hs = grind (arith, members_in_issues x hs)
