-- All places of some accounts in some issues, in the order of keys.
use Rattle.cns_terms.proofs.Common.{◌≡◌, refl, Bool, true, ◌&&◌, ◌||◌, cond, eqb, List, [], ◌∷◌, ◌++◌, map, flat_map, Some, None, bytes_eq, nat_cmp, is_lt, arith, Account, Cusip, Key, above_all, below_all, bytes_eq-Decides, is_rising, is_sorted, key_cmp, list_any, nat_cmp_total, same_key, slice_cmp, tied_itself, nat_tests}
use Rattle.std.specs.FinMap.{find}

-- an account's place in an issue
abbrev pub key : Account → Cusip → Key
key a c = record { account = a; issue = c }

-- an account's places
abbrev pub cells_of : {X : Type 0} → (Key → X) → Account → List Cusip → List (Key × X)
cells_of f a cs = map (λ c. (key a c, f (key a c))) cs

-- the places of all
abbrev pub cells : {X : Type 0} → (Key → X) → List Account → List Cusip → List (Key × X)
cells f bs cs = flat_map (λ a. cells_of f a cs) bs

module _ {X : Type 0} (f : Key → X) where
  -- a place is below those of a later account, and of its own in later issues
  below_row : (a b : Account) (c : Cusip) (cs : List Cusip) → (is_lt (nat_cmp a b) || (eqb a b && above_all (slice_cmp nat_cmp) c cs)) ≡ true → below_all key_cmp (key a c) (cells_of f b cs) ≡ true
  below_row a b c [] h = refl
  below_row a b c (d ∷ cs) h = grind (arith, nat_tests, tied_itself nat_cmp_total a, below_row a b c cs)

  below_append : (k : Key) (es fs : List (Key × X)) → below_all key_cmp k es ≡ true → below_all key_cmp k fs ≡ true → below_all key_cmp k (es ++ fs) ≡ true
  below_append k [] fs p q = q
  below_append k (e ∷ es) fs p q = grind (arith, below_append k es fs)

  below_cells : (a : Account) (c : Cusip) (bs : List Account) (cs : List Cusip) → above_all nat_cmp a bs ≡ true → below_all key_cmp (key a c) (cells f bs cs) ≡ true
  below_cells a c [] cs h = refl
  below_cells a c (b ∷ bs) cs h = grind (arith, below_append, below_row a b c cs, below_cells a c bs cs)

  sorted_append : (a : Account) (ds : List Cusip) (bs : List Account) (cs : List Cusip) → above_all nat_cmp a bs ≡ true → is_rising (slice_cmp nat_cmp) ds ≡ true → is_sorted key_cmp (cells f bs cs) ≡ true → is_sorted key_cmp (cells_of f a ds ++ cells f bs cs) ≡ true
  sorted_append a [] bs cs h p q = q
  sorted_append a (d ∷ ds) bs cs h p q = grind (arith, nat_tests, below_append, below_row a a d ds, below_cells a d bs cs, sorted_append a ds bs cs)

  -- the places are in order
  pub sorted_cells : (bs : List Account) (cs : List Cusip) → is_rising nat_cmp bs ≡ true → is_rising (slice_cmp nat_cmp) cs ≡ true → is_sorted key_cmp (cells f bs cs) ≡ true
  sorted_cells [] cs p q = refl
  sorted_cells (a ∷ bs) cs p q = grind (arith, sorted_append a cs bs cs, sorted_cells bs cs)

  find_row : (k : Key) (a : Account) (cs : List Cusip) → find key_cmp k (cells_of f a cs) ≡ cond (eqb k.account a && list_any (λ c. bytes_eq k.issue c) cs) (Some (f k)) None
  find_row k a [] = grind arith
  find_row k a (c ∷ cs) = grind (arith, nat_tests, bytes_eq-Decides k.issue c, same_key k (key a c), find_row k a cs)

  find_first : (k : Key) (es fs : List (Key × X)) (b d : Bool) → find key_cmp k es ≡ cond b (Some (f k)) None → find key_cmp k fs ≡ cond d (Some (f k)) None → find key_cmp k (es ++ fs) ≡ cond (b || d) (Some (f k)) None
  find_first k [] fs b d p q = grind arith
  find_first k (e ∷ es) fs b d p q = grind (arith, find_first k es fs b d)

  either : (x y z : Bool) → ((x && z) || (y && z)) ≡ ((x || y) && z)
  either x y z = grind arith

  -- the value at a place, where the account and the issue are among those
  pub find_cells : (k : Key) (bs : List Account) (cs : List Cusip) → find key_cmp k (cells f bs cs) ≡ cond (list_any (λ a. eqb k.account a) bs && list_any (λ c. bytes_eq k.issue c) cs) (Some (f k)) None
  find_cells k [] cs = refl
  find_cells k (a ∷ bs) cs = grind (arith, find_first, find_row, either, find_cells k bs cs)
