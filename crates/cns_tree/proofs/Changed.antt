-- Values changed in place, around a row e with others on its left and right.
-- For `change_counted` and `change_each` of tree.rt.
use Rattle.cns_tree.proofs.Common.{◌≡◌, ℕ, suc, length, ◌&&◌, true, List, [], ◌∷◌, ◌++◌, Some, refl, sym, ap, ◌∙◌, subst, Less, Equal, Greater, is_lt, below_all, is_sorted, key_cmp, keys_total, find, Key, ChangesAt, arith, ChangesEach}
use Rattle.cns_tree.proofs.Rows.{find_left, find_middle, find_right, length_put, puts_left, puts_middle, puts_right, rises_put}

-- what a change makes of the rows d
pub record Changed {V : Type 0} (P : V → V → Type 0) (k : Key) (d new : List (Key × V)) : Type 0 where
  pub rows : ChangesAt P k d new
  pub rises : is_sorted key_cmp new ≡ true

-- rows with their values changed: they rise, and there are as many
pub record Kept {V : Type 0} (d new : List (Key × V)) : Type 0 where
  pub rises : is_sorted key_cmp new ≡ true
  pub count : length new ≡ length d

-- after a change at a key
pub kept_at : {V : Type 0} (P : V → V → Type 0) (k : Key) (d new : List (Key × V)) → is_sorted key_cmp d ≡ true → ChangesAt P k d new → Kept d new
kept_at {V} P k d new s = grind (arith, rises_put, keys_total, length_put)

module _ {V : Type 0} (P : V → V → Type 0) (k : Key) (d l : List (Key × V)) (e : Key × V) (r : List (Key × V)) (is : d ≡ l ++ e ∷ r) (s : is_sorted key_cmp (l ++ e ∷ r) ≡ true) where
  -- where the key is found
  pub found_left : key_cmp k e.0 ≡ Less → find key_cmp k d ≡ find key_cmp k l
  found_left p = ap (find key_cmp k) is ∙ find_left key_cmp keys_total k l e r p s

  pub found_right : key_cmp k e.0 ≡ Greater → find key_cmp k d ≡ find key_cmp k r
  found_right p = ap (find key_cmp k) is ∙ find_right key_cmp keys_total k l e r p s

  pub found_middle : key_cmp k e.0 ≡ Equal → find key_cmp k d ≡ Some e.1
  found_middle p = ap (find key_cmp k) is ∙ find_middle key_cmp keys_total k l e r p s

  -- a change at e's key
  pub changed_middle : (w : V) → key_cmp k e.0 ≡ Equal → P e.1 w → Changed P k d (l ++ (e.0, w) ∷ r)
  changed_middle w p h = grind (arith, puts_middle key_cmp keys_total k w d l e r p is s, found_middle)

  -- a change at a key below e is one on its left side
  pub changed_left : (m : List (Key × V)) → key_cmp k e.0 ≡ Less → ChangesAt P k l m → Changed P k d (m ++ e ∷ r)
  changed_left m p h = grind (arith, (λ (w : V). puts_left key_cmp keys_total k w d l e r p is s), found_left, h)

  -- and one above e on its right side
  pub changed_right : (m : List (Key × V)) → key_cmp k e.0 ≡ Greater → ChangesAt P k r m → Changed P k d (l ++ e ∷ m)
  changed_right m p h = grind (arith, (λ (w : V). puts_right key_cmp keys_total k w d l e r p is s), found_right, h)

-- where each value is changed, a key is below the rows where it was
below_each : {V : Type 0} (P : V → V → Type 0) (k : Key) (old new : List (Key × V)) → ChangesEach P old new → below_all key_cmp k new ≡ below_all key_cmp k old
unfolding ChangesEach
below_each P k [] [] h = refl
below_each P k (r ∷ rs) (s ∷ ss) (same, p, h) = λ i. is_lt (key_cmp k (same i)) && below_each P k rs ss h i
below_each P k _ _ h = absurd h

-- and the keys rise where they did
pub sorted_each : {V : Type 0} (P : V → V → Type 0) (old new : List (Key × V)) → ChangesEach P old new → is_sorted key_cmp new ≡ is_sorted key_cmp old
unfolding ChangesEach
sorted_each P [] [] h = refl
sorted_each P (r ∷ rs) (s ∷ ss) (same, p, h) = grind (arith, below_each, sorted_each P rs ss h)
sorted_each P _ _ h = absurd h

-- and there are as many
pub length_each : {V : Type 0} (P : V → V → Type 0) (old new : List (Key × V)) → ChangesEach P old new → length new ≡ length old
unfolding ChangesEach
length_each P [] [] h = refl
length_each P (r ∷ rs) (s ∷ ss) (same, p, h) = ap suc (length_each P rs ss h)
length_each P _ _ h = absurd h

-- after a change of each value
pub kept_each : {V : Type 0} (P : V → V → Type 0) (d new : List (Key × V)) → is_sorted key_cmp d ≡ true → ChangesEach P d new → Kept d new
kept_each P d new s h = record { rises = sorted_each P d new h ∙ s; count = length_each P d new h }

-- each value of some rows changed, then that of the row after them, then each of those after it
each_append : {V : Type 0} (P : V → V → Type 0) (l m : List (Key × V)) (e : Key × V) (w : V) (r s : List (Key × V)) → ChangesEach P l m → P e.1 w → ChangesEach P r s → ChangesEach P (l ++ e ∷ r) (m ++ (e.0, w) ∷ s)
unfolding ChangesEach
each_append P [] [] e w r s h p q = (refl, p, q)
each_append P (x ∷ l) (y ∷ m) e w r s (same, t, h) p q = (same, t, each_append P l m e w r s h p q)
each_append P _ _ e w r s h p q = absurd h

-- so each value of the rows d
pub each_changed : {V : Type 0} (P : V → V → Type 0) (d l m : List (Key × V)) (e : Key × V) (w : V) (r s : List (Key × V)) → d ≡ l ++ e ∷ r → ChangesEach P l m → P e.1 w → ChangesEach P r s → ChangesEach P d (m ++ (e.0, w) ∷ s)
each_changed P d l m e w r s is h p q = subst (λ u. ChangesEach P u (m ++ (e.0, w) ∷ s)) (sym is) (each_append P l m e w r s h p q)
