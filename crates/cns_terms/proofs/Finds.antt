-- Searches in lists whose keys strictly rise.
use Rattle.cns_terms.proofs.Facts.{◌≡◌, ◌∙◌, sym, ap, refl, Bool, true, false, cond, List, [], ◌∷◌, map, filter, Option, Some, None, is_lt, Ordering, Less, Equal, T, arith, AllByRecursion, IsTotalOrder, below_all, is_sorted, tied_itself, FinMap, entries-from_sorted, from_sorted, get-from_sorted, same_map, IsAntisymmetric, less}
use Rattle.std.specs.FinMap.{entries, find}
use Rattle.std.specs.List.Sorted.{IsStrictlySortedBy}

-- an option kept where its value passes a test
abbrev pub kept_if : {X : Type 0} → (X → Bool) → Option X → Option X
kept_if p None = None
kept_if p (Some x) = cond (p x) (Some x) None

pub as_T : (b : Bool) → b ≡ true → T b
as_T b h1 = grind arith

-- no key comes before itself
pub not_itself : {K : Type 0} {R : K → K → Ordering} (o : IsTotalOrder R) (k : K) → is_lt (R k k) ≡ false
not_itself o k = ap is_lt (tied_itself o k)

module _ {K X : Type 0} {R : K → K → Ordering} (o : IsTotalOrder R) where
  -- what lies above a key does not have it
  pub find_below : (k : K) (es : List (K × X)) → below_all R k es ≡ true → find R k es ≡ None
  find_below k [] b = refl
  find_below k (e ∷ es) b = grind (arith, less, find_below k es)

  below_filter : (p : X → Bool) (k : K) (es : List (K × X)) → below_all R k es ≡ true → below_all R k (filter (λ e. p e.1) es) ≡ true
  below_filter p k [] b = refl
  below_filter p k (e ∷ es) b = grind (arith, below_filter p k es)

  -- a filter keeps the order
  pub sorted_filter : (p : X → Bool) (es : List (K × X)) → is_sorted R es ≡ true → is_sorted R (filter (λ e. p e.1) es) ≡ true
  sorted_filter p [] s = refl
  sorted_filter p (e ∷ es) s = grind (arith, below_filter p e.0 es, sorted_filter p es)

  -- what ties with a key below all is below all
  pub tied_below : (q k : K) (es : List (K × X)) → R q k ≡ Equal → below_all R k es ≡ true → below_all R q es ≡ true
  tied_below q k [] t b = refl
  tied_below q k (e ∷ es) t b = grind (arith, o.congr q k e.0, tied_below q k es)

  -- a search in what a filter keeps
  pub find_filter : (p : X → Bool) (q : K) (es : List (K × X)) → is_sorted R es ≡ true → find R q (filter (λ e. p e.1) es) ≡ kept_if p (find R q es)
  find_filter p q [] s = refl
  find_filter p q (e ∷ es) s = grind (arith, tied_below q e.0 es, find_below q es, find_filter p q es)

  -- two lists in order that answer alike are the same
  pub same_lists : IsAntisymmetric R → (es fs : List (K × X)) → is_sorted R es ≡ true → is_sorted R fs ≡ true → ((q : K) → find R q es ≡ find R q fs) → es ≡ fs
  same_lists a es fs s t h =
      let m : FinMap R X = from_sorted es in
      let n : FinMap R X = from_sorted fs in
      sym (entries-from_sorted R es (as_T _ s))
      ∙ ap entries (same_map o a m n (λ q. get-from_sorted R es q (as_T _ s) ∙ h q ∙ sym (get-from_sorted R fs q (as_T _ t))))
      ∙ entries-from_sorted R fs (as_T _ t)

  -- what a filter keeps first lies above what lies below all
  first_above : (t : K → Bool) (k : K) (xs : List (K × X)) (e : K × X) (rest : List (K × X)) → below_all R k xs ≡ true → filter (λ x. t x.0) xs ≡ e ∷ rest → R k e.0 ≡ Less
  first_above t k [] e rest b h = cc
  first_above t k (x ∷ xs) e rest b h = grind (arith, first_above t k xs e rest)

  all_above : (t : K → Bool) (k : K) (xs : List (K × X)) → ((q : K) → R k q ≡ Less → t q ≡ true) → below_all R k xs ≡ true → filter (λ x. t x.0) xs ≡ xs
  all_above t k [] later b = refl
  all_above t k (x ∷ xs) later b = grind (arith, less, later x.0, all_above t k xs later)

  -- past the first that a rising test keeps, the rest are those above it
  pub next_above : (t : K → Bool) (xs : List (K × X)) (e : K × X) (rest : List (K × X)) → ((k q : K) → t k ≡ true → R k q ≡ Less → t q ≡ true) → is_sorted R xs ≡ true → filter (λ y. t y.0) xs ≡ e ∷ rest → filter (λ y. is_lt (R e.0 y.0)) xs ≡ rest
  next_above t [] e rest up s h = cc
  next_above t (x ∷ xs) e rest up s h = grind (arith, not_itself o x.0, all_above (λ q. is_lt (R x.0 q)) x.0 xs (λ q l. ap is_lt l), all_above t x.0 xs, up x.0, first_above t x.0 xs e rest, next_above t xs e rest up)

  below_from : (k : K) (es : List (K × X)) → AllByRecursion (λ q. R k q ≡ Less) (map (λ e. e.0) es) → below_all R k es ≡ true
  below_from k [] h = refl
  below_from k (e ∷ es) h = grind (arith, below_from k es)

  -- the two words for keys that strictly rise
  pub sorted_from : (es : List (K × X)) → IsStrictlySortedBy R (map (λ e. e.0) es) → is_sorted R es ≡ true
  unfolding IsStrictlySortedBy
  sorted_from [] h = refl
  sorted_from (e ∷ es) h = grind (arith, below_from, sorted_from es)
