-- What a search finds among batches whose issues rise, and what a charge changes there.
-- For `place`, `charge` and `find` of day.rt, `charge` of batches.rt.
use Rattle.cns_retransmit.proofs.Common.{◌≡◌, sym, refl, ℕ, zero, suc, ◌-◌, ◌<◌, ◌≤◌, true, false, List, [], ◌∷◌, length, get_or, set, Some, None, Ordering, arith, Less, Equal, Greater, nat_cmp, bytes_eq, All, get_or-set_same, get_or-set_other, length-set, nat_tests, AllWithin, Cusip, Fill, IsNonDecreasingBy, Liables, RiseByIssue, batch_in, below_all, by_issue, cases_lt, changed_at, charged_in, is_eq-slice_cmp, less, nat_list_cmp_total, ordering_index, slice_cmp, get_or-map, ext_get_or, cases_eq, find_at, map_fixed, position_or_len_is, length-map, get_or_head, get_or_tail, set_past, charged_by, charged_if, charged_on}
use Rattle.std.proofs.lemmas.Option.{slice_get_past, slice_get-get_or}

-- the order of issues
abbrev pub issue_cmp : Cusip → Cusip → Ordering
issue_cmp = slice_cmp nat_cmp

-- an issue below all is below each
below_each : (c : Cusip) (bs : List Liables) (i : ℕ) (d : Liables) → below_all issue_cmp c (by_issue bs) ≡ true → i < length bs → issue_cmp c (get_or bs i d).issue ≡ Less
below_each c [] i d h lt = absurd (omega arith)
below_each c (b ∷ bs) i d h lt = grind (arith, less, get_or_head b bs i d, get_or_tail, below_each c bs (i - 1) d)

-- the issue of an earlier batch is below that of a later
below_later : (bs : List Liables) (i j : ℕ) (d : Liables) → RiseByIssue bs → i < j → j < length bs → issue_cmp (get_or bs i d).issue (get_or bs j d).issue ≡ Less
below_later [] i j d s p q = absurd (omega arith)
below_later (b ∷ bs) i j d s p q = grind (arith, get_or_head b bs i d, get_or_tail, below_each b.issue bs (j - 1) d, below_later bs (i - 1) (j - 1) d)

-- how the issues of batches compare with one issue
pub comparisons_rise : (bs : List Liables) (c : Cusip) (d : Liables) → RiseByIssue bs → IsNonDecreasingBy (λ b. ordering_index (issue_cmp b.issue c)) bs
comparisons_rise bs c d s = grind (arith, ordering_index, cases_lt, nat_list_cmp_total, below_later)

-- where a search found the issue, the batch there alone is of it
alone : (bs : List Liables) (i : ℕ) (c : Cusip) (d : Liables) → RiseByIssue bs → i < length bs → issue_cmp (get_or bs i d).issue c ≡ Equal → (k : ℕ) → k < length bs → (k ≡ i → ⊥) → bytes_eq (get_or bs k d).issue c ≡ false
alone bs i c d s lt tied k h ne = grind (arith, is_eq-slice_cmp (get_or bs k d).issue c, nat_list_cmp_total.antisymm, nat_list_cmp_total, cases_lt k i, below_later bs k i d s, below_later bs i k d s)

-- the batch of an issue, where a search ended
pub batch_found : (bs : List Liables) (i : ℕ) (c : Cusip) (d : Liables) → RiseByIssue bs → i < length bs → issue_cmp (get_or bs i d).issue c ≡ Equal → batch_in bs c ≡ Some (get_or bs i d)
batch_found bs i c d s lt tied = grind (arith, find_at (λ b. bytes_eq b.issue c) bs, position_or_len_is (λ b. bytes_eq b.issue c) bs i d, is_eq-slice_cmp (get_or bs i d).issue c, alone bs i c d s lt tied, slice_get-get_or bs i d lt)

-- where it found a gap, no batch is of the issue
all_apart : (bs : List Liables) (i : ℕ) (c : Cusip) → AllWithin (λ b. issue_cmp b.issue c ≡ Less) bs 0 i → AllWithin (λ b. issue_cmp b.issue c ≡ Greater) bs i (length bs) → All (λ b. bytes_eq b.issue c ≡ false) bs
all_apart bs i c low high k d lt = grind (arith, is_eq-slice_cmp (get_or bs k d).issue c, low k d, high k d)

pub batch_missing : (bs : List Liables) (i : ℕ) (c : Cusip) → AllWithin (λ b. issue_cmp b.issue c ≡ Less) bs 0 i → AllWithin (λ b. issue_cmp b.issue c ≡ Greater) bs i (length bs) → batch_in bs c ≡ None
batch_missing bs i c low high = grind (arith, find_at (λ b. bytes_eq b.issue c) bs, position_or_len_is (λ b. bytes_eq b.issue c) bs (length bs) (record { issue = c; members = [] }), slice_get_past, all_apart bs i c low high)

-- ---- charges

-- and nothing is charged
pub nothing_charged : (bs : List Liables) (i : ℕ) (c : Cusip) (fs : List Fill) → AllWithin (λ b. issue_cmp b.issue c ≡ Less) bs 0 i → AllWithin (λ b. issue_cmp b.issue c ≡ Greater) bs i (length bs) → bs ≡ charged_in c fs bs
nothing_charged bs i c fs low high = sym (map_fixed (charged_if c fs) bs (λ k d lt. grind (arith, all_apart bs i c low high k d lt)))

-- a charge of a batch is one of the batches
pub written_charged : (bs : List Liables) (i : ℕ) (c : Cusip) (fs : List Fill) (x y : Liables) → RiseByIssue bs → i < length bs → issue_cmp (get_or bs i x).issue c ≡ Equal → x ≡ get_or bs i x → y ≡ charged_by fs x → set bs i y ≡ charged_in c fs bs
written_charged bs i c fs x y s lt tied read is = ext_get_or x _ _ (grind (arith, length-set, length-map)) (λ k h. grind (arith, nat_tests, length-set, length-map, get_or-map (charged_if c fs) bs k x x, get_or-set_same bs i y x lt, get_or-set_other bs i k y x, alone bs i c x s lt tied k, cases_eq k i, is_eq-slice_cmp x.issue c))

below_charged : (k c : Cusip) (fs : List Fill) (bs : List Liables) → below_all issue_cmp k (by_issue bs) ≡ true → below_all issue_cmp k (by_issue (charged_in c fs bs)) ≡ true
below_charged k c fs [] h = refl
below_charged k c fs (b ∷ bs) h = grind (arith, below_charged k c fs bs)

-- a charge keeps the order
pub charged_rise : (c : Cusip) (fs : List Fill) (bs : List Liables) → RiseByIssue bs → RiseByIssue (charged_in c fs bs)
charged_rise c fs [] s = refl
charged_rise c fs (b ∷ bs) s = grind (arith, below_charged, charged_rise c fs bs)

-- ---- days

-- a day that is changed; where it is not there, nothing is
changed_is : (f : List Liables → List Liables) (V : List (List Liables)) (i : ℕ) (d : List Liables) → set V i (f (get_or V i d)) ≡ changed_at f i V
changed_is f [] i d = refl
changed_is f (bs ∷ V) zero d = refl
changed_is f (bs ∷ V) (suc i) d = cc (changed_is f V i d)

-- a charge of a day, which is closed or not
pub day_charged : (V : List (List Liables)) (n i : ℕ) (c : Cusip) (fs : List Fill) (x y : List Liables) → 1 ≤ n → i ≡ n - 1 → i < length V → x ≡ get_or V i x → y ≡ charged_in c fs x → set V i y ≡ charged_on V n c fs
day_charged V n i c fs x y le at lt read is = grind (arith, changed_is (charged_in c fs) V i x)

pub day_uncharged : (V : List (List Liables)) (n i : ℕ) (c : Cusip) (fs : List Fill) → 1 ≤ n → i ≡ n - 1 → length V ≤ i → V ≡ charged_on V n c fs
day_uncharged V n i c fs le at past = grind (arith, changed_is (charged_in c fs) V i [], set_past)
