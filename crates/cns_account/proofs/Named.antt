-- What an activity books stands at the places that it names.
-- For `places_are_whole` and `moves_add_up` of laws.rt.
use Rattle.cns_account.proofs.Common.{◌≡◌, ◌∙◌, sym, ap, refl, ◌<◌, ℤ, pos, ◌+ℤ◌, Bool, true, false, ◌&&◌, ◌||◌, ◌==◌, cond, eqb, List, [], ◌∷◌, filter, flat_map, map, is_none, option_map, option_to_list, Option, Some, None, IfSome, arith, bytes_eq, ints, Day, IsSound, Journal, NoneHolds, State, against_corporation, all_fail, and_false, cents_for, corporation, entries, fill_entry, fills, holders, holds, idle_parts, is_account, is_close, is_listed, issues, journal_of, last_close, list_any, members, money, nat_list_eq_equiv, neither, new_entry, notice_at, notices, old_entry, open_day, posting, refusal, row, shares_for, total, each_named, IsNoticed, both_hold, Notice, position, Account, Cusip, Activity, next, Entry, Holding, Key, notice_of, accounts_in, both, each, has_position, is_movement, is_wanted, named, place, places, standing, IsWhole, total-append, whole-post, Command, split_entry, cond_both, inl, inr, cases_Bool, ℕ, zero, suc, ◌+◌, is_eq, range_with_len, bytes_eq-Decides, filter-append, key_cmp, same_key, nat_tests, nat_lt, not, numbers}
use Rattle.std.proofs.lemmas.List.Concat.{flat_map_single}
use Rattle.cns_terms.proofs.Elsewhere.{idle_at}
use Rattle.cns_terms.specs.Refusals.{rules}
use Rattle.cns_terms.specs.declared.command.Movement.{Movement}
use Rattle.cns_history.specs.declared.play.Whose.TheVariants.{All}

abbrev pub is_at : Key → Key → Bool
is_at k q = is_eq (key_cmp q k)

in_row : (k : Key) (a : Account) (cs : List Cusip) → filter (is_at k) (map (place a) cs) ≡ cond (eqb a k.account) (map (place a) (filter (λ c. bytes_eq c k.issue) cs)) []
in_row k a [] = grind arith
in_row k a (c ∷ cs) = grind (arith, same_key (place a c) k, in_row k a cs)

in_grid : (k : Key) (cs : List Cusip) (bs : List Account)
    → filter (is_at k) (flat_map (λ a. map (place a) cs) bs) ≡ flat_map (λ a. map (place a) (filter (λ c. bytes_eq c k.issue) cs)) (filter (λ a. eqb a k.account) bs)
in_grid k cs [] = refl
in_grid k cs (a ∷ bs) = grind (arith, filter-append, in_row, in_grid k cs bs)

-- a place whose account and issue are among them, each at most once
pub once : (k : Key) (cs : List Cusip) (bs : List Account) (t u : Bool) → filter (λ a. eqb a k.account) bs ≡ cond t (k.account ∷ []) [] → filter (λ c. bytes_eq c k.issue) cs ≡ cond u (k.issue ∷ []) []
    → filter (is_at k) (flat_map (λ a. map (place a) cs) bs) ≡ cond (t && u) (k ∷ []) []
once k cs bs t u is are = grind (arith, in_grid)

pub one_issue : (c i : Cusip) → filter (λ d. bytes_eq d i) (c ∷ []) ≡ cond (bytes_eq c i) (i ∷ []) []
one_issue c i = grind (arith, bytes_eq-Decides)

pub two_issues : (c d i : Cusip) → bytes_eq c d ≡ false → filter (λ e. bytes_eq e i) (c ∷ d ∷ []) ≡ cond (bytes_eq c i || bytes_eq d i) (i ∷ []) []
two_issues c d i apart = grind (arith, bytes_eq-Decides)

pub two_accounts : (a b x : Account) → filter (λ c. eqb c x) (cond (b == a) (a ∷ []) (a ∷ b ∷ [])) ≡ cond (eqb a x || eqb b x) (x ∷ []) []
two_accounts a b x = grind (arith, nat_tests)

one_from : (p : Account → Bool) (x a n : ℕ) → filter (λ b. eqb b x) (filter p (range_with_len a n)) ≡ cond (p x && (nat_lt x (a + n) && not (nat_lt x a))) (x ∷ []) []
one_from p x a zero = grind (arith, nat_tests)
one_from p x a (suc n) = grind (arith, nat_tests, one_from p x (a + 1) n)

-- an account among the first numbers of which something holds
pub one_number : (p : Account → Bool) (x n : ℕ) → x < n → filter (λ b. eqb b x) (filter p (numbers n)) ≡ cond (p x) (x ∷ []) []
unfolding numbers
one_number p x n lt = grind (arith, nat_tests, one_from p x 0 n)

-- ---- what stands at a place

-- where a POSITION is not refused
shown_where : (opening : Day) (J : Journal) (k : Key) → is_none (refusal opening J (Command.Position k)) ≡ (is_account J k.account && is_listed J k.issue)
shown_where opening J k = grind arith

-- what stands at a place is what was booked there
pub record Stands (J : Journal) (k : Key) (h : Holding) : Type 0 where
  pub shares : h.now ≡ position J k.account k.issue
  pub cents : h.contract ≡ money J k.account k.issue
  pub found : h.opening ≡ position (last_close J) k.account k.issue

-- nothing, where a POSITION is refused
pub stands : (S : State) (k : Key) → IsSound (journal_of S) → Stands (journal_of S) k (standing S k)
stands S k sound = elim (cases_Bool (is_none (refusal S.opening (journal_of S) (Command.Position k)))) [
  | inl shown ↦ rw shown (record { shares = refl; cents = refl; found = refl })
  | inr hidden ↦
      let out = (λ i. is_account (journal_of S) k.account && list_any (λ c. nat_list_eq_equiv.symm k.issue c i) (issues (journal_of S))) ∙ sym (shown_where S.opening (journal_of S) k) ∙ hidden in
      let idle = idle_parts (row S.opening (journal_of S) k.account k.issue) (idle_at S.opening (journal_of S) k sound out) in rw hidden (record { shares = sym idle.1; cents = sym idle.2; found = sym idle.0 })
]

-- ---- after an activity

-- a state with an activity more
abbrev pub more : State → Activity → State
more S x = record { opening = S.opening; accepted = x ∷ S.accepted }

-- what a command leads to: the state stays, or has an activity more
pub at_next : (P : State → Type 0) (S : State) (x : Activity) → P S → (NoneHolds (rules S.opening (journal_of S) x) → P (more S x)) → P (next S (Command.Activity x))
at_next P S x stays goes = cond_both (is_none (refusal S.opening (journal_of S) (Command.Activity x))) (x ∷ S.accepted) S.accepted (λ L. P (record { opening = S.opening; accepted = L })) goes (λ refused. stays)

-- what it adds to what stands at a place
pub adds : (S : State) (x : Activity) (k : Key) → IsWhole S.opening (journal_of S) → NoneHolds (rules S.opening (journal_of S) x) → is_close x ≡ false
    → ((standing (more S x) k).now ≡ total (shares_for k.account k.issue) (entries S.opening (journal_of S) x) +ℤ (standing S k).now) × ((standing (more S x) k).contract ≡ total (cents_for k.account k.issue) (entries S.opening (journal_of S) x) +ℤ (standing S k).contract)
adds S x k whole none ends =
    let s = stands S k whole.now in
    let t = stands (more S x) k (whole-post S.opening (journal_of S) x whole none).now in
    grind (arith, ap (λ b. total (λ p. total (cents_for k.account k.issue) p.entries) (posting S.opening (journal_of S) x ∷ cond b [] (open_day (journal_of S)))) ends)

-- nothing was booked at a place
pub record IsSame (k : Key) (S T : State) : Type 0 where
  pub shares : (standing T k).now ≡ (standing S k).now
  pub cents : (standing T k).contract ≡ (standing S k).contract

-- none of some entries is booked at a place
abbrev AreElsewhere : Key → List Entry → Type 0
AreElsewhere k es = (v : Entry → ℤ) → total (λ e. cond (eqb e.account k.account && bytes_eq e.issue k.issue) (v e) (pos 0)) es ≡ pos 0

same_elsewhere : (S : State) (x : Activity) (k : Key) → IsWhole S.opening (journal_of S) → NoneHolds (rules S.opening (journal_of S) x) → is_close x ≡ false → AreElsewhere k (entries S.opening (journal_of S) x) → IsSame k S (more S x)
same_elsewhere S x k whole none ends out = grind (arith, ints, adds S x k whole none ends, out (λ e. e.shares), out (λ e. e.cents))

-- ---- the places that it names

-- a place is one of some places, once, or nothing was booked there
pub record IsNamed (k : Key) (S T : State) (ks : List Key) : Type 0 where
  pub there : Bool
  pub once : filter (is_at k) ks ≡ cond there (k ∷ []) []
  pub others : there ≡ false → IsSame k S T

all_wanted : (bs : List Account) → filter (is_wanted All) bs ≡ bs
all_wanted [] = refl
all_wanted (b ∷ bs) = ap (λ bs. b ∷ bs) (all_wanted bs)

-- those of the corporation and a member in an issue
both_named : (S : State) (x : Activity) (m : Movement) (k : Key) → IsWhole S.opening (journal_of S) → NoneHolds (rules S.opening (journal_of S) x) → is_close x ≡ false
    → (((eqb corporation k.account || eqb m.member k.account) && bytes_eq m.issue k.issue) ≡ false → AreElsewhere k (entries S.opening (journal_of S) x)) → IsNamed k S (more S x) (both All corporation m.member m.issue)
both_named S x m k whole none ends elsewhere =
    let bs = named corporation m.member in
    record { there = (eqb corporation k.account || eqb m.member k.account) && bytes_eq m.issue k.issue; once = rw (all_wanted bs, ← flat_map_single (λ a. place a m.issue) bs) (once k (m.issue ∷ []) bs _ _ (two_accounts corporation m.member k.account) (one_issue m.issue k.issue)); others = λ out. same_elsewhere S x k whole none ends (elsewhere out) }

either_same : (k : Key) (S T : State) (p a l u : Bool) → p ≡ (a && l) → l ≡ true → (a ≡ false → IsSame k S T) → (u ≡ false → IsSame k S T) → (p && u) ≡ false → IsSame k S T
either_same k S T p a l u is listed none other h = grind arith

-- those of all accounts in some issues, of which one is listed
each_named_once : (S : State) (x : Activity) (c : Cusip) (cs : List Cusip) (k : Key) (u : Bool) → k.account < 10000 → IsWhole S.opening (journal_of S) → NoneHolds (rules S.opening (journal_of S) x) → is_close x ≡ false → is_listed (journal_of S) c ≡ true
    → (is_account (journal_of S) k.account ≡ false → is_account (journal_of (more S x)) k.account ≡ false)
    → filter (λ d. bytes_eq d k.issue) (c ∷ cs) ≡ cond u (k.issue ∷ []) [] → (u ≡ false → AreElsewhere k (entries S.opening (journal_of S) x))
    → IsNamed k S (more S x) (flat_map (λ a. map (place a) (c ∷ cs)) (accounts_in S c))
each_named_once S x c cs k u few whole none ends listed stays is elsewhere =
    let others = either_same k S (more S x) (has_position S c k.account) (is_account (journal_of S) k.account) (is_listed (journal_of S) c) u (grind (arith, shown_where S.opening (journal_of S) (place k.account c))) listed (λ h. grind (arith, stays h)) (λ h. same_elsewhere S x k whole none ends (elsewhere h)) in
    record { there = has_position S c k.account && u; once = once k (c ∷ cs) (accounts_in S c) _ u (one_number (has_position S c) k.account 10000 few) is; others = others }

-- entries in another issue
elsewhere_all : {X : Type 0} (k : Key) (f : X → Entry) (xs : List X) → ((x : X) → bytes_eq (f x).issue k.issue ≡ false) → AreElsewhere k (map f xs)
elsewhere_all k f [] h v = refl
elsewhere_all k f (x ∷ xs) h v = grind (arith, ints, h x, and_false, elsewhere_all k f xs h v)

against_others : (k : Key) (c : Cusip) (f : Account → Entry) (bs : List Account) → ((a : Account) → (f a).issue ≡ c) → bytes_eq c k.issue ≡ false → AreElsewhere k (against_corporation c (map f bs))
against_others k c f bs of_c other v = grind (arith, ints, and_false, elsewhere_all k f bs (λ a. grind (arith, of_c a)) v)

-- all places at which a movement that is accepted books are among those that it names
pub names : (S : State) (x : Activity) (k : Key) → k.account < 10000 → IsWhole S.opening (journal_of S) → NoneHolds (rules S.opening (journal_of S) x) → is_movement (Command.Activity x) ≡ true
    → IsNamed k S (more S x) (places All S x)
names S (Activity.Deliver m) k few whole none is = both_named S (Activity.Deliver m) m k whole none refl (λ h v. grind (arith, ints))
names S (Activity.Receive m) k few whole none is = both_named S (Activity.Receive m) m k whole none refl (λ h v. grind (arith, ints))
names S (Activity.Split s) k few whole none is =
    let q : Account → ℤ = λ a. position (journal_of S) a s.issue in
    each_named_once S (Activity.Split s) s.issue [] k _ few whole none refl (holds _ (all_fail (rules S.opening (journal_of S) (Activity.Split s)) none).0) (λ h. h) (one_issue s.issue k.issue)
    (against_others k s.issue (split_entry s q) (holders q (members (journal_of S))) (λ a. refl))
names S (Activity.Exchange x) k few whole none is =
    let q : Account → ℤ = λ a. position (journal_of S) a x.old in
    let hs = holders q (members (journal_of S)) in
    let fails = all_fail (rules S.opening (journal_of S) (Activity.Exchange x)) none in
    each_named_once S (Activity.Exchange x) x.old (x.successor ∷ []) k _ few whole none refl (both_hold _ _ fails.0).0 (λ h. h) (two_issues x.old x.successor k.issue fails.1.1.0)
    (λ h v. let off = neither (bytes_eq x.old k.issue) (bytes_eq x.successor k.issue) h in rw (total-append _ (against_corporation x.old (map (old_entry x q) hs)) (against_corporation x.successor (map (new_entry x q) hs)), against_others k x.old (old_entry x q) hs (λ a. refl) off.0 v, against_others k x.successor (new_entry x q) hs (λ a. refl) off.1 v) refl)
names S (Activity.Execute x) k few whole none is = by (notice_at (journal_of S) x.notice) refl (each_named (IsNoticed (journal_of S)) (λ n. n.number == x.notice) (notices (journal_of S)) whole.now.noticed)
  where
    by : (o : Option Notice) → notice_at (journal_of S) x.notice ≡ o → IfSome o (IsNoticed (journal_of S))
        → IsNamed k S (more S (Activity.Execute x)) (each All S (option_to_list (option_map (λ n. n.issue) (option_map (notice_of (journal_of S)) o))))
    by None is known = record { there = false; once = refl; others = λ h. same_elsewhere S (Activity.Execute x) k whole none refl (λ v. rw (is) refl) }
    by (Some n) is known =
        each_named_once S (Activity.Execute x) n.given.issue [] k _ few whole none refl known.1 (λ h. h) (one_issue n.given.issue k.issue)
        (λ other v. rw (is) (grind (arith, ints, and_false, elsewhere_all k (fill_entry n) (fills (journal_of S) x n) (λ f. other) v)))
names S x k few whole none is = cc
