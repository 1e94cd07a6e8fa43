-- The notices of a journal, by number.
-- For `live_notices` of notices.rt.
use Rattle.cns_day.proofs.Common.{◌≡◌, ◌∙◌, sym, ap, refl, ℕ, zero, suc, ◌+◌, ◌-◌, ◌^◌, ◌≤◌, ◌<◌, ◌==◌, true, false, List, [], ◌∷◌, ◌++◌, length, find, Option, Some, None, append-nil, take, option_map, slice_get, length-append, arith, option_map_or, map-append, take_all, filter-append, eq-eqb, ne_eqb, Day, IsReached, Journal, Notice, day, is_live, journal, notice, notice_at, noticed, notices, refusal, Activity, notice_listed, notice_of, live_among, take_past, Command}
use Rattle.cns_terms.specs.declared.command.Movement.{Movement}
use Rattle.cns_book.specs.declared.notice.Notice.{Notice as Shown}
use Rattle.cns_day.specs.declared.notices.Numbered.{Numbered}
use Rattle.cns_account.proofs.Gathered.{take_next}

-- the notices are numbered on from a number
abbrev AreNumbered : ℕ → List Notice → Type 0
AreNumbered k [] = Unit
AreNumbered k (n ∷ ns) = (n.number ≡ k + 1) × AreNumbered (k + 1) ns

-- with one more
push : (k : ℕ) (ns : List Notice) (n : Notice) → AreNumbered k ns → n.number ≡ k + length ns + 1 → AreNumbered k (ns ++ n ∷ [])
push k [] n all is = (omega (arith, is), tt)
push k (m ∷ ns) n all is = (all.0, push (k + 1) ns n all.1 (omega (arith, is)))

-- those of a journal
all_numbered : (J : Journal) → AreNumbered 0 (notices J)
all_numbered [] = tt
all_numbered (p ∷ J) = grind (arith, push, all_numbered J)

-- the one with a number, by its place
find_numbered : (k i t : ℕ) (ns : List Notice) → t ≡ k + i + 1 → AreNumbered k ns → find (λ n. n.number == t) ns ≡ slice_get ns i
find_numbered k i t [] e all = refl
find_numbered k zero t (n ∷ ns) e all = rw (eq-eqb n.number t (omega (arith, e, all.0))) refl
find_numbered k (suc i) t (n ∷ ns) e all = rw (ne_eqb n.number t (λ same. omega (arith, e, all.0, same))) (find_numbered (k + 1) i t ns (omega (arith, e)) all.1)

-- the number of the one at a place
number_at : (k i : ℕ) (ns : List Notice) (n : Notice) → AreNumbered k ns → slice_get ns i ≡ Some n → n.number ≡ k + i + 1
number_at k i [] n all is = cc
number_at k zero (m ∷ ns) n all is = let same : m ≡ n = cc in ap (λ x. x.number) (sym same) ∙ (omega (arith, all.0))
number_at k (suc i) (m ∷ ns) n all is = let later = number_at (k + 1) i ns n all.1 is in omega (arith, later)

-- ---- how many they are

-- an activity gives notice once
length_by : (J : Journal) (o : Option Movement) → length (option_map_or (λ m. notices J ++ (notice (length (notices J) + 1) (day J) m ∷ [])) o (notices J)) ≤ length (notices J) + 1
length_by J o = grind (arith, length-append)

-- the first activity is no notice
first_is_none : (opening : Day) (x : Activity) → refusal opening [] (Command.Activity x) ≡ None → noticed x ≡ None
first_is_none opening x e = grind arith

-- fewer than the activities
fewer : (opening : Day) (x : Activity) (L : List Activity) → IsReached opening (x ∷ L) → length (notices (journal opening (x ∷ L))) ≤ length L
fewer opening x [] r = let none = first_is_none opening x r.1 in rw none (omega arith)
fewer opening x (y ∷ L) r = let before = fewer opening y L r.2 in let more = length_by (journal opening (y ∷ L)) (noticed x) in omega (arith, before, more)

-- each has a number that a loop comes to
few_notices : (opening : Day) (L : List Activity) → IsReached opening L → length L < 2 ^ 32 → length (notices (journal opening L)) ≤ 2 ^ 32 - 2
few_notices opening [] r lt = omega arith
few_notices opening (x ∷ L) r lt = let few = fewer opening x L r in omega (arith, few, lt)

-- all of them
pub live_whole : (opening : Day) (L : List Activity) (items : List Numbered) → IsReached opening L → length L < 2 ^ 32
    → items ≡ live_among (journal opening L) (take (2 ^ 32 - 2) (notices (journal opening L))) → items ≡ live_among (journal opening L) (notices (journal opening L))
live_whole opening L items r lt is = is ∙ ap (live_among (journal opening L)) (take_all (2 ^ 32 - 2) (notices (journal opening L)) (few_notices opening L r lt))

-- ---- a loop over them

module _ (J : Journal) (number : ℕ) (le : 1 ≤ number) where
  -- the notice with a number, by its place
  there : notice_at J number ≡ slice_get (notices J) (number - 1)
  there = find_numbered 0 (number - 1) number (notices J) (omega arith) (all_numbered J)

  -- what is shown of none
  unmapped : (o : Option Notice) → option_map (notice_of J) o ≡ None → o ≡ None
  unmapped o is = grind arith

  -- no notice is left
  pub live_ends : (n : ℕ) (items : List Numbered) → number - 1 ≤ n → notice_listed J number ≡ None → items ≡ live_among J (take (number - 1) (notices J)) → items ≡ live_among J (take n (notices J))
  live_ends n items few none was = was ∙ ap (live_among J) (take_past (notices J) (number - 1) n (sym there ∙ unmapped (notice_at J number) none) few)

  -- of some and others
  append : (ns ms : List Notice) → live_among J (ns ++ ms) ≡ live_among J ns ++ live_among J ms
  append ns ms = simp (filter-append, map-append)

  -- one more
  onward : (n : Notice) (items : List Numbered) → notice_at J number ≡ Some n → items ≡ live_among J (take (number - 1) (notices J))
      → items ++ live_among J (n ∷ []) ≡ live_among J (take (number + 1 - 1) (notices J))
  onward n items is was = grind (arith, was, append (take (number - 1) (notices J)) (n ∷ []), take_next (notices J) (number - 1) n (sym there ∙ is))

  -- the one that is shown
  mapped : (s : Shown) (o : Option Notice) → option_map (notice_of J) o ≡ Some s → (n : Notice) × (o ≡ Some n) × (notice_of J n ≡ s)
  mapped s o h1 = grind arith

  -- one that is not live
  pub live_passed : (s : Shown) (items : List Numbered) → notice_listed J number ≡ Some s → is_live s.stage ≡ false → items ≡ live_among J (take (number - 1) (notices J))
      → items ≡ live_among J (take (number + 1 - 1) (notices J))
  live_passed s items shown dead was = let (n, is, same) = mapped s (notice_at J number) shown in grind (arith, is, same, append-nil items, onward n items is was)

  -- one that is live
  pub live_added : (s : Shown) (items : List Numbered) → notice_listed J number ≡ Some s → is_live s.stage ≡ true → items ≡ live_among J (take (number - 1) (notices J))
      → items ++ record { number = number; notice = s } ∷ [] ≡ live_among J (take (number + 1 - 1) (notices J))
  live_added s items shown live was =
      let (n, is, same) = mapped s (notice_at J number) shown in
      grind (arith, is, same, number_at 0 (number - 1) (notices J) n (all_numbered J) (sym there ∙ is), onward n items is was)
