-- How many notices there are, of which days, and where one is found.
-- For `give_notice`, `withdraw_refusal`, `notice_refusal` and `withdraw` of parts/notice.rt in cns_book and others.
use Rattle.cns_notices.proofs.Common.{◌≡◌, ◌∙◌, ap, sym, refl, ℕ, suc, ◌-◌, ◌≤◌, ◌&&◌, ◌==◌, List, [], ◌∷◌, length, map, find, arith, option_map, length-append, AllByRecursion, Cusip, Journal, Member, Notice, day, each_append, each_weaker, is_live, is_live_of, kept_notices, live_number, notice_at, notices, position_from, same_issue, stage, slice_get-map, live_notice, kept, kept_at}
use Rattle.cns_notices.proofs.NoticeSteps.{AreNumberedFrom, numbered}
use Rattle.cns_notices.proofs.Noticing.{notice_found}

-- no more notices than activities
pub notices_few : (J : Journal) → length (notices J) ≤ length J
notices_few [] = omega arith
notices_few (p ∷ J) = grind (arith, length-append, notices_few J)

-- no notice is of a later day than the open one
pub days_by : (J : Journal) → AllByRecursion (λ n. n.given.day ≤ day J) (notices J)
days_by [] = tt
days_by (p ∷ J) = grind (arith, each_weaker, each_append, days_by J)

-- ---- searches

-- the first live one of a member in an issue is at the place of its number
first_live : (J : Journal) (a : Member) (c : Cusip) (i : ℕ) (ns : List Notice) → AreNumberedFrom i ns → position_from (is_live_of a c) i (map (kept J) ns) ≡ option_map (λ n. n.number) (find (λ n. is_live (stage J n) && (n.given.member == a) && same_issue n.given.issue c) ns)
first_live J a c i [] h = refl
first_live J a c i (n ∷ ns) h = grind (arith, first_live J a c (suc i) ns h.1)

-- the kept live notice of a member in an issue is that of the definitions
pub live_same : (J : Journal) (a : Member) (c : Cusip) → live_number (kept_notices J) a c ≡ option_map (λ n. n.number) (live_notice J a c)
live_same J a c = first_live J a c 1 (notices J) (numbered J)

-- a kept notice, by its number
pub kept_found : (J : Journal) (k : ℕ) → 1 ≤ k → kept_at (kept_notices J) k ≡ option_map (kept J) (notice_at J k)
kept_found J k h = slice_get-map (kept J) (notices J) (k - 1) ∙ ap (option_map (kept J)) (sym (notice_found J k h))
