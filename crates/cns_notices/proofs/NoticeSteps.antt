-- How notices stand after one more activity.
-- For `calls_of_day` of parts/retransmittal.rt in cns_book, `give_notice`, `withdraw_refusal` and `notice_refusal` of parts/notice.rt in cns_book and others.
use Rattle.cns_notices.proofs.Common.{◌≡◌, refl, ℕ, suc, ◌+◌, ◌<◌, true, List, [], ◌∷◌, ◌++◌, length, arith, length-append, Journal, Live, Notice, is_live, notices, shares_executed, stage, shares_received, received_live}

-- ---- numbers

-- numbers that go up by one from a first
abbrev pub AreNumberedFrom : ℕ → List Notice → Type 0
AreNumberedFrom k [] = Unit {0}
AreNumberedFrom k (n ∷ ns) = (n.number ≡ k) × AreNumberedFrom (suc k) ns

numbered_push : (k : ℕ) (ns : List Notice) (n : Notice) → AreNumberedFrom k ns → n.number ≡ length ns + k → AreNumberedFrom k (ns ++ n ∷ [])
numbered_push k [] n h e = grind (arith)
numbered_push k (m ∷ ns) n h e = grind (arith, numbered_push (suc k) ns n)

-- notices are numbered 1, 2, 3
pub numbered : (J : Journal) → AreNumberedFrom 1 (notices J)
numbered [] = tt
numbered (p ∷ J) = grind (arith, numbered_push, numbered J)

-- of a live notice that is all that its member received
pub live_received : (J : Journal) (n : Notice) → is_live (stage J n) ≡ true → received_live J n ≡ shares_received J n
live_received [] n h = refl
live_received (p ∷ J) n h = grind (arith, live_received J n)

-- nothing became of it
pub untouched : (J : Journal) (n : Notice) → length (notices J) < n.number → (stage J n ≡ Live) × (received_live J n ≡ 0) × (shares_executed J n ≡ 0)
untouched [] n h = (refl, refl, refl)
untouched (p ∷ J) n h = grind (arith, length-append, untouched J n)
