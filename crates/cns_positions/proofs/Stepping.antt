-- Steps, one after another.
-- For `run` of steps.rt.
use Rattle.cns_positions.proofs.Common.{◌≡◌, ℕ, ◌+◌, ◌<◌, List, ◌∷◌, ◌++◌, append_assoc, length, drop, get_or, arith, Holding, Key, Map, Step, StepFits, after_step, drop_more, reply_to}
use Rattle.cns_positions.specs.Steps.{SumsFit}
use Rattle.cns_positions.specs.Steps.{replies}

module _ (m : Map) (ss : List Step) (i : ℕ) (s : Step) (lt : i < length ss) (there : s ≡ get_or ss i s) where
  next : drop i ss ≡ s ∷ drop (i + 1) ss
  next = grind (arith, drop_more)

  -- the sums of the next step fit
  pub next_fits : SumsFit m (drop i ss) → StepFits m s
  unfolding SumsFit
  next_fits fits = (rw next at fits).0

  -- one step more is taken, and the sums of those after it fit
  pub step_more : (m' : Map) (done whole : List Holding) → ((k : Key) → m' k ≡ after_step m s k) → whole ≡ done ++ replies m (drop i ss) → SumsFit m (drop i ss) → (whole ≡ (done ++ reply_to m s) ++ replies m' (drop (i + 1) ss)) × SumsFit m' (drop (i + 1) ss)
  unfolding SumsFit replies
  step_more m' done whole same is fits =
      let map_is : m' ≡ after_step m s = λ j k. same k j in
      (rw map_is (cc (is, next, append_assoc done (reply_to m s) (replies (after_step m s) (drop (i + 1) ss)))), rw map_is (rw next at fits).1)
