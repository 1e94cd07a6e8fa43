-- What steps on an empty map reply.
use Rattle.std.specs.Prelude.{◌+ℤ◌, List, [], ◌∷◌, ◌++◌, FitsSigned}
use Rattle.cns_terms.specs.Common.{w128}
use Rattle.std.specs.Int.{w64}
use Rattle.cns_terms.specs.declared.holding.Holding.{Holding}
use Rattle.cns_terms.specs.declared.holding.Key.{Key}
use Rattle.cns_positions.specs.Rows.{booked, entry_of, rolled, zeros}
use Rattle.cns_positions.specs.declared.steps.Step.{Step}
use Rattle.cns_positions.specs.declared.steps.Step.TheVariants.{Get, Add, Roll}

-- what stands at each key
abbrev pub Map : Type 0
Map = Key → Holding

-- nothing stands anywhere
abbrev pub nowhere : Map
nowhere = λ k. zeros

-- the map after a step
abbrev pub after_step : Map → Step → Map
after_step m (Get k) = m
after_step m (Add k shares cents) = λ q. booked (entry_of k shares cents) q (m q)
after_step m Roll = λ q. rolled (m q)

-- the reply to a step, if it is a Get
abbrev pub reply_to : Map → Step → List Holding
reply_to m (Get k) = m k ∷ []
reply_to m _ = []

-- the replies to the Gets among steps
unfoldable pub replies : Map → List Step → List Holding
replies m [] = []
replies m (s ∷ ss) = reply_to m s ++ replies (after_step m s) ss

-- the sums of a step fit in what holds them
abbrev pub StepFits : Map → Step → Type 0
StepFits m (Add k shares cents) = FitsSigned w64 ((m k).now +ℤ shares) × FitsSigned w128 ((m k).contract +ℤ cents)
StepFits m _ = Unit {0}

-- and so do those of each step, one after another
unfoldable pub SumsFit : Map → List Step → Type 0
SumsFit m [] = Unit {0}
SumsFit m (s ∷ ss) = StepFits m s × SumsFit (after_step m s) ss
