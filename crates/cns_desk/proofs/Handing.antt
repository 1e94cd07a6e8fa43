-- The sheet that is handed out with a statement.
-- For `sheet` of kept.rt.
use Rattle.cns_desk.proofs.Common.{◌≡◌, refl, Bool, true, not, List, [], ◌∷◌, Some, None, Option, option_map, find, is_none, unwrap_or, arith, Day, DaySheet, Journal, accepted, answer_to, date, day_sheet, first_refusal, is_same_day, journal, option_map_or, sheet_on, statement, Command}
use Rattle.std.proofs.lemmas.Option.{same_Some}
use Rattle.cns_terms.specs.declared.history.Taken.{Taken}
use Rattle.cns_terms.specs.declared.refusal.Refusal.TheVariants.{NoSuchDay, NoSuchMember}
use Rattle.cns_terms.specs.declared.reply.Reply.{Reply}
use Rattle.cns_desk.specs.Handed.{Hands}

-- ---- what is found

-- what is found meets the test
find_meets : {X : Type 0} (p : X → Bool) (xs : List X) (x : X) → find p xs ≡ Some x → p x ≡ true
find_meets p [] x h = cc
find_meets p (y ∷ ys) x h = grind (arith, same_Some, find_meets p ys x)

-- the sheet of a day that was looked for, and the reply to the statement of the corporation on it
hands_found : (o d : Day) (q : Option Journal) → ((K : Journal) → q ≡ Some K → is_same_day (date o K) d ≡ true)
    → Hands d (option_map_or Reply.Refused (first_refusal ((NoSuchMember, not true) ∷ (NoSuchDay, is_none q) ∷ [])) (Reply.Stated (statement (unwrap_or (option_map (day_sheet o) q) (day_sheet o [])) 0))) (option_map (day_sheet o) q)
hands_found o d None same = refl
hands_found o d (Some K) same = record { sheet = day_sheet o K; is = refl; dated = same K refl; stated = refl }

-- with the reply to the statement of the corporation goes the sheet of the day
pub hands : (o : Day) (H : List Taken) (d : Day) (r : Reply) (s : Option DaySheet) → r ≡ answer_to o (accepted o H) (Command.Statement 0 d) → s ≡ sheet_on o (journal o (accepted o H)) d → Hands d r s
hands o H d r s p q = grind (arith, hands_found, find_meets)
