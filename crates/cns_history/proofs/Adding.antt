-- The shares of a history's lines add up to its position.
-- For `shares_add_up` of laws.rt.
use Rattle.cns_history.proofs.Common.{◌≡◌, ◌∙◌, ℕ, ◌+◌, pos, ◌-ℤ◌, List, [], ◌∷◌, Option, Ok, option_map, option_to_list, arith, State, answer, date, journal_of, next, opened, total, Holding, Key, booked, booking, closing, counted_from, lines_at, standing, HistoryLine, history}
use Rattle.std.proofs.lemmas.Int.{ints}
use Rattle.std.specs.Cmp.{signed_Decides}
use Rattle.cns_terms.proofs.Common.{total-append}
use Rattle.cns_terms.specs.declared.reply.Reply.{Reply}
use Rattle.cns_feed.specs.Line.{Line}
use Rattle.cns_feed.specs.Output.{state_after, state_after_line}
use Rattle.cns_history.specs.Laws.{SharesAddUp, shares_of}
use Rattle.cns_history.specs.declared.line.Booking.{Booking}
use Rattle.cns_history.specs.declared.line.Closing.{Closing}
use Rattle.cns_history.specs.declared.play.Watched.{Watched}
use Rattle.cns_terms.specs.declared.command.Command.{Command}

-- ---- the lines of a record

booked_shares : (b : Booking) → total shares_of (option_to_list (booked b)) ≡ b.shares
booked_shares b = grind (arith, ints, signed_Decides)

no_shares : (o : Option Closing) → total shares_of (option_to_list (option_map HistoryLine.Closing o)) ≡ pos 0
no_shares o = grind arith

counted_now : (h : Holding) (r : Reply) → (counted_from h r).now ≡ h.now
counted_now h r = grind arith

-- they add up to what the position changed by
line_shares : (k : Key) (n : ℕ) (S : State) (l : Line) → total shares_of (lines_at k n S l) ≡ (standing (state_after_line S l) k).now -ℤ (standing S k).now
line_shares k n S (Ok (Command.Activity x)) =
    let T = next S (Command.Activity x) in let r = answer S (Command.Activity x) in
    let b = booking k n (date T.opening (journal_of T)) x (counted_from (standing S k) r) (standing T k) in
    total-append shares_of (option_to_list (option_map HistoryLine.Closing (closing T k n r))) (option_to_list (booked b))
    ∙ omega (arith, ints, no_shares (closing T k n r), booked_shares b, counted_now (standing S k) r)
line_shares k n S l = omega (arith, ints)

-- ---- all lines

history_shares : (k : Key) (n : ℕ) (S : State) (ls : List Line) → total shares_of (history (Watched.Place k) n S ls) ≡ (standing (state_after S ls) k).now -ℤ (standing S k).now
unfolding history state_after
history_shares k n S [] = omega (arith, ints)
history_shares k n S (l ∷ ls) =
    omega (arith, ints, total-append shares_of (lines_at k (n + 1) S l) (history (Watched.Place k) (n + 1) (state_after_line S l) ls), line_shares k (n + 1) S l, history_shares k (n + 1) (state_after_line S l) ls)

pub shares_add_up : SharesAddUp
shares_add_up k d ls = grind (arith, ints, history_shares k 0 (opened d) ls)
