use Rattle.cns_sheets.proofs.Common.{◌≡◌, ◌∙◌, sym, ap, ◌<◌, List, [], ◌∷◌, ◌++◌, Option, Some, None, length, length-append, arith, AllByRecursion, Key, Rows, each_filter, held_above, last_given, last_of, present}
use Rattle.cns_positions.proofs.Held.{none_given}
use Rattle.cns_sheets.proofs.Weaving.{all_lower}
use Rattle.cns_sheets.proofs.cutting.collect.Goals as goal

-- what holds of the elements of two lists holds of those of the first
each_front : {X : Type 0} (P : X → Type 0) (xs ys : List X) → AllByRecursion P (xs ++ ys) → AllByRecursion P xs
each_front P [] ys h = tt
each_front P (x ∷ xs) ys h = (h.0, each_front P xs ys h.1)

pub push_rows-requires-clause-small : goal.push_rows-requires-clause-small
push_rows-requires-clause-small g c = grind (arith, each_filter, each_front)

-- what is left gets shorter, where something is given
fewer : (rows : Rows) (after : Option Key) (given : Rows) (k : Key) → held_above rows after ≡ given ++ held_above rows (last_of after given) → last_of None given ≡ Some k → length (held_above rows (Some k)) < length (held_above rows after)
fewer rows after [] k next is = cc
fewer rows after (r ∷ given) k next is = let whole = rw is at next in omega (arith, ap length whole, length-append (r ∷ given) (held_above rows (Some k)))

pub loop-rows-smaller : goal.loop-rows-smaller
loop-rows-smaller g c = fewer (g.P.Positions.rows c.args.positions.now) c.loop-rows.after (present c.next_rows.result.items) c.in-Some.last c.next_rows.ensures.next.first (sym c.in_ok-last.ensures.last ∙ c.in-Some.is)

pub loop-rows-preserved : goal.loop-rows-preserved
loop-rows-preserved g c =
    let last = last_given c.loop-rows.after (present c.next_rows.result.items) c.in-Some.last (sym c.in_ok-last.ensures.last ∙ c.in-Some.is) in
    record {
      done = rw (c.push_rows.ensures.before, c.push_rows.ensures.now) (c.loop-rows.invariant.done ∙ rw (c.next_rows.ensures.next.first, last) (c.in_ok-last.ensures.rows (held_above (g.P.Positions.rows c.args.positions.now) (Some c.in-Some.last))));
      marked = c.in_ok-last.ensures.marked;
    }

pub returns-clause-rows : goal.returns-clause-rows
returns-clause-rows g c = grind (arith, none_given, all_lower)
