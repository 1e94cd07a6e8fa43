use Rattle.cns_page.proofs.Common.{refl, sym, ◌∙◌}
use Rattle.cns_page.proofs.source.source_of.Goals as goal

pub returns : goal.returns
returns c = record {
  opened_on = refl;
  read = c.in_ok-days.days.records;
  closes = c.in_ok-days.ensures;
  part = c.in-Some.part;
  is_part = sym (rw c.as_slice.ensures.value at c.part_of.ensures) ∙ c.in-Some.is;
  made_of = c.in_ok-origin.ensures;
  played = rw (c.watched_for-watched.ensures, c.asked_close.ensures, c.as_slice-2.ensures.value) at c.in_ok-played.ensures;
}
