use Rattle.cns_page.proofs.Common.{refl, arith, sym, ◌∙◌}
use Rattle.cns_page.proofs.closed.closed_day.Goals as goal

pub returns : goal.returns
returns c = record {
  source = refl;
  close = sym (rw c.as_slice.ensures.value at c.asked_close.ensures) ∙ c.in-Some.is;
  closed = grind arith;
  shared = rw (c.date_before-before.ensures, c.as_slice-2.ensures.value, c.deref.ensures) at c.in_ok-shared.ensures;
  linked = c.is_folder.ensures;
}
