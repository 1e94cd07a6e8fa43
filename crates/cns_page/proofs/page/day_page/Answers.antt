use Rattle.cns_page.proofs.page.day_page.Goals as goal

pub returns : goal.returns
returns c = record {
  captions = _;
  start = _;
  excepted = _;
  positioned = _;
  coming = _;
  whole = _;
  head = c.in_ok-page.ensures;
  exceptions = c.in_ok-write_exceptions.ensures;
  positions = c.in_ok-write_positions.ensures;
  to_come = c.in_ok-write_coming.ensures;
  totals = c.in_ok-write_totals.ensures;
  foot = c.in_ok-write_foot.ensures;
}
