use Rattle.cns_page.proofs.today.today_page.Goals as goal

pub returns : goal.returns
returns c = record {
  captions = _;
  start = _;
  excepted = _;
  whole = _;
  head = rw c.new-page.ensures.text at c.in_ok-write_head.ensures;
  none = c.new-page.ensures.rows;
  exceptions = c.in_ok-write_exceptions.ensures;
  totals = c.in_ok-write_totals.ensures;
  foot = c.in_ok-write_foot.ensures;
}
