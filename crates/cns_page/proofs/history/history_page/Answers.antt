use Rattle.cns_page.proofs.history.history_page.Goals as goal

pub returns : goal.returns
returns c = record {
  table = _;
  captioned = c.history_table.ensures;
  start = _;
  whole = _;
  head = rw (c.new-page.ensures.text, c.position_at-position.ensures) at c.in_ok-write_head.ensures;
  none = c.new-page.ensures.rows;
  lines = rw c.as_slice.ensures.value at c.in_ok-table.ensures;
  foot = c.in_ok-write_foot.ensures;
}
