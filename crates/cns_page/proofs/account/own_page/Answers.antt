use Rattle.cns_page.proofs.account.own_page.Goals as goal

pub returns : goal.returns
returns c =
    let rows = c.in_ok-rows.ensures in
    record {
      captions = _;
      start = _;
      marked = _;
      short = _;
      coming = _;
      whole = _;
      head = rw (c.as_slice-rows.ensures.value, rows, c.deref.ensures) at c.in_ok-page.ensures;
      marks = rw (c.as_slice-rows.ensures.value, rows, c.deref.ensures) at c.in_ok-write_marks.ensures;
      shorts = c.in_ok-write_shorts.ensures;
      to_come = c.in_ok-write_coming.ensures;
      records = c.in_ok-write_records.ensures;
      foot = c.in_ok-write_foot.ensures;
    }
