use Rattle.cns_feed.proofs.Common.{true, remaining_under}
use Rattle.csv.specs.Records.{fields_of}
use Rattle.cns_feed.proofs.RecordLemmas.{next_line, no_line, setup_kept}
use Rattle.cns_feed.proofs.records.Records.read_line.Goals as goal

pub returns-in-Ok-true : goal.returns-in-Ok-true
returns-in-Ok-true g c =
    let q = c.in-Ok-true.ensures in
    let setup = c.requires in
    let reads = (rw c.in-Ok-true.field-0-test at q.reads) setup.no_trim setup.ready in (
      next_line (remaining_under g.R.Read.remaining) c.args.self.now.rows c.read_byte_record.new.self (fields_of c.read_byte_record.new.row) c.command_of.result c.command_of.ensures setup reads,
      setup_kept (remaining_under g.R.Read.remaining) _ _ true (fields_of c.read_byte_record.new.row) setup reads (q.ready setup.no_trim) q.flexible,
    )

pub returns-in-Ok-false : goal.returns-in-Ok-false
returns-in-Ok-false g c =
    let q = c.in-Ok-false.ensures in
    let setup = c.requires in
    let reads = (rw c.in-Ok-false.field-0-test at q.reads) setup.no_trim setup.ready in
    no_line (remaining_under g.R.Read.remaining) c.args.self.now.rows c.read_byte_record.new.self (fields_of c.read_byte_record.new.row) setup reads
