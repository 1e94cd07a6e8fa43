use Rattle.cns_program.proofs.Common.{◌≡◌, List, length, vec_len, ReadEach}
use Rattle.cns_program.proofs.running.open_files.Given as goal

-- the sources so far tell what so many files do
abbrev pub invariant-loop-place : goal.invariant-loop-place
invariant-loop-place g l = record {
  count : vec_len l.sources ≡ l.place;
  read : (opened : List g.row.F.Denot) × (length opened ≡ l.place) × ReadEach (λ s. s.records.value.told) g.F.Read.remaining l.sources.items opened;
}
