use Rattle.cns_page.proofs.Common.{◌≡◌, ℕ, ◌-◌, ◌^◌, List, length, min}
use Rattle.sha2.specs.Hashers.{Holds256}
use Rattle.std.specs.Io.KnownBytes.{Consumes}
use Rattle.cns_page.proofs.foot.origin_of.Given as goal

abbrev pub invariant-loop : goal.invariant-loop
invariant-loop g l = record {
  size : length l.block ≡ 8192;
  read : (m : List ℕ) × Holds256 l.hasher m × Consumes (g.R.Read.remaining l.initial.reader) (g.R.Read.remaining l.reader) m
      × (l.bytes ≡ min (length m) (2 ^ 64 - 1));
}
