-- Fills with which a batch can be charged.
use Rattle.std.specs.Prelude.{ℕ, ◌≤◌, ◌<◌, ◌==◌, All, List, sum_by, if◌then◌else◌}
use Rattle.cns_retransmit.specs.Common.{Member, Fill, Liable}
use Rattle.cns_retransmit.specs.Members.{left_of, members_of}

-- how many of the fills are a member's
abbrev pub fills_for : Member → List Fill → ℕ
fills_for a fs = sum_by (λ f. if f.member == a then 1 else 0) fs

-- a fill is for a member of a batch, and for no more than is left of its liability
pub record IsWithin (ls : List Liable) (f : Fill) : Type 0 where
  pub liable : 0 < members_of f.member ls
  pub enough : f.shares ≤ left_of f.member ls

-- a batch can be charged with fills, in any order: each is within it, and no member has two
pub record CanBeCharged (fs : List Fill) (ls : List Liable) : Type 0 where
  pub once : (a : Member) → fills_for a fs ≤ 1
  pub within : All (IsWithin ls) fs
