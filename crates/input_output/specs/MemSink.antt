-- What a sink in memory is, as its callers see it.
use Rattle.std.specs.Prelude.{◌⊎◌, ℕ, ◌-◌, ◌≤◌, List, ◌++◌, length, min}
use Rattle.input_output.specs.Outside.{next}
use Rattle.input_output.specs.Calls.{Plan, after_call, with_failing, NextFails}

-- The bytes taken so far, the room for all, the most bytes per call, the calls of `write`, and the faults.
pub record Taking : Type 0 where
  pub bytes : List ℕ
  pub room : ℕ
  pub most : ℕ
  pub writes : Plan
  pub faults : ℕ

abbrev pub left : Taking → ℕ
left s = s.room - length s.bytes

-- How many bytes of a piece of this length a write takes that doesn't fail.
abbrev pub share : Taking → ℕ → ℕ
share s size = min size (min s.most (left s))

-- The write of this number is to fail too.
abbrev pub with_failing_write : Taking → ℕ → Taking
with_failing_write s call = record { bytes = s.bytes; room = s.room; most = s.most; writes = with_failing s.writes call; faults = s.faults }

-- A call took these bytes.
abbrev pub after_taking : Taking → List ℕ → Taking
after_taking s piece = record { bytes = s.bytes ++ piece; room = s.room; most = s.most; writes = after_call s.writes; faults = s.faults }

-- A call failed.
abbrev pub after_fault : Taking → Taking
after_fault s = record { bytes = s.bytes; room = s.room; most = s.most; writes = after_call s.writes; faults = next s.faults }

-- The next write fails: it is listed, or the room is full.
abbrev pub WriteFails : Taking → Type 0
WriteFails s = NextFails s.writes ⊎ (s.room ≤ length s.bytes)
