-- What a counted reader has left, and what reading it to its end does to it.
use Rattle.std.specs.Prelude.{ℕ, ◌≡◌, List, [], Option, Some, Result, is_ok, if◌then◌else◌}
use Rattle.std.specs.Io.KnownBytes.{Consumes}
use Rattle.counted_io.specs.Output.{one_more}

-- the bytes that a reader has left, if they are known, and the number of reads that failed
pub record Input : Type 0 where
  pub bytes : Option (List ℕ)
  pub failures : ℕ

-- the failures after a read
abbrev pub failures_after_read : {E : Type 0} → ℕ → Result ℕ E → ℕ
failures_after_read failures result = if is_ok result then failures else one_more failures

-- if the bytes that were left are known, these are all, and none is left; no read failed
pub record ReadsAll (old new : Input) (read : List ℕ) : Type 0 where
  pub bytes : (left : List ℕ) → old.bytes ≡ Some left → (read ≡ left) × (new.bytes ≡ Some [])
  pub failures : new.failures ≡ old.failures

-- a beginning of the bytes that were left was read
pub record ReadsPart (old new : Input) : Type 0 where
  pub beginning : List ℕ
  pub bytes : Consumes old.bytes new.bytes beginning
