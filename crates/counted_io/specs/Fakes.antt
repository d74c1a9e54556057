-- The devices for tests.
use Rattle.std.specs.Prelude.{ℕ, ◌≡◌, ◌+◌, ◌<◌, ◌≤◌, Result, Ok, IfOk, IsErr}
use Rattle.counted_io.specs.declared.fakes.FailAfter.{FailAfter}
use Rattle.counted_io.specs.declared.fakes.Failure.{Failure}
use Rattle.counted_io.specs.declared.fakes.Failure.TheVariants as failures
use Rattle.counted_io.specs.declared.fakes.OneByte.{OneByte}

-- passes n calls on, and then fails in this way
abbrev pub fail_after : {T : Type 0} → T → ℕ → Failure → FailAfter T
fail_after inner calls failure = record { inner = inner; calls_left = calls; failure = failure }

-- the reader or writer inside
abbrev pub fail_after_inner : {T : Type 0} → FailAfter T → T
fail_after_inner f = f.inner

-- for tests: the reader or writer inside of one that passes on a byte a call
abbrev pub one_byte_inner : {T : Type 0} → OneByte T → T
one_byte_inner o = o.inner

-- a call uses up one of those that are passed on; if none is left nothing changes
pub record IsCounted {T : Type 0} (old new : FailAfter T) : Type 0 where
  pub failure : new.failure ≡ old.failure
  pub passed : 0 < old.calls_left → new.calls_left + 1 ≡ old.calls_left
  pub failed : old.calls_left ≡ 0 → new ≡ old

-- how a write fails
abbrev pub FailsBy : {E : Type 0} → Failure → Result ℕ E → Type 0
FailsBy failures.Error result = IsErr result
FailsBy failures.Nothing result = result ≡ Ok 0

-- a call that takes or gives one byte, or none
abbrev pub IsOneAtMost : {E : Type 0} → Result ℕ E → Type 0
IsOneAtMost result = IfOk result (λ n. n ≤ 1)
