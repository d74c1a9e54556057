-- What a counted writer has been given, and what writing a text does to it.
use Rattle.std.specs.Prelude.{ℕ, ◌+◌, ◌-◌, ◌^◌, ◌≡◌, ◌==◌, ◌&&◌, Bool, true, not, min, List, take, Option, Result, Ok, Err, OnOk, OnErr, if◌then◌else◌}
use Rattle.std.specs.Io.KnownBytes.{Appends}

-- the bytes that a writer holds, if they are known, and the number of writes that failed
pub record Output : Type 0 where
  pub bytes : Option (List ℕ)
  pub failures : ℕ

-- one more, up to the greatest count
abbrev pub one_more : ℕ → ℕ
one_more n = min (n + 1) (2 ^ 64 - 1)

-- whether a write of this many bytes failed: an error, or none taken though there were some
abbrev pub write_failed : {E : Type 0} → Result ℕ E → ℕ → Bool
write_failed (Ok n) len = (n == 0) && not (len == 0)
write_failed (Err e) len = true

-- the failures after a write
abbrev pub failures_after_write : {E : Type 0} → ℕ → Result ℕ E → ℕ → ℕ
failures_after_write failures result len = if write_failed result len then one_more failures else failures

-- all of the text was written, and no write failed
pub record WritesAll (old new : Output) (text : List ℕ) : Type 0 where
  pub bytes : Appends old.bytes new.bytes text
  pub failures : new.failures ≡ old.failures

-- a beginning of the text was written, and then one write failed
pub record WritesPart (old new : Output) (text : List ℕ) : Type 0 where
  pub count : ℕ
  pub bytes : Appends old.bytes new.bytes (take count text)
  pub failures : new.failures ≡ one_more old.failures

-- at `Ok` all of the text was written, at an error a beginning of it
pub record Writes {T E : Type 0} (old new : Output) (result : Result T E) (text : List ℕ) : Type 0 where
  pub ok : OnOk result (WritesAll old new text)
  pub err : OnErr result (WritesPart old new text)
