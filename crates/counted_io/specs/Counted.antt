-- A counted reader or writer.
use Rattle.std.specs.Prelude.{ℕ}
use Rattle.counted_io.specs.declared.counted.Counted.{Counted}

-- the reader or writer inside
abbrev pub counted_inner : {T : Type 0} → Counted T → T
counted_inner c = c.inner

-- how many of its calls failed
abbrev pub counted_failures : {T : Type 0} → Counted T → ℕ
counted_failures c = c.failures
