-- Tables of the gates that read a gate by one of their fan-ins.
use Rattle.std.specs.Prelude.{ℕ, ◌+◌, ◌<◌, ◌≤◌, ◌≡◌, ◌≢◌, List, length, slice_get, slice_index, nat_eq, Option, Some, None, if◌then◌else◌}
use Rattle.std.specs.Option.{option_and_then, option_eq}
use Rattle.ascii_file.specs.declared.order.reads.Reads.{Reads}
use Rattle.ascii_file.specs.declared.order.reads.Side.{Side}
use Rattle.ascii_file.specs.declared.order.reads.Side.TheVariants.{First, Second}

-- the gate that is read; by the second fan-in only if it is another one than by the first
abbrev pub fan_in : Side → Reads → Option ℕ
fan_in First reads = reads.first
fan_in Second reads = if option_eq nat_eq reads.second reads.first then None else reads.second

-- the gate that the gate at file place g reads by this fan-in
unfoldable pub read_by : Side → List Reads → ℕ → Option ℕ
read_by side gates g = option_and_then (fan_in side) (slice_get gates g)

-- the last place below k of a gate that reads p, plus one, or 0 if none does
pub record IsLastReader (reads : ℕ → Option ℕ) (p k c : ℕ) : Type 0 where
  pub within : c ≤ k
  pub one : (g : ℕ) → g + 1 ≡ c → reads g ≡ Some p
  pub none : (g : ℕ) → c ≤ g → g < k → reads g ≢ Some p

-- the tables as far as the gates below k: the last reader of each gate, and the reader before each
-- reader
pub record AreReaderTables (reads : ℕ → Option ℕ) (n k : ℕ) (last before : List ℕ) : Type 0 where
  pub last_length : length last ≡ n
  pub before_length : length before ≡ n
  pub last_of : (p : ℕ) → p < n → IsLastReader reads p k (slice_index last p)
  pub before_of : (g p : ℕ) → g < k → reads g ≡ Some p → IsLastReader reads p g (slice_index before g)
