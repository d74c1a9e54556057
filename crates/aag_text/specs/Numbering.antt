-- Literals of a file by the places of the variables that its lines define.
use Rattle.std.specs.Prelude.{ℕ, ◌+◌, ◌*◌, ◌%◌, ◌==◌, ◌||◌, ◌&&◌, nat_lt, Bool, false, List, map, Option, Some, None, Result, Ok, Err, unwrap_or, if◌then◌else◌}
use Rattle.std.specs.List.{list_all}
use Rattle.aig_graph.specs.declared.graph.Gate.{Gate}
use Rattle.aig_graph.specs.declared.graph.Latch.{Latch}
use Rattle.aig_graph.specs.Graph.{variable}
use Rattle.ascii_file.specs.declared.parts.places.Places.{Places}
use Rattle.ascii_file.specs.parts.Places.{place_of}
use Rattle.file_words.specs.declared.fault.ReadError.{ReadError}
use Rattle.file_words.specs.declared.fault.ReadError.TheVariants.{Undefined}
use Rattle.file_words.specs.Answering.{◌>>=◌}
use Rattle.ascii_file.specs.declared.raw.RawGate.{RawGate}
use Rattle.ascii_file.specs.declared.raw.RawLatch.{RawLatch}
use Rattle.ascii_file.specs.Meaning.{reset_of}

-- whether a place is there, and below the number of places
abbrev pub has_place : ℕ → Option ℕ → Bool
has_place count None = false
has_place count (Some p) = nat_lt p count

-- whether the literal is of the constant, or of a variable that has one of n places
abbrev pub is_placed : Places → ℕ → ℕ → Bool
is_placed places count lit = (variable lit == 0) || has_place count (place_of places (variable lit))

-- the literal of the variable's place, counted from 1, with the sign of this one
abbrev pub placed : Places → ℕ → ℕ
placed places lit = 2 * (if variable lit == 0 then 0 else 1 + unwrap_or (place_of places (variable lit)) 0) + lit % 2

-- the value, if all that it reads is known
abbrev pub if_known : {A : Type 0} → Bool → A → Result A ReadError
if_known known x = if known then Ok x else Err Undefined

abbrev pub placed_literals : Places → ℕ → List ℕ → Result (List ℕ) ReadError
placed_literals places count lits = if_known (list_all (is_placed places count) lits) (map (placed places) lits)

abbrev pub placed_latch : Places → RawLatch → Latch
placed_latch places latch = record { next = placed places latch.next; reset = reset_of latch.reset }

abbrev pub placed_latches : Places → ℕ → List RawLatch → Result (List Latch) ReadError
placed_latches places count raws = if_known (list_all (λ latch. is_placed places count latch.next) raws) (map (placed_latch places) raws)

-- the fan-ins as they stand in the line, the larger not yet first
abbrev pub placed_gate : Places → RawGate → Gate
placed_gate places gate = record { rhs0 = placed places gate.rhs0; rhs1 = placed places gate.rhs1 }

abbrev pub is_gate_placed : Places → ℕ → RawGate → Bool
is_gate_placed places count gate = is_placed places count gate.rhs0 && is_placed places count gate.rhs1

abbrev pub placed_gates : Places → ℕ → List RawGate → Result (List Gate) ReadError
placed_gates places count gates = if_known (list_all (is_gate_placed places count) gates) (map (placed_gate places) gates)

-- all that a file's lists read, by places; gates in the order of the file
pub record PlacedLists : Type 0 where
  pub latches : List Latch
  pub safety : List ℕ
  pub liveness : List ℕ
  pub gates : List Gate

-- the latches, the literals of properties and the gates, each literal by its place, or the first
-- fault
abbrev pub placed_lists : Places → ℕ → List RawLatch → List ℕ → List ℕ → List RawGate → Result PlacedLists ReadError
placed_lists places count latches safety liveness gates =
    placed_latches places count latches >>= λ l. placed_literals places count safety >>= λ s. placed_literals places count liveness >>= λ v. placed_gates places count gates
    >>= λ g. Ok (record { latches = l; safety = s; liveness = v; gates = g })
