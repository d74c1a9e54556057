-- What a call that takes an item leaves and answers, beside what reading gives.
use Rattle.std.specs.Prelude.{ℕ, ◌≡◌, ◌+◌, ◌-◌, ◌==◌, ◌||◌, nat_lt, List, [], ◌∷◌, length, Result, Ok, Err, if◌then◌else◌}
use Rattle.std.specs.Borrow.{Bor}
use Rattle.aig_graph.specs.Circuits.{Netlist}
use Rattle.file_words.specs.declared.fault.ReadError.{ReadError}
use Rattle.file_words.specs.declared.fault.ReadError.TheVariants.{BadDelta, Truncated, NoMemory}
use Rattle.file_words.specs.Answering.{Fails}
use Rattle.ascii_file.specs.declared.header.Header.{Header}
use Rattle.ascii_file.specs.Raw.{Raw}
use Rattle.ascii_file.specs.Items.{GateItem}
use Rattle.ascii_file.specs.Reading.{unless, with_item, is_symbols}
use Rattle.binary_file.specs.Items.{next_section, next_gate}
use Rattle.binary_file.specs.Reading.{InFirst, before_item, feed, circuit_of}
use Rattle.binary_file.specs.Contents.{Contents, IsAt}

-- at Ok the contents are those of the raw circuit read; an error is reading's, unless memory ran
-- out
abbrev pub Takes : {X : Type 0} → Header → Contents → Result X ReadError → Result Raw ReadError → Type 0
Takes h new (Ok x) read = (raw : Raw) × (read ≡ Ok raw) × IsAt new h raw
Takes h new (Err error) read = Fails NoMemory error read

-- the first fan-in of the next gate, by its delta at an offset
abbrev pub read_first_delta : Header → Raw → ℕ → ℕ → Result ℕ ReadError
read_first_delta h raw at delta = unless (((delta == 0) || nat_lt (next_gate h raw) delta, BadDelta at) ∷ []) (Ok (next_gate h raw - delta))

-- the raw circuit with the next gate, by its first fan-in and second delta at an offset
abbrev pub read_second_delta : Header → Raw → ℕ → ℕ → ℕ → Result Raw ReadError
read_second_delta h raw at rhs0 delta =
    unless ((nat_lt rhs0 delta, BadDelta at) ∷ []) (Ok (with_item raw (GateItem (record { lhs = next_gate h raw; rhs0 = rhs0; rhs1 = rhs0 - delta }))))

-- what an input of this length gives, if it ends after these items
abbrev pub circuit_at_end : ℕ → Header → Raw → Result Netlist ReadError
circuit_at_end end h raw = if is_symbols (next_section h raw) then Ok (circuit_of h raw) else Err (Truncated end)

-- Gates were taken of bytes with which a gate begins at an offset. Reading the bytes is reading
-- what is left, which is all of them if no gate was taken.
pub record AreGatesTaken (h : Header) (raw : Raw) (at : ℕ) (new : Contents) (bytes left : List ℕ) : Type 0 where
  pub more : Raw
  pub after : ℕ
  pub contents : IsAt new h more
  pub place : after + length left ≡ at + length bytes
  pub read : feed (InFirst h raw at []) bytes ≡ feed (before_item h more after) left
  pub none : length left ≡ length bytes → more ≡ raw

abbrev pub TakesGates : Header → Raw → ℕ → Contents → List ℕ → Result (Bor (List ℕ)) ReadError → Type 0
TakesGates h raw at new bytes (Ok left) = AreGatesTaken h raw at new bytes left.now
TakesGates h raw at new bytes (Err error) = error ≡ NoMemory
