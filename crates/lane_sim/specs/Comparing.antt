-- How the rows of two circuits are compared.
use Rattle.std.specs.Prelude.{ℕ, ◌+◌, ◌*◌, ◌<◌, ◌≤◌, ◌≡◌, ◌≢◌, min, Bool, List, length, slice_get, Option, Some, None}
use Rattle.std.specs.Option.{MatchOption}
use Rattle.aig_graph.specs.Circuits.{Netlist}
use Rattle.aig_graph.specs.Streams.{property_literals}
use Rattle.lane_sim.specs.declared.difference.Place.{Place}
use Rattle.lane_sim.specs.declared.difference.Side.{Side}
use Rattle.lane_sim.specs.declared.stimulus.InputSequence.{InputSequence}
use Rattle.lane_sim.specs.Blocks.{in_lane, block_of}
use Rattle.lane_sim.specs.Traces.{row_of}

-- the first place at which two rows differ
pub record IsFirstIn (xs ys : List Bool) (p : ℕ) : Type 0 where
  pub differs : slice_get xs p ≢ slice_get ys p
  pub before : (q : ℕ) → q < p → slice_get xs q ≡ slice_get ys q

-- the rows f and g, by sequence and step, are equal for the sequences from low up to high
abbrev pub AreSame : ℕ → ℕ → (ℕ → ℕ) → (ℕ → ℕ → List Bool) → (ℕ → ℕ → List Bool) → Type 0
AreSame low high steps f g = (s t : ℕ) → low ≤ s → s < high → t < steps s → f s t ≡ g s t

-- the first place at which rows differ
pub record IsFirstOf (low high : ℕ) (steps : ℕ → ℕ) (f g : ℕ → ℕ → List Bool) (p : Place) : Type 0 where
  pub from_low : low ≤ p.sequence
  pub below_high : p.sequence < high
  pub has_step : p.step < steps p.sequence
  pub here : IsFirstIn (f p.sequence p.step) (g p.sequence p.step) p.place
  pub steps_before : (t : ℕ) → t < p.step → f p.sequence t ≡ g p.sequence t
  pub sequences_before : AreSame low p.sequence steps f g

-- the first place at which they differ, or none
abbrev pub Compares : ℕ → ℕ → (ℕ → ℕ) → (ℕ → ℕ → List Bool) → (ℕ → ℕ → List Bool) → Option Place → Type 0
Compares low high steps f g found = MatchOption found (AreSame low high steps f g) (IsFirstOf low high steps f g)

-- the number of steps of a sequence
abbrev pub steps_of : List InputSequence → ℕ → ℕ
steps_of sequences s = length (in_lane sequences s).steps

-- the rows of a circuit, by sequence and step
abbrev pub rows_by : Netlist → List InputSequence → ℕ → ℕ → List Bool
rows_by c sequences s t = row_of c (in_lane sequences s) t

-- sequences of two circuits, as many and as long
pub record AreAlike (sequences others : List InputSequence) : Type 0 where
  pub many : length others ≡ length sequences
  pub long : (k : ℕ) → steps_of others k ≡ steps_of sequences k

-- ---- a step after another

-- the rows f and g of a step, by sequence, are equal for the sequences below high that have the
-- step
abbrev pub AreSameAt : ℕ → ℕ → (ℕ → ℕ) → (ℕ → List Bool) → (ℕ → List Bool) → Type 0
AreSameAt high t steps f g = (s : ℕ) → s < high → t < steps s → f s ≡ g s

-- the first place in the step at which they differ
pub record IsFirstAt (high t : ℕ) (steps : ℕ → ℕ) (f g : ℕ → List Bool) (p : Place) : Type 0 where
  pub below_high : p.sequence < high
  pub step_is : p.step ≡ t
  pub has_step : t < steps p.sequence
  pub here : IsFirstIn (f p.sequence) (g p.sequence) p.place
  pub before : AreSameAt p.sequence t steps f g

abbrev pub ComparesAt : ℕ → ℕ → (ℕ → ℕ) → (ℕ → List Bool) → (ℕ → List Bool) → Option Place → Type 0
ComparesAt high t steps f g found = MatchOption found (AreSameAt high t steps f g) (IsFirstAt high t steps f g)

-- the steps below t alone
abbrev pub steps_below : ℕ → (ℕ → ℕ) → ℕ → ℕ
steps_below t steps s = min t (steps s)

-- how many sequences are before the one that differs first
abbrev pub lanes_before : ℕ → Option Place → ℕ
lanes_before all None = all
lanes_before all (Some p) = p.sequence

-- what was found later, if anything, else what was found before
abbrev pub later_or : Option Place → Option Place → Option Place
later_or found None = found
later_or found (Some p) = Some p

-- the circuits have as many property literals
abbrev pub HaveAsMany : Netlist → Netlist → Type 0
HaveAsMany c d = length (property_literals d.props) ≡ length (property_literals c.props)

-- both have as many property literals, and sequences of a block
pub record CanCompare (a b : Side) : Type 0 where
  pub literals : HaveAsMany a.circuit.now b.circuit.now
  pub first : length a.sequences.now ≤ 256
  pub second : length b.sequences.now ≤ 256

-- the row at a step of a sequence
abbrev pub row_at : ℕ → Side → ℕ → List Bool
row_at t a s = rows_by a.circuit.now a.sequences.now s t

-- what comparing both finds
abbrev pub ComparesSides : Side → Side → Option Place → Type 0
ComparesSides a b found =
    Compares 0 (length a.sequences.now) (steps_of a.sequences.now) (rows_by a.circuit.now a.sequences.now) (rows_by b.circuit.now b.sequences.now) found

-- what comparing a block of the sequences finds, of two circuits under sequences of their own
unfoldable pub IsFoundIn : Netlist → Netlist → List InputSequence → List InputSequence → ℕ → Option Place → Type 0
IsFoundIn c d sequences others b found =
    Compares (256 * b) (256 * b + length (block_of sequences b)) (steps_of sequences) (rows_by c sequences) (rows_by d others) found
