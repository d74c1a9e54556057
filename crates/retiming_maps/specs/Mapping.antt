-- A map of states that grows with a retiming.
use Rattle.std.specs.Prelude.{ℕ, ◌≡◌, ◌<◌, true, All, List, [], length, slice_get}
use Rattle.std.specs.List.{slice_index_or}
use Rattle.aig_graph.specs.Circuits.{AreLiteralsOf, Netlist}
use Rattle.aig_graph.specs.declared.properties.Symbols.{Symbols}
use Rattle.aig_graph.specs.Graph.{Graph, IsGraph, free_before, is_free_latch}
use Rattle.aig_graph.specs.Laws.{composed}
use Rattle.aig_graph.specs.Streams.{AreKept}
use Rattle.clean.specs.declared.cleaning.Cleaned.{Cleaned}
use Rattle.clean.specs.declared.tracing.TracedPass.{TracedPass}
use Rattle.cleaned_circuits.specs.Cleaned.{Cleans, IsPass}
use Rattle.cleaned_circuits.specs.Held.{HeldAfter}
use Rattle.map_circuits.specs.Constraining.{AreOne}
use Rattle.map_circuits.specs.Following.{state_of}
use Rattle.state_maps.specs.MapCircuits.{IsFreeInput}
use Rattle.state_maps.specs.States.{IsStateMap}
use Rattle.retiming_maps.specs.declared.parts.MapParts.{MapParts}

-- the literal is that of the input for a free latch of c, before which there are `before` free ones
pub record IsInputAt (c : Graph) (before lit : ℕ) : Type 0 where
  pub input : IsFreeInput c lit
  pub at : free_before c input.place ≡ before

-- the function of each free latch of d is the input for a free latch of c: for that one which kept
-- has for it
abbrev pub AreFreeInputs : Netlist → Netlist → List ℕ → List ℕ → Type 0
AreFreeInputs c d kept functions = (j : ℕ) → is_free_latch (slice_get d.aig.latches j) ≡ true
    → IsInputAt c.aig (slice_index_or kept (free_before d.aig j) 0) (slice_index_or functions j 0)

-- Gates over an input for each latch of c. If the constraints are 1, the functions are the state of
-- d, by a map of c's states. It gives for each free latch of d a free latch of c.
pub record IsMapBy (c d : Netlist) (kept : List ℕ) (g : Graph) (functions constraints : List ℕ) : Type 0 where
  pub graph : IsGraph g
  pub inputs : g.inputs ≡ length c.aig.latches
  pub latches : g.latches ≡ []
  pub functions_within : AreLiteralsOf g functions
  pub constraints_within : AreLiteralsOf g constraints
  pub many : length functions ≡ length d.aig.latches
  pub places : AreKept c d kept
  pub free : AreFreeInputs c d kept functions
  pub maps : IsStateMap c d kept (AreOne g constraints) (state_of g functions)

-- the parts are a map of c's states to those of d
abbrev pub IsMapTo : Netlist → Netlist → List ℕ → MapParts → Type 0
IsMapTo c d kept m = IsMapBy c d kept m.gates m.functions m.constraints.items

-- the parts are a map of some circuit's states to those of d
abbrev pub IsSomeMapTo : Netlist → MapParts → Type 0
IsSomeMapTo d m = (c : Netlist) × (kept : List ℕ) × IsMapTo c d kept m

-- what was a map to d before is one to e, which has the free latches of d at these places
abbrev pub LeadsOn : Netlist → MapParts → Netlist → List ℕ → MapParts → Type 0
LeadsOn d old e more new = (c : Netlist) (kept : List ℕ) → IsMapTo c d kept old → IsMapTo c e (composed kept more) new

-- what was a map to d before is one to e, which has all free latches of d
abbrev pub LeadsWhole : Netlist → MapParts → Netlist → MapParts → Type 0
LeadsWhole d old e new = (c : Netlist) (kept : List ℕ) → IsMapTo c d kept old → IsMapTo c e kept new

-- a pass that the map follows
pub record IsPassAlong (held : List ℕ) (c : Netlist) (old new : MapParts) (t : TracedPass) : Type 0 where
  pub pass : IsPass held c t.circuit t.kept_free.items t.held.items
  pub leads : LeadsOn c old t.circuit t.kept_free.items new

-- one more pass that the map follows; the places of free latches are counted as those of the last
-- pass are
pub record IsNextAlong (last : TracedPass) (old new : MapParts) (t : TracedPass) : Type 0 where
  pub second : List ℕ
  pub pass : IsPass last.held.items last.circuit t.circuit second t.held.items
  pub places : t.kept_free.items ≡ composed last.kept_free.items second
  pub leads : LeadsOn last.circuit old t.circuit second new

-- a cleaning that the map follows, and the positions of the held latches then
pub record IsCleanedAlong (held : List ℕ) (c : Netlist) (old new : MapParts) (d : Cleaned) : Type 0 where
  pub cleaned : Cleans d.circuit held c d.kept_free
  pub held_after : HeldAfter d.circuit d.keep held c
  pub in_range : All (λ j. j < length d.circuit.aig.latches) d.keep
  pub leads : LeadsOn c old d.circuit d.kept_free new

-- the names of a map: those of the latches of both circuits
abbrev pub map_symbols : Netlist → Netlist → Symbols
map_symbols c d = record { inputs = c.symbols.latches; latches = []; outputs = d.symbols.latches; bad = []; constraints = []; justice = []; fairness = [] }

-- the parts as a circuit with these names
abbrev pub map_of : MapParts → Symbols → Netlist
map_of m symbols = record {
  aig = m.gates;
  props = record { outputs = m.functions; bad = []; constraints = m.constraints.items; justice = []; fairness = [] };
  symbols = symbols;
}
