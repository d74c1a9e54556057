-- A circuit in which each literal reads what stands for it.
use Rattle.std.specs.Prelude.{ℕ, ◌*◌, ◌++◌, ◌==◌, ◌&&◌, Bool, List, [], ◌∷◌, length, map, Option, Some, None, if◌then◌else◌}
use Rattle.std.specs.List.{slice_index_or}
use Rattle.std.specs.Map.{lookup}
use Rattle.aig_graph.specs.declared.graph.Gate.{Gate}
use Rattle.aig_graph.specs.declared.graph.Latch.{Latch}
use Rattle.aig_graph.specs.Graph.{Graph, variable, first_gate}
use Rattle.aig_graph.specs.Circuits.{Netlist}
use Rattle.aig_graph.specs.Building.{gate_of}
use Rattle.aig_graph.specs.Value.{signed_as}
use Rattle.aig_graph.specs.Mapped.{mapped_props}
use Rattle.aig_graph.specs.Tables.{table}
use Rattle.cleaned_circuits.specs.Latches.{leaf_substitute}

-- what is known after some gates: the substitute of each variable, and the gates that are kept,
-- each with its literal
pub record Merging : Type 0 where
  pub substitutes : List ℕ
  pub kept : List (Gate × ℕ)

-- what stands for a literal, its sign kept
abbrev pub replaced : List ℕ → ℕ → ℕ
replaced substitutes lit = signed_as lit (slice_index_or substitutes (variable lit) 0)

abbrev pub replaced_gate : List ℕ → Gate → Gate
replaced_gate substitutes gate = gate_of (replaced substitutes gate.rhs0) (replaced substitutes gate.rhs1)

-- whether two gates have equal fan-ins
abbrev pub same_fan_ins : Gate → Gate → Bool
same_fan_ins gate other = gate.rhs0 == other.rhs0 && gate.rhs1 == other.rhs1

-- What a gate comes down to, its larger literal first. It is 0 for a 0 or opposite literals, and
-- the other for a 1 or an equal one. Else it is the literal of a kept gate of both, if there is
-- one.
abbrev pub known_substitute : List (Gate × ℕ) → Gate → Option ℕ
known_substitute kept gate =
    if gate.rhs1 == 0 then Some 0
    else if gate.rhs1 == 1 then Some gate.rhs0
    else if gate.rhs0 == gate.rhs1 then Some gate.rhs0
    else if variable gate.rhs0 == variable gate.rhs1 then Some 0
    else lookup (same_fan_ins gate) kept

-- the literal that was found, else the gate's own
abbrev pub substitute_or_own : ℕ → Option ℕ → ℕ
substitute_or_own own None = own
substitute_or_own own (Some substitute) = substitute

-- the kept gates, and this one if no literal was found
abbrev pub kept_after : List (Gate × ℕ) → ℕ → Gate → Option ℕ → List (Gate × ℕ)
kept_after kept own gate None = kept ++ (gate, own) ∷ []
kept_after kept own gate (Some substitute) = kept

-- one more gate: what is known to stand for it, or its own literal; in the latter case it is kept
abbrev pub with_substitute : Merging → Gate → Option ℕ → Merging
with_substitute m gate known = record {
  substitutes = m.substitutes ++ substitute_or_own (2 * length m.substitutes) known ∷ [];
  kept = kept_after m.kept (2 * length m.substitutes) gate known;
}

-- one more gate, whose variable is the number of entries so far
abbrev pub merge_gate : Merging → Gate → Merging
merge_gate m gate = let pair = replaced_gate m.substitutes gate in with_substitute m pair (known_substitute m.kept pair)

-- one gate after another; each comes down to a literal or is kept
unfoldable pub merge_gates : List Gate → Merging → Merging
merge_gates [] m = m
merge_gates (gate ∷ gates) m = merge_gates gates (merge_gate m gate)

-- before any gate, with these substitutes of the variables before the gates
abbrev pub merging_from : List ℕ → Merging
merging_from leaves = record { substitutes = leaves; kept = [] }

-- the substitute of each variable, with these of the variables before the gates
unfoldable pub substitutes_after : Graph → List ℕ → List ℕ
substitutes_after g leaves = (merge_gates g.gates (merging_from leaves)).substitutes

abbrev pub merging_start : Graph → List ℕ → Merging
merging_start g held = merging_from (table 0 (first_gate g) (leaf_substitute g held))

-- by variable the literal that stands for it in a pass of cleaning
unfoldable pub substitutes_of : Graph → List ℕ → List ℕ
substitutes_of g held = (merge_gates g.gates (merging_start g held)).substitutes

abbrev pub replaced_latch : List ℕ → Latch → Latch
replaced_latch substitutes latch = record latch { next = replaced substitutes latch.next }

-- these latches and gates, reading the substitutes of what they read
unfoldable pub replaced_graph : List ℕ → Graph → Graph
replaced_graph substitutes g = record {
  inputs = g.inputs;
  latches = map (replaced_latch substitutes) g.latches;
  gates = map (replaced_gate substitutes) g.gates;
}

-- the circuit, reading what stands for what it read
abbrev pub replaced_circuit : List ℕ → Netlist → Netlist
replaced_circuit substitutes c = record { aig = replaced_graph substitutes c.aig; props = mapped_props (replaced substitutes) c.props; symbols = c.symbols }

-- the circuit in which each literal reads what stands for it; nothing is dropped yet
abbrev pub merged_of : List ℕ → Netlist → Netlist
merged_of held c = replaced_circuit (substitutes_of c.aig held) c
