-- A circuit without the latches and gates outside a set of variables.
use Rattle.std.specs.Prelude.{ℕ, ◌+◌, ◌-◌, ◌*◌, ◌&&◌, Bool, List, [], ◌∷◌, length, map, filter, suc, if◌then◌else◌}
use Rattle.aig_graph.specs.declared.graph.Gate.{Gate}
use Rattle.aig_graph.specs.declared.graph.Latch.{Latch}
use Rattle.aig_graph.specs.declared.properties.Symbol.{Symbol}
use Rattle.aig_graph.specs.declared.properties.Symbols.{Symbols}
use Rattle.aig_graph.specs.Graph.{is_free_latch, Graph, variable, first_latch, first_gate, latch_at, free_before}
use Rattle.aig_graph.specs.Circuits.{Netlist}
use Rattle.aig_graph.specs.Building.{gate_of}
use Rattle.aig_graph.specs.Counting.{count_below, places}
use Rattle.aig_graph.specs.Value.{signed_as}
use Rattle.aig_graph.specs.Mapped.{mapped_props}
use Rattle.cleaned_circuits.specs.Reached.{stays}

-- numbers close up: the new variable is the number of those before that stay
abbrev pub new_variable : Graph → (ℕ → Bool) → ℕ → ℕ
new_variable g s v = count_below (stays g s) v

abbrev pub renumbered : Graph → (ℕ → Bool) → ℕ → ℕ
renumbered g s lit = signed_as lit (2 * new_variable g s (variable lit))

-- those of a list, numbered from n on, that pass
unfoldable pub picked : {A : Type 0} → (ℕ → Bool) → ℕ → List A → List A
picked p n [] = []
picked p n (x ∷ xs) = if p n then x ∷ picked p (suc n) xs else picked p (suc n) xs

abbrev pub renumbered_latch : Graph → (ℕ → Bool) → Latch → Latch
renumbered_latch g s latch = record latch { next = renumbered g s latch.next }

abbrev pub renumbered_gate : Graph → (ℕ → Bool) → Gate → Gate
renumbered_gate g s gate = gate_of (renumbered g s gate.rhs0) (renumbered g s gate.rhs1)

-- the graph without the latches and gates that do not stay, numbered anew; all inputs stay
unfoldable pub trimmed_graph : Graph → (ℕ → Bool) → Graph
trimmed_graph g s = record {
  inputs = g.inputs;
  latches = map (renumbered_latch g s) (picked (stays g s) (first_latch g) g.latches);
  gates = map (renumbered_gate g s) (picked (stays g s) (first_gate g) g.gates);
}

-- the new position of a latch
abbrev pub new_position : Graph → (ℕ → Bool) → ℕ → ℕ
new_position g s j = new_variable g s (first_latch g + j) - first_latch g

-- the name of a latch that stays, at the latch's new position
abbrev pub new_name : Graph → (ℕ → Bool) → Symbol → Symbol
new_name g s name = record name { position = new_position g s name.position }

unfoldable pub trimmed_symbols : Graph → (ℕ → Bool) → Symbols → Symbols
trimmed_symbols g s names = record names { latches = map (new_name g s) (filter (λ name. s (first_latch g + name.position)) names.latches) }

-- the circuit without what isn't reached: order is kept, numbers close up, and a latch's name goes
-- with the latch
abbrev pub trimmed_of : Netlist → (ℕ → Bool) → Netlist
trimmed_of c s = record { aig = trimmed_graph c.aig s; props = mapped_props (renumbered c.aig s) c.props; symbols = trimmed_symbols c.aig s c.symbols }

-- whether latch j is free and stays
abbrev pub is_kept_free : Graph → (ℕ → Bool) → ℕ → Bool
is_kept_free g s j = is_free_latch (latch_at g (first_latch g + j)) && s (first_latch g + j)

-- of each free latch that stays, its place among the free latches
unfoldable pub kept_free : Graph → (ℕ → Bool) → List ℕ
kept_free g s = map (free_before g) (places (is_kept_free g s) (length g.latches))
