-- The gates of a set of nodes, in the order of the nodes.
use Rattle.std.specs.Prelude.{ℕ, zero, suc, ◌++◌, Bool, List, [], ◌∷◌, Option, Some, None, if◌then◌else◌}
use Rattle.frame_net.specs.declared.net.Point.{Point}
use Rattle.frame_net.specs.FlowNet.{FlowNet, point_of}

-- the gate that a point lies before
abbrev pub gate_after : Option Point → Option ℕ
gate_after None = None
gate_after (Some point) = if point.behind then None else Some point.var

-- the gate with node v before it, if v is in the set
unfoldable pub gate_of_node : FlowNet → (ℕ → Bool) → ℕ → Option ℕ
gate_of_node net side v = if side v then gate_after (point_of net v) else None

abbrev pub and_gate : Option ℕ → List ℕ → List ℕ
and_gate None gates = gates
and_gate (Some gate) gates = gates ++ gate ∷ []

-- the gates with a node of the set below m before them
unfoldable pub gates_of_nodes_below : FlowNet → (ℕ → Bool) → ℕ → List ℕ
gates_of_nodes_below net side zero = []
gates_of_nodes_below net side (suc m) = and_gate (gate_of_node net side m) (gates_of_nodes_below net side m)
