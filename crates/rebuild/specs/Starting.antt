-- Values at step 0, and the resets that a graph gives its gates.
use Rattle.std.specs.Prelude.{ℕ, ◌*◌, ◌&&◌, Bool, true, false, List, length, Option, Some, None, if◌then◌else◌}
use Rattle.aig_graph.specs.declared.graph.Reset.{Reset}
use Rattle.aig_graph.specs.declared.graph.Reset.TheVariants.{Zero, One, Free}
use Rattle.aig_graph.specs.Graph.{Graph, first_gate}
use Rattle.aig_graph.specs.Closed.{is_settled}
use Rattle.aig_graph.specs.Value.{value, signed, reset_to}
use Rattle.aig_graph.specs.Tables.{table}
use Rattle.rebuild.specs.Members.{is_latch_or_in}

-- the value of a variable at step 0, with inputs and free latches 0
unfoldable pub start_value : Graph → ℕ → Bool
start_value g v = value g (λ t i. false) (λ j. false) 0 (2 * v)

-- the value at step 0 of a latch, or of a gate in the list; false for any other gate
abbrev pub member_start : Graph → List ℕ → ℕ → Bool
member_start g s v = is_latch_or_in g s v && start_value g v

-- the value at step 0 of a passable gate, and of a known latch that isn't held; else free
unfoldable pub start_reset : Graph → List ℕ → ℕ → Reset
start_reset g held v = if is_settled g held v then reset_to (start_value g v) else Free

-- the value of a literal at step 0 by its variable's reset, unless that is free
abbrev pub literal_start : ℕ → Reset → Option Bool
literal_start lit Zero = Some (signed lit false)
literal_start lit One = Some (signed lit true)
literal_start lit Free = None

-- the reset of the AND of two literals: free if the value of one isn't decided
abbrev pub and_reset : Option Bool → Option Bool → Reset
and_reset None b = Free
and_reset (Some a) None = Free
and_reset (Some a) (Some b) = reset_to (a && b)

-- the reset of each gate, in gate order
abbrev pub gate_resets : Graph → List ℕ → List Reset
gate_resets g held = table (first_gate g) (length g.gates) (start_reset g held)
