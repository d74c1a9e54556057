-- A flow of units bounds the border of each closed set, and shows a set to be the greatest least
-- one.
use Rattle.std.specs.Prelude.{◌≡◌, ℕ, ◌≤◌, Bool, List, length}
use Rattle.std.specs.List.Sorted.{IsStrictlyIncreasing}
use Rattle.aig_graph.specs.Marking.{has, mark_at}
use Rattle.aig_graph.specs.Graph.{IsGraph, first_latch}
use Rattle.aig_graph.specs.Circuits.{Netlist}
use Rattle.aig_graph.specs.Closed.{IsClosedSet}
use Rattle.aig_graph.specs.Move.{move_of}
use Rattle.aig_graph.specs.Border.{border_size, IsGreatestLeast, IsSmallestLeast}
use Rattle.unit_flows.specs.declared.gate_flow.GateFlow.{GateFlow}
use Rattle.unit_flows.specs.Units.{AreTallies, IsBalanced, arrivals}
use Rattle.unit_flows.specs.Marks.{ReachSink}
use Rattle.unit_flows.specs.Shown.{is_off, IsFullCut, HasFullCut}
use Rattle.unit_flows.specs.Onward.{AreFarFromLeft}

-- no closed set has a smaller border than there are units that come to the sink
abbrev pub BorderLaw : Type 0
BorderLaw = (c : Netlist) (held : List ℕ) (flows : List GateFlow) (went came r : List ℕ) → IsGraph c.aig → AreTallies c.aig flows (length c.aig.gates) went came
    → IsBalanced c.aig flows went came → IsClosedSet c.aig held r → arrivals c held flows went ≤ border_size (move_of c held r)

-- the passable gates off the marks of a full cut, each of which reaches the sink, are the greatest
-- least set
abbrev pub ShownLaw : Type 0
ShownLaw = (c : Netlist) (held : List ℕ) (flows : List GateFlow) (before after : List Bool) (s : List ℕ) → IsGraph c.aig
    → HasFullCut c held flows (mark_at (first_latch c.aig) before) (mark_at (first_latch c.aig) after) → ReachSink c held flows before after
    → IsStrictlyIncreasing s → ((v : ℕ) → has s v ≡ is_off c held (mark_at (first_latch c.aig) before) v) → IsGreatestLeast c held s

-- the passable gates off the marks of a full cut, each reached from a node where a unit is left,
-- are the smallest least set
abbrev pub ShownSmallestLaw : Type 0
ShownSmallestLaw = (c : Netlist) (held : List ℕ) (flows : List GateFlow) (went came : List ℕ) (before after : List Bool) (s : List ℕ) → IsGraph c.aig
    → AreTallies c.aig flows (length c.aig.gates) went came → IsBalanced c.aig flows went came
    → IsFullCut c held flows went (mark_at (first_latch c.aig) before) (mark_at (first_latch c.aig) after) → AreFarFromLeft c held flows went came before
    → IsStrictlyIncreasing s → ((v : ℕ) → has s v ≡ is_off c held (mark_at (first_latch c.aig) before) v) → IsSmallestLeast c held s
