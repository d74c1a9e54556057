-- The reasons why the latches of a circuit don't move.
use Rattle.std.specs.Prelude.{ℕ, Bool, ◌&&◌, ◌-◌, List, length, Option, Some, None}
use Rattle.aig_graph.specs.Counting.{count_below}
use Rattle.aig_graph.specs.Marking.{mark_at}
use Rattle.aig_graph.specs.Graph.{Graph, first_latch, first_gate, latch_at, is_known, free_latches}
use Rattle.aig_graph.specs.Circuits.{Netlist}
use Rattle.aig_graph.specs.Closed.{is_held, may_move}
use Rattle.aig_graph.specs.Border.{is_read_outside}
use Rattle.frame_net.specs.Passable.{is_passable, passable_gates}
use Rattle.path_levels.specs.Bounded.{bounded}
use Rattle.reports.specs.declared.held_back.HeldBack.{HeldBack}

-- whether the variable is a held latch with a known reset
abbrev pub is_known_held : Graph → List ℕ → ℕ → Bool
is_known_held g held v = is_held g held v && is_known (latch_at g v)

-- whether the variable is a known latch that isn't held, and that a gate that isn't passable, a
-- next literal or a property reads
abbrev pub is_read_elsewhere : Netlist → List ℕ → ℕ → Bool
is_read_elsewhere c held v = may_move c.aig held v && is_read_outside c.aig c.props (is_passable c.aig held) v

-- how many latches are free, known and held, or known, not held and read elsewhere; how many gates
-- are passable
unfoldable pub held_back : Netlist → List ℕ → HeldBack
held_back c held = record {
  free = free_latches c.aig;
  held = count_below (is_known_held c.aig held) (first_gate c.aig);
  read_elsewhere = count_below (is_read_elsewhere c held) (first_gate c.aig);
  too_long = None;
  passable = length (passable_gates c.aig held);
}

-- the number of latches more that are read elsewhere if gates past the bound aren't passable
abbrev pub too_long : ℕ → Netlist → List ℕ → ℕ
too_long bound c held = (held_back (bounded bound held c) held).read_elsewhere - (held_back c held).read_elsewhere

-- held_back, and under a bound how many latches a gate on too long a path reads, and nothing else
-- that isn't passable
abbrev pub held_back_within : Option ℕ → Netlist → List ℕ → HeldBack
held_back_within None c held = held_back c held
held_back_within (Some bound) c held = record (held_back c held) { too_long = Some (too_long bound c held) }

-- whether the variable is a latch that may move, and has a mark from the first latch on
abbrev pub is_marked_latch : Graph → List ℕ → List Bool → ℕ → Bool
is_marked_latch g held marks v = may_move g held v && mark_at (first_latch g) marks v
