-- A move of latches forward.
use Rattle.std.specs.Prelude.{ℕ, List}
use Rattle.aig_graph.specs.Circuits.{Netlist}

-- a circuit, the positions of the latches that are held, and the set of gates over which latches
-- move
pub record Move : Type 0 where
  pub circuit : Netlist
  pub held : List ℕ
  pub set : List ℕ

-- a circuit, the held positions and the set
abbrev pub move_of : Netlist → List ℕ → List ℕ → Move
move_of c held s = record { circuit = c; held = held; set = s }
