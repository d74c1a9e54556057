-- What a circuit becomes.
use Rattle.std.specs.Prelude.{ℕ, List, Option}
use Rattle.aig_graph.specs.Circuits.{Netlist}
use Rattle.backward_retiming.specs.declared.retiming.Drawing.{Drawing}
use Rattle.backward_retiming.specs.declared.retiming.MovedBack.{MovedBack}
use Rattle.backward_circuits.specs.Drawn.{HasOtherLatches}
use Rattle.backward_circuits.specs.MovedBack.{IsMovedBack}

-- a circuit that c may become, with its map
pub record IsDrawnOf (c : Netlist) (held : List ℕ) (bound : Option ℕ) (r : Drawing) : Type 0 where
  pub moved : IsMovedBack c held bound r.circuit r.map
  pub names : HasOtherLatches c r.circuit

-- it is so of an answer
pub record IsAnswerTo (c : Netlist) (held : List ℕ) (bound : Option ℕ) (r : MovedBack) : Type 0 where
  pub moved : IsMovedBack c held bound r.circuit r.map
  pub names : HasOtherLatches c r.circuit
