-- What a witness circuit shows.
use Rattle.std.specs.Prelude.{ℕ, ◌≤◌}
use Rattle.aig_graph.specs.Circuits.{Netlist}
use Rattle.aig_graph.specs.Value.{Choice, Inputs, latch_value}
use Rattle.state_maps.specs.States.{IsAllowed}
use Rattle.witness_circuits.specs.declared.sharing.Sharing.{Sharing}
use Rattle.witness_circuits.specs.Witnesses.{IsGood, IsSharing, IsWitness}

-- no bad state of c is 1 at a step up to which its constraints hold
abbrev pub ShowsGood : Netlist → Netlist → Sharing → Type 0
ShowsGood c w k = IsSharing c w k → IsWitness c w k → (x : Inputs) (f : Choice) (n : ℕ)
    → ((t : ℕ) → t ≤ n → IsAllowed c (x t) (latch_value c.aig x f t)) → IsGood c (x n) (latch_value c.aig x f n)
