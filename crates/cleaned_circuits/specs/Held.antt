-- The positions of the held latches of a circuit in what it is cleaned to.
use Rattle.std.specs.Prelude.{ℕ, ◌≡◌, ◌≢◌, List}
use Rattle.aig_graph.specs.Circuits.{Netlist}
use Rattle.cleaned_circuits.specs.Cleaned.{IsPass}

-- the held latches of c stand at the positions now of d, to which c is cleaned
pub data HeldAfter (d : Netlist) (now : List ℕ) : List ℕ → Netlist → Type 0 where
  held_unchanged : (held : List ℕ) (c : Netlist) (kept : List ℕ) → IsPass held c c kept held → d ≡ c → now ≡ held → HeldAfter d now held c
  held_after_pass : (held : List ℕ) (c e : Netlist) (first still_held : List ℕ) → IsPass held c e first still_held → e ≢ c
      → HeldAfter d now still_held e → HeldAfter d now held c
