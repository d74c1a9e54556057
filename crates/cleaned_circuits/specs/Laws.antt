-- Laws of cleaning.
use Rattle.std.specs.Prelude.{ℕ, ◌≡◌, List}
use Rattle.aig_graph.specs.Graph.{IsGraph}
use Rattle.aig_graph.specs.Circuits.{Netlist, IsNetlist}
use Rattle.aig_graph.specs.Streams.{SameStreams}
use Rattle.cleaned_circuits.specs.Cleaned.{Cleans}
use Rattle.cleaned_circuits.specs.Held.{HeldAfter}

-- a cleaned circuit has the streams of the circuit
abbrev pub KeepsStreams : List ℕ → Netlist → Netlist → List ℕ → Type 0
KeepsStreams held c d kept = IsGraph c.aig → IsNetlist c → Cleans d held c kept → SameStreams c d kept

-- cleaning leaves one circuit, and one list of free latches
abbrev pub IsDetermined : List ℕ → Netlist → Netlist → Netlist → List ℕ → List ℕ → Type 0
IsDetermined held c d e first second = Cleans d held c first → Cleans e held c second → (d ≡ e) × (first ≡ second)

-- held latches stand at one list of positions of the cleaned circuit
abbrev pub IsHeldOnce : List ℕ → Netlist → Netlist → List ℕ → List ℕ → Type 0
IsHeldOnce held c d now other = HeldAfter d now held c → HeldAfter d other held c → now ≡ other
