-- Laws of normalised circuits.
use Rattle.std.specs.Prelude.{ℕ, ◌+◌, ◌<◌, ◌≤◌, ◌≡◌, List, All, length}
use Rattle.aig_graph.specs.Graph.{IsGraph, variables_end}
use Rattle.aig_graph.specs.Circuits.{Netlist, IsNetlist}
use Rattle.aig_graph.specs.Closed.{IsClosedSet}
use Rattle.aig_graph.specs.Move.{Move, move_of}
use Rattle.aig_graph.specs.Counting.{count_below}
use Rattle.rebuild.specs.Moved.{is_outside, moved_graph, moved_held, moved_of}
use Rattle.aig_graph.specs.Laws.{all_free}
use Rattle.cleaned_circuits.specs.Cleaned.{IsPass, Cleans}
use Rattle.cleaned_circuits.specs.Held.{HeldAfter}
use Rattle.aig_graph.specs.declared.literal.TheConstants.{MAX_VARIABLES}
use Rattle.clean.specs.Normalised.{IsNormalised, AreLowNormalised}

-- a normalised circuit is normalised after a move, if the low copies are
abbrev pub MovedIsNormalised : Move → Type 0
MovedIsNormalised m = IsGraph m.circuit.aig → IsNetlist m.circuit → All (λ j. j < length m.circuit.aig.latches) m.held → IsClosedSet m.circuit.aig m.held m.set
    → IsNormalised m.held m.circuit → AreLowNormalised (moved_graph m) (count_below (is_outside m) (variables_end m.circuit.aig)) → IsNormalised (moved_held m) (moved_of m)

-- a pass changes nothing in a normalised circuit, so it is cleaned to itself, with all its free
-- latches
abbrev pub NormalisedIsCleaned : List ℕ → Netlist → Type 0
NormalisedIsCleaned held c = IsGraph c.aig → IsNetlist c → All (λ j. j < length c.aig.latches) held → IsNormalised held c
    → IsPass held c c (all_free c.aig) held × Cleans c held c (all_free c.aig)

-- and a circuit that a pass leaves unchanged is normalised
abbrev pub CleanedIsNormalised : List ℕ → Netlist → List ℕ → Type 0
CleanedIsNormalised held c kept = IsGraph c.aig → IsNetlist c → All (λ j. j < length c.aig.latches) held → IsPass held c c kept held → IsNormalised held c

-- nothing is to clean: the circuit is what it is cleaned to, with all its free latches, and the
-- held latches keep their positions
pub record IsCleanedAlready (held : List ℕ) (c : Netlist) : Type 0 where
  pub cleans : Cleans c held c (all_free c.aig)
  pub held_after : HeldAfter c held held c

-- Let d be c cleaned, with held latches at now. After its move over a closed set s nothing is to
-- clean, if the low copies are normalised: those among gates from number first on.
abbrev pub NothingToClean : List ℕ → Netlist → Netlist → List ℕ → List ℕ → ℕ → Type 0
NothingToClean held c d now s first = let m = move_of d now s in
    IsGraph c.aig → IsNetlist c → All (λ j. j < length c.aig.latches) held → HeldAfter d now held c → IsClosedSet d.aig now s
    → variables_end (moved_graph m) ≤ MAX_VARIABLES → first + length s ≡ length (moved_graph m).gates → AreLowNormalised (moved_graph m) first
    → IsCleanedAlready (moved_held m) (moved_of m)

-- the low copies of a normalised circuit are normalised, whichever gates are called copies
abbrev pub NormalisedHasNormalisedCopies : List ℕ → Netlist → ℕ → Type 0
NormalisedHasNormalisedCopies held c first = IsNormalised held c → AreLowNormalised c.aig first
