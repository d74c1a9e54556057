-- Nothing is to clean after the move of a frame whose low copies are normalised.
use Rattle.std.proofs.Common.{ℕ, ◌+◌, ◌<◌, ◌≤◌, ◌≡◌, List, length, map, refl, arith, sym, subst, length-append}
use Rattle.std.specs.List.{All}
use Rattle.std.proofs.lemmas.List.{length-map}
use Rattle.aig_graph.specs.Circuits.{Netlist}
use Rattle.aig_graph.specs.Closed.{IsClosedSet}
use Rattle.aig_graph.specs.Laws.{all_free}
use Rattle.aig_graph.specs.Graph.{variables_end}
use Rattle.aig_graph.specs.Move.{Move, move_of}
use Rattle.aig_graph.specs.Counting.{count_below, places}
use Rattle.aig_graph.proofs.PlacesLaws.{length-places}
use Rattle.cleaned_circuits.specs.Held.{HeldAfter, held_unchanged, held_after_pass}
use Rattle.cleaned_circuits.proofs.HeldLaws.{held_after-in_range, still-in_range}
use Rattle.cleaned_circuits.proofs.PassLaws.{IsCircuit, IsCircuit-pass}
use Rattle.rebuild.specs.Moved.{copy_for, gates_below, gate_for, is_outside, moved_graph, moved_held, moved_of}
use Rattle.rebuild.proofs.HeldLaws.{moved_held-below}
use Rattle.rebuild.proofs.MovedLaws.{IsGraph-moved}
use Rattle.rebuild.proofs.NameLaws.{IsNetlist-moved}
use Rattle.clean.specs.Normalised.{IsNormalised, AreLowNormalised}
use Rattle.clean.specs.Laws.{IsCleanedAlready, NothingToClean}
use Rattle.clean.proofs.CleanLaws.{clean-normalised}
use Rattle.clean.proofs.MovedLaws.{moved_normalised}
use Rattle.clean.proofs.PassLaws.{normalised-cleans, normalised-pass}

-- what a circuit is cleaned to is a circuit
pub IsCircuit-held_after : (d : Netlist) (now held : List ℕ) (c : Netlist) → HeldAfter d now held c → IsCircuit c → IsCircuit d
IsCircuit-held_after d now _ _ (held_unchanged held c kept pass same positions) valid = let P : Netlist → Type 0 = λ e. IsCircuit e in subst P (sym same) valid
IsCircuit-held_after d now _ _ (held_after_pass held c e first still_held pass differs rest) valid =
    IsCircuit-held_after d now still_held e rest (IsCircuit-pass held c e first still_held valid pass)

-- and it is normalised
pub cleans-normalised : (d : Netlist) (now held : List ℕ) (c : Netlist) → HeldAfter d now held c → IsCircuit c → All (λ j. j < length c.aig.latches) held → IsNormalised now d
cleans-normalised d now _ _ (held_unchanged held c kept pass same positions) valid in_range =
    let P : Netlist → Type 0 = λ e. IsNormalised now e in
    let Q : List ℕ → Type 0 = λ js. IsNormalised js c in
    subst P (sym same) (subst Q (sym positions) (clean-normalised held c kept valid in_range pass))
cleans-normalised d now _ _ (held_after_pass held c e first still_held pass differs rest) valid in_range =
    cleans-normalised d now still_held e rest (IsCircuit-pass held c e first still_held valid pass) (still-in_range held c e first still_held pass in_range)

-- the number of the first copy
first-copy : (m : Move) (first : ℕ) → first + length m.set ≡ length (moved_graph m).gates → first ≡ count_below (is_outside m) (variables_end m.circuit.aig)
unfolding moved_graph
first-copy m first e =
    omega (
      arith,
      e,
      length-append (gates_below m (variables_end m.circuit.aig)) (map (copy_for m) m.set),
      length-map (places (is_outside m) (variables_end m.circuit.aig)) (gate_for m),
      length-map m.set (copy_for m),
      length-places (is_outside m) (variables_end m.circuit.aig),
    )

-- the copies are among the gates
pub copies-within : (m : Move) → length m.set ≤ length (moved_graph m).gates
unfolding moved_graph
copies-within m =
    omega (
      arith,
      length-append (gates_below m (variables_end m.circuit.aig)) (map (copy_for m) m.set),
      length-map m.set (copy_for m),
    )

-- a normalised circuit is normalised after a move, if its low copies are
pub normalised-moved : (m : Move) (first : ℕ) → IsCircuit m.circuit → All (λ j. j < length m.circuit.aig.latches) m.held → IsNormalised m.held m.circuit
    → IsClosedSet m.circuit.aig m.held m.set → first + length m.set ≡ length (moved_graph m).gates → AreLowNormalised (moved_graph m) first → IsNormalised (moved_held m) (moved_of m)
normalised-moved m first valid in_range normalised set copies lows =
    let P : ℕ → Type 0 = λ n. AreLowNormalised (moved_graph m) n in
    moved_normalised m valid.graph valid.netlist in_range set normalised (subst P (first-copy m first copies) lows)

-- a normalised circuit is what it is cleaned to
pub normalised-cleaned : (held : List ℕ) (c : Netlist) → IsCircuit c → All (λ j. j < length c.aig.latches) held → IsNormalised held c → IsCleanedAlready held c
normalised-cleaned held c valid in_range normalised = record {
  cleans = normalised-cleans held c valid in_range normalised;
  held_after = held_unchanged held c (all_free c.aig) (normalised-pass held c valid in_range normalised) refl refl;
}

-- a circuit that was cleaned has nothing to clean after a move whose low copies are normalised
pub nothing_to_clean : (held : List ℕ) (c d : Netlist) (now s : List ℕ) (first : ℕ) → NothingToClean held c d now s first
nothing_to_clean held c d now s first graph netlist in_range after set room copies lows =
    let m : Move = move_of d now s in
    let circuit : IsCircuit c = record { graph = graph; netlist = netlist } in
    let valid : IsCircuit d = IsCircuit-held_after d now held c after circuit in
    let still : All (λ j. j < length d.aig.latches) now = held_after-in_range d now held c after in_range in
    let normalised : IsNormalised now d = cleans-normalised d now held c after circuit in_range in
    let moved : IsCircuit (moved_of m) = record { graph = IsGraph-moved m valid.graph set room; netlist = IsNetlist-moved m valid.graph set valid.netlist } in
    normalised-cleaned (moved_held m) (moved_of m) moved (moved_held-below m still) (normalised-moved m first valid still normalised set copies lows)
