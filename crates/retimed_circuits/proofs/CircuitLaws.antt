-- What frames make of a circuit is one, and its held latches stay.
use Rattle.std.proofs.Common.{ℕ, ◌<◌, ◌≤◌, List, length, Option, arith}
use Rattle.std.specs.List.{All}
use Rattle.aig_graph.specs.declared.literal.TheConstants.{MAX_VARIABLES}
use Rattle.aig_graph.specs.declared.choice.Choice.{Choice}
use Rattle.aig_graph.specs.Circuits.{Netlist}
use Rattle.aig_graph.specs.Closed.{IsClosedSet}
use Rattle.aig_graph.specs.Graph.{known_latches, variables_end}
use Rattle.aig_graph.specs.Move.{Move, move_of}
use Rattle.aig_graph.proofs.GraphLaws.{room}
use Rattle.cleaned_circuits.proofs.PassLaws.{IsCircuit, IsCircuit-cleans}
use Rattle.cleaned_circuits.proofs.HeldLaws.{held_after-in_range}
use Rattle.rebuild.specs.Moved.{moved_graph}
use Rattle.rebuild.proofs.FreeLaws.{moved-room}
use Rattle.rebuild.proofs.HeldLaws.{moved_held-below}
use Rattle.rebuild.proofs.MovedLaws.{IsGraph-moved}
use Rattle.rebuild.proofs.NameLaws.{IsNetlist-moved}
use Rattle.retimed_circuits.specs.declared.report.FrameReport.{FrameReport}
use Rattle.retimed_circuits.specs.Frames.{AfterFrames, IsFrame, cleaned, count_over, frame, held_over, moved_over}
use Rattle.retimed_circuits.specs.Names.{StayHeld}
use Rattle.retimed_circuits.proofs.FoundLaws.{found-closed}
use Rattle.retimed_circuits.proofs.HeldLaws.{cleaning-keeps, moving-keeps}
use Rattle.retimed_circuits.proofs.StayLaws.{stays-then}

-- if latches move over a closed set that counts less than the known latches, the moved circuit is
-- one
pub moved-circuit : (held : List ℕ) (c : Netlist) (s : List ℕ) → IsCircuit c → IsClosedSet c.aig held s → count_over held c s < known_latches c.aig → IsCircuit (moved_over held c s)
moved-circuit held c s valid set fewer =
    let m : Move = move_of c held s in
    let small : variables_end (moved_graph m) ≤ MAX_VARIABLES = moved-room m set (room c.aig (count_over held c s) valid.graph (omega (arith, fewer))) in
    record { graph = IsGraph-moved m valid.graph set small; netlist = IsNetlist-moved m valid.graph set valid.netlist }

-- d is a circuit, which has at now the latches that c has at held
pub record Held (held : List ℕ) (c : Netlist) (now : List ℕ) (d : Netlist) : Type 0 where
  -- it is a circuit
  pub circuit : IsCircuit d
  -- the positions are those of latches
  pub in_range : All (λ j. j < length d.aig.latches) now
  -- the held latches stay
  pub stay : StayHeld held c now d

module _ (bound : Option ℕ) (choice : Choice) where
  frame-held : (held : List ℕ) (c d : Netlist) (kept now : List ℕ) (report : FrameReport) → IsCircuit c → All (λ j. j < length c.aig.latches) held → IsFrame bound choice held c d kept now report → Held held c now d
  frame-held held c d kept now report valid in_range f =
      let moved : Netlist = moved_over held c f.set in
      let there : List ℕ = held_over held c f.set in
      let whole : IsCircuit moved = moved-circuit held c f.set valid (found-closed bound choice held c f.set f.helps.found) f.helps.fewer in
      let within : All (λ j. j < length moved.aig.latches) there = moved_held-below (move_of c held f.set) in_range in
      record {
        circuit = IsCircuit-cleans d there moved kept f.cleaned.cleans whole;
        in_range = held_after-in_range d now there moved f.cleaned.held_after within;
        stay = stays-then held there now c moved d (moving-keeps held c f.set valid.netlist in_range) (cleaning-keeps there moved d kept now whole within f.cleaned);
      }

  -- what frames make of a circuit is one, and its held latches stay
  pub after-held : (held : List ℕ) (c : Netlist) → IsCircuit c → All (λ j. j < length c.aig.latches) held → (n : ℕ) (d : Netlist) (kept now : List ℕ) (reports : List FrameReport)
      → AfterFrames bound choice held c n d kept now reports → Held held c now d
  after-held held c valid in_range _ _ _ _ _ (cleaned d kept now cleans) = record {
    circuit = IsCircuit-cleans d held c kept cleans.cleans valid;
    in_range = held_after-in_range d now held c cleans.held_after in_range;
    stay = cleaning-keeps held c d kept now valid in_range cleans;
  }
  after-held held c valid in_range _ _ _ _ _ (frame n d e kept left now later reports report before f) =
      let so_far : Held held c now d = after-held held c valid in_range n d kept now reports before in
      let one : Held now d later e = frame-held now d e left later report so_far.circuit so_far.in_range f in
      record { circuit = one.circuit; in_range = one.in_range; stay = stays-then held now later c d e so_far.stay one.stay }

  -- without held latches that are in range, what frames make of a circuit is still one
  pub after-circuit : (held : List ℕ) (c : Netlist) → IsCircuit c → (n : ℕ) (d : Netlist) (kept now : List ℕ) (reports : List FrameReport) → AfterFrames bound choice held c n d kept now reports → IsCircuit d
  after-circuit held c valid _ _ _ _ _ (cleaned d kept now cleans) = IsCircuit-cleans d held c kept cleans.cleans valid
  after-circuit held c valid _ _ _ _ _ (frame n d e kept left now later reports report before f) =
      let whole : IsCircuit d = after-circuit held c valid n d kept now reports before in
      let moved : IsCircuit (moved_over now d f.set) = moved-circuit now d f.set whole (found-closed bound choice now d f.set f.helps.found) f.helps.fewer in
      IsCircuit-cleans e (held_over now d f.set) (moved_over now d f.set) left f.cleaned.cleans moved
