-- The held latches of a run.
use Rattle.std.proofs.Common.{ℕ, ◌<◌, ◌≡◌, ◌||◌, ◌∙◌, Bool, true, false, List, [], ◌∷◌, Option, length, refl, ap, sym, subst}
use Rattle.std.specs.List.{All}
use Rattle.std.specs.List.Sorted.{IsStrictlyIncreasing}
use Rattle.aig_graph.specs.Circuits.{Netlist}
use Rattle.aig_graph.specs.Counting.{places}
use Rattle.aig_graph.specs.Keep.{Holding, held_by, held_of}
use Rattle.aig_graph.specs.Marking.{has}
use Rattle.aig_graph.specs.Move.{move_of}
use Rattle.aig_graph.specs.declared.choice.Choice.{Choice}
use Rattle.aig_graph.specs.declared.properties.Symbol.{Symbol}
use Rattle.aig_graph.proofs.MemberLaws.{places-members}
use Rattle.aig_graph.proofs.PositionLaws.{held_of-below, held_of-rising}
use Rattle.certificates.specs.declared.merged.MergedLatch.{MergedLatch}
use Rattle.cleaned_circuits.proofs.HeldLaws.{held_after-in_range, held_after-rising}
use Rattle.cleaned_circuits.proofs.MergedLaws.{length-replaced_latches}
use Rattle.cleaned_circuits.proofs.PassLaws.{IsCircuit, IsCircuit-cleans}
use Rattle.merged_circuits.specs.Readings.{substitutes_by}
use Rattle.merged_circuits.proofs.MergingLaws.{IsGraph-merged_by, IsNetlist-merged_by}
use Rattle.rebuild.proofs.HeldLaws.{moved_held-rising}
use Rattle.retimed_circuits.specs.declared.report.FrameReport.{FrameReport}
use Rattle.retimed_circuits.specs.declared.report.Retimed.{Retimed}
use Rattle.retimed_circuits.specs.Frames.{AfterFrames, cleaned, frame}
use Rattle.retimed_circuits.specs.Merging.{MergesIn}
use Rattle.retimed_circuits.specs.Retiming.{IsMergedRetimed}
use Rattle.retimed_circuits.proofs.CircuitLaws.{Held, after-held}
use Rattle.retimed_circuits.proofs.HeldLaws.{cleaning-keeps, merging-keeps}
use Rattle.retimed_circuits.proofs.StayLaws.{stays-then}
use Rattle.frame_runs.specs.Retiming.{IsRetimedTo}
use Rattle.merging_rounds.specs.Rounds.{at_positions}

-- no names hold nothing
none-named : (symbols : List Symbol) → held_by [] symbols ≡ []
unfolding held_by
none-named [] = refl
none-named (symbol ∷ symbols) = none-named symbols

-- rising positions of latches hold these latches and no others
pub held_of-own : (held : List ℕ) (c : Netlist) → IsStrictlyIncreasing held → All (λ j. j < length c.aig.latches) held → held_of (at_positions held) c ≡ held
held_of-own [] c rising below = none-named c.symbols.latches
held_of-own (position ∷ positions) c rising below =
    ap (λ (xs : List ℕ). places (λ j. has xs j || has (position ∷ positions) j) (length c.aig.latches)) (none-named c.symbols.latches)
    ∙ places-members (position ∷ positions) (length c.aig.latches) rising below

-- d is a circuit that has at now the latches that c has at held, in their order
pub record HeldInOrder (held : List ℕ) (c : Netlist) (now : List ℕ) (d : Netlist) : Type 0 where
  -- they stay
  pub stand : Held held c now d
  -- their positions rise
  pub rising : IsStrictlyIncreasing now

module _ (bound : Option ℕ) (choice : Choice) where
  -- frames keep the order of held latches
  after-rising : (held : List ℕ) (c : Netlist) → IsCircuit c → All (λ j. j < length c.aig.latches) held → IsStrictlyIncreasing held → (n : ℕ) (d : Netlist) (kept now : List ℕ) (reports : List FrameReport)
      → AfterFrames bound choice held c n d kept now reports → IsStrictlyIncreasing now
  after-rising held c valid in_range rising _ _ _ _ _ (cleaned d kept now cleans) = held_after-rising d now held c cleans.held_after rising
  after-rising held c valid in_range rising _ _ _ _ _ (frame n d e kept left now later reports report before f) =
      let so_far : Held held c now d = after-held bound choice held c valid in_range n d kept now reports before in
      let order : IsStrictlyIncreasing now = after-rising held c valid in_range rising n d kept now reports before in
      held_after-rising e later _ _ f.cleaned.held_after (moved_held-rising (move_of d now f.set) so_far.in_range order)

  frames-in-order : (held : List ℕ) (c : Netlist) → IsCircuit c → All (λ j. j < length c.aig.latches) held → IsStrictlyIncreasing held → (n : ℕ) (d : Netlist) (kept now : List ℕ) (reports : List FrameReport)
      → AfterFrames bound choice held c n d kept now reports → HeldInOrder held c now d
  frames-in-order held c valid in_range rising n d kept now reports run =
      record { stand = after-held bound choice held c valid in_range n d kept now reports run; rising = after-rising held c valid in_range rising n d kept now reports run }

-- what keeps held latches, and then keeps them again, does
pub in-order-then : (held now later : List ℕ) (c d e : Netlist) → HeldInOrder held c now d → HeldInOrder now d later e → HeldInOrder held c later e
in-order-then held now later c d e p q = record {
  stand = record { circuit = q.stand.circuit; in_range = q.stand.in_range; stay = stays-then held now later c d e p.stand.stay q.stand.stay };
  rising = q.rising;
}

-- merging keeps them
pub merges-in-order : (held : List ℕ) (c d : Netlist) (kept now : List ℕ) (lines : List MergedLatch) → IsCircuit c → All (λ j. j < length c.aig.latches) held → IsStrictlyIncreasing held → MergesIn held c d kept now lines → HeldInOrder held c now d
merges-in-order held c d kept now lines valid in_range rising merges =
    let clean : Netlist = merges.clean in
    let first : IsCircuit clean = IsCircuit-cleans clean held c kept merges.cleaned.cleans valid in
    let there : All (λ j. j < length clean.aig.latches) now = held_after-in_range clean now held c merges.cleaned.held_after in_range in
    let many : length d.aig.latches ≡ length clean.aig.latches =
    ap (λ (x : Netlist). length x.aig.latches) merges.merged.circuit ∙ length-replaced_latches (substitutes_by clean.aig merges.reads) clean.aig in
    record {
      stand = record {
        circuit = record {
          graph = IsGraph-merged_by now merges.reads clean d first.graph merges.merged;
          netlist = IsNetlist-merged_by now merges.reads clean d first.graph first.netlist merges.merged;
        };
        in_range = subst (λ (n : ℕ). All (λ j. j < n) now) (sym many) there;
        stay = stays-then held now now c clean d (cleaning-keeps held c clean kept now valid in_range merges.cleaned) (merging-keeps now merges.reads clean d merges.merged);
      };
      rising = held_after-rising clean now held c merges.cleaned.held_after rising;
    }

-- a run keeps the latches that it is asked to hold
pub run-in-order : (merge : Bool) (bound : Option ℕ) (choice : Choice) (c : Netlist) (holding : Holding) (max_frames : ℕ) (certify : Bool) (r : Retimed) (now : List ℕ) → IsCircuit c
    → IsRetimedTo merge bound choice c holding max_frames certify r now → HeldInOrder (held_of holding c) c now r.circuit
run-in-order false bound choice c holding max_frames certify r now valid is =
    let held : List ℕ = held_of holding c in
    let run = is.retimed.run in
    let whole : HeldInOrder held c run.now r.circuit =
    frames-in-order bound choice held c valid (held_of-below holding c valid.netlist) (held_of-rising holding c valid.netlist) (length r.frames) r.circuit r.kept_free run.now r.frames run.frames in
    subst (λ (js : List ℕ). HeldInOrder held c js r.circuit) (sym is.held) whole
run-in-order true bound choice c holding max_frames certify r now valid is =
    let held : List ℕ = held_of holding c in
    let m : IsMergedRetimed bound choice c holding max_frames certify r = is.retimed in
    let s : Retimed = m.from_start in
    let begun : HeldInOrder held c m.start_held m.start =
    merges-in-order held c m.start m.kept m.start_held m.lines valid (held_of-below holding c valid.netlist) (held_of-rising holding c valid.netlist) m.merges in
    let ended : HeldInOrder m.start_held m.start m.retimed.now s.circuit =
    frames-in-order bound choice m.start_held m.start begun.stand.circuit begun.stand.in_range begun.rising (length s.frames) s.circuit s.kept_free m.retimed.now s.frames m.retimed.frames in
    let whole : HeldInOrder held c m.retimed.now s.circuit = in-order-then held m.start_held m.retimed.now c m.start s.circuit begun ended in
    subst (λ (js : List ℕ). HeldInOrder held c js r.circuit) (sym is.held) (subst (λ (x : Retimed). HeldInOrder held c m.retimed.now x.circuit) (sym m.whole) whole)
