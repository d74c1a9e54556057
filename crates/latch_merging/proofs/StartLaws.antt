-- What a cleaned circuit is merged to is what frames start from.
use Rattle.std.proofs.Common.{ℕ, ◌<◌, ◌≡◌, List, length, ap, sym, ◌∙◌, subst}
use Rattle.std.specs.List.{All}
use Rattle.std.proofs.lemmas.List.{length-map}
use Rattle.aig_graph.specs.Circuits.{Netlist}
use Rattle.aig_graph.specs.Graph.{free_latches}
use Rattle.aig_graph.specs.Laws.{all_free}
use Rattle.aig_graph.specs.Streams.{SameStreams}
use Rattle.aig_graph.proofs.StreamLaws.{same_streams-transitive, composed-every}
use Rattle.certificates.specs.declared.merged.MergedLatch.{MergedLatch}
use Rattle.clean.specs.declared.cleaning.Cleaned.{Cleaned}
use Rattle.cleaned_circuits.specs.Merged.{replaced_graph, replaced_latch}
use Rattle.cleaned_circuits.proofs.PassLaws.{IsCircuit, IsCircuit-cleans, cleans-streams}
use Rattle.merged_circuits.specs.Inductive.{IsMergedBy}
use Rattle.merged_circuits.specs.Readings.{substitutes_by}
use Rattle.merged_circuits.proofs.MergingLaws.{merged_by-streams}
use Rattle.retimed_circuits.specs.Frames.{CleansTo}
use Rattle.retimed_circuits.specs.Merging.{MergesIn}
use Rattle.retimed_circuits.specs.Names.{StayHeld}
use Rattle.retimed_circuits.proofs.HeldLaws.{cleaning-keeps, merging-keeps}
use Rattle.retimed_circuits.proofs.StayLaws.{stays-then}
use Rattle.latch_merging.specs.declared.given.GivenStart.{GivenStart}
use Rattle.latch_merging.specs.declared.given.GivenStart.TheVariants.{Merged, Misread, NotShown}
use Rattle.latch_merging.specs.declared.start.MergedStart.{MergedStart}
use Rattle.latch_merging.specs.Starts.{IsGivenStart, IsGivenStartOf, IsStart, IsStartOf}

-- the streams of what was cleaned, and of what that was merged to
streams-both : (c d e : Netlist) (kept : List ℕ) → SameStreams c d kept → SameStreams d e (all_free d.aig) → SameStreams c e kept
streams-both c d e kept first second =
    subst (λ (places : List ℕ). SameStreams c e places) (composed-every kept (free_latches d.aig) first.places.each) (same_streams-transitive c d e kept (all_free d.aig) first second)

-- merging moves no latch: positions of the one circuit's are those of the other's
merged-in_range : (held reads positions : List ℕ) (c d : Netlist) → IsMergedBy held reads c d → All (λ j. j < length c.aig.latches) positions → All (λ j. j < length d.aig.latches) positions
unfolding replaced_graph
merged-in_range held reads positions c d merged in_range =
    let many : length d.aig.latches ≡ length c.aig.latches = ap (λ (x : Netlist). length x.aig.latches) merged.circuit ∙ length-map c.aig.latches (replaced_latch (substitutes_by c.aig reads)) in
    subst (λ (n : ℕ). All (λ j. j < n) positions) (sym many) in_range

-- what a circuit's cleaned circuit is merged to is a start of the circuit
pub start-of : (held : List ℕ) (c : Netlist) (d : Cleaned) (m : MergedStart) → IsCircuit c → All (λ j. j < length c.aig.latches) held → CleansTo held c d.circuit d.kept_free d.keep
    → All (λ j. j < length d.circuit.aig.latches) d.keep → IsStartOf d m → IsStart held c m
start-of held c d m valid in_range cleans after start =
    let whole : IsCircuit d.circuit = IsCircuit-cleans d.circuit held c d.kept_free cleans.cleans valid in
    let first : SameStreams c d.circuit d.kept_free = cleans-streams d.circuit held c d.kept_free cleans.cleans valid in
    let then : SameStreams d.circuit m.circuit (all_free d.circuit.aig) = merged_by-streams d.keep start.reads d.circuit m.circuit whole.graph whole.netlist start.merged in
    let merges : MergesIn held c m.circuit d.kept_free d.keep m.merged = record { clean = d.circuit; cleaned = cleans; reads = start.reads; said = start.said; merged = start.merged } in
    let stay : StayHeld held c d.keep m.circuit =
    stays-then held d.keep d.keep c d.circuit m.circuit (cleaning-keeps held c d.circuit d.kept_free d.keep valid in_range cleans) (merging-keeps d.keep start.reads d.circuit m.circuit start.merged) in
    let P : List ℕ → List ℕ → Type 0 = λ places positions. MergesIn held c m.circuit places positions m.merged in
    record {
      merges = subst (λ (places : List ℕ). P places m.keep) (sym start.kept_free) (subst (P d.kept_free) (sym start.keep) merges);
      streams = subst (λ (places : List ℕ). SameStreams c m.circuit places) (sym start.kept_free) (streams-both c d.circuit m.circuit d.kept_free first then);
      stay = subst (λ (positions : List ℕ). StayHeld held c positions m.circuit) (sym start.keep) stay;
      in_range = subst (λ (positions : List ℕ). All (λ j. j < length m.circuit.aig.latches) positions) (sym start.keep) (merged-in_range d.keep start.reads d.keep d.circuit m.circuit start.merged after);
    }

-- so is what it is merged to by given lines
pub given-start : (held : List ℕ) (c : Netlist) (lines : List MergedLatch) (d : Cleaned) (given : GivenStart) → IsCircuit c → All (λ j. j < length c.aig.latches) held → CleansTo held c d.circuit d.kept_free d.keep
    → All (λ j. j < length d.circuit.aig.latches) d.keep → IsGivenStartOf d lines given → IsGivenStart held c lines given
given-start held c lines d (Merged m) valid in_range cleans after given = (start-of held c d m valid in_range cleans after given.0, given.1)
given-start held c lines d (Misread latch) valid in_range cleans after given = record { clean = d.circuit; kept = d.kept_free; now = d.keep; cleaned = cleans; misread = given }
given-start held c lines d (NotShown latch) valid in_range cleans after given = tt
