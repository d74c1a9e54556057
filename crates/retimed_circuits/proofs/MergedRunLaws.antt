-- A run that merges first is one, if it merges by one list of lines.
use Rattle.std.proofs.Common.{ℕ, Bool, true, false, ◌≡◌, List, length, Option, Some, refl, ap, ap₂, sym, ◌∙◌, subst}
use Rattle.std.proofs.lemmas.Option.{same_Some}
use Rattle.aig_graph.specs.Circuits.{Netlist}
use Rattle.aig_graph.specs.Keep.{Holding, held_of}
use Rattle.aig_graph.specs.Laws.{composed}
use Rattle.aig_graph.specs.declared.choice.Choice.{Choice}
use Rattle.certificates.specs.declared.merged.MergedLatch.{MergedLatch}
use Rattle.cleaned_circuits.specs.Merged.{replaced_circuit}
use Rattle.merged_circuits.specs.Lines.{IsSaidBy}
use Rattle.merged_circuits.specs.Readings.{substitutes_by}
use Rattle.merged_circuits.proofs.LineLaws.{one-reading}
use Rattle.retimed_circuits.specs.declared.report.Retimed.{Retimed}
use Rattle.retimed_circuits.specs.Certified.{IsSameRetiming}
use Rattle.retimed_circuits.specs.Merging.{MergesIn}
use Rattle.retimed_circuits.specs.Retiming.{IsMergedRetimed, IsRetimedOver, IsRetimedWith, since_merged}
use Rattle.retimed_circuits.proofs.RunLaws.{SameEnd, cleaned-one, retiming-one, run-one}

-- what a circuit is merged to by these lines is one
pub merges-one : (held : List ℕ) (c d e : Netlist) (kept left now later : List ℕ) (lines : List MergedLatch)
    → MergesIn held c d kept now lines → MergesIn held c e left later lines → SameEnd d e kept left now later lines lines
merges-one held c d e kept left now later lines p q =
    let both = cleaned-one held c p.clean q.clean kept left now later lines lines p.cleaned q.cleaned refl in
    let said : IsSaidBy p.clean.aig lines q.reads = subst (λ (x : Netlist). IsSaidBy x.aig lines q.reads) (sym both.circuit) q.said in
    let reads : p.reads ≡ q.reads = one-reading p.clean.aig lines p.reads q.reads p.said said in
    record {
      circuit =
          p.merged.circuit ∙ ap (λ (rs : List ℕ). replaced_circuit (substitutes_by p.clean.aig rs) p.clean) reads
          ∙ ap (λ (x : Netlist). replaced_circuit (substitutes_by x.aig q.reads) x) both.circuit ∙ sym q.merged.circuit;
      free = both.free;
      held = both.held;
      reports = refl;
    }

-- and so is what it is retimed to after that
merged-one-run : (bound : Option ℕ) (choice : Choice) (c : Netlist) (holding : Holding) (max_frames : ℕ) (certify other : Bool) (r s : Retimed) → IsMergedRetimed bound choice c holding max_frames certify r
    → IsMergedRetimed bound choice c holding max_frames other s → r.merged ≡ s.merged → IsSameRetiming certify other r s
merged-one-run bound choice c holding max_frames certify other r s p q same =
    let lines : p.lines ≡ q.lines = same_Some p.lines q.lines (sym (ap (λ (x : Retimed). x.merged) p.whole) ∙ same ∙ ap (λ (x : Retimed). x.merged) q.whole) in
    let merges : MergesIn (held_of holding c) c q.start q.kept q.start_held p.lines =
    subst (λ (xs : List MergedLatch). MergesIn (held_of holding c) c q.start q.kept q.start_held xs) (sym lines) q.merges in
    let start = merges-one (held_of holding c) c p.start q.start p.kept q.kept p.start_held q.start_held p.lines p.merges merges in
    let P : Netlist → Type 0 = λ x. IsRetimedOver bound choice x q.start_held max_frames other q.from_start in
    let Q : List ℕ → Type 0 = λ x. IsRetimedOver bound choice p.start x max_frames other q.from_start in
    let ends = run-one bound choice p.start p.start_held max_frames certify other p.from_start q.from_start p.retimed (subst Q (sym start.held) (subst P (sym start.circuit) q.retimed)) in
    let W : Retimed → Retimed → Type 0 = λ x y. IsSameRetiming certify other x y in
    let whole : W (since_merged (length c.aig.latches) p.kept p.lines p.from_start) (since_merged (length c.aig.latches) q.kept q.lines q.from_start) = record {
      circuit = ends.circuit;
      free = ap₂ composed start.free ends.free;
      latches = refl;
      merged = ap (λ (xs : List MergedLatch). Some xs) lines;
      frames = ends.frames;
      certificates = ends.certificates;
    } in
    subst (λ (x : Retimed). W x s) (sym p.whole) (subst (λ (y : Retimed). W (since_merged (length c.aig.latches) p.kept p.lines p.from_start) y) (sym q.whole) whole)

-- merged first or not, as is chosen, a circuit is retimed to one result, but for certificates
-- wanted of one alone, and routes
pub retiming-with-one : (merge : Bool) (bound : Option ℕ) (choice : Choice) (c : Netlist) (holding : Holding) (max_frames : ℕ) (certify other : Bool) (r s : Retimed)
    → IsRetimedWith merge bound choice c holding max_frames certify r → IsRetimedWith merge bound choice c holding max_frames other s → r.merged ≡ s.merged → IsSameRetiming certify other r s
retiming-with-one false bound choice c holding max_frames certify other r s p q same = retiming-one bound choice c holding max_frames certify other r s p q
retiming-with-one true bound choice c holding max_frames certify other r s p q same = merged-one-run bound choice c holding max_frames certify other r s p q same

-- how many latches were read
pub read-latches : (merge : Bool) (bound : Option ℕ) (choice : Choice) (c : Netlist) (holding : Holding) (max_frames : ℕ) (certify : Bool) (r : Retimed)
    → IsRetimedWith merge bound choice c holding max_frames certify r → r.read_latches ≡ length c.aig.latches
read-latches false bound choice c holding max_frames certify r is = is.run.read_latches
read-latches true bound choice c holding max_frames certify r is = ap (λ (x : Retimed). x.read_latches) is.whole
