use Rattle.std.proofs.Common.{ℕ, List, ◌<◌, ◌++◌, ◌∙◌, ap, length, refl, subst, sym}
use Rattle.std.specs.List.{All}
use Rattle.aig_graph.specs.Laws.{composed}
use Rattle.retimed_circuits.specs.declared.report.FrameReport.{FrameReport}
use Rattle.merging_rounds.proofs.joining.with_run.Goals as goal

pub composed-requires : goal.composed-requires
composed-requires c =
    let P : List ℕ → List ℕ → Type 0 = λ xs ys. All (λ (place : ℕ). place < length xs) ys in
    let kept = c.args.run.kept_free in
    subst (P c.as_slice.result.now) (sym c.as_slice-2.ensures) (subst (λ (xs : List ℕ). P xs kept) (sym c.as_slice.ensures) c.requires)

pub returns : goal.returns
returns c = record {
  circuit = refl;
  kept_free = c.from_vec.ensures ∙ c.in_ok-left.ensures ∙ ap (λ (xs : List ℕ). composed xs c.as_slice-2.result.now) c.as_slice.ensures ∙ ap (composed c.args.report.kept_free) c.as_slice-2.ensures;
  read_latches = refl;
  frames = c.in_ok-frames.ensures ∙ ap (λ (xs : List FrameReport). c.args.report.frames ++ xs) c.as_slice-3.ensures;
  parts = c.in_ok-parts.ensures;
}
