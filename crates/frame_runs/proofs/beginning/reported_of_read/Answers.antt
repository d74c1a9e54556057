use Rattle.std.proofs.Common.{ℕ, List, ◌<◌, ◌≡◌, ◌∙◌, Some, ap, length, subst, sym}
use Rattle.std.specs.List.{All}
use Rattle.aig_graph.specs.Laws.{composed}
use Rattle.frame_runs.proofs.beginning.reported_of_read.Goals as goal

pub composed-requires : goal.composed-requires
composed-requires c =
    let P : List ℕ → List ℕ → Type 0 = λ xs ys. All (λ (place : ℕ). place < length xs) ys in
    let kept = c.args.retimed.kept_free in
    subst (P c.as_slice.result.now) (sym c.as_slice-2.ensures) (subst (λ (xs : List ℕ). P xs kept) (sym c.as_slice.ensures) c.requires)

pub returns-in-Ok : goal.returns-in-Ok
returns-in-Ok c =
    let r = c.args.retimed in
    let kept : c.from_vec.result ≡ composed c.args.before r.kept_free = c.from_vec.ensures ∙ c.in-Ok.ensures
    ∙ ap (λ (xs : List ℕ). composed xs c.as_slice-2.result.now) c.as_slice.ensures ∙ ap (composed c.args.before) c.as_slice-2.ensures in
    λ i. record { circuit = r.circuit; kept_free = kept i; read_latches = c.args.latches; merged = Some c.args.merged; frames = r.frames; certificates = r.certificates }
