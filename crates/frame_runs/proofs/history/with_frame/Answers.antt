use Rattle.std.proofs.Common.{ℕ, List, ◌<◌, ◌∙◌, ap, length, subst, sym}
use Rattle.std.specs.List.{All}
use Rattle.std.proofs.lemmas.Result.{IfOk-from_err}
use Rattle.aig_graph.specs.Laws.{composed}
use Rattle.frame_runs.proofs.history.with_frame.Goals as goal

pub composed-requires : goal.composed-requires
composed-requires c =
    subst (λ (xs : List ℕ). All (λ (place : ℕ). place < length xs) c.args.places.now) (sym c.as_slice.ensures) c.requires

pub returns-clause-kept_free : goal.returns-clause-kept_free
returns-clause-kept_free c = c.from_vec.ensures ∙ c.in_ok-left.ensures ∙ ap (λ (first : List ℕ). composed first c.args.places.now) c.as_slice.ensures

pub returns-clause-frames : goal.returns-clause-frames
returns-clause-frames c = c.in_ok-frames.ensures

pub returns-in_err-left-clause-kept_free : goal.returns-in_err-left-clause-kept_free
returns-in_err-left-clause-kept_free c = IfOk-from_err c.from_residual.result _ c.from_residual.ensures.0

pub returns-in_err-left-clause-read_latches : goal.returns-in_err-left-clause-read_latches
returns-in_err-left-clause-read_latches c = IfOk-from_err c.from_residual.result _ c.from_residual.ensures.0

pub returns-in_err-left-clause-frames : goal.returns-in_err-left-clause-frames
returns-in_err-left-clause-frames c = IfOk-from_err c.from_residual.result _ c.from_residual.ensures.0

pub returns-in_err-frames-clause-kept_free : goal.returns-in_err-frames-clause-kept_free
returns-in_err-frames-clause-kept_free c = IfOk-from_err c.from_residual-in_err-frames.result _ c.from_residual-in_err-frames.ensures.0

pub returns-in_err-frames-clause-read_latches : goal.returns-in_err-frames-clause-read_latches
returns-in_err-frames-clause-read_latches c = IfOk-from_err c.from_residual-in_err-frames.result _ c.from_residual-in_err-frames.ensures.0

pub returns-in_err-frames-clause-frames : goal.returns-in_err-frames-clause-frames
returns-in_err-frames-clause-frames c = IfOk-from_err c.from_residual-in_err-frames.result _ c.from_residual-in_err-frames.ensures.0
