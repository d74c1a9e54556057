use Rattle.std.proofs.Common.{ℕ, List, ◌≡◌, ◌∙◌, ◌++◌, ◌∷◌, ◌<◌, [], arith, ap, get_or, length, sym, subst, suc}
use Rattle.std.specs.List.{All}
use Rattle.aig_graph.specs.Graph.{free_latches}
use Rattle.aig_graph.specs.Laws.{composed}
use Rattle.retimed_circuits.specs.declared.report.FrameReport.{FrameReport}
use Rattle.frame_runs.specs.Underway.{IsUnderway}
use Rattle.retimed_circuits.specs.declared.report.Retimed.{Retimed}
use Rattle.frame_runs.proofs.FrameLaws.{many-reported, one-more}
use Rattle.frame_runs.proofs.retiming.after_frame.Goals as goal

pub with_frame-requires : goal.with_frame-requires
with_frame-requires c =
    let r = c.args.retimed in
    let e = c.args.frame.cleaned in
    let many : length r.kept_free ≡ free_latches r.circuit.aig = many-reported c.args.options.now c.requires.0 c.requires.1 c.requires.2 c.requires.3 c.requires.4 r c.requires.5 c.requires.6 in
    let same : length c.history_of.result.kept_free ≡ length r.kept_free = ap (λ (xs : List ℕ). length xs) c.history_of.ensures.kept_free in
    let below : All (λ (place : ℕ). place < length c.history_of.result.kept_free) e.kept_free = λ k a h.
    let here : get_or e.kept_free k a < free_latches r.circuit.aig = c.requires.7.keeps.streams.places.below k a h in
    omega (arith, here, many, same) in
    subst (λ (xs : List ℕ). All (λ (place : ℕ). place < length c.history_of.result.kept_free) xs) (sym c.as_slice-places.ensures) below

pub returns-in-Ok-clause-frames : goal.returns-in-Ok-clause-frames
returns-in-Ok-clause-frames c = c.in-Ok.ensures.frames ∙ ap (λ (xs : List FrameReport). xs ++ c.args.frame.report ∷ []) c.history_of.ensures.frames

pub returns-in-Ok-clause-underway : goal.returns-in-Ok-clause-underway
returns-in-Ok-clause-underway c = λ bound d read held n now before moves.
    let options = c.args.options.now in
    let r = c.args.retimed in
    let e = c.args.frame.cleaned in
    let after = c.in-Ok.after in
    let kept : after.kept_free ≡ composed r.kept_free e.kept_free = c.in-Ok.ensures.kept_free
    ∙ ap (λ (first : List ℕ). composed first c.as_slice-places.result.now) c.history_of.ensures.kept_free ∙ ap (composed r.kept_free) c.as_slice-places.ensures in
    let latches : after.read_latches ≡ r.read_latches = c.in-Ok.ensures.read_latches ∙ c.history_of.ensures.read_latches in
    let reports : after.frames ≡ r.frames ++ c.args.frame.report ∷ [] = c.in-Ok.ensures.frames ∙ ap (λ (xs : List FrameReport). xs ++ c.args.frame.report ∷ []) c.history_of.ensures.frames in
    let merged : after.merged ≡ r.merged = c.in-Ok.ensures.merged ∙ c.history_of.ensures.merged in
    let made : Retimed = record { circuit = e.circuit; kept_free = composed r.kept_free e.kept_free; read_latches = r.read_latches; merged = r.merged; frames = r.frames ++ c.args.frame.report ∷ []; certificates = c.empty.result } in
    let same : ◌≡◌ {A = Retimed} (record { circuit = e.circuit; kept_free = after.kept_free; read_latches = after.read_latches; merged = after.merged; frames = after.frames; certificates = c.empty.result }) made =
    λ i. record { circuit = e.circuit; kept_free = kept i; read_latches = latches i; merged = merged i; frames = reports i; certificates = c.empty.result } in
    subst (λ (x : Retimed). IsUnderway options bound d read held (suc n) x e.keep) (sym same) (one-more options bound d read held n r now c.args.frame c.empty.result before moves)
