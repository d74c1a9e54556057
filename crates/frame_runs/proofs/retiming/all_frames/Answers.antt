use Rattle.std.proofs.Common.{◌+◌, ◌≡◌, [], ◌∷◌, ◌++◌, ◌∙◌, List, Option, ap, length, suc, arith, subst, sym, ℕ, refl}
use Rattle.std.specs.Option.{MatchOption}
use Rattle.aig_graph.specs.Circuits.{Netlist}
use Rattle.aig_graph.specs.Graph.{known_latches}
use Rattle.aig_graph.specs.Laws.{composed}
use Rattle.retimed_circuits.specs.declared.report.FrameReport.{FrameReport}
use Rattle.retimed_circuits.specs.declared.report.Retimed.{Retimed}
use Rattle.retimed_circuits.specs.Frames.{AfterFrames}
use Rattle.frame_runs.specs.declared.frame.Frame.{Frame}
use Rattle.frame_runs.specs.Certified.{AddsFound, AreCollected}
use Rattle.frame_runs.specs.Found.{Moves}
use Rattle.frame_runs.specs.Retiming.{NoneHelpsBy}
use Rattle.frame_runs.specs.Stages.{Moving, Notifies, looks_of}
use Rattle.frame_runs.specs.Underway.{IsWholeRun, IsUnderway}
use Rattle.frame_runs.specs.Following.{IsFollowed, MovesFollowed}
use Rattle.frame_runs.proofs.CertificateLaws.{none-collected, one-collected}
use Rattle.frame_runs.proofs.FollowingLaws.{many-kept}
use Rattle.frame_runs.proofs.StageLaws.{many-taken, none-taken, notifies-end, notifies-frame, notifies-limit, notifies-start}
use Rattle.std.proofs.lemmas.Result.{IfOk-from_err}
use Rattle.frame_runs.proofs.retiming.all_frames.Goals as goal

pub loop-init : goal.loop-init
loop-init g c =
    let begun = c.requires.begun.1 in
    let start = c.args.start in (
      λ from d read held kept followed. (followed, none-collected c.args.options.now start.bound held d c.args.records.now c.requires.wanted c.requires.none_yet),
      notifies-start g.V.FrameWatcher.was_notified c.args.watcher.now start.retimed.frames
          (none-taken c.args.options.now start.bound begun.start begun.read begun.held start.retimed start.keep begun.followed.underway),
      refl,
    )

pub next_frame-requires-clause-normalised : goal.next_frame-requires-clause-normalised
next_frame-requires-clause-normalised g c κs within =
    let begun = c.requires.begun.1 in (c.loop.invariant.0 c.requires.begun.0 begun.start begun.read begun.held begun.before begun.followed).0.underway.keeps.normalised

pub next_frame-requires-clause-in_range : goal.next_frame-requires-clause-in_range
next_frame-requires-clause-in_range g c κs within =
    let begun = c.requires.begun.1 in (c.loop.invariant.0 c.requires.begun.0 begun.start begun.read begun.held begun.before begun.followed).0.underway.keeps.in_range

pub next_frame-requires-clause-there : goal.next_frame-requires-clause-there
next_frame-requires-clause-there g c κs within =
    let begun = c.requires.begun.1 in
    (c.requires.begun.0, composed begun.before c.loop.run.retimed.kept_free, (c.loop.invariant.0 c.requires.begun.0 begun.start begun.read begun.held begun.before begun.followed).0.come)

pub taken-requires-clause-underway : goal.taken-requires-clause-underway
taken-requires-clause-underway g c =
    let begun = c.requires.begun.1 in
    let after = c.next_frame.new.run in
    let ensures = c.in-Ok-Some.ensures in
    let P : Option ℕ → Retimed → List ℕ → Type 0 = λ b r now. IsUnderway c.args.options.now b begun.start begun.read begun.held c.loop.counter r now in
    let most : Option ℕ = c.loop.run.bound in
    let so_far = (c.loop.invariant.0 c.requires.begun.0 begun.start begun.read begun.held begun.before begun.followed).0.underway in (
      begun.start,
      begun.read,
      begun.held,
      c.loop.counter,
      subst (λ (b : Option ℕ). P b after.retimed after.keep) (sym ensures.bound)
          (subst (λ (r : Retimed). P most r after.keep) (sym ensures.same) (subst (P most c.loop.run.retimed) (sym ensures.keep) so_far)),
    )

pub taken-requires-clause-moves : goal.taken-requires-clause-moves
taken-requires-clause-moves g c =
    let has_come = g.F.RunFollower.has_come in
    let options = c.args.options.now in
    let before = c.loop.run in
    let after = c.next_frame.new.run in
    let ensures = c.in-Ok-Some.ensures in
    let P : Option Frame → Type 0 = λ found. MatchOption found (NoneHelpsBy options before.bound before.keep before.retimed.circuit × (after.follower ≡ before.follower))
    (MovesFollowed has_come options before.bound before.keep before.retimed.circuit before.follower after.follower) in
    let followed : MovesFollowed has_come options before.bound before.keep before.retimed.circuit before.follower after.follower c.in-Ok-Some.frame = subst P c.in-Ok-Some.field-0-is ensures.found in
    let M : Option ℕ → List ℕ → Retimed → Type 0 = λ b now r. Moves options b now r.circuit c.in-Ok-Some.frame in
    subst (λ (b : Option ℕ). M b after.keep after.retimed) (sym ensures.bound)
    (subst (λ (now : List ℕ). M before.bound now after.retimed) (sym ensures.keep) (subst (M before.bound before.keep) (sym ensures.same) followed.moves))

-- the last circuit was looked at, and none counts less
pub returns-in-Ok-None-clause-run : goal.returns-in-Ok-None-clause-run
returns-in-Ok-None-clause-run g c = λ from d read held kept start.
    let has_come = g.F.RunFollower.has_come in
    let options = c.args.options.now in
    let before = c.loop.run in
    let after = c.next_frame.new.run in
    let records = c.next_frame.new.records in
    let ensures = c.in-Ok-None.ensures in
    let so_far = c.loop.invariant.0 from d read held kept start in
    let P : Option Frame → Type 0 = λ found. MatchOption found (NoneHelpsBy options before.bound before.keep before.retimed.circuit × (after.follower ≡ before.follower))
    (MovesFollowed has_come options before.bound before.keep before.retimed.circuit before.follower after.follower) in
    let none : NoneHelpsBy options before.bound before.keep before.retimed.circuit × (after.follower ≡ before.follower) = subst P c.in-Ok-None.field-0-is ensures.found in
    let so_many : AreCollected options before.bound held d c.loop.counter c.loop.records = subst (λ (b : Option ℕ). AreCollected options b held d c.loop.counter c.loop.records) (sym c.loop.invariant.2) so_far.1 in
    let run : IsWholeRun options before.bound d read held records before.retimed before.keep = record {
      taken = c.loop.counter;
      underway = so_far.0.underway;
      within = c.loop.auto.counter-end;
      last = λ less. none.0;
      looked = suc c.loop.counter;
      collected = one-collected options before.bound held d c.loop.counter c.loop.records records before.retimed.circuit so_far.0.underway.kept before.keep before.retimed.frames so_many
          so_far.0.underway.frames ensures.certificate;
      limited = λ at. absurd (omega (arith, at, c.loop-test.true));
      ended = λ less. refl;
    } in
    let Q : Option ℕ → Retimed → List ℕ → Type 0 = λ b r now. IsWholeRun options b d read held records r now in
    record {
      run = subst (λ (b : Option ℕ). Q b after.retimed after.keep) (sym ensures.bound)
          (subst (λ (r : Retimed). Q before.bound r after.keep) (sym ensures.same) (subst (Q before.bound before.retimed) (sym ensures.keep) run));
      come = subst (λ (r : Retimed). has_come after.follower from r.circuit (composed kept r.kept_free)) (sym ensures.same)
          (subst (λ f. has_come f from before.retimed.circuit (composed kept before.retimed.kept_free)) (sym none.1) so_far.0.come);
    }

pub loop-preserved : goal.loop-preserved
loop-preserved g c =
    let has_come = g.F.RunFollower.has_come in
    let options = c.args.options.now in
    let before = c.loop.run in
    let after = c.next_frame.new.run in
    let run = c.in_ok-run-in-Ok-Some.run' in
    let records = c.next_frame.new.records in
    let ensures = c.in-Ok-Some.ensures in
    let start = c.args.start in
    let Q : ℕ → Netlist → List ℕ → Type 0 = λ n d held. AreCollected options start.bound held d n records in
    let next : suc c.loop.counter ≡ c.loop.counter + 1 = omega arith in
    let was_notified = g.V.FrameWatcher.was_notified in
    let looking = c.enter_looking.new.watcher in
    let moving = c.next_frame.new.watcher in
    let frame = c.in-Ok-Some.frame in
    let same : after.retimed ≡ before.retimed = ensures.same in
    let W : Option Frame → Type 0 = λ found. MatchOption found (NoneHelpsBy options before.bound before.keep before.retimed.circuit × (after.follower ≡ before.follower))
    (MovesFollowed has_come options before.bound before.keep before.retimed.circuit before.follower after.follower) in
    let T : Option Frame → Type 0 = λ found. MatchOption found (Notifies was_notified looking moving []) (λ _. Notifies was_notified looking moving (Moving ∷ [])) in
    let followed : MovesFollowed has_come options before.bound before.keep before.retimed.circuit before.follower after.follower frame = subst W c.in-Ok-Some.field-0-is ensures.found in
    let notified : Notifies was_notified looking moving (Moving ∷ []) = subst T c.in-Ok-Some.field-0-is ensures.notified in
    let new_bound : after.bound ≡ start.bound = ensures.bound ∙ c.loop.invariant.2 in
    let adds : AddsFound options start.bound before.keep before.retimed.circuit c.loop.records records =
    subst (λ (b : Option ℕ). AddsFound options b before.keep before.retimed.circuit c.loop.records records) c.loop.invariant.2 ensures.certificate in
    let taken : run.retimed.frames ≡ before.retimed.frames ++ frame.report ∷ [] =
    c.in_ok-run-in-Ok-Some.ensures.frames ∙ ap (λ (r : Retimed). r.frames ++ frame.report ∷ []) same in (
      λ from d read held kept ready.
          let so_far = c.loop.invariant.0 from d read held kept ready in
          let U : Option ℕ → Retimed → List ℕ → Type 0 = λ b r now. IsUnderway options b d read held c.loop.counter r now in
          let underway : U after.bound after.retimed after.keep = subst (λ (b : Option ℕ). U b after.retimed after.keep) (sym ensures.bound)
          (subst (λ (r : Retimed). U before.bound r after.keep) (sym same) (subst (U before.bound before.retimed) (sym ensures.keep) so_far.0.underway)) in
          let come : has_come after.follower from frame.cleaned.circuit (composed (composed kept after.retimed.kept_free) frame.cleaned.kept_free) =
          subst (λ (r : Retimed). has_come after.follower from frame.cleaned.circuit (composed (composed kept r.kept_free) frame.cleaned.kept_free)) (sym same)
          (followed.comes from (composed kept before.retimed.kept_free) (many-kept options before.bound d read held kept c.loop.counter before.retimed before.keep so_far.0.underway) so_far.0.come) in
          let frames : AfterFrames start.bound options.choice held d c.loop.counter before.retimed.circuit so_far.0.underway.kept before.keep before.retimed.frames =
          subst (λ (b : Option ℕ). AfterFrames b options.choice held d c.loop.counter before.retimed.circuit so_far.0.underway.kept before.keep before.retimed.frames) c.loop.invariant.2 so_far.0.underway.frames in (
            subst (λ (n : ℕ). IsFollowed has_come options from d read held kept n run) next (c.in_ok-run-in-Ok-Some.ensures.followed from d read held kept c.loop.counter underway come),
            subst (λ n. Q n d held) next
                (one-collected options start.bound held d c.loop.counter c.loop.records records before.retimed.circuit so_far.0.underway.kept before.keep before.retimed.frames so_far.1 frames adds),
          ),
      notifies-frame was_notified c.args.watcher.now c.loop.watcher looking moving before.retimed.frames run.retimed.frames frame.report (known_latches before.retimed.circuit.aig) taken
          (ap (λ (r : FrameReport). r.before) followed.moves.moves.reported) c.loop.invariant.1 c.enter_looking.ensures notified,
      c.in_ok-run-in-Ok-Some.ensures.bound ∙ new_bound,
    )

-- at the limit the last circuit isn't looked at
pub returns-clause-run : goal.returns-clause-run
returns-clause-run g c = λ from d read held kept start.
    let so_far = c.loop.invariant.0 from d read held kept start in
    record {
      run = record {
        taken = c.loop.counter;
        underway = so_far.0.underway;
        within = c.loop.auto.counter-end;
        last = λ less. absurd (omega (arith, c.loop-test.false, less));
        looked = c.loop.counter;
        collected = subst (λ (b : Option ℕ). AreCollected c.args.options.now b held d c.loop.counter c.loop.records) (sym c.loop.invariant.2) so_far.1;
        limited = λ at. refl;
        ended = λ less. absurd (omega (arith, c.loop-test.false, less));
      };
      come = so_far.0.come;
    }

pub returns-in_err-run-in-Ok-Some-clause-run : goal.returns-in_err-run-in-Ok-Some-clause-run
returns-in_err-run-in-Ok-Some-clause-run g c = IfOk-from_err c.from_residual.result _ c.from_residual.ensures.0

pub returns-in_err-run-in-Ok-Some-clause-notified : goal.returns-in_err-run-in-Ok-Some-clause-notified
returns-in_err-run-in-Ok-Some-clause-notified g c = IfOk-from_err c.from_residual.result _ c.from_residual.ensures.0

-- the last look found none
pub returns-in-Ok-None-clause-notified : goal.returns-in-Ok-None-clause-notified
returns-in-Ok-None-clause-notified g c =
    let options = c.args.options.now in
    let begun = c.requires.begun.1 in
    let before = c.loop.run.retimed in
    let was_notified = g.V.FrameWatcher.was_notified in
    let looking = c.enter_looking.new.watcher in
    let after = c.next_frame.new.watcher in
    let so_far = (c.loop.invariant.0 c.requires.begun.0 begun.start begun.read begun.held begun.before begun.followed).0.underway in
    let many : length before.frames ≡ c.loop.counter = many-taken options c.loop.run.bound begun.start begun.read begun.held c.loop.counter before c.loop.run.keep so_far in
    let T : Option Frame → Type 0 = λ found. MatchOption found (Notifies was_notified looking after []) (λ _. Notifies was_notified looking after (Moving ∷ [])) in
    let notified : Notifies was_notified looking after [] = subst T c.in-Ok-None.field-0-is c.in-Ok-None.ensures.notified in
    subst (λ (r : Retimed). Notifies was_notified c.args.watcher.now after (looks_of options.max_frames r)) (sym c.in-Ok-None.ensures.same)
    (notifies-end was_notified c.args.watcher.now c.loop.watcher looking after options.max_frames before (omega (arith, many, c.loop-test.true)) c.loop.invariant.1 c.enter_looking.ensures notified)

pub returns-clause-notified : goal.returns-clause-notified
returns-clause-notified g c =
    let options = c.args.options.now in
    let begun = c.requires.begun.1 in
    let last = c.loop.run.retimed in
    let so_far = (c.loop.invariant.0 c.requires.begun.0 begun.start begun.read begun.held begun.before begun.followed).0.underway in
    let many : length last.frames ≡ c.loop.counter = many-taken options c.loop.run.bound begun.start begun.read begun.held c.loop.counter last c.loop.run.keep so_far in
    notifies-limit g.V.FrameWatcher.was_notified c.args.watcher.now c.loop.watcher options.max_frames last (omega (arith, many, c.loop-test.false, c.loop.auto.counter-end)) c.loop.invariant.1
