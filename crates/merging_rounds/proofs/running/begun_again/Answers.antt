use Rattle.std.proofs.Common.{ℕ, ◌-◌, List, length, subst, sym}
use Rattle.frame_runs.specs.Beginning.{IsRunBegun}
use Rattle.merging_rounds.specs.Following.{AreRoundsFollowed}
use Rattle.merging_rounds.proofs.AgainLaws.{nothing-again}
use Rattle.merging_rounds.proofs.StepLaws.{come-there, held-again}
use Rattle.merging_rounds.proofs.running.begun_again.Goals as goal

pub begin-requires-clause-keep : goal.begin-requires-clause-keep
begin-requires-clause-keep g c =
    let is = c.requires in
    let state = c.args.state in
    held-again g.F.RunFollower.has_come is.0 is.1 is.2 state (is.0.max_frames - length state.retimed.frames) c.args.asked.now is.3.followed is.3.asked_are

pub returns-then-merges_some : goal.returns-then-merges_some
returns-then-merges_some g c = λ options d runs is.
    let has_come = g.F.RunFollower.has_come in
    let r = c.args.state.retimed in
    let of = c.report_of.ensures in
    let there = come-there has_come options d runs c.args.state is.followed in
    let P : List ℕ → Type 0 = λ places. IsRunBegun has_come c.args.asked.now d places r.circuit c.in-Ok.begun in
    record {
      merges = c.merges_some.ensures.some c.if-merges_some.true;
      reported = record { kept_free = of.kept_free; read_latches = of.read_latches; frames = of.frames; parts = of.parts };
      begins = subst P (sym of.kept_free) (c.in-Ok.ensures d r.kept_free there);
    }

pub returns-else-merges_some : goal.returns-else-merges_some
returns-else-merges_some g c = λ options d runs is.
    let has_come = g.F.RunFollower.has_come in
    let state = c.args.state in
    let r = state.retimed in
    let there = come-there has_come options d runs state is.followed in
    let same = nothing-again has_come options d runs state (options.max_frames - length r.frames) c.args.asked.now c.in-Ok.begun is.followed is.asked_are (c.merges_some.ensures.none c.if-merges_some.false)
    (c.in-Ok.ensures d r.kept_free there) in
    subst (λ f. AreRoundsFollowed has_come options d runs (record { retimed = r; keep = state.keep; follower = f; bound = state.bound })) (sym c.follower_of-follower.ensures) same
