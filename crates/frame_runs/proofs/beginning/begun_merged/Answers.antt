use Rattle.std.proofs.Common.{List, ℕ, ◌≡◌, ◌<◌, ◌∙◌, ap, length, sym, subst}
use Rattle.std.specs.List.{All}
use Rattle.std.proofs.lemmas.Result.{IfOk-weaker}
use Rattle.aig_graph.specs.declared.graph.Latch.{Latch}
use Rattle.aig_graph.specs.Graph.{Graph}
use Rattle.aig_graph.specs.Laws.{composed}
use Rattle.aig_graph.proofs.PositionLaws.{held_of-below}
use Rattle.frame_runs.specs.Beginning.{IsMergedFrom}
use Rattle.frame_runs.specs.Named.{holding_in}
use Rattle.frame_runs.proofs.BeginningLaws.{merged-begun}
use Rattle.frame_runs.proofs.beginning.begun_merged.Goals as goal

pub clean_and_merge-requires-clause-there : goal.clean_and_merge-requires-clause-there
clean_and_merge-requires-clause-there g c = (c.requires.there.0, c.requires.there.1, c.requires.there.2.come)

pub clean_and_merge-requires-clause-in_range : goal.clean_and_merge-requires-clause-in_range
clean_and_merge-requires-clause-in_range g c =
    let P : List ℕ → Type 0 = λ js. All (λ (j : ℕ). j < length c.args.circuit.now.aig.latches) js in
    subst P (sym c.requires.keep) (held_of-below (holding_in c.args.options.now) c.args.circuit.now c.known.ensures.netlist)

pub merged_run-requires-clause-there : goal.merged_run-requires-clause-there
merged_run-requires-clause-there g c =
    let there = c.requires.there in
    (there.0, composed there.1 c.in-Ok.start.kept_free, c.in-Ok.ensures.comes there.0 there.1 there.2.places there.2.come)

pub merged_run-requires-clause-in_range : goal.merged_run-requires-clause-in_range
merged_run-requires-clause-in_range g c = c.in-Ok.ensures.in_range

pub merged_run-requires-clause-places : goal.merged_run-requires-clause-places
merged_run-requires-clause-places g c = c.in-Ok.ensures.streams.places.each

pub returns-in-Ok : goal.returns-in-Ok
returns-in-Ok g c =
    let has_come = g.F.RunFollower.has_come in
    let options = c.args.options.now in
    let before = c.args.circuit.now in
    let start = c.in-Ok.start in
    let mid = c.clean_and_merge.new.self in
    let latches : length c.latches.result.now ≡ length before.aig.latches = ap (λ (xs : List Latch). length xs) (c.latches.ensures.value ∙ ap (λ (g : Graph). g.latches) c.aig.ensures.value) in
    IfOk-weaker c.merged_run.result _ _
    (λ x from. λ b places there. merged-begun has_come options c.args.bound b places before c.args.keep.now c.args.follower mid start x
    (record { graph = c.known.ensures.graph; netlist = c.known.ensures.netlist }) c.requires.merge c.requires.keep c.requires.bound from.1 there
    c.in-Ok.ensures.merges c.in-Ok.ensures.streams c.in-Ok.ensures.stay c.in-Ok.ensures.given c.in-Ok.ensures.comes
    (subst (λ (n : ℕ). IsMergedFrom has_come options start n mid x) latches from.0)) c.merged_run.ensures
