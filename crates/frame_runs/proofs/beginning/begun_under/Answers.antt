use Rattle.std.proofs.Common.{ℕ, ◌∙◌, List, ap, subst, sym}
use Rattle.std.specs.Result.{IfOk}
use Rattle.aig_graph.specs.Circuits.{Netlist}
use Rattle.frame_runs.specs.Beginning.{IsRunBegun}
use Rattle.frame_runs.specs.Bounds.{bound_in}
use Rattle.frame_runs.specs.Following.{HasComeFrom}
use Rattle.frame_runs.specs.Named.{kept_by}
use Rattle.frame_runs.proofs.beginning.begun_under.Goals as goal

pub begun_merged-begun-requires-clause-there : goal.begun_merged-begun-requires-clause-there
begun_merged-begun-requires-clause-there g c =
    let P : Netlist → Type 0 = λ d. (b : Netlist) × (before : List ℕ) × HasComeFrom g.F.RunFollower.has_come c.args.follower b before d in
    subst P (sym c.circuit.ensures) c.requires.there

pub begun_merged-begun-requires-clause-keep : goal.begun_merged-begun-requires-clause-keep
begun_merged-begun-requires-clause-keep g c = c.requires.keep ∙ ap (kept_by c.args.options.now) (sym c.circuit.ensures)

pub begun_merged-begun-requires-clause-bound : goal.begun_merged-begun-requires-clause-bound
begun_merged-begun-requires-clause-bound g c = c.requires.bound ∙ ap (bound_in c.args.options.now) (sym c.circuit.ensures)

pub returns-then-options : goal.returns-then-options
returns-then-options g c =
    let has_come = g.F.RunFollower.has_come in
    let options = c.args.options.now in
    let P : Netlist → Type 0 = λ d. IfOk c.begun_merged-begun.result (λ begun. (b : Netlist) (before : List ℕ) → HasComeFrom has_come c.args.follower b before d
    → IsRunBegun has_come options b before d begun) in
    subst P c.circuit.ensures c.begun_merged-begun.ensures
