use Rattle.std.proofs.Common.{ℕ, List, ◌<◌, length, sym, subst}
use Rattle.std.specs.List.{All}
use Rattle.std.proofs.lemmas.Result.{IfOk-weaker}
use Rattle.aig_graph.specs.Circuits.{IsNetlist}
use Rattle.aig_graph.proofs.PositionLaws.{held_of-below}
use Rattle.cleaned_circuits.proofs.PassLaws.{IsCircuit}
use Rattle.frame_runs.specs.Given.{circuit_of}
use Rattle.frame_runs.specs.Named.{holding_in}
use Rattle.frame_runs.proofs.BeginningLaws.{plain-begun}
use Rattle.frame_runs.proofs.beginning.begun_as_is.Goals as goal

pub cleaned_run-requires-clause-there : goal.cleaned_run-requires-clause-there
cleaned_run-requires-clause-there g c = (c.requires.there.0, c.requires.there.1, c.requires.there.2.come)

pub cleaned_run-requires-clause-in_range : goal.cleaned_run-requires-clause-in_range
cleaned_run-requires-clause-in_range g c =
    let P : List ℕ → Type 0 = λ js. All (λ (j : ℕ). j < length (circuit_of c.args.given).aig.latches) js in
    subst P (sym c.requires.keep) (held_of-below (holding_in c.args.options.now) (circuit_of c.args.given) (subst IsNetlist c.circuit.ensures c.known.ensures.netlist))

pub returns : goal.returns
returns g c =
    let has_come = g.F.RunFollower.has_come in
    let given = circuit_of c.args.given in
    let valid : IsCircuit given = subst IsCircuit c.circuit.ensures (record { graph = c.known.ensures.graph; netlist = c.known.ensures.netlist }) in
    IfOk-weaker c.cleaned_run.result _ _
    (λ run is. λ b before there. plain-begun has_come c.args.options.now c.args.bound b before given c.args.keep.now c.args.follower run valid c.requires.merge c.requires.keep c.requires.bound is.1 there is.0) c.cleaned_run.ensures
