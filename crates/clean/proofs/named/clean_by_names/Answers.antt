use Rattle.std.proofs.Common.{ℕ, List, ◌<◌, length, sym, subst}
use Rattle.std.specs.List.{All}
use Rattle.std.specs.Result.{IfOk}
use Rattle.std.proofs.lemmas.Result.{IfOk-from_err}
use Rattle.aig_graph.specs.Keep.{names_of}
use Rattle.aig_graph.proofs.HoldingLaws.{held-below}
use Rattle.cleaned_circuits.specs.Cleaned.{Cleans}
use Rattle.clean.proofs.named.clean_by_names.Goals as goal

pub keep_by_names-requires : goal.keep_by_names-requires
keep_by_names-requires c = c.requires

pub clean-requires : goal.clean-requires
clean-requires c =
    let P : List ℕ → Type 0 = λ js. All (λ (j : ℕ). j < length c.args.circuit.now.aig.latches) js in
    record { in_range = subst P (sym c.in_ok-keep.ensures) (held-below (names_of c.args.names.now) c.args.circuit.now c.known.ensures.netlist) }

pub returns-in_err-keep-clause-cleaned : goal.returns-in_err-keep-clause-cleaned
returns-in_err-keep-clause-cleaned c = IfOk-from_err c.from_residual.result _ c.from_residual.ensures.0

pub returns-in_err-keep-clause-streams : goal.returns-in_err-keep-clause-streams
returns-in_err-keep-clause-streams c = IfOk-from_err c.from_residual.result _ c.from_residual.ensures.0

pub returns-clause-cleaned : goal.returns-clause-cleaned
returns-clause-cleaned c =
    let P : List ℕ → Type 0 = λ held. IfOk c.clean.result (λ d. Cleans d.circuit held c.args.circuit.now d.kept_free) in
    subst P c.in_ok-keep.ensures c.clean.ensures.cleaned

pub returns-clause-streams : goal.returns-clause-streams
returns-clause-streams c = c.clean.ensures.streams
