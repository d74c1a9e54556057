use Rattle.std.proofs.Common.{◌<◌, ◌≤◌, ◌⊎◌, sym, subst, ℕ, List, length}
use Rattle.std.specs.List.{All}
use Rattle.aig_graph.specs.Graph.{latches_and_gates}
use Rattle.clean.specs.Settled.{AreOwnLatches}
use Rattle.retiming_maps.proofs.passes.goes_on.Goals as goal

pub has_more-requires : goal.has_more-requires
has_more-requires c =
    let last = c.args.last.now in
    subst (λ (js : List ℕ). All (λ (j : ℕ). j < length last.circuit.aig.latches) js) (sym c.as_slice.ensures.value) c.requires

pub returns-clause-done : goal.returns-clause-done
returns-clause-done c = λ e.
    let last = c.args.last.now in
    let P : List ℕ → Type 0 = λ js. (c.args.before ≤ latches_and_gates last.circuit.aig) ⊎ AreOwnLatches last.circuit.aig js in
    subst P c.as_slice.ensures.value (c.has_more.ensures.done e)
