use Rattle.std.proofs.Common.{◌≡◌, ℕ, Bool, sym, subst, map}
use Rattle.aig_graph.specs.Graph.{Graph, first_latch}
use Rattle.cleaned_circuits.specs.Reached.{stays}
use Rattle.cleaned_circuits.specs.Trimmed.{picked, renumbered_latch}
use Rattle.clean.specs.Sweep.{is_marked}
use Rattle.clean.proofs.pass.closed.Goals as goal

pub closed_graph-aig-requires-clause-latches : goal.closed_graph-aig-requires-clause-latches
closed_graph-aig-requires-clause-latches c =
    let s : ℕ → Bool = is_marked c.args.reached in
    subst (λ (g : Graph). c.args.rest.latches.items ≡ map (renumbered_latch g s) (picked (stays g s) (first_latch g) g.latches)) (sym c.into_graph.ensures) c.requires.latches
