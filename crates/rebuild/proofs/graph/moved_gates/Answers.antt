use Rattle.std.proofs.Common.{◌++◌, ◌∙◌, ap, arith, length, List, map}
use Rattle.aig_graph.specs.Graph.{Graph}
use Rattle.aig_graph.specs.declared.graph.Gate.{Gate}
use Rattle.rebuild.specs.Moved.{copy_for, moved_graph}
use Rattle.rebuild.specs.Planned.{planned}
use Rattle.rebuild.proofs.graph.moved_gates.Goals as goal

pub push_outside-requires-clause-room : goal.push_outside-requires-clause-room
push_outside-requires-clause-room c = omega (arith, c.in_ok-gates.ensures.exact, ap (λ (xs : List Gate). length xs) (c.gates.ensures.value ∙ ap (λ (h : Graph). h.gates) c.aig.ensures))

pub returns : goal.returns
unfolding moved_graph
returns c =
    let m = planned c.args.plan.now in
    c.in_ok-push_copies.ensures ∙ ap (λ (xs : List Gate). xs ++ map (copy_for m) m.set) c.push_outside.ensures
