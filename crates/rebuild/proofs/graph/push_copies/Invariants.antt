use Rattle.std.proofs.Common.{◌≡◌, ◌++◌, map, take}
use Rattle.rebuild.specs.Moved.{copy_for}
use Rattle.rebuild.specs.Planned.{planned}
use Rattle.rebuild.proofs.graph.push_copies.Given as goal

abbrev pub invariant-loop-var : goal.invariant-loop-var
invariant-loop-var l = l.gates.items ≡ l.fn.gates.items ++ map (copy_for (planned l.plan)) (take l.var-index l.plan.marks.set.now)
