use Rattle.std.proofs.Common.{◌∙◌, ◌≡◌, arith}
use Rattle.aig_graph.specs.Graph.{first_latch, variables_end}
use Rattle.rebuild.proofs.PlanLaws.{all-latched, counted, length-by_variable}
use Rattle.rebuild.specs.Moved.{is_latched}
use Rattle.rebuild.specs.Planned.{marked}
use Rattle.aig_graph.specs.Counting.{count_below}
use Rattle.rebuild.proofs.graph.moved_latches.Goals as goal

pub count_marks-count-requires : goal.count_marks-count-requires
count_marks-count-requires c =
    let k = c.args.plan.now.marks in
    omega (arith, length-by_variable k.circuit.now.aig (is_latched (marked k)) c.as_slice.result.now (c.as_slice.ensures.value ∙ k.latched_are), k.graph.small)

pub push_staying-requires-clause-room : goal.push_staying-requires-clause-room
push_staying-requires-clause-room c =
    let k = c.args.plan.now.marks in
    let m = marked k in
    let count : c.count_marks-count.result ≡ count_below (is_latched m) (variables_end m.circuit.aig) =
    counted m (is_latched m) c.as_slice.result.now c.count_marks-count.result (c.as_slice.ensures.value ∙ k.latched_are)
    (c.count_marks-count.ensures (first_latch m.circuit.aig) (is_latched m) (all-latched m k.passable c.as_slice.result.now (c.as_slice.ensures.value ∙ k.latched_are))) in
    omega (arith, count, c.in_ok-latches.ensures.exact)
