use Rattle.std.proofs.Common.{◌≡◌, ◌∙◌, arith, ap, List, ℕ, Bool, length}
use Rattle.aig_graph.specs.Marking.{mark_at}
use Rattle.aig_graph.proofs.MarkingLaws.{AreMarks-table, mark_at-covered}
use Rattle.aig_graph.proofs.TableLaws.{length-table}
use Rattle.aig_graph.specs.Graph.{first_latch, latches_and_gates}
use Rattle.frame_net.specs.Capacity.{is_observed}
use Rattle.frame_net.proofs.layout.Layout.is_observed.Goals as goal

pub returns : goal.returns
returns c = λ from below.
    let k = c.args.self.now in
    let g = k.aig.now in
    let long : length k.leaving.items ≡ latches_and_gates k.aig.now = ap (λ (xs : List Bool). length xs) k.leaving_are ∙ length-table (first_latch g) (latches_and_gates g) (is_observed g k.props.now k.keep.now) in
    c.mark_at.ensures
    ∙ ap (λ (xs : List Bool). mark_at c.first_latch.result xs c.args.var) c.as_slice.ensures.value
    ∙ ap (λ (n : ℕ). mark_at n k.leaving.items c.args.var) c.first_latch.ensures.value
    ∙ mark_at-covered (first_latch g) k.leaving.items (is_observed g k.props.now k.keep.now) c.args.var (AreMarks-table (first_latch g) (latches_and_gates g) k.leaving.items (is_observed g k.props.now k.keep.now) k.leaving_are) from (omega (arith, below, long))
