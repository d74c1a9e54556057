use Rattle.std.proofs.Common.{◌+◌, ◌∙◌, ap, sym, ℕ}
use Rattle.aig_graph.proofs.TableLaws.{entry, table-none}
use Rattle.aig_graph.specs.Graph.{first_latch}
use Rattle.frame_net.specs.Capacity.{has_node}
use Rattle.frame_net.proofs.layout.node_marks.Goals as goal

pub loop-k-init : goal.loop-k-init
loop-k-init c = record { filled = λ held pass. c.in_ok-marks.ensures.items ∙ sym (table-none (first_latch c.args.aig.now) (has_node c.args.aig.now held)) }

pub loop-k-preserved : goal.loop-k-preserved
loop-k-preserved c = record {
  filled = λ held pass.
      entry (first_latch c.args.aig.now) c.loop-k.k (has_node c.args.aig.now held) c.loop-k.marks.items c.push.new.self.items c.has_node.result (c.loop-k.invariant.filled held pass) c.in_ok-push.ensures.items
      (c.has_node.ensures held pass ∙ ap (λ (n : ℕ). has_node c.args.aig.now held (n + c.loop-k.k)) c.first_latch-first.ensures.value);
}
