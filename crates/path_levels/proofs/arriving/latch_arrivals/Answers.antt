use Rattle.std.proofs.Common.{◌∙◌, sym}
use Rattle.aig_graph.proofs.TableLaws.{table-none}
use Rattle.aig_graph.specs.Graph.{first_latch}
use Rattle.path_levels.specs.Arrivals.{arrival}
use Rattle.path_levels.proofs.ArrivalLaws.{latch-more}
use Rattle.path_levels.proofs.arriving.latch_arrivals.Goals as goal

pub loop-latch-init : goal.loop-latch-init
loop-latch-init c = c.in_ok-arrivals.ensures.items ∙ sym (table-none (first_latch c.args.aig.now) (arrival c.args.aig.now))

pub loop-latch-preserved : goal.loop-latch-preserved
loop-latch-preserved c =
    latch-more c.args.aig.now c.first_gate-first.result c.loop-latch.latch-index c.var.result c.entry_at.result c.latch-item.result c.latches-latch-items.result.now
    c.in_ok-levels.levels.items c.as_slice.result.now c.loop-latch.arrivals.items c.push.new.self.items
    c.first_gate-first.ensures.value c.in_ok-levels.ensures c.as_slice.ensures.value c.latches-latch-items.ensures.value c.loop-latch-test.true c.latch-item.is
    c.loop-latch.invariant c.in_ok-push.ensures.items c.var.ensures.variable c.entry_at.ensures
