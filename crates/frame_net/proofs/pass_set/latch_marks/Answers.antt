use Rattle.std.proofs.Common.{◌+◌, ◌<◌, ◌∙◌, length, arith, ap, sym, List, false}
use Rattle.aig_graph.proofs.TableLaws.{entry, table-none}
use Rattle.aig_graph.specs.declared.graph.Latch.{Latch}
use Rattle.aig_graph.specs.Graph.{first_latch}
use Rattle.frame_net.specs.Passable.{is_passable}
use Rattle.frame_net.proofs.PassableLaws.{passable-before}
use Rattle.frame_net.proofs.pass_set.latch_marks.Goals as goal

pub loop-latch-init : goal.loop-latch-init
loop-latch-init c = record { filled = λ held. c.in_ok-marks.ensures.items ∙ sym (table-none (first_latch c.args.aig.now) (is_passable c.args.aig.now held)) }

pub loop-latch-preserved : goal.loop-latch-preserved
loop-latch-preserved c =
    let within : c.loop-latch._latch-index < length c.args.aig.now.latches = omega (arith, c.loop-latch-test.true, ap (λ (xs : List Latch). length xs) c.latches-latch-items.ensures.value) in
    record {
      filled = λ held.
          entry (first_latch c.args.aig.now) c.loop-latch._latch-index (is_passable c.args.aig.now held) c.loop-latch.marks.items c.push.new.self.items false (c.loop-latch.invariant.filled held) c.in_ok-push.ensures.items
          (sym (passable-before c.args.aig.now held (first_latch c.args.aig.now + c.loop-latch._latch-index) (omega (arith, within))));
    }
