use Rattle.std.proofs.Common.{◌+◌, ◌∙◌, ap, sym, arith, length}
use Rattle.aig_graph.proofs.TableLaws.{entry, length-table, table-none, table-end}
use Rattle.aig_graph.specs.Graph.{first_latch, latches_and_gates}
use Rattle.pictures.specs.Looks.{look_alone}
use Rattle.pictures.proofs.view.looks_alone.Goals as goal

pub loop-k-init : goal.loop-k-init
loop-k-init c = record { room = omega (arith, c.in_ok-looks.ensures.exact, c.latches_and_gates-entries.ensures.value); filled = c.in_ok-looks.ensures.items ∙ sym (table-none _ _) }

pub push_reserved-requires : goal.push_reserved-requires
push_reserved-requires c =
    omega (arith, c.loop-k-test.true, c.latches_and_gates-entries.ensures.value, c.loop-k.invariant.room, ap length c.loop-k.invariant.filled, length-table (first_latch c.args.aig.now) c.loop-k.k (look_alone c.args.aig.now c.args.keep.now c.args.pass.now))

pub loop-k-preserved : goal.loop-k-preserved
loop-k-preserved c =
    let look = look_alone c.args.aig.now c.args.keep.now c.args.pass.now in
    record {
      room = omega (arith, c.loop-k.invariant.room, c.push_reserved.ensures.capacity);
      filled = entry (first_latch c.args.aig.now) c.loop-k.k look _ _ _ c.loop-k.invariant.filled c.push_reserved.ensures.items
          (c.look_alone.ensures ∙ ap (λ first. look (first + c.loop-k.k)) c.first_latch-first.ensures.value);
    }

pub returns : goal.returns
returns c =
    let n = c.loop-k.k in
    let m = latches_and_gates c.args.aig.now in
    table-end (first_latch c.args.aig.now) n m (look_alone c.args.aig.now c.args.keep.now c.args.pass.now) _ (omega (arith, c.loop-k.auto, c.latches_and_gates-entries.ensures.value))
    (omega (arith, c.loop-k-test.false, c.latches_and_gates-entries.ensures.value)) c.loop-k.invariant.filled
