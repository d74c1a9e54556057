use Rattle.std.proofs.Common.{ℕ, suc, slice_index, arith, ap}
use Rattle.frame_net.proofs.SumLaws.{sum_below-mono}
use Rattle.frame_net.specs.FlowNet.{row_len}
use Rattle.pulse_parts.specs.Parts.{values_of}
use Rattle.pulse_parts.specs.Delivering.{back}
use Rattle.pulse_parts.proofs.inflow.add_each.Goals as goal
use Rattle.pulse_parts.proofs.RowSliceLaws.{mate_lies}

pub push_at-push-requires-clause-from : goal.push_at-push-requires-clause-from
push_at-push-requires-clause-from c =
    let m = mate_lies c.args.net.now c.args.v c.loop-k.k _ _ c.known.ensures.network c.requires.v (omega arith) (c.heads-heads.ensures.value c.loop-k.k (omega arith)) (c.mates-mates.ensures.value c.loop-k.k (omega arith)) in
    m.after

pub push_at-push-requires-clause-to : goal.push_at-push-requires-clause-to
push_at-push-requires-clause-to c =
    let m = mate_lies c.args.net.now c.args.v c.loop-k.k _ _ c.known.ensures.network c.requires.v (omega arith) (c.heads-heads.ensures.value c.loop-k.k (omega arith)) (c.mates-mates.ensures.value c.loop-k.k (omega arith)) in
    m.before

pub overflow_add-inflow : goal.overflow_add-inflow
overflow_add-inflow c =
    let same = ap (λ (x : ℕ). slice_index (values_of c.args.parts.now) x) (c.mates-mates.ensures.value c.loop-k.k (omega arith)) in
    omega (arith, c.requires.sum, same, sum_below-mono (suc c.loop-k.k) (row_len c.args.net.now c.args.v) (back c.args.net.now (values_of c.args.parts.now) c.args.v) (omega arith))
