use Rattle.std.proofs.Common.{ℕ, ◌+◌, ◌<◌, slice_index, arith, subst}
use Rattle.frame_net.specs.FlowNet.{node_count, row_len}
use Rattle.pulse_parts.specs.Parts.{cells_of}
use Rattle.pulse_parts.proofs.SizeLaws.{sizes}
use Rattle.pulse_parts.proofs.ArcLaws.{mate-in}
use Rattle.pulse_parts.proofs.DistanceWalkLaws.{Reading, room_for, head_labelled, mate_full, head_new, reading_end}
use Rattle.pulse_parts.proofs.walk.read_node.Goals.{then-labels-v+then-residual_at-gt0, else-labels-v, else-labels-v-via-then-labels-v+else-residual_at-gt0, else-labels-v-via-else-labels-v}
use Rattle.pulse_parts.proofs.walk.read_node.Goals as goal

pub residual_at-requires : goal.residual_at-requires
residual_at-requires c =
    let size = sizes c.args.net.now c.args.parts.now c.known.ensures.network c.requires.parts in
    omega (
      arith,
      size.residuals,
      c.mates-mates.ensures.value c.loop-k.k (omega (arith, c.loop-k-test.true, c.heads-heads.ensures.len)),
      mate-in c.args.net.now c.known.ensures.network (slice_index c.args.queue.now c.args.place) c.loop-k.k (c.requires.sweeps.nodes c.args.place c.requires.place) (omega (arith, c.loop-k-test.true, c.heads-heads.ensures.len)),
    )

pub bounds-queue-count : goal.bounds-queue-count
bounds-queue-count c =
    let l : c.loop-k.k < row_len c.args.net.now (slice_index c.args.queue.now c.args.place) = omega (arith, c.loop-k-test.true, c.heads-heads.ensures.len) in
    omega (
      arith,
      room_for c.args.net.now c.known.ensures.network (cells_of c.args.parts.now) c.loop-k.labels c.loop-k.queue c.loop-k.count c.args.place (slice_index c.args.queue.now c.args.place)
          (slice_index c.args.labels.now (slice_index c.args.queue.now c.args.place) + 1) c.loop-k.k (slice_index c.heads-heads.result.now c.loop-k.k) c.nodes-nodes.result c.loop-k.invariant
          (c.requires.sweeps.nodes c.args.place c.requires.place) l (c.heads-heads.ensures.value c.loop-k.k l) c.if-labels-v.true c.nodes-nodes.ensures,
      c.requires.queue,
      c.loop-k.auto.queue,
    )

pub offset_bounds-queue-count : goal.offset_bounds-queue-count
offset_bounds-queue-count c = omega (arith, bounds-queue-count c, c.loop-k.auto.queue, c.requires.queue, c.known.ensures.network.short)

pub overflow_add-count : goal.overflow_add-count
overflow_add-count c = omega (arith, bounds-queue-count c, c.loop-k.auto.queue, c.requires.queue, c.known.ensures.network.short)

pub loop-k-preserved : goal.loop-k-preserved
loop-k-preserved c =
    let l : c.loop-k.k < row_len c.args.net.now (slice_index c.args.queue.now c.args.place) = omega (arith, c.loop-k-test.true, c.heads-heads.ensures.len) in
    let h : slice_index c.args.queue.now c.args.place < node_count c.args.net.now = c.requires.sweeps.nodes c.args.place c.requires.place in
    elim c.if-labels-v.branch [
      | then-labels-v+then-residual_at-gt0 w ↦
          head_new c.args.net.now c.known.ensures.network (cells_of c.args.parts.now) c.loop-k.labels c.loop-k.queue c.if-labels-v.labels c.if-labels-v.queue c.loop-k.count c.if-labels-v.count c.args.place
          (slice_index c.args.queue.now c.args.place) (slice_index c.args.labels.now (slice_index c.args.queue.now c.args.place) + 1) c.loop-k.k (slice_index c.heads-heads.result.now c.loop-k.k)
          (slice_index c.mates-mates.result.now c.loop-k.k) w.residual_at.result c.nodes-nodes.result w.labels-is w.queue-is w.count-is c.loop-k.invariant h l (c.heads-heads.ensures.value c.loop-k.k l)
          (c.mates-mates.ensures.value c.loop-k.k l) w.if-labels-v.true c.nodes-nodes.ensures w.residual_at.ensures w.if-residual_at-gt0.true (omega (arith, c.loop-k.auto.labels, c.requires.labels))
          (omega (arith, c.loop-k.auto.queue, c.requires.queue))
      | else-labels-v w ↦ elim w.else-labels-v.branch [
        | else-labels-v-via-then-labels-v+else-residual_at-gt0 u ↦
            mate_full c.args.net.now c.known.ensures.network (cells_of c.args.parts.now) c.loop-k.labels c.loop-k.queue c.if-labels-v.labels c.if-labels-v.queue c.loop-k.count c.if-labels-v.count c.args.place
            (slice_index c.args.queue.now c.args.place) (slice_index c.args.labels.now (slice_index c.args.queue.now c.args.place) + 1) c.loop-k.k (slice_index c.mates-mates.result.now c.loop-k.k) u.residual_at.result
            w.labels-is w.queue-is w.count-is c.loop-k.invariant h l (c.mates-mates.ensures.value c.loop-k.k l) u.residual_at.ensures (omega (arith, u.if-residual_at-gt0.false))
        | else-labels-v-via-else-labels-v u ↦
            head_labelled c.args.net.now c.known.ensures.network (cells_of c.args.parts.now) c.loop-k.labels c.loop-k.queue c.if-labels-v.labels c.if-labels-v.queue c.loop-k.count c.if-labels-v.count c.args.place
            (slice_index c.args.queue.now c.args.place) (slice_index c.args.labels.now (slice_index c.args.queue.now c.args.place) + 1) c.loop-k.k (slice_index c.heads-heads.result.now c.loop-k.k) c.nodes-nodes.result
            w.labels-is w.queue-is w.count-is c.loop-k.invariant h l (c.heads-heads.ensures.value c.loop-k.k l) u.if-labels-v.false c.nodes-nodes.ensures
      ]
    ]

pub returns : goal.returns
returns c =
    let w : ℕ = slice_index c.args.queue.now c.args.place in
    let label : ℕ = slice_index c.args.labels.now w + 1 in
    reading_end c.args.net.now c.known.ensures.network (cells_of c.args.parts.now) (slice_index c.loop-k.labels) (slice_index c.loop-k.queue) c.loop-k.count c.args.place w label
    (subst (λ (k : ℕ). Reading c.args.net.now (cells_of c.args.parts.now) (slice_index c.loop-k.labels) (slice_index c.loop-k.queue) c.loop-k.count c.args.place w label k)
    (omega (arith, c.loop-k-test.false, c.heads-heads.ensures.len, c.loop-k.auto.k-end)) c.loop-k.invariant) (c.requires.sweeps.nodes c.args.place c.requires.place)
