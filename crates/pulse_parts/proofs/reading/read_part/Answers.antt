use Rattle.std.proofs.Common.{◌≡◌, ℕ, length, ap, arith, subst}
use Rattle.pulse_parts.specs.Parts.{cells_of}
use Rattle.pulse_parts.proofs.reading.read_part.Goals as goal
use Rattle.pulse_parts.proofs.CountLaws.{part_unread}
use Rattle.pulse_parts.proofs.PartWalkLaws.{PartReads, has_row, part_read, reads_more, reads_none}

pub loop-v-init : goal.loop-v-init
loop-v-init c = reads_none c.args.net.now c.args.labels.now c.max-low.result (cells_of c.args.flow.now) c.args.part.now c.forget.new.self c.forget.ensures

pub read_at-requires-clause-from : goal.read_at-requires-clause-from
read_at-requires-clause-from c =
    (has_row c.args.net.now c.loop-v.v c.args.part.now c.loop-v.part c.known.ensures.network c.requires.part c.loop-v.invariant.same c.loop-v.invariant.rows.same
    (omega (arith, c.max-low.ensures)) (omega (arith, c.min-high.ensures))).from

pub read_at-requires-clause-to : goal.read_at-requires-clause-to
read_at-requires-clause-to c =
    omega (
      arith,
      ap length c.as_mut_slice-values.ensures.value,
      (has_row c.args.net.now c.loop-v.v c.args.part.now c.loop-v.part c.known.ensures.network c.requires.part c.loop-v.invariant.same c.loop-v.invariant.rows.same
          (omega (arith, c.max-low.ensures)) (omega (arith, c.min-high.ensures))).to,
    )

pub loop-v-preserved : goal.loop-v-preserved
loop-v-preserved c =
    reads_more c.args.net.now c.args.labels.now c.max-low.result c.loop-v.v (cells_of c.args.flow.now) c.args.part.now c.loop-v.part c.as_mut_slice-values.result.now c.read_at.new.values c.read_at.new.walked
    c.known.ensures.network c.requires.part (omega (arith, c.max-low.ensures)) (omega arith) (omega (arith, c.min-high.ensures)) c.loop-v.invariant c.as_mut_slice-values.ensures.value (omega arith) c.read_at.ensures.row c.read_at.ensures.counted

pub returns-after-loop-v : goal.returns-after-loop-v
returns-after-loop-v c =
    let all : c.loop-v.v ≡ c.min-high.result = omega arith in
    part_read c.args.net.now c.args.labels.now c.args.first c.args.end c.max-low.result c.min-high.result (cells_of c.args.flow.now) c.args.part.now c.loop-v.part c.known.ensures.network c.requires.part
    c.max-low.ensures c.min-high.ensures (omega arith)
    (subst (λ (x : ℕ). PartReads c.args.net.now c.args.labels.now c.max-low.result x (cells_of c.args.flow.now) c.args.part.now c.loop-v.part) all c.loop-v.invariant)

pub returns-else-low-high : goal.returns-else-low-high
returns-else-low-high c =
    part_unread c.args.net.now c.args.labels.now c.args.first c.args.end c.max-low.result c.min-high.result (cells_of c.args.flow.now) c.args.part.now c.requires.part c.max-low.ensures c.min-high.ensures (omega arith)
