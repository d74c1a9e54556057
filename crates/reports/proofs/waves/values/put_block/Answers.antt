use Rattle.std.proofs.Common.{ℕ, ◌+◌, ◌*◌, ◌/◌, ◌≡◌, arith, drop, length, subst}
use Rattle.std.proofs.lemmas.List.{length-drop, length-take}
use Rattle.counted_io.proofs.BufferedLaws.{puts-range_next}
use Rattle.lane_sim.specs.Blocks.{block_of}
use Rattle.reports.specs.waves.Dumps.{values_of}
use Rattle.reports.specs.waves.Moments.{IsMoment, trace_of}
use Rattle.reports.proofs.waves.values.put_block.Goals as goal

pub put_sequence-requires-clause-moment : goal.put_sequence-requires-clause-moment
put_sequence-requires-clause-moment g c =
    let here : c.args.block ≡ (256 * c.args.block + c.loop-lane.lane) / 256 = omega (arith, c.loop-lane-test.true, c.min-lane-end.ensures) in
    subst (λ (b : ℕ). IsMoment b c.args.moment.now) here c.requires.moment

pub loop-lane-preserved : goal.loop-lane-preserved
loop-lane-preserved g c =
    let m = c.args.moment.now in
    puts-range_next (values_of (trace_of m) c.args.places m.time) (256 * c.args.block) c.loop-lane.lane c.loop-lane.invariant c.put_sequence.ensures

pub returns : goal.returns
returns g c =
    let sequences = c.args.moment.now.sequences.now in
    let end : c.loop-lane.lane ≡ length (block_of sequences c.args.block) =
    omega (arith, c.loop-lane-test.false, c.loop-lane.auto.lane-end, c.min-lane-end.ensures, c.requires.block, length-take 256 (drop (256 * c.args.block) sequences), length-drop (256 * c.args.block) sequences) in
    rw end at c.loop-lane.invariant
