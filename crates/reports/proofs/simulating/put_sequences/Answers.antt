use Rattle.std.proofs.Common.{[]}
use Rattle.counted_io.proofs.BufferedLaws.{puts-next}
use Rattle.std.proofs.lemmas.List.{get_or_default}
use Rattle.lane_sim.specs.declared.stimulus.InputSequence.{InputSequence}
use Rattle.lane_sim.specs.Blocks.{in_lane}
use Rattle.reports.specs.Simulating.{sequence_of}
use Rattle.reports.proofs.simulating.put_sequences.Goals as goal

pub loop-k-preserved : goal.loop-k-preserved
loop-k-preserved g c =
    let sequences = c.args.sequences.now in
    let k = c.loop-k.k in
    let one : InputSequence = in_lane sequences k in
    record {
      room = c.put_sequence.ensures.room;
      text = puts-next (sequence_of c.args.circuit.now) sequences k one c.loop-k-test.true (get_or_default sequences k (record { choice = []; steps = [] }) one c.loop-k-test.true) c.loop-k.invariant.text
          (rw c.one_of.ensures.value at c.put_sequence.ensures.puts);
    }
