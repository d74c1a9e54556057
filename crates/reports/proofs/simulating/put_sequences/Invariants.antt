use Rattle.std.proofs.Common.{take}
use Rattle.std.specs.List.{flat_map}
use Rattle.counted_io.specs.Buffered.{Puts}
use Rattle.reports.specs.Simulating.{IsRoomFor, sequence_of}
use Rattle.reports.proofs.simulating.put_sequences.Given as goal

abbrev pub invariant-loop-k : goal.invariant-loop-k
invariant-loop-k g l = record {
  room : IsRoomFor l.circuit l.room;
  text : Puts g.W.CountedWrite.output l.fn.out l.out (flat_map (sequence_of l.circuit) (take l.k l.sequences));
}
