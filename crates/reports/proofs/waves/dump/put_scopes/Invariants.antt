use Rattle.std.specs.List.{flat_map, range_with_len}
use Rattle.counted_io.specs.Buffered.{Puts}
use Rattle.reports.specs.waves.Dumps.{scope_text}
use Rattle.reports.proofs.waves.dump.put_scopes.Given as goal

abbrev pub invariant-loop-sequence : goal.invariant-loop-sequence
invariant-loop-sequence g l = Puts g.W.CountedWrite.output l.fn.out l.out (flat_map (scope_text l.names) (range_with_len 0 l.sequence))
