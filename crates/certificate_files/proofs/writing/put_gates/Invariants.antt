use Rattle.std.proofs.Common.{take}
use Rattle.std.specs.List.{flat_map}
use Rattle.counted_io.specs.Buffered.{Puts}
use Rattle.certificate_files.specs.Texts.{gate_text}
use Rattle.certificate_files.proofs.writing.put_gates.Given as goal

abbrev pub invariant-loop-gate : goal.invariant-loop-gate
invariant-loop-gate g l = Puts g.W.CountedWrite.output l.fn.out l.out (flat_map gate_text (take l.gate-index l.gates))
