use Rattle.std.proofs.Common.{take}
use Rattle.counted_io.specs.Line.{numbered_lines}
use Rattle.aig_binary.specs.Text.{KeepsText, gate_deltas}
use Rattle.aig_binary.proofs.binary_text.gates.put_gates.Given as goal

-- what is put after the deltas that wait is put after those of the gates so far
abbrev pub invariant-loop-k : goal.invariant-loop-k
invariant-loop-k g l = KeepsText g.W.CountedWrite.output l.fn.out (numbered_lines gate_deltas l.first (take l.k l.gates)) l.out l.deltas.items
