use Rattle.std.proofs.Common.{◌+◌, ◌≡◌, drop, take}
use Rattle.counted_io.specs.Buffered.{Puts}
use Rattle.counted_io.specs.Line.{numbered_lines}
use Rattle.file_words.specs.Text.{gate_row, numbered_rows}
use Rattle.aig_binary.specs.Text.{gate_deltas}
use Rattle.mapped_answers.proofs.map_text.put_gates.Given as goal

-- the lines of the gates so far are put, and the bytes of those that are left follow
abbrev pub invariant-loop-place : goal.invariant-loop-place
invariant-loop-place g l = record {
  puts : Puts g.W.CountedWrite.output l.fn.out l.out (numbered_rows gate_row l.first (take l.place l.gates.gates));
  rest : l.rest ≡ numbered_lines gate_deltas (l.first + l.place) (drop l.place l.gates.gates);
}
