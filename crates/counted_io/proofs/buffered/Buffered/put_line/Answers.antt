use Rattle.std.proofs.lemmas.List.{nil_from_length}
use Rattle.counted_io.specs.Line.{line}
use Rattle.counted_io.proofs.BufferedLaws.{puts-then}
use Rattle.counted_io.proofs.buffered.Buffered.put_line.Goals as goal
use Rattle.counted_io.proofs.buffered.Buffered.put_line.Goals.{in-Some, in_default}

pub returns : goal.returns
unfolding line
returns g c = elim c.match-split_first.branch [
  | in-Some w ↦ rw w.in-Some.ensures.cases.0 (puts-then w.put_number.ensures (puts-then w.put_all_spaced.ensures (rw w.self-is at c.put_byte.ensures)))
  | in_default w ↦ rw (nil_from_length _ w.in_default.ensures.cases) (rw w.self-is at c.put_byte.ensures)
]
