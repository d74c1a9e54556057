use Rattle.std.proofs.Common.{refl}
use Rattle.counted_io.proofs.BufferedLaws.{puts-dropped, puts-sent}
use Rattle.counted_io.proofs.buffered.Buffered.send.Goals as goal
use Rattle.counted_io.proofs.buffered.Buffered.send.Goals.{then-self, else-self}

pub returns-clause-puts : goal.returns-clause-puts
returns-clause-puts g c = elim c.if-self.branch [
  | then-self w ↦ rw (w.self-is, w.self2-is) (puts-dropped _ _ w.if-self.true)
  | else-self w ↦
      let written = rw w.as_slice.ensures at w.write_all.ensures in
      rw (w.self-is, w.self2-is, w.is_err-self.ensures.value) (puts-sent _ _ _ _ w.if-self.false refl c.clear.ensures written)
]
