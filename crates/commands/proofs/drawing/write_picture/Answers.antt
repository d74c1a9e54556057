use Rattle.std.proofs.Common.{refl}
use Rattle.command_endings.proofs.PrintingLaws.{failing_after}
use Rattle.commands.proofs.drawing.write_picture.Goals as goal

pub returns-in-Ok-drawn-clause-picture : goal.returns-in-Ok-drawn-clause-picture
returns-in-Ok-drawn-clause-picture g c = record {
  ends = refl;
  scene = c.in-Ok.scene;
  is = c.in-Ok.ensures;
  writes = c.in-Ok-drawn.ensures.given;
}

pub returns-in-Ok-drawn-clause-file : goal.returns-in-Ok-drawn-clause-file
returns-in-Ok-drawn-clause-file g c = c.draw_to-drawn.ensures.file

pub returns-in-Err-drawn-clause-file : goal.returns-in-Err-drawn-clause-file
returns-in-Err-drawn-clause-file g c = c.draw_to-drawn.ensures.file

pub returns-in-Err-drawn-clause-prints : goal.returns-in-Err-drawn-clause-prints
returns-in-Err-drawn-clause-prints g c = c.in-Err-drawn.ensures.prints

pub returns-in-Err-clause-file : goal.returns-in-Err-clause-file
returns-in-Err-clause-file g c = λ aside. refl

pub returns-in-Err-clause-prints : goal.returns-in-Err-clause-prints
returns-in-Err-clause-prints g c = failing_after c.in-Err.failure _ _ refl
