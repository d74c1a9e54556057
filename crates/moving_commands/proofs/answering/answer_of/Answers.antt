use Rattle.moving_commands.proofs.answering.answer_of.Goals as goal

pub returns-in-Ok-moved : goal.returns-in-Ok-moved
returns-in-Ok-moved g c = record { moved = c.in-Ok-moved.ensures; before = c.in-Ok.ensures; spelling = c.unwrap_or-spelling.ensures }
