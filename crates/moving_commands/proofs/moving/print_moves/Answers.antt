use Rattle.command_endings.proofs.PrintingLaws.{by_stream}
use Rattle.moving_commands.proofs.MovingLaws.{prints_moves}
use Rattle.command_line.specs.StreamUses.{moving_takes_stdout}
use Rattle.moving_commands.proofs.moving.print_moves.Goals as goal

pub returns-in-Ok-clause-moves : goal.returns-in-Ok-clause-moves
returns-in-Ok-clause-moves g c =
    let out = g.O.CountedWrite.output in
    let err = g.E.CountedWrite.output in
    let printed = c.print_answer-ended in
    prints_moves _ c.args.task.now c.args.streams.now.is_terminal (g.I.CountedRead.input c.args.streams.now.stdin) (g.I.CountedRead.input c.write_shown.new.streams.stdin) (out c.args.streams.now.out) (out c.write_shown.new.streams.out) (out printed.new.out)
    (err c.write_shown.new.streams.err) (err printed.new.err) (err c.tell_staying.new.err) c.in-Ok.answer printed.result c.in-Ok.ensures.answer c.in-Ok.ensures.written printed.ensures.aside printed.ensures.says printed.ensures.moves c.tell_staying.ensures.aside

pub returns-in-Ok-clause-prints : goal.returns-in-Ok-clause-prints
returns-in-Ok-clause-prints g c =
    let out = g.O.CountedWrite.output in
    let printed = c.print_answer-ended in
    by_stream (moving_takes_stdout c.args.task.now) (out c.args.streams.now.out) (out c.write_shown.new.streams.out) (out printed.new.out) printed.result c.in-Ok.ensures.file printed.ensures.aside printed.ensures.prints
