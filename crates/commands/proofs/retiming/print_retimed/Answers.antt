use Rattle.commands.proofs.PipeLaws.{prints_frames, prints_retiming, writes_pipe}
use Rattle.commands.proofs.retiming.print_retimed.Goals as goal

pub returns-clause-frames : goal.returns-clause-frames
returns-clause-frames g c =
    let out = g.O.CountedWrite.output in
    let err = g.E.CountedWrite.output in
    let printed = c.print_frames-ended in
    let timed = c.in_ok-timed in
    prints_retiming _ c.args.task.now c.args.streams.now.is_terminal (g.I.CountedRead.input c.args.streams.now.stdin) (out c.args.streams.now.out) (out c.certified.new.streams.out) (out printed.new.out)
    (err c.certified.new.streams.err) (err printed.new.err) (err c.tell_remaining.new.err) timed.timed.answer timed.timed.times printed.result
    timed.ensures.written printed.ensures.aside printed.ensures.says printed.ensures.frames c.tell_remaining.ensures.aside

pub returns-clause-pipe : goal.returns-clause-pipe
returns-clause-pipe g c =
    let out = g.O.CountedWrite.output in
    let printed = c.print_frames-ended in
    writes_pipe _ c.args.task.now (g.I.CountedRead.input c.args.streams.now.stdin) (out c.args.streams.now.out) (out c.certified.new.streams.out) (out printed.new.out)
    c.in_ok-timed.timed.answer printed.result printed.result c.in_ok-timed.ensures.written printed.ensures.aside

pub returns-clause-prints : goal.returns-clause-prints
returns-clause-prints g c =
    let out = g.O.CountedWrite.output in
    let printed = c.print_frames-ended in
    prints_frames c.args.task.now (out c.args.streams.now.out) (out c.certified.new.streams.out) (out printed.new.out) printed.result c.in_ok-timed.ensures.file printed.ensures.aside printed.ensures.prints
