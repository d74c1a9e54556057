use Rattle.commands.proofs.PipeLaws.{fails_beside, kept, written_with}
use Rattle.commands.proofs.retiming.certified.Goals as goal

pub returns-in-Err-write_beside-clause-file : goal.returns-in-Err-write_beside-clause-file
returns-in-Err-write_beside-clause-file g c =
    kept c.args.task.now (g.O.CountedWrite.output c.args.streams.now.out) (g.O.CountedWrite.output c.retimed-ended.new.out) (g.O.CountedWrite.output c.write_beside.new.out) c.retimed-ended.ensures.file c.write_beside.ensures.file

pub returns-in-Ok-write_beside-clause-written : goal.returns-in-Ok-write_beside-clause-written
returns-in-Ok-write_beside-clause-written g c =
    let beside = c.in-Ok-write_beside.ensures in
    written_with _ c.args.task.now (g.I.CountedRead.input c.args.streams.now.stdin) (g.O.CountedWrite.output c.args.streams.now.out) (g.O.CountedWrite.output c.retimed-ended.new.out)
    (g.O.CountedWrite.output c.write_beside.new.out) c.in-Ok.answer c.write_beside.new.answer beside.answer c.in-Ok.ensures.answer beside.written

pub returns-in-Err-write_beside-clause-prints : goal.returns-in-Err-write_beside-clause-prints
returns-in-Err-write_beside-clause-prints g c =
    let task = c.args.task.now in
    fails_beside task.map task.certificates _ _ _ c.in-Err-write_beside.ensures.err

pub returns-in-Ok-write_beside-clause-file : goal.returns-in-Ok-write_beside-clause-file
returns-in-Ok-write_beside-clause-file g c =
    kept c.args.task.now (g.O.CountedWrite.output c.args.streams.now.out) (g.O.CountedWrite.output c.retimed-ended.new.out) (g.O.CountedWrite.output c.write_beside.new.out) c.retimed-ended.ensures.file c.write_beside.ensures.file
