use Rattle.commands.specs.Replaying.{bytes_in}
use Rattle.commands.proofs.AuditLaws.{judged-result}
use Rattle.commands.proofs.verification.judged_by.Goals as goal

pub returns-in-Ok-judged : goal.returns-in-Ok-judged
returns-in-Ok-judged c =
    judged-result c.args.task.now c.args.circuit.now c.args.file.now (bytes_in c.args.bytes.now) c.in-Ok-replayed.replay c.in-Ok.bound c.merged_count.result c.in-Ok-judged.judgement
    c.in-Ok.ensures c.merged_count.ensures c.in-Ok-replayed.ensures c.in-Ok-judged.ensures
