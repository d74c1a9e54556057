use Rattle.std.proofs.lemmas.Result.{IfOk-weaker}
use Rattle.circuit_files.proofs.FileLaws.{whole_text}
use Rattle.circuit_files.proofs.TargetLaws.{to_file, to_stdout}
use Rattle.commands.proofs.retiming.retime_by.Goals as goal

pub returns-in-Stdout-clause-answer : goal.returns-in-Stdout-clause-answer
returns-in-Stdout-clause-answer g c =
    IfOk-weaker c.retime_to.result _ _ (λ answer to. record { of = to.of; writes = to_stdout _ _ _ _ _ c.in-Stdout.is to.writes }) c.retime_to.ensures.answer

pub returns-in-File-clause-answer : goal.returns-in-File-clause-answer
returns-in-File-clause-answer g c =
    IfOk-weaker c.retime_to-answer.result _ _
    (λ answer to. record { of = to.of; writes = to_file _ _ c.in-File.path _ _ c.in-File.is (whole_text _ _ _ _ _ _ _ _ _ c.file_at-writer.ensures.path c.file_at-writer.ensures.given c.close.ensures to.writes.bytes) })
    c.retime_to-answer.ensures.answer
