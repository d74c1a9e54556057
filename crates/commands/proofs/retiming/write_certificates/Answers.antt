use Rattle.std.proofs.lemmas.Result.{on_ok_weaker}
use Rattle.circuit_files.proofs.FileLaws.{whole_text}
use Rattle.circuit_files.proofs.TargetLaws.{to_file, to_stdout}
use Rattle.commands.proofs.retiming.write_certificates.Goals as goal

pub returns-in-Stdout-clause-given : goal.returns-in-Stdout-clause-given
returns-in-Stdout-clause-given g c = on_ok_weaker c.write_cert.result (λ writes. to_stdout _ _ _ _ _ c.in-Stdout.is writes) c.write_cert.ensures.ok

pub returns-in-File-clause-given : goal.returns-in-File-clause-given
returns-in-File-clause-given g c =
    on_ok_weaker c.write_cert-written.result
    (λ writes. to_file _ _ c.in-File.path _ _ c.in-File.is (whole_text _ _ _ _ _ _ _ _ _ c.file_at-target_file.ensures.path c.file_at-target_file.ensures.given c.close.ensures writes.bytes)) c.write_cert-written.ensures.ok
