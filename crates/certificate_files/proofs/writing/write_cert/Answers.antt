use Rattle.std.proofs.Common.{rules}
use Rattle.counted_io.proofs.BufferedLaws.{writes-whole}
use Rattle.certificate_files.proofs.writing.write_cert.Goals as goal

pub returns : goal.returns
returns g c = writes-whole c.new-out.ensures c.put_file.ensures c.flush.ensures (search rules)
