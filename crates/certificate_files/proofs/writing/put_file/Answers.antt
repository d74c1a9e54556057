use Rattle.counted_io.proofs.BufferedLaws.{puts-then}
use Rattle.certificate_files.specs.Texts.{file_text}
use Rattle.certificate_files.proofs.writing.put_file.Goals as goal

pub returns : goal.returns
unfolding file_text
returns g c = rw (c.as_slice.ensures, c.as_slice-2.ensures) at (puts-then (puts-then c.put_first_line.ensures c.put_choice.ensures) c.put_parts.ensures)
