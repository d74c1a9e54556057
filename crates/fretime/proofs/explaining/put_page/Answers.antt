use Rattle.std.specs.Prelude.{codes}
use Rattle.counted_io.proofs.BufferedLaws.{puts-then}
use Rattle.fretime.specs.Explaining.{page_text}
use Rattle.fretime.proofs.explaining.put_page.Goals as goal

pub returns : goal.returns
unfolding page_text
returns g c =
    rw (c.as_bytes.ensures.value, c.name.ensures, c.as_bytes-2.ensures.value, c.page-page.ensures.meaning, c.as_bytes-3.ensures.value, c.page-page.ensures.rule, c.as_bytes-4.ensures.value, c.page-page.ensures.advice) at
    (puts-then c.put.ensures (puts-then {xs = codes ": "} c.put-2.ensures (puts-then c.put-3.ensures (puts-then {xs = codes "\n\n"} c.put-4.ensures (puts-then c.put-5.ensures
    (puts-then {xs = codes "\n\n"} c.put-6.ensures (puts-then c.put_file.ensures (puts-then c.put-7.ensures c.put_byte.ensures))))))))
