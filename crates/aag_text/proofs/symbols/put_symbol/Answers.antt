use Rattle.file_words.specs.Text.{symbol_line}
use Rattle.counted_io.proofs.BufferedLaws.{puts-byte, puts-then}
use Rattle.aag_text.proofs.symbols.put_symbol.Goals as goal

pub returns : goal.returns
unfolding symbol_line
returns g c =
    rw (c.from.ensures, c.as_slice.ensures) at
    (puts-byte c.put_byte.ensures (puts-then (puts-then c.put_number.ensures (puts-byte c.put_byte-2.ensures c.put.ensures)) c.put_byte-3.ensures))
