use Rattle.file_words.specs.Text.{text}
use Rattle.aag_text.specs.Header.{header_text}
use Rattle.counted_io.proofs.BufferedLaws.{puts-then}
use Rattle.aag_text.proofs.writing.put_text.Goals as goal

pub returns : goal.returns
unfolding text header_text
returns g c =
    rw (c.from-first_latch.ensures, c.inputs-2.ensures.value, c.inputs.ensures.value, c.latches.ensures.value, c.latches-2.ensures.value, c.gates.ensures.value, c.props.ensures.value, c.symbols.ensures.value, c.aig-aig.ensures.value) at
    (puts-then (puts-then (puts-then (puts-then (puts-then c.put_header.ensures c.put_inputs.ensures) c.put_latches.ensures)
    c.put_properties.ensures) c.put_gates.ensures) c.put_symbols.ensures)
