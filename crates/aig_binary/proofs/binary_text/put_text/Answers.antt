use Rattle.std.specs.Prelude.{codes}
use Rattle.counted_io.proofs.BufferedLaws.{puts-then}
use Rattle.aig_binary.specs.Text.{text_binary}
use Rattle.aig_binary.proofs.binary_text.put_text.Goals as goal

pub put_gates-requires-clause-ordered : goal.put_gates-requires-clause-ordered
put_gates-requires-clause-ordered g c =
    rw (c.gates.ensures.value, c.first_gate.ensures.value, c.aig-aig.ensures.value) c.aig-aig.ensures.graph.gates

pub returns : goal.returns
unfolding text_binary
returns g c =
    rw (c.from.ensures, c.first_latch.ensures.value, c.latches.ensures.value, c.first_gate.ensures.value, c.gates.ensures.value, c.props.ensures.value, c.symbols.ensures.value, c.aig-aig.ensures.value) at
    (puts-then (puts-then (puts-then (puts-then (puts-then {xs = codes "aig "} c.put.ensures c.put_counts.ensures) c.put_latches.ensures)
    c.put_properties.ensures) c.put_gates.ensures) c.put_symbols.ensures)
