use Rattle.counted_io.proofs.BufferedLaws.{puts-then}
use Rattle.pictures.specs.Pictures.{graph_lines}
use Rattle.pictures.proofs.graph.put_graph.Goals as goal

pub returns : goal.returns
unfolding graph_lines
returns g c =
    rw (c.inputs.ensures.value, c.first_latch.ensures.value, c.latches.ensures.value, c.first_gate.ensures.value, c.gates.ensures.value) at
    (puts-then c.put_inputs.ensures (puts-then c.put_latches.ensures c.put_gates.ensures))
