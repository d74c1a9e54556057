use Rattle.aig_graph.proofs.ReadingLaws.{Marks-read}
use Rattle.aig_graph.proofs.reading.mark_read.Goals as goal

pub returns : goal.returns
returns c =
    Marks-read c.args.aig.now c.args.props.now c.args.inside.now _ _ _ _ _ _ _ _ c.first_latch-first.ensures.value c.first_gate.ensures.value c.gates.ensures.value c.latches.ensures.value
    c.mark_gates.ensures c.mark_latches.ensures c.mark_props.ensures
