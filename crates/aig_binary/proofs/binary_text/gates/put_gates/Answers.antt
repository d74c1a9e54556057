use Rattle.std.proofs.Common.{refl}
use Rattle.std.proofs.lemmas.Option.{slice_get_read}
use Rattle.aig_binary.specs.Text.{gate_deltas}
use Rattle.aig_binary.proofs.GateTextLaws.{keeps-end, keeps-more}
use Rattle.aig_binary.proofs.binary_text.gates.put_gates.Goals as goal

pub push_gate-requires-clause-ordered : goal.push_gate-requires-clause-ordered
push_gate-requires-clause-ordered g c =
    c.requires.ordered c.loop-k.k c.index-gates-k.result (slice_get_read c.args.gates.now _ c.loop-k.k c.index-gates-k.result refl c.loop-k-test.true c.index-gates-k.is)

pub loop-k-preserved : goal.loop-k-preserved
loop-k-preserved g c =
    keeps-more gate_deltas c.args.first c.args.gates.now c.loop-k.k _ _ _ _
    c.loop-k-test.true c.index-gates-k.is c.loop-k.invariant c.leave_room.ensures.keeps c.push_gate.ensures

pub returns : goal.returns
returns g c =
    keeps-end gate_deltas c.args.first c.args.gates.now c.loop-k.k c.loop-k.deltas.items c.loop-k-test.false c.loop-k.invariant
    (rw c.as_slice.ensures.value at c.put.ensures)
