use Rattle.aig_binary.proofs.EndingLaws.{ended, spelt-all}
use Rattle.aig_binary.proofs.reading.read_circuit.Goals as goal

pub returns-then-count-eq0-clause-circuit : goal.returns-then-count-eq0-clause-circuit
returns-then-count-eq0-clause-circuit g c =
    let read = c.loop.invariant.0 in
    let held = c.loop.invariant.2 in
    let next = c.in_ok-count.ensures in
    let all = ended _ _ _ read c.next_piece.new.piece c.in_ok-count.count c.loop.invariant.1 next.ok c.if-count-eq0.true next.end next.failures in
    spelt-all _ _ read c.in_ok-spelt.spelt all (c.in_ok-spelt.ensures.ok read held) (c.in_ok-spelt.ensures.spelling read held)
