use Rattle.gate_sharing.proofs.CircuitLaws.{told-more}
use Rattle.gate_sharing.proofs.circuits.SharedCircuits.with.Goals as goal

pub invariant_of-result : goal.invariant_of-result
invariant_of-result c =
    told-more c.self.inside.gates c.copy.new.shared c.self.inside.latches.items c.push_latches.new.latches.items c.in_ok-copied.copied c.args.aig.now c.in_ok-copied.ensures.grows c.self.invariant
    c.in_ok-copied.ensures.copies.within c.known.ensures c.in_ok-copied.ensures.copies.long c.in_ok-push_latches.ensures
