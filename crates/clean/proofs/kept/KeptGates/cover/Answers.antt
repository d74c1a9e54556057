use Rattle.clean.specs.Kept.{Kept}
use Rattle.clean.proofs.KeptLaws.{AreKept-wider}
use Rattle.clean.proofs.kept.KeptGates.cover.Goals as goal

pub invariant_of-self : goal.invariant_of-self
invariant_of-self c =
    let k : Kept = record { first = c.self.inside.first; own = c.self.inside.own; gates = c.self.inside.gates.items; before = c.self.inside.before.items; lists = c.self.inside.lists.items; rest = c.self.inside.rest.entries } in
    AreKept-wider k c.self.invariant c.widen.new.lists.items c.widen.ensures
