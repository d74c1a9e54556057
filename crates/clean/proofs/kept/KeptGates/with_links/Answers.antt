use Rattle.std.proofs.Common.{arith}
use Rattle.clean.proofs.KeptLaws.{AreKept-none, pairs-none}
use Rattle.clean.proofs.kept.KeptGates.with_links.Goals as goal

pub invariant_of-result : goal.invariant_of-result
invariant_of-result c =
    rw (c.in_ok-clear.ensures.lists, c.in_ok-clear.ensures.before, c.new.ensures.empty) (AreKept-none c.args.first c.args.own _ c.args.gates.items (omega (arith, c.requires.few)))

pub returns-clause-pairs : goal.returns-clause-pairs
returns-clause-pairs c = rw c.in_ok-clear.ensures.before (pairs-none c.args.first c.args.own c.args.gates.items c.clear.new.self.lists.items c.new.result.entries)
