use Rattle.std.proofs.Common.{rules, ◌≡◌, replicate}
use Rattle.clean.proofs.KeptLaws.{AreKept-none, pairs-none}
use Rattle.clean.proofs.kept.KeptGates.over.Goals as goal

pub invariant_of-result : goal.invariant_of-result
invariant_of-result c =
    let lists : c.in_ok-lists.lists.items ≡ replicate c.latches_and_gates.result 0 = search rules in
    rw (lists, c.in_ok-before.ensures.items, c.new.ensures.empty) (AreKept-none c.first_latch-first.result c.args.own c.latches_and_gates.result c.args.gates.items c.requires)

pub returns-clause-pairs : goal.returns-clause-pairs
returns-clause-pairs c =
    rw c.in_ok-before.ensures.items (pairs-none c.first_latch-first.result c.args.own c.args.gates.items c.in_ok-lists.lists.items c.new.result.entries)
