use Rattle.map_miters.proofs.FirstLaws.{AreFirstResets}
use Rattle.map_miters.proofs.resets.resets_of.Given as goal

abbrev pub invariant-loop-place : goal.invariant-loop-place
invariant-loop-place l = AreFirstResets l.latches l.own l.place l.lits.items
