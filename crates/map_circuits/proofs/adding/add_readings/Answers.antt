use Rattle.std.proofs.Common.{arith, sym, subst, ℕ}
use Rattle.std.specs.List.{All}
use Rattle.map_circuits.specs.Constraining.{IsSubstitute}
use Rattle.map_circuits.proofs.ReadsSubstituteLaws.{all-substitutes}
use Rattle.map_circuits.proofs.adding.add_readings.Goals as goal

pub add_constraints-requires-clause-substitutes : goal.add_constraints-requires-clause-substitutes
add_constraints-requires-clause-substitutes c =
    subst (λ (n : ℕ). All (λ substitute. IsSubstitute n c.args.functions.now substitute) c.args.reads.now) (sym c.first_latch-first.ensures.value)
    (all-substitutes c.args.aig.now c.requires.reading.0 c.args.reads.now c.args.functions.now c.requires.reading.1 c.requires.many)

pub add_constraints-requires-clause-long : goal.add_constraints-requires-clause-long
add_constraints-requires-clause-long c = omega (arith, c.requires.reading.1.long, c.requires.many)
