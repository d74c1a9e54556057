use Rattle.std.proofs.Common.{◌≡◌, take}
use Rattle.clean.specs.Sweep.{reach_in_sweep, reach_all}
use Rattle.clean.proofs.reached.Reached.reach_all.Given as goal

abbrev pub invariant-loop-lit : goal.invariant-loop-lit
invariant-loop-lit l = l.self ≡ reach_all reach_in_sweep l.fn.self (take l.lit-index l.lits)
