use Rattle.std.proofs.Common.{◌≡◌, take}
use Rattle.std.specs.List.{flat_map}
use Rattle.clean.specs.Sweep.{reach_in_sweep, reach_all}
use Rattle.clean.proofs.reached.Reached.reach_justice.Given as goal

abbrev pub invariant-loop-lits : goal.invariant-loop-lits
invariant-loop-lits l = l.self ≡ reach_all reach_in_sweep l.fn.self (flat_map (λ lits. lits) (take l.lits-index l.justice))
