use Rattle.std.proofs.Common.{◌≡◌, ◌≤◌, ◌+◌, length}
use Rattle.clean.specs.Kept.{listed}
use Rattle.clean.proofs.KeptLaws.{walk}
use Rattle.clean.proofs.kept.KeptGates.listed.Given as goal

-- what is left of the list has what the list has
abbrev pub invariant-loop-link : goal.invariant-loop-link
invariant-loop-link l = record {
  within : l.link ≤ length l.self.before + 1;
  rest : walk l.self.gates l.self.before l.self.own l.gate l.link ≡ listed l.self l.gate;
}

abbrev pub decreases-loop-link : goal.decreases-loop-link
decreases-loop-link l = l.link
