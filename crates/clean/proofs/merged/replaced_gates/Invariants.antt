use Rattle.std.proofs.Common.{◌≡◌, map, take}
use Rattle.cleaned_circuits.specs.Merged.{replaced_gate}
use Rattle.clean.proofs.merged.replaced_gates.Given as goal

abbrev pub invariant-loop-gate : goal.invariant-loop-gate
invariant-loop-gate l = l.gates.items ≡ map (replaced_gate l.substitutes) (take l.gate-index l.aig.gates)
