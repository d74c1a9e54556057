use Rattle.std.proofs.Common.{◌≡◌, map, take}
use Rattle.cleaned_circuits.specs.Trimmed.{new_position}
use Rattle.clean.specs.Sweep.{is_marked}
use Rattle.clean.proofs.trim.Trim.new_positions.Given as goal

abbrev pub invariant-loop-position : goal.invariant-loop-position
invariant-loop-position l = l.new.items ≡ map (new_position l.self.aig.now (is_marked l.self.reached.now)) (take l.position-index l.positions)
