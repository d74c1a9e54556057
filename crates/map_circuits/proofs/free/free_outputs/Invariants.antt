use Rattle.std.proofs.Common.{◌≡◌, take}
use Rattle.state_maps.specs.MapCircuits.{free_outputs}
use Rattle.map_circuits.proofs.free.free_outputs.Given as goal

abbrev pub invariant-loop-place : goal.invariant-loop-place
invariant-loop-place l = l.codes.items ≡ free_outputs (take l.place l.latches) (take l.place l.outputs)
