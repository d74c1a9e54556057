use Rattle.std.proofs.Common.{◌≡◌, map, filter, take}
use Rattle.rebuild.specs.Moved.{moved_name, stays}
use Rattle.rebuild.specs.Planned.{planned}
use Rattle.rebuild.proofs.names.staying_names.Given as goal

abbrev pub invariant-loop-name : goal.invariant-loop-name
invariant-loop-name l = l.copies.items ≡ map (moved_name (planned l.plan)) (filter (stays (planned l.plan)) (take l.name-index l.names))
