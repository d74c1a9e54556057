use Rattle.std.proofs.Common.{ap}
use Rattle.map_circuits.specs.Packing.{packed}
use Rattle.map_circuits.proofs.PackingLaws.{packed-none}
use Rattle.map_circuits.proofs.map_gates.MapGates.new.Goals as goal

pub invariant_of-result : goal.invariant_of-result
invariant_of-result c = packed-none c.args.inputs _ c.requires c.new.ensures.items

pub returns : goal.returns
returns c = ap (packed c.args.inputs) c.new.ensures.items
