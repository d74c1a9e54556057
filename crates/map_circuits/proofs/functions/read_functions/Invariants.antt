use Rattle.std.proofs.Common.{◌≡◌, take}
use Rattle.map_circuits.specs.Steps.{read_functions}
use Rattle.map_circuits.proofs.functions.read_functions.Given as goal

abbrev pub invariant-loop-lit : goal.invariant-loop-lit
invariant-loop-lit l = l.new.items ≡ read_functions l.first l.functions (take l.lit-index l.reads)
