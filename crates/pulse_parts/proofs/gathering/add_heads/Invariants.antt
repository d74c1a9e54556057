use Rattle.pulse_parts.specs.Parts.{values_of}
use Rattle.pulse_parts.proofs.GatheredLaws.{GathersHeads}
use Rattle.pulse_parts.proofs.gathering.add_heads.Given as goal

abbrev pub invariant-loop-k : goal.invariant-loop-k
invariant-loop-k l = GathersHeads l.net (values_of l.pushes) l.first l.end l.u l.k l.fn.list l.list
