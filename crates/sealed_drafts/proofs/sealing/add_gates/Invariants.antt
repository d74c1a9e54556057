use Rattle.sealed_drafts.specs.Sealed.{IsGrown}
use Rattle.sealed_drafts.proofs.sealing.add_gates.Given as goal

abbrev pub invariant-loop-place : goal.invariant-loop-place
invariant-loop-place l = IsGrown l.fn.builder l.place l.builder
