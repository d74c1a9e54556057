use Rattle.sealed_drafts.specs.Sealed.{IsWired}
use Rattle.sealed_drafts.proofs.sealing.set_nexts.Given as goal

abbrev pub invariant-loop-place : goal.invariant-loop-place
invariant-loop-place l = IsWired l.fn.builder l.builder
