use Rattle.clean.specs.Sweep.{is_marked}
use Rattle.clean.proofs.CloseLaws.{IsClosing}
use Rattle.clean.proofs.trim.close_gates.Given as goal

abbrev pub invariant-loop-place : goal.invariant-loop-place
invariant-loop-place l = IsClosing l.literals (is_marked l.reached) l.first l.fn.gates l.gates l.kept l.place
