use Rattle.cut_cert.specs.Walks.{NoneComes}
use Rattle.cut_cert.proofs.carried.incoming.Given as goal

abbrev pub invariant-loop-place : goal.invariant-loop-place
invariant-loop-place l = NoneComes l.net l.carried l.node l.from l.place
