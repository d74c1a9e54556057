use Rattle.std.proofs.Common.{◌≡◌}
use Rattle.cut_cert.specs.OpenWalk.{read_open}
use Rattle.cut_cert.proofs.source_side.read.Given as goal

abbrev pub invariant-loop-place : goal.invariant-loop-place
invariant-loop-place l = l.side ≡ read_open l.net l.used l.node l.place l.fn.side
