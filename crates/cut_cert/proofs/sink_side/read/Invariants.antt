use Rattle.std.proofs.Common.{◌≡◌}
use Rattle.cut_cert.specs.SinkWalk.{read_arcs}
use Rattle.cut_cert.proofs.sink_side.read.Given as goal

abbrev pub invariant-loop-k : goal.invariant-loop-k
invariant-loop-k l = l.side ≡ read_arcs l.net l.preflow.flow.cells.residuals l.swept l.w l.k l.fn.side
