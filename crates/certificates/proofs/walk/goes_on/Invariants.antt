use Rattle.std.proofs.Common.{◌≡◌, true, drop}
use Rattle.certificates.specs.Routes.{goes_on, is_on}
use Rattle.certificates.proofs.walk.goes_on.Given as goal

abbrev pub invariant-loop-point : goal.invariant-loop-point
invariant-loop-point l = record {
  on : is_on l.fn.circuit.aig l.at.var ≡ true;
  same : goes_on l.fn.circuit l.fn.keep l.fn.first l.fn.rest ≡ goes_on l.fn.circuit l.fn.keep l.at (drop l.point-index l.fn.rest);
}
