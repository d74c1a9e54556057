use Rattle.std.proofs.Common.{◌≡◌, ◌*◌}
use Rattle.aig_graph.specs.Tables.{table}
use Rattle.cleaned_circuits.specs.Trimmed.{new_variable}
use Rattle.clean.specs.Sweep.{is_marked}
use Rattle.clean.proofs.trim.put_new_literals.Given as goal

abbrev pub invariant-loop-var : goal.invariant-loop-var
invariant-loop-var l = record {
  literals : l.literals ≡ table 0 l.var (λ v. 2 * new_variable l.aig (is_marked l.reached) v);
  next : l.next ≡ new_variable l.aig (is_marked l.reached) l.var;
}
