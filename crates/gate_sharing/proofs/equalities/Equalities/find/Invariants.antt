use Rattle.std.proofs.Common.{ℕ, ◌≡◌, ◌≤◌, Bool}
use Rattle.aig_graph.specs.Graph.{variable}
use Rattle.aig_graph.specs.Gates.{IsNegated}
use Rattle.gate_sharing.specs.Equal.{IsRight, StaysRight}
use Rattle.gate_sharing.proofs.equalities.Equalities.find.Given as goal

abbrev pub invariant-loop-next : goal.invariant-loop-next
invariant-loop-next l = record {
  below : variable l.root ≤ variable l.fn.lit;
  right : StaysRight l.fn.self l.self;
  root : (values : ℕ → Bool) → IsNegated values → IsRight l.fn.self values → values l.root ≡ values l.fn.lit;
  next : (values : ℕ → Bool) → IsNegated values → IsRight l.fn.self values → values l.next ≡ values l.root;
}

abbrev pub decreases-loop-next : goal.decreases-loop-next
decreases-loop-next l = variable l.root
