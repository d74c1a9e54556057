-- The values of all variables in a step.
use Rattle.std.proofs.Common.{ℕ, ◌≡◌, ◌<◌, List, ap, ◌∙◌, sym, subst, length}
use Rattle.aig_graph.specs.Graph.{Graph, IsGraph, variables_end}
use Rattle.lane_sim.specs.declared.steps.Values.{Values}
use Rattle.lane_sim.specs.declared.stimulus.InputSequence.{InputSequence}
use Rattle.lane_sim.specs.Blocks.{in_lane, HoldsBelow}
use Rattle.lane_sim.specs.Lanes.{held}
use Rattle.lane_sim.specs.Steps.{AreAt}
use Rattle.lane_sim.proofs.TableLaws.{HoldsBelow-constant}

-- values whose table holds those of a step
pub are_at : (g : Graph) (sequences : List InputSequence) (values : Values) (t : ℕ) (table : List (List ℕ)) → values.table.items ≡ table → IsGraph g
    → length table ≡ variables_end g → ((k : ℕ) → k < 256 → HoldsBelow g (in_lane sequences k) table k t (variables_end g)) → AreAt g sequences values t
are_at g sequences values t table is valid long each = record {
  graph = valid;
  room = record {
    long = ap length is ∙ long;
    constant = λ k h. ap (λ (xs : List (List ℕ)). held xs 0 k) is ∙ HoldsBelow-constant g valid (in_lane sequences k) table k t (each k h);
  };
  each = λ k h. subst (λ (xs : List (List ℕ)). HoldsBelow g (in_lane sequences k) xs k t (variables_end g)) (sym is) (each k h);
}
