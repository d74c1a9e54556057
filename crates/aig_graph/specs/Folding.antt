-- What follows from the variables that are no gates up to a variable, gate by gate.
use Rattle.std.specs.Prelude.{ℕ, suc, zero, Option, Some, None}
use Rattle.aig_graph.specs.declared.graph.Gate.{Gate}
use Rattle.aig_graph.specs.Graph.{Graph, variable, gate_at}

-- the value of a variable: its own unless it is a gate, else what the rule makes of those of the
-- two fan-ins
abbrev pub fold_step : {A : Type 0} → (ℕ → A) → (Gate → A → A → A) → (ℕ → A) → ℕ → Option Gate → A
fold_step leaf rule fan_in v None = leaf v
fold_step leaf rule fan_in v (Some gate) = rule gate (fan_in (variable gate.rhs0)) (fan_in (variable gate.rhs1))

-- what a variable gets by a look through at most `depth` gates on each way
unfoldable pub fold_to_depth : {A : Type 0} → Graph → (ℕ → A) → (Gate → A → A → A) → ℕ → ℕ → A
fold_to_depth g leaf rule zero v = leaf v
fold_to_depth g leaf rule (suc depth) v = fold_step leaf rule (fold_to_depth g leaf rule depth) v (gate_at g v)

-- No way from a variable down through gates is longer than the variable.
unfoldable pub fold_gates : {A : Type 0} → Graph → (ℕ → A) → (Gate → A → A → A) → ℕ → A
fold_gates g leaf rule v = fold_to_depth g leaf rule (suc v) v
