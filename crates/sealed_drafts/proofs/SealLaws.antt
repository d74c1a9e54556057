-- Graphs that grow, as far as their shape goes.
use Rattle.std.proofs.Common.{ℕ, ◌+◌, ◌*◌, ◌≡◌, ◌++◌, Bool, true, false, List, [], ◌∷◌, length, arith, refl, ap, ◌∙◌, length-append}
use Rattle.std.proofs.lemmas.List.{length-map}
use Rattle.std.specs.Prelude.{if◌then◌else◌}
use Rattle.aig_graph.specs.declared.graph.Gate.{Gate}
use Rattle.aig_graph.specs.declared.graph.Latch.{Latch}
use Rattle.aig_graph.specs.declared.graph.Reset.{Reset}
use Rattle.aig_graph.specs.Building.{gate_of, with_gate, with_next, without_gates}
use Rattle.aig_graph.specs.Graph.{Graph, IsGraph, variable, variables_end}
use Rattle.aig_graph.proofs.GraphLaws.{length-next_at}
use Rattle.sealed_drafts.specs.Sealed.{IsGrown, IsSealed, IsWired}

-- the variable of a literal that is made of it
pub variable-of : (v : ℕ) (negated : Bool) → variable (2 * v + (if negated then 1 else 0)) ≡ v
variable-of v true = omega arith
variable-of v false = omega arith

-- no gate more
pub grown-none : (g : Graph) → IsGrown g 0 g
grown-none g = record { inputs = refl; latches = refl; gates = omega arith }

-- one gate more
pub grown-more : (g h i : Graph) (n a b : ℕ) → IsGrown g n h → i ≡ with_gate h (gate_of a b) → IsGrown g (n + 1) i
grown-more g h i n a b grown is = record {
  inputs = ap (λ (j : Graph). j.inputs) is ∙ grown.inputs;
  latches = ap (λ (j : Graph). j.latches) is ∙ grown.latches;
  gates =
      let long : length i.gates ≡ length (h.gates ++ gate_of a b ∷ []) = ap (λ (j : Graph). length j.gates) is in
      let more : length (h.gates ++ gate_of a b ∷ []) ≡ length h.gates + 1 = length-append h.gates (gate_of a b ∷ []) in
      omega (arith, long, more, grown.gates);
}

-- how many variables there are then
pub grown-end : (g h : Graph) (n first : ℕ) → IsGrown g n h → variables_end g ≡ first → variables_end h ≡ first + n
grown-end g h n first grown is =
    let latches : length h.latches ≡ length g.latches = ap (λ (xs : List Latch). length xs) grown.latches in
    omega (arith, grown.inputs, latches, grown.gates, is)

-- no other next literal
pub wired-none : (g : Graph) → IsWired g g
wired-none g = record { inputs = refl; latches = refl; gates = refl }

-- another next literal
pub wired-more : (g h i : Graph) (k next : ℕ) → IsWired g h → i ≡ with_next h k next → IsWired g i
wired-more g h i k next wired is = record {
  inputs = ap (λ (j : Graph). j.inputs) is ∙ wired.inputs;
  latches = ap (λ (j : Graph). length j.latches) is ∙ length-next_at h.latches k next ∙ wired.latches;
  gates = ap (λ (j : Graph). j.gates) is ∙ wired.gates;
}

-- there are as many variables
pub wired-end : (g h : Graph) → IsWired g h → variables_end h ≡ variables_end g
wired-end g h wired =
    let gates : length h.gates ≡ length g.gates = ap (λ (xs : List Gate). length xs) wired.gates in
    omega (arith, wired.inputs, wired.latches, gates)

-- a graph without gates that gets gates and next literals
pub sealed-by : (g h i : Graph) (inputs n m : ℕ) (resets : List Reset) → length resets ≡ n → g ≡ without_gates inputs resets → IsGrown g m h → IsWired h i → IsGraph i → IsSealed inputs n m i
sealed-by g h i inputs n m resets long built grown wired graph = record {
  graph = graph;
  inputs_are = wired.inputs ∙ grown.inputs ∙ ap (λ (j : Graph). j.inputs) built;
  latches_are =
      wired.latches ∙ ap (λ (xs : List Latch). length xs) grown.latches ∙ ap (λ (j : Graph). length j.latches) built
      ∙ length-map resets (λ (r : Reset). record { next = 0; reset = r }) ∙ long;
  gates_are =
      let none : length g.gates ≡ 0 = ap (λ (j : Graph). length j.gates) built in
      let same : length i.gates ≡ length h.gates = ap (λ (xs : List Gate). length xs) wired.gates in
      omega (arith, none, same, grown.gates);
}
