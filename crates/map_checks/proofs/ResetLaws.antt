-- The map over the resets has the values of the map in each first state.
use Rattle.std.proofs.Common.{ℕ, ◌+◌, ◌*◌, ◌<◌, ◌≡◌, Bool, false, not, List, [], length, get_or, arith, ap, sym, ◌∙◌, subst}
use Rattle.aig_graph.specs.declared.graph.Latch.{Latch}
use Rattle.aig_graph.specs.declared.graph.Reset.{Reset}
use Rattle.aig_graph.specs.declared.graph.Reset.TheVariants.{Zero, One, Free}
use Rattle.aig_graph.specs.Graph.{Graph, IsGraph, first_gate, first_latch, free_before, variable}
use Rattle.aig_graph.specs.Value.{opening, opening_at, value_within, opening_literal}
use Rattle.aig_graph.proofs.KindLaws.{element}
use Rattle.state_maps.specs.States.{opening_state}
use Rattle.state_maps.proofs.WithinLaws.{within_laws}
use Rattle.aig_graph.specs.Gates.{AreGates, Gates, IsNegated, gates_end}
use Rattle.gate_sharing.specs.Shared.{IsSharedLiteral}
use Rattle.gate_sharing.specs.Equal.{Equal}
use Rattle.gate_sharing.specs.Copies.{AreShared, Copy, IsCopy}
use Rattle.map_checks.specs.Images.{Views}
use Rattle.map_checks.specs.Starts.{AreOpeningLiterals, IsResetImage}
use Rattle.gate_sharing.proofs.CopyLaws.{leaves-shared}
use Rattle.map_checks.proofs.ImageLaws.{constant-same, graph-respects, leaves-follow}
use Rattle.map_checks.proofs.StepLaws.{graph_of, views-there}

opening-within : (n own : ℕ) → variable own < n → (r : Reset) → variable (opening_literal r own) < n
opening-within n own less Zero = omega (arith, less)
opening-within n own less One = omega (arith, less)
opening-within n own less Free = less

-- the literals of what the latches hold at step 0 are shared
pub resets-shared : (c : Graph) (k : Gates) (leaves : Copy) → k.first ≡ first_gate c → AreOpeningLiterals c leaves → AreShared k leaves
resets-shared c k leaves after are =
    leaves-shared k leaves (omega (arith, are.first, after)) (λ j less.
    let inside : j < length c.latches = omega (arith, less, are.long) in
    let there = element c.latches j inside in
    let read : get_or leaves.literals j 0 ≡ opening_literal there.0.reset (2 * (first_latch c + j)) = are.each j there.0 there.1 in
    let own : variable (2 * (first_latch c + j)) < gates_end k = omega (arith, inside, after) in
    subst (λ (n : ℕ). IsSharedLiteral k n) (sym read) (opening-within (gates_end k) (2 * (first_latch c + j)) own there.0.reset))

-- the literal of what a latch holds at step 0 has that value
opening-value : (values : ℕ → Bool) → values 0 ≡ false → IsNegated values → (own : ℕ) (b : Bool) (r : Reset) → values own ≡ opening r b → values (opening_literal r own) ≡ opening r b
opening-value values constant negated own b Zero same = constant
opening-value values constant negated own b One same = negated 0 ∙ ap not constant
opening-value values constant negated own b Free same = same

-- a copy of the map over the resets has, for each choice, the values of the map in that first state
pub reset-image : (c m : Graph) (k : Gates) (e : Equal) (leaves copy : Copy) → IsGraph m → m.inputs ≡ length c.latches → m.latches ≡ [] → AreGates k → k.first ≡ first_gate c → e.substitutes ≡ [] → AreOpeningLiterals c leaves
    → IsCopy k e m leaves copy → IsResetImage c m copy
reset-image c m k e leaves copy valid wide combinational are after none resets is = record {
  long = is.long;
  opening = λ f.
      let views : Views k e c (λ i. false) (opening_state c f) (value_within (graph_of c k) (λ i. false) (opening_state c f)) = views-there c k are after e none (λ i. false) (opening_state c f) in
      let values : ℕ → Bool = value_within (graph_of c k) (λ i. false) (opening_state c f) in
      let own : ℕ → Bool = value_within m (opening_state c f) (λ j. false) in
      let laws = within_laws m valid (opening_state c f) (λ j. false) in
      let empty : length m.latches ≡ 0 = ap (λ (xs : List Latch). length xs) combinational in
      record {
        values = values;
        constant = views.respects.constant;
        negation = views.respects.negation;
        latches = views.latches;
        follows = is.follows values own views.respects (graph-respects m valid (opening_state c f) (λ j. false)) views.right
            (leaves-follow leaves (first_gate m) values own views.respects.negation laws.negation (omega (arith, resets.first, resets.long, wide, empty))
            (λ v less. constant-same k e c m valid (λ i. false) (opening_state c f) (opening_state c f) (λ j. false) values views v (omega (arith, less, resets.first)))
            (λ j less.
            let inside : j < length c.latches = omega (arith, less, resets.long) in
            let there = element c.latches j inside in
            let held : opening_state c f j ≡ opening there.0.reset (f (free_before c j)) = ap (opening_at c f j) there.1 in
            let place : 2 * (leaves.first + j) ≡ 2 * (1 + j) = omega (arith, resets.first) in
            ap values (resets.each j there.0 there.1)
            ∙ opening-value values views.respects.constant views.respects.negation (2 * (first_latch c + j)) (f (free_before c j)) there.0.reset (views.latches j inside ∙ held)
            ∙ sym held
            ∙ sym (ap own place ∙ laws.input j (omega (arith, inside, wide)))));
      };
}
