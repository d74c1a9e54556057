use Rattle.std.proofs.Common.{ℕ, List, ap, subst, ◌∙◌}
use Rattle.std.specs.List.{All, Contains}
use Rattle.aig_graph.specs.declared.properties.Symbol.{Symbol}
use Rattle.aig_graph.specs.declared.properties.Symbols.{Symbols}
use Rattle.backward_circuits.specs.MovedBack.{IsHeldBackIn, IsNamedBack}
use Rattle.backward_circuits.proofs.held.are_held_back.Goals as goal

pub returns-then-all_held_back : goal.returns-then-all_held_back
returns-then-all_held_back c = λ named.
    let held : List ℕ = c.args.keep.now in
    let P : ℕ → Type 0 = λ k. IsHeldBackIn c.args.circuit.now c.args.after.now c.args.map.now k in
    let Q : Symbol → Type 0 = λ s. Contains held s.position → IsNamedBack c.args.after.now c.args.map.now s in
    record {
      latches = subst (λ (places : List ℕ). All P places) c.positions.ensures.value (c.all_held_back.ensures c.if-all_held_back.true);
      names = subst (λ (names : List Symbol). All Q names) (c.as_slice.ensures ∙ ap (λ (s : Symbols). s.latches) c.symbols.ensures.value) (c.all_named_back.ensures named);
    }
