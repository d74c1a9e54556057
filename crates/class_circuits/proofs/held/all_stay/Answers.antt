use Rattle.std.proofs.Common.{ℕ, List, ap, subst, ◌∙◌}
use Rattle.std.specs.List.{All, Contains}
use Rattle.aig_graph.specs.declared.properties.Symbol.{Symbol}
use Rattle.aig_graph.specs.declared.properties.Symbols.{Symbols}
use Rattle.class_circuits.specs.MovedOn.{IsHeldOn, IsNamedOn}
use Rattle.class_circuits.proofs.held.all_stay.Goals as goal

pub returns-then-all_held_on : goal.returns-then-all_held_on
returns-then-all_held_on c = λ named.
    let held : List ℕ = c.args.keep.now in
    let P : ℕ → Type 0 = λ k. IsHeldOn c.args.circuit.now c.args.after.now c.args.map.now k in
    let Q : Symbol → Type 0 = λ s. Contains held s.position → IsNamedOn c.args.after.now c.args.map.now s in
    record {
      latches = subst (λ (places : List ℕ). All P places) c.positions.ensures.value (c.all_held_on.ensures c.if-all_held_on.true);
      names = subst (λ (names : List Symbol). All Q names) (c.as_slice-names.ensures ∙ ap (λ (s : Symbols). s.latches) c.symbols.ensures.value) (c.all_named_on.ensures named);
    }
