use Rattle.std.proofs.Common.{[], ◌∷◌, ◌++◌, ◌∙◌, ap, ap₂, length, map, sym}
use Rattle.std.proofs.lemmas.List.{map_more, take_all}
use Rattle.cleaned_circuits.specs.Merged.{replaced_gate}
use Rattle.clean.proofs.MappingLaws.{gate-within}
use Rattle.clean.proofs.merged.replaced_gates.Goals as goal

pub gate-requires-clause-first : goal.gate-requires-clause-first
gate-requires-clause-first c =
    (gate-within c.args.aig.now c.gates-gate-items.result.now c.loop-gate.gate-index (length c.args.substitutes.now) c.gate-item.result
    c.gates-gate-items.ensures.graph c.gates-gate-items.ensures.value c.loop-gate-test.true c.gate-item.is c.requires).0

pub gate-requires-clause-second : goal.gate-requires-clause-second
gate-requires-clause-second c =
    (gate-within c.args.aig.now c.gates-gate-items.result.now c.loop-gate.gate-index (length c.args.substitutes.now) c.gate-item.result
    c.gates-gate-items.ensures.graph c.gates-gate-items.ensures.value c.loop-gate-test.true c.gate-item.is c.requires).1

pub loop-gate-preserved : goal.loop-gate-preserved
loop-gate-preserved c =
    let within = rw c.gates-gate-items.ensures.value at c.loop-gate-test.true in
    let there = rw c.gates-gate-items.ensures.value at c.gate-item.is in
    c.in_ok-push.ensures.items ∙ ap₂ (λ xs x. xs ++ x ∷ []) c.loop-gate.invariant (c.gate.ensures ∙ ap (replaced_gate c.args.substitutes.now) there)
    ∙ sym (map_more (replaced_gate c.args.substitutes.now) _ _ _ within)

pub returns : goal.returns
returns c =
    let end = rw c.gates-gate-items.ensures.value at c.loop-gate-test.false in
    c.loop-gate.invariant ∙ ap (map (replaced_gate c.args.substitutes.now)) (take_all _ _ end)
