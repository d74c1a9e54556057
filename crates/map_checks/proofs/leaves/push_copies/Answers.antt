use Rattle.std.proofs.Common.{[], ◌∷◌, ◌++◌, ◌∙◌, ap, ap₂, sym, ℕ, List}
use Rattle.std.proofs.lemmas.List.{append_assoc, map_more}
use Rattle.gate_sharing.specs.Copies.{copy_of}
use Rattle.map_checks.proofs.leaves.push_copies.Goals as goal

pub loop-lit-preserved : goal.loop-lit-preserved
loop-lit-preserved c =
    let copy = copy_of c.args.copied.now in
    let before : List ℕ = c.args.literals.now.items in
    c.in_ok-push.ensures.items ∙ ap₂ (λ xs x. xs ++ x ∷ []) c.loop-lit.invariant (c.literal.ensures ∙ ap copy c.lit-item.is)
    ∙ append_assoc before _ _ ∙ ap (λ xs. before ++ xs) (sym (map_more copy _ _ _ c.loop-lit-test.true))
