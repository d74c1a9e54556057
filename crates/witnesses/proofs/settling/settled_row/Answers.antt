use Rattle.std.proofs.Common.{[], ◌∷◌, ◌++◌, ◌∙◌, ap, ap₂, map, sym}
use Rattle.std.proofs.lemmas.List.{map_more, take_all}
use Rattle.witnesses.specs.Runs.{taken_digit}
use Rattle.witnesses.proofs.settling.settled_row.Goals as goal

pub loop-digit-preserved : goal.loop-digit-preserved
loop-digit-preserved c =
    c.in_ok-push.ensures.items ∙ ap₂ (λ xs x. xs ++ x ∷ []) c.loop-digit.invariant c.settled.ensures ∙ sym (map_more taken_digit c.args.digits.now _ _ c.loop-digit-test.true)

pub returns : goal.returns
returns c = c.from_vec.ensures ∙ c.loop-digit.invariant ∙ ap (map taken_digit) (take_all _ _ c.loop-digit-test.false)
