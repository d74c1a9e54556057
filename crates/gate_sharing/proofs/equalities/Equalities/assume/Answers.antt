use Rattle.std.proofs.Common.{◌∙◌, sym}
use Rattle.std.proofs.lemmas.Result.{on_ok_weaker}
use Rattle.gate_sharing.proofs.equalities.Equalities.assume.Goals as goal

pub returns-then-var : goal.returns-then-var
returns-then-var c = λ values negated same right. c.find-b.ensures.right values negated (c.find-a.ensures.right values negated right)

pub returns-then-lt : goal.returns-then-lt
returns-then-lt c =
    on_ok_weaker c.join.result (λ joins values negated same right.
    let one = c.find-a.ensures.right values negated right in
    joins values negated (c.find-a.ensures.value values negated right ∙ same ∙ sym (c.find-b.ensures.value values negated one)) (c.find-b.ensures.right values negated one)) c.join.ensures

pub returns-else-lt : goal.returns-else-lt
returns-else-lt c =
    on_ok_weaker c.join-else-lt.result (λ joins values negated same right.
    let one = c.find-a.ensures.right values negated right in
    joins values negated (c.find-b.ensures.value values negated one ∙ sym same ∙ sym (c.find-a.ensures.value values negated right)) (c.find-b.ensures.right values negated one)) c.join-else-lt.ensures
