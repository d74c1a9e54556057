use Rattle.std.proofs.Common.{◌≡◌, ℕ, true, not, ap, ◌∙◌}
use Rattle.std.proofs.lemmas.Bool.{not-true}
use Rattle.unit_flows.proofs.MarkLaws.{within-before, within-after}
use Rattle.unit_flows.proofs.onward.mark_heads.Goals as goal

pub returns-clause-within : goal.returns-clause-within
returns-clause-within c = λ b a heads within.
    let first : ℕ = c.args.first in
    let here : b c.args.var ≡ true = c.requires b a heads within in
    let own = within-before first c.args.var c.args.before.now c.mark_if.new.marks c.args.after.now true b a within c.mark_if.ensures (λ t. here) in
    let through = within-after first c.args.var c.args.after.now c.mark_if-2.new.marks c.mark_if.new.marks (not c.args.flow.now.through) b a own c.mark_if-2.ensures
    (λ t. heads.through here (not-true c.args.flow.now.through t)) in
    let smaller_before = within-before first c.var-smaller.result c.mark_if.new.marks c.mark_if-3.new.marks c.mark_if-2.new.marks true b a through c.mark_if-3.ensures
    (λ t. ap b c.var-smaller.ensures.variable ∙ heads.first_on here) in
    let larger_before = within-before first c.var-larger.result c.mark_if-3.new.marks c.mark_if-4.new.marks c.mark_if-2.new.marks true b a smaller_before c.mark_if-4.ensures
    (λ t. ap b c.var-larger.ensures.variable ∙ heads.second_on here) in
    let smaller_after = within-after first c.var-smaller.result c.mark_if-2.new.marks c.mark_if-5.new.marks c.mark_if-4.new.marks c.args.flow.now.first_up b a larger_before c.mark_if-5.ensures
    (λ t. ap a c.var-smaller.ensures.variable ∙ heads.first_home here t) in
    within-after first c.var-larger.result c.mark_if-5.new.marks c.mark_if-6.new.marks c.mark_if-4.new.marks c.args.flow.now.second_up b a smaller_after c.mark_if-6.ensures
    (λ t. ap a c.var-larger.ensures.variable ∙ heads.second_home here t)
