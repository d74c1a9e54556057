use Rattle.std.proofs.Common.{◌≡◌, ℕ, nat_lt, true, ap, ◌∙◌}
use Rattle.std.proofs.lemmas.Bool.{ltb-true}
use Rattle.unit_flows.proofs.MarkLaws.{within-before, within-after}
use Rattle.unit_flows.proofs.marks.mark_gate.Goals as goal

pub returns-clause-within : goal.returns-clause-within
returns-clause-within c = λ b a tails within.
    let first : ℕ = c.args.first in
    let here : b c.args.var ≡ true = c.requires.reached b a tails within in
    let own = within-before first c.args.var c.args.before.now c.mark_covered.new.marks c.args.after.now true b a within c.mark_covered.ensures (λ t. here) in
    let through = within-after first c.args.var c.args.after.now c.mark_covered-2.new.marks c.mark_covered.new.marks c.args.flow.now.through b a own c.mark_covered-2.ensures (λ t. tails.back here t) in
    let smaller_after = within-after first c.var-smaller.result c.mark_covered-2.new.marks c.mark_covered-3.new.marks c.mark_covered.new.marks true b a through c.mark_covered-3.ensures
    (λ t. ap a c.var-smaller.ensures.variable ∙ tails.first_reads here) in
    let larger_after = within-after first c.var-larger.result c.mark_covered-3.new.marks c.mark_covered-4.new.marks c.mark_covered.new.marks true b a smaller_after c.mark_covered-4.ensures
    (λ t. ap a c.var-larger.ensures.variable ∙ tails.second_reads here) in
    let smaller_before = within-before first c.var-smaller.result c.mark_covered.new.marks c.mark_covered-5.new.marks c.mark_covered-4.new.marks (nat_lt 0 c.args.flow.now.first_down) b a larger_after c.mark_covered-5.ensures
    (λ t. ap b c.var-smaller.ensures.variable ∙ tails.first_back here (ltb-true 0 c.args.flow.now.first_down t)) in
    within-before first c.var-larger.result c.mark_covered-5.new.marks c.mark_covered-6.new.marks c.mark_covered-4.new.marks (nat_lt 0 c.args.flow.now.second_down) b a smaller_before c.mark_covered-6.ensures
    (λ t. ap b c.var-larger.ensures.variable ∙ tails.second_back here (ltb-true 0 c.args.flow.now.second_down t))
