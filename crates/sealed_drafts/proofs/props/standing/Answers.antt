use Rattle.std.proofs.Common.{ℕ, ◌≡◌, ◌+◌, ◌∙◌, List, arith, sym, subst, ap}
use Rattle.aig_graph.specs.Graph.{first_latch}
use Rattle.clean.specs.Substitutions.{own_literals}
use Rattle.sealed_drafts.specs.Sealed.{AreStanding}
use Rattle.sealed_drafts.proofs.StandingLaws.{standing-more, standing-own}
use Rattle.sealed_drafts.proofs.props.standing.Goals as goal

pub loop-literal-init : goal.loop-literal-init
loop-literal-init c =
    let first : ℕ = first_latch c.args.aig.now in
    let none : first + 0 ≡ first = omega arith in
    subst (λ (n : ℕ). AreStanding n c.args.end c.in_ok-all.all) (sym none)
    (subst (λ (xs : List ℕ). AreStanding first c.args.end xs) (sym (c.in_ok-all.ensures ∙ ap (λ (n : ℕ). own_literals n) c.first_latch.ensures.value)) (standing-own first c.args.end c.requires.inputs))

pub loop-literal-preserved : goal.loop-literal-preserved
loop-literal-preserved c =
    let first : ℕ = first_latch c.args.aig.now in
    let k : ℕ = c.loop-literal.literal-index in
    let place : (first + k) + 1 ≡ first + (k + 1) = omega arith in
    subst (λ (n : ℕ). AreStanding n c.args.end c.push.new.self) place
    (subst (λ (xs : List ℕ). AreStanding ((first + k) + 1) c.args.end xs) (sym c.in_ok-push.ensures)
    (standing-more (first + k) c.args.end c.loop-literal.all c.in_ok-literal_below.field-0 c.loop-literal.invariant c.in_ok-literal_below.ensures))
