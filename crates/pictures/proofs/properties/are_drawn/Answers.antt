use Rattle.std.proofs.Common.{ℕ, ◌≡◌, ◌∙◌, true, List, ap, refl, subst, sym}
use Rattle.std.proofs.lemmas.List.{take_all}
use Rattle.aig_graph.specs.Graph.{variable}
use Rattle.pictures.specs.Pictures.{are_drawn}
use Rattle.pictures.specs.Views.{drawn_in, look_in}
use Rattle.pictures.proofs.SearchLaws.{all-fails, all-more}
use Rattle.pictures.proofs.properties.are_drawn.Goals as goal

pub loop-lit-init : goal.loop-lit-init
loop-lit-init c = refl

pub loop-lit-preserved : goal.loop-lit-preserved
loop-lit-preserved c =
    all-more (λ lit. drawn_in c.args.view.now (variable lit)) c.args.lits.now c.loop-lit.lit-index c.lit-item.result c.loop-lit-test.true c.lit-item.is c.loop-lit.invariant
    (ap (drawn_in c.args.view.now) (sym c.var.ensures.variable) ∙ sym c.draws.ensures ∙ c.if-not-draws.false)

pub returns-then-not-draws : goal.returns-then-not-draws
returns-then-not-draws c =
    sym (all-fails (λ lit. drawn_in c.args.view.now (variable lit)) c.args.lits.now c.loop-lit.lit-index c.lit-item.result c.loop-lit-test.true c.lit-item.is
    (ap (drawn_in c.args.view.now) (sym c.var.ensures.variable) ∙ sym c.draws.ensures ∙ c.if-not-draws.true))

pub returns : goal.returns
returns c = sym (subst (λ (lits : List ℕ). are_drawn (look_in c.args.view.now) (drawn_in c.args.view.now) lits ≡ true) (take_all _ _ c.loop-lit-test.false) c.loop-lit.invariant)
