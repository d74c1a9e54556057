use Rattle.std.proofs.Common.{[], ◌<◌, ◌∷◌, ◌++◌, ◌∙◌, ap, ap₂, sym, subst, map, length}
use Rattle.std.proofs.lemmas.List.{map_more, take_all}
use Rattle.aig_graph.specs.declared.graph.Latch.{Latch}
use Rattle.aig_graph.specs.Graph.{variable}
use Rattle.cleaned_circuits.specs.Merged.{replaced_latch}
use Rattle.clean.proofs.merged.replaced_latches.Goals as goal

pub latch-requires : goal.latch-requires
latch-requires c =
    subst (λ (latch : Latch). variable latch.next < length c.args.substitutes.now) (sym c.latch-item.is) (c.requires c.loop-latch.latch-index c.latch-item.result c.loop-latch-test.true)

pub loop-latch-preserved : goal.loop-latch-preserved
loop-latch-preserved c =
    c.in_ok-push.ensures.items ∙ ap₂ (λ xs x. xs ++ x ∷ []) c.loop-latch.invariant (c.latch.ensures ∙ ap (replaced_latch c.args.substitutes.now) c.latch-item.is)
    ∙ sym (map_more (replaced_latch c.args.substitutes.now) _ _ _ c.loop-latch-test.true)

pub returns : goal.returns
returns c = c.loop-latch.invariant ∙ ap (map (replaced_latch c.args.substitutes.now)) (take_all _ _ c.loop-latch-test.false)
