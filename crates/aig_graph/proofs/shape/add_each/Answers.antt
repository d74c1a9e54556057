use Rattle.std.proofs.Common.{◌++◌, ◌∙◌, ap, refl}
use Rattle.std.specs.List.{flat_map}
use Rattle.aig_graph.proofs.PushLaws.{all_taken, list_added}
use Rattle.aig_graph.proofs.shape.add_each.Goals as goal

pub loop-lits-preserved : goal.loop-lits-preserved
loop-lits-preserved c =
    list_added _ _ _ _ c.loop-lits-test.true c.lits-item.is c.loop-lits.invariant (rw c.as_slice.ensures at c.in_ok-extend_from_slice.ensures.items)

pub returns : goal.returns
returns c = c.loop-lits.invariant ∙ ap (λ xs. c.args.literals.now.items ++ flat_map (λ lits. lits) xs) (all_taken _ _ _ refl c.loop-lits-test.false)
