use Rattle.std.proofs.Common.{[], ◌∷◌, ◌++◌, ◌∙◌, ap, ap₂, sym}
use Rattle.std.proofs.lemmas.List.{map_more, take_all}
use Rattle.aig_graph.specs.declared.graph.Latch.{Latch}
use Rattle.map_checks.specs.Images.{nexts_of}
use Rattle.map_checks.proofs.leaves.nexts.Goals as goal

pub loop-latch-preserved : goal.loop-latch-preserved
loop-latch-preserved c =
    let within = rw c.latches-latch-items.ensures.value at c.loop-latch-test.true in
    let there = rw c.latches-latch-items.ensures.value at c.latch-item.is in
    c.in_ok-push.ensures.items ∙ ap₂ (λ xs x. xs ++ x ∷ []) c.loop-latch.invariant (ap (λ (latch : Latch). latch.next) there) ∙ sym (map_more (λ (latch : Latch). latch.next) _ _ _ within)

pub returns : goal.returns
returns c =
    let end = rw c.latches-latch-items.ensures.value at c.loop-latch-test.false in
    c.loop-latch.invariant ∙ ap nexts_of (take_all _ _ end)
