use Rattle.std.proofs.Common.{ap, sym, ◌∙◌, ◌+◌, ◌<◌, length}
use Rattle.std.specs.List.{enumerate_from}
use Rattle.std.proofs.lemmas.List.FromFn.{length-enumerate_from, get_or-enumerate_from}
use Rattle.aig_graph.specs.declared.graph.Latch.{Latch}
use Rattle.aig_graph.specs.Marking.{mark_at}
use Rattle.aig_graph.proofs.MarkingLaws.{Marks-more, Marks-all}
use Rattle.pictures.specs.Near.{latch_meets}
use Rattle.pictures.proofs.near.mark_latches.Goals as goal

pub loop-k-preserved : goal.loop-k-preserved
loop-k-preserved c =
    let items = enumerate_from c.args.first c.args.latches.now in
    let item = c.index-latches-k.result in
    let long : c.loop-k.k < length items = rw length-enumerate_from c.loop-k-test.true in
    Marks-more (latch_meets (mark_at 0 c.args.near.now)) items c.loop-k.k (c.args.first + c.loop-k.k, item) 0 _ _ _ long
    (ap (λ (x : Latch). (c.args.first + c.loop-k.k, x)) c.index-latches-k.is
    ∙ sym (get_or-enumerate_from c.args.first c.args.latches.now c.loop-k.k (c.args.first + c.loop-k.k, item) c.loop-k-test.true))
    c.loop-k.invariant c.mark_latch.ensures

pub returns : goal.returns
returns c = Marks-all (latch_meets (mark_at 0 c.args.near.now)) _ c.loop-k.k 0 _ _ (rw length-enumerate_from c.loop-k-test.false) c.loop-k.invariant
