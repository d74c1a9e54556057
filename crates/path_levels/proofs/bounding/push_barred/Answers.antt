use Rattle.std.proofs.Common.{ℕ, ◌∙◌, ◌++◌, ap, List}
use Rattle.std.specs.List.{enumerate_from, flat_map}
use Rattle.std.proofs.lemmas.List.{take_all}
use Rattle.std.proofs.lemmas.List.FromFn.{length-enumerate_from}
use Rattle.aig_graph.specs.Marking.{mark_at}
use Rattle.aig_graph.specs.declared.graph.Gate.{Gate}
use Rattle.path_levels.specs.Bounded.{reads_barred}
use Rattle.path_levels.proofs.MarkedLaws.{reads-more}
use Rattle.path_levels.proofs.bounding.push_barred.Goals as goal

pub loop-k-preserved : goal.loop-k-preserved
loop-k-preserved c =
    reads-more (mark_at c.args.first c.args.barred.now) c.args.first c.loop-k.k c.index-gates-k.result c.args.gates.now c.args.outputs.now.items c.loop-k.outputs.items c.push_reads.new.outputs.items c.mark_at.result
    c.loop-k-test.true c.index-gates-k.is c.loop-k.invariant c.in_ok-push_reads.ensures c.mark_at.ensures

pub returns : goal.returns
returns c =
    c.loop-k.invariant
    ∙ ap (λ (es : List (ℕ × Gate)). c.args.outputs.now.items ++ flat_map (λ (e : ℕ × Gate). reads_barred (mark_at c.args.first c.args.barred.now e.0) e.1) es)
    (take_all c.loop-k.k (enumerate_from c.args.first c.args.gates.now) (rw length-enumerate_from c.loop-k-test.false))
