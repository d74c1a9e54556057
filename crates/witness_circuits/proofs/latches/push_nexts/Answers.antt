use Rattle.std.proofs.Common.{◌<◌, ◌++◌, ◌∙◌, List, ap, length, map, refl}
use Rattle.std.proofs.lemmas.List.{take_all}
use Rattle.aig_graph.specs.declared.graph.Latch.{Latch}
use Rattle.aig_graph.specs.Graph.{variable}
use Rattle.aig_graph.proofs.PushLaws.{at_item}
use Rattle.map_circuits.specs.Instances.{substitute}
use Rattle.witness_circuits.proofs.PutLaws.{put_after}
use Rattle.witness_circuits.proofs.latches.push_nexts.Goals as goal

pub loop-latch-preserved : goal.loop-latch-preserved
loop-latch-preserved c =
    put_after (λ latch. substitute c.args.instance.now latch.next) _ _ _ _ c.loop-latch-test.true c.latch-item.is c.loop-latch.invariant c.literal.ensures c.in_ok-push.ensures.items

pub literal-requires : goal.literal-requires
literal-requires c = at_item _ _ _ (λ (latch : Latch). variable latch.next < length c.args.instance.now) _ refl c.loop-latch-test.true c.latch-item.is c.requires

pub returns : goal.returns
returns c =
    c.loop-latch.invariant ∙ ap (λ (ls : List Latch). c.args.nexts.now.items ++ map (λ (latch : Latch). substitute c.args.instance.now latch.next) ls) (take_all _ _ c.loop-latch-test.false)
