use Rattle.map_circuits.specs.Instances.{substitute}
use Rattle.witness_circuits.proofs.PutLaws.{put_after, put_all}
use Rattle.witness_circuits.proofs.literals.push_substitutes.Goals as goal

pub loop-lit-preserved : goal.loop-lit-preserved
loop-lit-preserved c = put_after (substitute c.args.instance.now) _ _ _ _ c.loop-lit-test.true c.lit-item.is c.loop-lit.invariant c.literal.ensures c.in_ok-push.ensures.items

pub returns : goal.returns
returns c = put_all (substitute c.args.instance.now) _ _ _ _ c.loop-lit-test.false c.loop-lit.invariant
