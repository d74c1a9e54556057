use Rattle.std.proofs.Common.{◌∙◌, ap}
use Rattle.map_circuits.specs.Instances.{substitute}
use Rattle.witness_circuits.specs.Literals.{negated}
use Rattle.witness_circuits.proofs.PutLaws.{put_after, put_all}
use Rattle.witness_circuits.proofs.literals.push_negations.Goals as goal

pub loop-lit-preserved : goal.loop-lit-preserved
loop-lit-preserved c =
    put_after (λ lit. negated (substitute c.args.instance.now lit)) _ _ _ _ c.loop-lit-test.true c.lit-item.is c.loop-lit.invariant
    (c.signed_as.ensures ∙ ap negated c.literal.ensures) c.in_ok-push.ensures.items

pub returns : goal.returns
returns c = put_all (λ lit. negated (substitute c.args.instance.now lit)) _ _ _ _ c.loop-lit-test.false c.loop-lit.invariant
