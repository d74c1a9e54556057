use Rattle.std.proofs.Common.{◌<◌, ◌∙◌, ap, map}
use Rattle.aig_graph.specs.Graph.{variable}
use Rattle.aig_graph.proofs.PushLaws.{all_taken, at_item, pushed}
use Rattle.aig_graph.proofs.mapping.mapped_literals.Goals as goal

pub literal-requires : goal.literal-requires
literal-requires g c = at_item _ _ _ (λ lit. variable lit < g.S.Substitute.known c.args.stands.now) _ c.as_slice-lit-items.ensures c.loop-lit-test.true c.lit-item.is c.requires

pub loop-lit-preserved : goal.loop-lit-preserved
loop-lit-preserved g c =
    pushed _ _ _ (g.S.Substitute.literal_of c.args.stands.now) _ c.as_slice-lit-items.ensures c.loop-lit-test.true c.lit-item.is c.loop-lit.invariant c.literal.ensures c.in_ok-push.ensures.items

pub returns : goal.returns
returns g c =
    c.from_vec.ensures ∙ c.loop-lit.invariant
    ∙ ap (map (g.S.Substitute.literal_of c.args.stands.now)) (all_taken _ _ _ c.as_slice-lit-items.ensures c.loop-lit-test.false)
