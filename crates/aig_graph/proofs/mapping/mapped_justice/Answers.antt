use Rattle.std.proofs.Common.{◌<◌, ◌∙◌, ap, map}
use Rattle.std.specs.List.{All}
use Rattle.aig_graph.specs.Graph.{variable}
use Rattle.aig_graph.proofs.PushLaws.{all_taken, at_item, pushed}
use Rattle.aig_graph.proofs.mapping.mapped_justice.Goals as goal

pub mapped_literals-requires : goal.mapped_literals-requires
mapped_literals-requires g c =
    at_item _ _ _ (λ lits. All (λ lit. variable lit < g.S.Substitute.known c.args.stands.now) lits) _ c.as_slice-lits-items.ensures c.loop-lits-test.true c.lits-item.is c.requires

pub loop-lits-preserved : goal.loop-lits-preserved
loop-lits-preserved g c =
    pushed _ _ _ (map (g.S.Substitute.literal_of c.args.stands.now)) _ c.as_slice-lits-items.ensures c.loop-lits-test.true c.lits-item.is c.loop-lits.invariant
    c.in_ok-mapped_literals.ensures c.in_ok-push.ensures.items

pub returns : goal.returns
returns g c =
    c.from_vec.ensures ∙ c.loop-lits.invariant
    ∙ ap (map (map (g.S.Substitute.literal_of c.args.stands.now))) (all_taken _ _ _ c.as_slice-lits-items.ensures c.loop-lits-test.false)
