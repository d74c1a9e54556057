use Rattle.std.proofs.Common.{◌<◌, ◌∙◌, List, ap, filter, length, map, refl}
use Rattle.std.proofs.lemmas.List.{take_all}
use Rattle.aig_graph.specs.declared.properties.Symbol.{Symbol}
use Rattle.aig_graph.proofs.PushLaws.{at_item}
use Rattle.rebuild.specs.Moved.{moved_name, stays}
use Rattle.rebuild.specs.Planned.{planned}
use Rattle.rebuild.proofs.names.staying_names.Goals as goal

pub staying_position-requires : goal.staying_position-requires
staying_position-requires c =
    at_item _ _ _ (λ (name : Symbol). name.position < length (planned c.args.plan.now).circuit.aig.latches) _ refl c.loop-name-test.true c.name-item.is c.requires

pub returns : goal.returns
returns c =
    c.from_vec.ensures ∙ c.loop-name.invariant
    ∙ ap (λ (names : List Symbol). map (moved_name (planned c.args.plan.now)) (filter (stays (planned c.args.plan.now)) names)) (take_all _ _ c.loop-name-test.false)
