use Rattle.std.proofs.Common.{◌+◌, ◌<◌, ◌∙◌, List, ap, filter, length, map}
use Rattle.aig_graph.specs.declared.properties.Symbol.{Symbol}
use Rattle.aig_graph.specs.Graph.{first_latch}
use Rattle.aig_graph.proofs.PushLaws.{all_taken, at_item}
use Rattle.cleaned_circuits.specs.Trimmed.{new_name}
use Rattle.clean.specs.Sweep.{is_marked}
use Rattle.clean.proofs.names.latch_names.Goals as goal

pub keeps_latch-requires : goal.keeps_latch-requires
keeps_latch-requires c =
    at_item _ _ _ (λ (name : Symbol). name.position < length c.args.trim.now.aig.now.latches) _ c.as_slice-name-items.ensures c.loop-name-test.true c.name-item.is c.requires

pub new_position-requires : goal.new_position-requires
new_position-requires c =
    at_item _ _ _ (λ (name : Symbol). name.position < length c.args.trim.now.aig.now.latches) _ c.as_slice-name-items.ensures c.loop-name-test.true c.name-item.is c.requires

pub returns : goal.returns
returns c =
    c.from_vec.ensures ∙ c.loop-name.invariant
    ∙ ap (λ (names : List Symbol). map (new_name c.args.trim.now.aig.now (is_marked c.args.trim.now.reached.now)) (filter (λ (name : Symbol). is_marked c.args.trim.now.reached.now (first_latch c.args.trim.now.aig.now + name.position)) names))
    (all_taken _ _ _ c.as_slice-name-items.ensures c.loop-name-test.false)
