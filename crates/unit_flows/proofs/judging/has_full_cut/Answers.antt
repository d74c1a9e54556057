use Rattle.std.proofs.Common.{◌∙◌, ap, length, sym}
use Rattle.aig_graph.specs.Graph.{Graph}
use Rattle.unit_flows.proofs.judging.has_full_cut.Goals as goal

pub tally-requires-clause-flows : goal.tally-requires-clause-flows
tally-requires-clause-flows c = c.requires.flows ∙ ap length (ap (λ (g : Graph). g.gates) (sym c.aig.ensures.value))

pub places_hold-requires-clause-flows : goal.places_hold-requires-clause-flows
places_hold-requires-clause-flows c = c.requires.flows

pub places_hold-requires-clause-before : goal.places_hold-requires-clause-before
places_hold-requires-clause-before c = ap length c.as_slice-before.ensures.value ∙ c.requires.before

pub places_hold-requires-clause-after : goal.places_hold-requires-clause-after
places_hold-requires-clause-after c = ap length c.as_slice-after.ensures.value ∙ c.requires.after

pub gates_hold-requires-clause-flows : goal.gates_hold-requires-clause-flows
gates_hold-requires-clause-flows c = c.requires.flows

pub gates_hold-requires-clause-before : goal.gates_hold-requires-clause-before
gates_hold-requires-clause-before c = ap length c.as_slice-before.ensures.value ∙ c.requires.before

pub gates_hold-requires-clause-after : goal.gates_hold-requires-clause-after
gates_hold-requires-clause-after c = ap length c.as_slice-after.ensures.value ∙ c.requires.after
