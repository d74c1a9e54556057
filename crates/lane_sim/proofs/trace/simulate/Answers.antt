use Rattle.std.proofs.Common.{subst, sym, ap, ◌∙◌, List, ℕ, map, length, slice_get, ◌*◌, ◌<◌}
use Rattle.std.specs.Option.{IsSomeAnd}
use Rattle.lane_sim.specs.declared.stimulus.InputSequence.{InputSequence}
use Rattle.aig_graph.specs.Graph.{Graph}
use Rattle.aig_graph.specs.Circuits.{AreLiteralsOf}
use Rattle.aig_graph.specs.Streams.{property_literals}
use Rattle.lane_sim.specs.Blocks.{IsBlock, block_of}
use Rattle.aig_graph.proofs.PropsLaws.{properties-within}
use Rattle.lane_sim.proofs.TraceLaws.{recorded-trace}
use Rattle.lane_sim.proofs.trace.simulate.Goals as goal

pub simulate_blocks-requires-after_bounds : goal.simulate_blocks-requires-after_bounds
simulate_blocks-requires-after_bounds g c κs within =
    let literals = c.as_slice.ensures.value ∙ c.in_ok-literals.ensures ∙ ap property_literals c.props.ensures.value in
    subst (λ (graph : Graph). AreLiteralsOf graph c.as_slice.result.now) (sym c.aig.ensures.value)
    (subst (AreLiteralsOf c.args.circuit.now.aig) (sym literals) (properties-within c.args.circuit.now c.props.ensures.netlist))

pub returns : goal.returns
returns g c =
    let literals = c.as_slice.ensures.value ∙ c.in_ok-literals.ensures ∙ ap property_literals c.props.ensures.value in
    let Hold : Graph → List ℕ → List InputSequence → Type 0 = λ graph lits runs. (b : ℕ) → 256 * b < length runs → IsSomeAnd (slice_get c.in_ok-blocks.blocks.items b) (IsBlock graph lits (block_of runs b)) in
    let sequences = c.as_slice-sequences.ensures in
    recorded-trace c.args.circuit.now c.args.stimulus.now c.in_ok-blocks.blocks.items
    (subst (Hold c.args.circuit.now.aig (property_literals c.args.circuit.now.props)) sequences
    (subst (λ lits. Hold c.args.circuit.now.aig lits c.as_slice-sequences.result.now) literals
    (subst (λ (graph : Graph). Hold graph c.as_slice.result.now c.as_slice-sequences.result.now) c.aig.ensures.value c.in_ok-blocks.ensures)))
    c.in_ok-steps.steps.items (c.in_ok-steps.ensures ∙ ap (map (λ s. length s.steps)) sequences)
