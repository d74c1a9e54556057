use Rattle.std.proofs.Common.{ℕ, List, ◌++◌, ◌∙◌, ap, ap₂, map}
use Rattle.aig_graph.specs.declared.properties.Props.{Props}
use Rattle.map_circuits.specs.Instances.{substitute}
use Rattle.witness_circuits.specs.Literals.{negated}
use Rattle.witness_circuits.specs.Witnesses.{bad_states}
use Rattle.witness_circuits.proofs.CarrierLaws.{bad-within}
use Rattle.witness_circuits.proofs.PropertyLaws.{literals-below}
use Rattle.witness_circuits.proofs.properties.demands_of.Goals as goal

pub push_substitutes-requires : goal.push_substitutes-requires
push_substitutes-requires c =
    literals-below c.args.map.now.aig _ _ _ c.requires.map (c.as_slice.ensures ∙ ap (λ (p : Props). p.constraints) c.props-2.ensures.value) c.known.ensures.netlist.props.constraints

pub push_substitutes-requires-2 : goal.push_substitutes-requires-2
push_substitutes-requires-2 c =
    literals-below c.args.witness.now.aig _ _ _ c.requires.witness (c.as_slice-constraints.ensures ∙ ap (λ (p : Props). p.constraints) c.props.ensures.value) c.known-2.ensures.netlist.props.constraints

pub push_negations-requires : goal.push_negations-requires
push_negations-requires c =
    literals-below c.args.witness.now.aig _ _ _ c.requires.witness (c.bad_states.ensures ∙ ap bad_states c.props-3.ensures.value) (bad-within c.args.witness.now c.known-2.ensures.netlist)

pub returns : goal.returns
returns c =
    let of-map = substitute c.args.parts.now.map in
    let of-witness = substitute c.args.parts.now.witness in
    c.in_ok-push_negations.ensures
    ∙ ap₂ (λ (xs ys : List ℕ). xs ++ map (λ lit. negated (of-witness lit)) ys)
    (c.in_ok-push_substitutes-2.ensures
    ∙ ap₂ (λ (xs ys : List ℕ). xs ++ map of-witness ys)
    (c.in_ok-push_substitutes.ensures
    ∙ ap₂ (λ (xs ys : List ℕ). xs ++ map of-map ys) c.new-demands.ensures.items (c.as_slice.ensures ∙ ap (λ (p : Props). p.constraints) c.props-2.ensures.value))
    (c.as_slice-constraints.ensures ∙ ap (λ (p : Props). p.constraints) c.props.ensures.value))
    (c.bad_states.ensures ∙ ap bad_states c.props-3.ensures.value)
