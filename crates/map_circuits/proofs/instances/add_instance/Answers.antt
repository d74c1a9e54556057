use Rattle.std.proofs.Common.{◌≡◌, ◌∙◌, ◌+◌, List, Some, ℕ, arith, ap, sym, refl, subst, length, slice_get}
use Rattle.std.proofs.lemmas.Option.{slice_get_read}
use Rattle.aig_graph.specs.declared.graph.Gate.{Gate}
use Rattle.aig_graph.specs.Graph.{Graph, IsLiteralOf, variables_end, first_gate}
use Rattle.map_circuits.specs.Growing.{IsConjunction}
use Rattle.map_circuits.proofs.GrowingLaws.{extends-itself, extends-transitive}
use Rattle.map_circuits.specs.Instances.{StandTo, substitute}
use Rattle.map_circuits.proofs.InstanceLaws.{fan-ins-there, substitute-more, substitute-start, substitute-within}
use Rattle.map_circuits.proofs.instances.add_instance.Goals as goal

pub loop-gate-init : goal.loop-gate-init
loop-gate-init c = record {
  extends = extends-itself c.args.gates.now c.requires.graph;
  substitutes = substitute-start c.args.gates.now c.args.aig.now c.args.leaves c.gates-gate-items.ensures.graph c.requires.many c.requires.within;
}

pub literal-a-requires : goal.literal-a-requires
literal-a-requires c =
    let g : Graph = c.args.aig.now in
    let k : ℕ = c.loop-gate.gate-index in
    let items : List Gate = c.gates-gate-items.result.now in
    let gate : Gate = c.gate-item.result in
    let there : slice_get g.gates k ≡ Some gate =
    ap (λ (xs : List Gate). slice_get xs k) (sym c.gates-gate-items.ensures.value) ∙ slice_get_read items (length items) k gate refl c.loop-gate-test.true c.gate-item.is in
    let ins = fan-ins-there c.args.gates.now g c.args.leaves c.gates-gate-items.ensures.graph k gate there in
    omega (arith, ins.0, c.loop-gate.invariant.substitutes.many)

pub literal-b-requires : goal.literal-b-requires
literal-b-requires c =
    let g : Graph = c.args.aig.now in
    let k : ℕ = c.loop-gate.gate-index in
    let items : List Gate = c.gates-gate-items.result.now in
    let gate : Gate = c.gate-item.result in
    let there : slice_get g.gates k ≡ Some gate =
    ap (λ (xs : List Gate). slice_get xs k) (sym c.gates-gate-items.ensures.value) ∙ slice_get_read items (length items) k gate refl c.loop-gate-test.true c.gate-item.is in
    let ins = fan-ins-there c.args.gates.now g c.args.leaves c.gates-gate-items.ensures.graph k gate there in
    omega (arith, ins.1, c.loop-gate.invariant.substitutes.many)

pub add_conjunction-requires-clause-a : goal.add_conjunction-requires-clause-a
add_conjunction-requires-clause-a c =
    let g : Graph = c.args.aig.now in
    let k : ℕ = c.loop-gate.gate-index in
    let items : List Gate = c.gates-gate-items.result.now in
    let gate : Gate = c.gate-item.result in
    let there : slice_get g.gates k ≡ Some gate =
    ap (λ (xs : List Gate). slice_get xs k) (sym c.gates-gate-items.ensures.value) ∙ slice_get_read items (length items) k gate refl c.loop-gate-test.true c.gate-item.is in
    let ins = fan-ins-there c.args.gates.now g c.args.leaves c.gates-gate-items.ensures.graph k gate there in
    let within : IsLiteralOf c.loop-gate.gates (substitute c.loop-gate.instance gate.rhs0) =
    substitute-within c.loop-gate.gates c.loop-gate.instance gate.rhs0 c.loop-gate.invariant.substitutes.within (omega (arith, ins.0, c.loop-gate.invariant.substitutes.many)) in
    subst (λ (l : ℕ). IsLiteralOf c.loop-gate.gates l) (sym c.literal-a.ensures) within

pub add_conjunction-requires-clause-b : goal.add_conjunction-requires-clause-b
add_conjunction-requires-clause-b c =
    let g : Graph = c.args.aig.now in
    let k : ℕ = c.loop-gate.gate-index in
    let items : List Gate = c.gates-gate-items.result.now in
    let gate : Gate = c.gate-item.result in
    let there : slice_get g.gates k ≡ Some gate =
    ap (λ (xs : List Gate). slice_get xs k) (sym c.gates-gate-items.ensures.value) ∙ slice_get_read items (length items) k gate refl c.loop-gate-test.true c.gate-item.is in
    let ins = fan-ins-there c.args.gates.now g c.args.leaves c.gates-gate-items.ensures.graph k gate there in
    let within : IsLiteralOf c.loop-gate.gates (substitute c.loop-gate.instance gate.rhs1) =
    substitute-within c.loop-gate.gates c.loop-gate.instance gate.rhs1 c.loop-gate.invariant.substitutes.within (omega (arith, ins.1, c.loop-gate.invariant.substitutes.many)) in
    subst (λ (l : ℕ). IsLiteralOf c.loop-gate.gates l) (sym c.literal-b.ensures) within

pub loop-gate-preserved : goal.loop-gate-preserved
loop-gate-preserved c =
    let old : Graph = c.args.gates.now in
    let h : Graph = c.loop-gate.gates in
    let i : Graph = c.add_conjunction.new.gates in
    let literals : List ℕ = c.loop-gate.instance in
    let lit : ℕ = c.in_ok-lit.lit in
    let g : Graph = c.args.aig.now in
    let k : ℕ = c.loop-gate.gate-index in
    let items : List Gate = c.gates-gate-items.result.now in
    let gate : Gate = c.gate-item.result in
    let there : slice_get g.gates k ≡ Some gate =
    ap (λ (xs : List Gate). slice_get xs k) (sym c.gates-gate-items.ensures.value) ∙ slice_get_read items (length items) k gate refl c.loop-gate-test.true c.gate-item.is in
    let ins = fan-ins-there c.args.gates.now g c.args.leaves c.gates-gate-items.ensures.graph k gate there in
    let P : ℕ → ℕ → Type 0 = λ a b. IsConjunction i a b lit in
    let is : P (substitute literals gate.rhs0) (substitute literals gate.rhs1) =
    subst (λ (b : ℕ). P (substitute literals gate.rhs0) b) c.literal-b.ensures (subst (λ (a : ℕ). P a c.literal-b.result) c.literal-a.ensures c.in_ok-lit.ensures.is) in
    record {
      extends = extends-transitive old h i c.loop-gate.invariant.extends c.in_ok-lit.ensures.extends;
      substitutes = substitute-more old g c.args.leaves c.gates-gate-items.ensures.graph h i literals c.push.new.self k lit gate there c.loop-gate.invariant.extends.graph c.loop-gate.invariant.substitutes
          c.in_ok-lit.ensures.extends is c.in_ok-push.ensures;
    }

pub returns-clause-is : goal.returns-clause-is
returns-clause-is c =
    let g : Graph = c.args.aig.now in
    let end : first_gate g + c.loop-gate.gate-index ≡ variables_end g =
    omega (arith, c.loop-gate-test.false, c.loop-gate.auto.gate-index-end, ap (λ (xs : List Gate). length xs) c.gates-gate-items.ensures.value) in
    subst (λ (n : ℕ). StandTo c.args.gates.now g c.args.leaves n c.loop-gate.gates c.loop-gate.instance) end c.loop-gate.invariant.substitutes
