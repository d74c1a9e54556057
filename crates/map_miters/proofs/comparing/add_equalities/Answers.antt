use Rattle.std.proofs.Common.{ℕ, List, ◌<◌, ◌≡◌, get_or, arith, length, sym, subst}
use Rattle.aig_graph.specs.Graph.{Graph, IsLiteralOf}
use Rattle.map_circuits.proofs.ConstrainingLaws.{read-entry}
use Rattle.map_circuits.proofs.GrowingLaws.{extends-itself, extends-transitive}
use Rattle.map_miters.specs.Comparing.{AreEqualities}
use Rattle.map_miters.proofs.ComparingLaws.{equal-more, equal-none}
use Rattle.map_miters.proofs.comparing.add_equalities.Goals as goal

pub loop-place-init : goal.loop-place-init
loop-place-init c = record {
  extends = extends-itself c.args.gates.now c.requires.graph;
  pairs = subst (λ (ls : List ℕ). AreEqualities c.args.gates.now c.args.gates.now c.args.a.now c.args.b.now 0 ls) (sym c.new-equal.ensures.items) (equal-none c.args.gates.now c.args.a.now c.args.b.now);
}

pub add_equality-requires-clause-graph : goal.add_equality-requires-clause-graph
add_equality-requires-clause-graph c = c.loop-place.invariant.extends.graph

pub add_equality-requires-clause-a : goal.add_equality-requires-clause-a
add_equality-requires-clause-a c =
    let xs : List ℕ = c.args.a.now in
    let k : ℕ = c.loop-place.place in
    let h : Graph = c.loop-place.gates in
    let here : IsLiteralOf h (get_or xs k 0) = c.loop-place.invariant.extends.literals (get_or xs k 0) (c.requires.a k 0 c.loop-place-test.true) in
    subst (λ (l : ℕ). IsLiteralOf h l) (sym (read-entry xs k c.index-a-place.result c.loop-place-test.true c.index-a-place.is)) here

pub add_equality-requires-clause-b : goal.add_equality-requires-clause-b
add_equality-requires-clause-b c =
    let xs : List ℕ = c.args.b.now in
    let k : ℕ = c.loop-place.place in
    let h : Graph = c.loop-place.gates in
    let short : k < length xs = omega (arith, c.loop-place-test.true, c.requires.long) in
    let here : IsLiteralOf h (get_or xs k 0) = c.loop-place.invariant.extends.literals (get_or xs k 0) (c.requires.b k 0 short) in
    subst (λ (l : ℕ). IsLiteralOf h l) (sym (read-entry xs k c.index-b-place.result short c.index-b-place.is)) here

pub loop-place-preserved : goal.loop-place-preserved
loop-place-preserved c =
    let g : Graph = c.args.gates.now in
    let h : Graph = c.loop-place.gates in
    let i : Graph = c.add_equality.new.gates in
    let xs : List ℕ = c.args.a.now in
    let ys : List ℕ = c.args.b.now in
    let k : ℕ = c.loop-place.place in
    let less_b : k < length ys = omega (arith, c.loop-place-test.true, c.requires.long) in
    record {
      extends = extends-transitive g h i c.loop-place.invariant.extends c.in_ok-add_equality.ensures.extends;
      pairs = equal-more g xs ys h i c.loop-place.equal.items c.push.new.self.items k c.index-a-place.result c.index-b-place.result c.in_ok-add_equality.field-0 c.requires.a c.requires.b c.loop-place-test.true less_b
          c.loop-place.invariant.extends c.loop-place.invariant.pairs c.in_ok-add_equality.ensures.extends c.in_ok-add_equality.ensures.is
          (read-entry xs k c.index-a-place.result c.loop-place-test.true c.index-a-place.is) (read-entry ys k c.index-b-place.result less_b c.index-b-place.is) c.in_ok-push.ensures.items;
    }

pub returns-clause-pairs : goal.returns-clause-pairs
returns-clause-pairs c =
    let end : c.loop-place.place ≡ length c.args.a.now = omega (arith, c.loop-place-test.false, c.loop-place.auto.place-end) in
    subst (λ (n : ℕ). AreEqualities c.args.gates.now c.loop-place.gates c.args.a.now c.args.b.now n c.loop-place.equal.items) end c.loop-place.invariant.pairs
