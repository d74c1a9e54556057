use Rattle.std.proofs.Common.{ℕ, List, get_or, arith, sym, subst, refl}
use Rattle.aig_graph.specs.Graph.{Graph, IsLiteralOf}
use Rattle.map_circuits.proofs.ConstrainingLaws.{read-entry}
use Rattle.map_circuits.proofs.GrowingLaws.{extends-itself, extends-transitive}
use Rattle.map_circuits.proofs.ConjunctionLaws.{first-all, first-more, first-none}
use Rattle.map_circuits.proofs.conjunctions.add_conjunction_of.Goals as goal

pub loop-lit-init : goal.loop-lit-init
loop-lit-init c = record {
  extends = extends-itself c.args.gates.now c.requires.graph;
  first = first-none c.args.gates.now c.args.lits.now 1 c.requires.graph refl;
}

pub loop-lit-preserved : goal.loop-lit-preserved
loop-lit-preserved c =
    let g : Graph = c.args.gates.now in
    let h : Graph = c.loop-lit.gates in
    let i : Graph = c.add_both.new.gates in
    let lits : List ℕ = c.args.lits.now in
    let k : ℕ = c.loop-lit.lit-index in
    record {
      extends = extends-transitive g h i c.loop-lit.invariant.extends c.in_ok-all.ensures.extends;
      first = first-more g h i lits k c.loop-lit.all c.in_ok-all.all c.lit-item.result c.loop-lit.invariant.extends c.requires.within c.loop-lit-test.true (read-entry lits k c.lit-item.result c.loop-lit-test.true c.lit-item.is) c.in_ok-all.ensures.extends c.loop-lit.invariant.first
          c.in_ok-all.ensures.is;
    }

pub returns-clause-all : goal.returns-clause-all
returns-clause-all c =
    first-all c.loop-lit.gates c.args.lits.now c.loop-lit.lit-index c.loop-lit.all (omega (arith, c.loop-lit-test.false, c.loop-lit.auto.lit-index-end)) c.loop-lit.invariant.first

pub add_both-requires-clause-a : goal.add_both-requires-clause-a
add_both-requires-clause-a c = c.loop-lit.invariant.first.within

pub add_both-requires-clause-b : goal.add_both-requires-clause-b
add_both-requires-clause-b c =
    let lits : List ℕ = c.args.lits.now in
    let k : ℕ = c.loop-lit.lit-index in
    let h : Graph = c.loop-lit.gates in
    let here : IsLiteralOf h (get_or lits k 0) = c.loop-lit.invariant.extends.literals (get_or lits k 0) (c.requires.within k 0 c.loop-lit-test.true) in
    subst (λ (l : ℕ). IsLiteralOf h l) (sym (read-entry lits k c.lit-item.result c.loop-lit-test.true c.lit-item.is)) here
