use Rattle.std.proofs.Common.{ℕ, ◌≡◌, ◌+◌, ◌*◌, List, true, arith, ap, length, subst, sym}
use Rattle.aig_graph.specs.declared.graph.Latch.{Latch}
use Rattle.aig_graph.specs.Circuits.{Netlist, AreLiteralsOf}
use Rattle.aig_graph.specs.Graph.{Graph, first_gate}
use Rattle.map_circuits.specs.Instances.{AreAll}
use Rattle.map_circuits.proofs.GrowingLaws.{extends-transitive}
use Rattle.map_miters.proofs.LeafLaws.{length-resets}
use Rattle.map_miters.proofs.TieLaws.{start-says}
use Rattle.map_miters.proofs.ties.add_start.Goals as goal

pub new-requires : goal.new-requires
new-requires c =
    let a : Netlist = c.args.first.now in
    let d : Netlist = c.args.second.now in
    omega (
      arith,
      c.first_gate.ensures.value,
      ap (λ (h : Graph). first_gate h) c.aig.ensures.value,
      ap (λ (ls : List Latch). length ls) c.latches.ensures.value,
      ap (λ (h : Graph). length h.latches) c.aig-2.ensures.value,
      c.requires.latches.inputs,
      c.requires.latches.latches,
      length-resets a.aig d.aig true,
      c.requires.graph.small,
    )

pub returns-clause-says : goal.returns-clause-says
returns-clause-says c =
    let g : Graph = c.args.gates.now in
    let a : Netlist = c.args.first.now in
    let d : Netlist = c.args.second.now in
    let m : Netlist = c.args.map.now in
    let h1 : Graph = c.add_ties.new.gates in
    let h2 : Graph = c.add_conjunction_of.new.gates in
    let h3 : Graph = c.add_failure.new.gates in
    let more = extends-transitive g h1 h2 c.in_ok-ties.ensures.extends c.in_ok-alike.ensures.extends in
    let all : AreAll h2 c.in_ok-ties.ties.items c.in_ok-alike.alike = subst (λ (ls : List ℕ). AreAll h2 ls c.in_ok-alike.alike) c.as_slice.ensures.value c.in_ok-alike.ensures.all in
    let started : c.new.result ≡ 2 * (1 + a.aig.inputs + length a.aig.latches + length d.aig.latches) + 1 =
    omega (
      arith,
      c.new.ensures,
      c.first_gate.ensures.value,
      ap (λ (h : Graph). first_gate h) c.aig.ensures.value,
      ap (λ (ls : List Latch). length ls) c.latches.ensures.value,
      ap (λ (h : Graph). length h.latches) c.aig-2.ensures.value,
    ) in
    start-says a d m g h1 h2 h3 c.new.result c.in_ok-alike.alike c.in_ok-failure.failure c.not.result c.in_ok-ties.ties.items c.requires.graph c.requires.latches c.in_ok-ties.ensures.ties
    c.in_ok-ties.ensures.extends c.in_ok-alike.ensures.extends all c.in_ok-failure.ensures.extends started c.in_ok-failure.ensures.fails c.not.ensures.same_variable c.not.ensures.other_sign

pub returns-clause-extends : goal.returns-clause-extends
returns-clause-extends c =
    let g : Graph = c.args.gates.now in
    let h1 : Graph = c.add_ties.new.gates in
    let h2 : Graph = c.add_conjunction_of.new.gates in
    let h3 : Graph = c.add_failure.new.gates in
    extends-transitive g h2 h3 (extends-transitive g h1 h2 c.in_ok-ties.ensures.extends c.in_ok-alike.ensures.extends) c.in_ok-failure.ensures.extends

pub overflow_cast-started : goal.overflow_cast-started
overflow_cast-started c =
    omega (
      arith,
      ap (λ (ls : List Latch). length ls) c.latches.ensures.value,
      ap (λ (h : Graph). length h.latches) c.aig-2.ensures.value,
      c.requires.latches.latches,
      length-resets c.args.first.now.aig c.args.second.now.aig true,
      c.requires.graph.small,
    )

pub overflow_add-started : goal.overflow_add-started
overflow_add-started c =
    omega (
      arith,
      c.first_gate.ensures.value,
      ap (λ (h : Graph). first_gate h) c.aig.ensures.value,
      ap (λ (ls : List Latch). length ls) c.latches.ensures.value,
      ap (λ (h : Graph). length h.latches) c.aig-2.ensures.value,
      c.requires.latches.inputs,
      c.requires.latches.latches,
      length-resets c.args.first.now.aig c.args.second.now.aig true,
      c.requires.graph.small,
    )

pub add_ties-requires-clause-graph : goal.add_ties-requires-clause-graph
add_ties-requires-clause-graph c = c.requires.graph

pub add_ties-requires-clause-askable : goal.add_ties-requires-clause-askable
add_ties-requires-clause-askable c = c.requires.askable

pub add_ties-requires-clause-tied : goal.add_ties-requires-clause-tied
add_ties-requires-clause-tied c = c.requires.tied

pub add_ties-requires-clause-latches : goal.add_ties-requires-clause-latches
add_ties-requires-clause-latches c = c.requires.latches

pub add_conjunction_of-requires-clause-graph : goal.add_conjunction_of-requires-clause-graph
add_conjunction_of-requires-clause-graph c = c.in_ok-ties.ensures.extends.graph

pub add_conjunction_of-requires-clause-within : goal.add_conjunction_of-requires-clause-within
add_conjunction_of-requires-clause-within c = subst (λ (ls : List ℕ). AreLiteralsOf c.add_ties.new.gates ls) (sym c.as_slice.ensures.value) c.in_ok-ties.ensures.ties.within

pub add_failure-requires-clause-graph : goal.add_failure-requires-clause-graph
add_failure-requires-clause-graph c = c.in_ok-alike.ensures.extends.graph

pub add_failure-requires-clause-given : goal.add_failure-requires-clause-given
add_failure-requires-clause-given c =
    let more = extends-transitive c.args.gates.now c.add_ties.new.gates c.add_conjunction_of.new.gates c.in_ok-ties.ensures.extends c.in_ok-alike.ensures.extends in
    omega (
      arith,
      c.new.ensures,
      c.first_gate.ensures.value,
      ap (λ (h : Graph). first_gate h) c.aig.ensures.value,
      ap (λ (ls : List Latch). length ls) c.latches.ensures.value,
      ap (λ (h : Graph). length h.latches) c.aig-2.ensures.value,
      more.inputs,
      ap (λ (ls : List Latch). length ls) more.latches,
      c.requires.latches.inputs,
      c.requires.latches.latches,
      length-resets c.args.first.now.aig c.args.second.now.aig true,
    )

pub add_failure-requires-clause-wanted : goal.add_failure-requires-clause-wanted
add_failure-requires-clause-wanted c = c.in_ok-alike.ensures.all.within
