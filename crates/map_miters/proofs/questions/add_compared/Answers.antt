use Rattle.aig_graph.specs.Circuits.{AreLiteralsOf}
use Rattle.std.proofs.Common.{ℕ, ◌≡◌, List, true, subst, ◌∙◌, ap, length, sym}
use Rattle.aig_graph.specs.Graph.{Graph}
use Rattle.aig_graph.specs.Value.{value_within}
use Rattle.map_circuits.proofs.GrowingLaws.{extends-itself, extends-transitive}
use Rattle.map_miters.specs.declared.questions.Sides.{Sides}
use Rattle.map_miters.specs.Comparing.{AreEqualIn, SaysThat}
use Rattle.map_miters.proofs.ComparingLaws.{equal-same, says-grow, says-same}
use Rattle.map_miters.proofs.SideLaws.{says-itself, where-kept}
use Rattle.map_miters.proofs.questions.add_compared.Goals as goal

pub returns-clause-compared : goal.returns-clause-compared
returns-clause-compared c =
    let g : Graph = c.args.gates.now in
    let h1 : Graph = c.add_each_equal.new.gates in
    let h2 : Graph = c.add_each_equal-2.new.gates in
    let h3 : Graph = c.add_failure.new.gates in
    let h4 : Graph = c.add_failure-2.new.gates in
    let h5 : Graph = c.add_failure-3.new.gates in
    let sides : Sides = c.args.sides.now in
    let e1 = c.in_ok-same_nexts.ensures.extends in
    let e2 = extends-transitive g h1 h2 e1 c.in_ok-same_props.ensures.extends in
    let e3 = extends-transitive g h2 h3 e2 c.in_ok-keep.ensures.extends in
    let e4 = extends-transitive g h3 h4 e3 c.in_ok-next.ensures.extends in
    let outputs : List ℕ = sides.later.outputs.items in
    let nexts : List ℕ = sides.after.nexts.items in
    let props : List ℕ = sides.after.props.items in
    let first_props : List ℕ = sides.before.props.items in
    let next_lit : ℕ = c.in_ok-same_nexts.same_nexts in
    let read_lit : ℕ = c.in_ok-same_props.same_props in
    let next_says : SaysThat h1 next_lit (AreEqualIn g outputs nexts) =
    subst (λ (ls : List ℕ). SaysThat h1 next_lit (AreEqualIn g outputs ls)) c.as_slice-nexts.ensures.value
    (subst (λ (ls : List ℕ). SaysThat h1 next_lit (AreEqualIn g ls c.as_slice-nexts.result.now)) c.as_slice.ensures.value c.in_ok-same_nexts.ensures.equal) in
    let read_says : SaysThat h2 read_lit (AreEqualIn h1 props first_props) =
    subst (λ (ls : List ℕ). SaysThat h2 read_lit (AreEqualIn h1 props ls)) c.as_slice-props.ensures.value
    (subst (λ (ls : List ℕ). SaysThat h2 read_lit (AreEqualIn h1 ls c.as_slice-props.result.now)) c.as_slice-2.ensures.value c.in_ok-same_props.ensures.equal) in
    let read_here : SaysThat h2 read_lit (AreEqualIn g props first_props) =
    says-same h2 read_lit (AreEqualIn h1 props first_props) (AreEqualIn g props first_props)
    (equal-same g h1 props first_props e1 c.requires.sides.props c.requires.sides.first_props c.requires.sides.props_long) read_says in
    let to_h3 = extends-transitive h1 h2 h3 c.in_ok-same_props.ensures.extends c.in_ok-keep.ensures.extends in
    let to_h4 = extends-transitive h2 h3 h4 c.in_ok-keep.ensures.extends c.in_ok-next.ensures.extends in
    let kept = c.requires.sides.image in
    record {
      keep = where-kept g h2 h3 h5 sides sides.later.kept c.in_ok-keep.keep (λ z u. value_within g z u sides.later.kept ≡ true) e2 kept (says-itself g h2 sides.later.kept e2 c.requires.sides.later) c.in_ok-keep.ensures.fails
          (extends-transitive h3 h4 h5 c.in_ok-next.ensures.extends c.in_ok-read.ensures.extends);
      next = where-kept g h3 h4 h5 sides next_lit c.in_ok-next.next (AreEqualIn g outputs nexts) e3 kept (says-grow h1 h3 next_lit (AreEqualIn g outputs nexts) to_h3 next_says) c.in_ok-next.ensures.fails
          c.in_ok-read.ensures.extends;
      read = where-kept g h4 h5 h5 sides read_lit c.in_ok-read.read (AreEqualIn g props first_props) e4 kept (says-grow h2 h4 read_lit (AreEqualIn g props first_props) to_h4 read_here) c.in_ok-read.ensures.fails
          (extends-itself h5 c.in_ok-read.ensures.extends.graph);
    }

pub returns-clause-extends : goal.returns-clause-extends
returns-clause-extends c =
    let g : Graph = c.args.gates.now in
    let h1 : Graph = c.add_each_equal.new.gates in
    let h2 : Graph = c.add_each_equal-2.new.gates in
    let h3 : Graph = c.add_failure.new.gates in
    let h4 : Graph = c.add_failure-2.new.gates in
    let h5 : Graph = c.add_failure-3.new.gates in
    extends-transitive g h4 h5 (extends-transitive g h3 h4 (extends-transitive g h2 h3 (extends-transitive g h1 h2 c.in_ok-same_nexts.ensures.extends c.in_ok-same_props.ensures.extends) c.in_ok-keep.ensures.extends) c.in_ok-next.ensures.extends) c.in_ok-read.ensures.extends

pub add_each_equal-requires-clause-graph : goal.add_each_equal-requires-clause-graph
add_each_equal-requires-clause-graph c = c.requires.graph

pub add_each_equal-requires-clause-long : goal.add_each_equal-requires-clause-long
add_each_equal-requires-clause-long c = ap (λ (ls : List ℕ). length ls) c.as_slice.ensures.value ∙ c.requires.sides.nexts_long ∙ sym (ap (λ (ls : List ℕ). length ls) c.as_slice-nexts.ensures.value)

pub add_each_equal-requires-clause-a : goal.add_each_equal-requires-clause-a
add_each_equal-requires-clause-a c = subst (λ (ls : List ℕ). AreLiteralsOf c.args.gates.now ls) (sym c.as_slice.ensures.value) c.requires.sides.outputs

pub add_each_equal-requires-clause-b : goal.add_each_equal-requires-clause-b
add_each_equal-requires-clause-b c = subst (λ (ls : List ℕ). AreLiteralsOf c.args.gates.now ls) (sym c.as_slice-nexts.ensures.value) c.requires.sides.nexts

pub add_each_equal-requires-2-clause-graph : goal.add_each_equal-requires-2-clause-graph
add_each_equal-requires-2-clause-graph c = c.in_ok-same_nexts.ensures.extends.graph

pub add_each_equal-requires-2-clause-long : goal.add_each_equal-requires-2-clause-long
add_each_equal-requires-2-clause-long c = ap (λ (ls : List ℕ). length ls) c.as_slice-2.ensures.value ∙ c.requires.sides.props_long ∙ sym (ap (λ (ls : List ℕ). length ls) c.as_slice-props.ensures.value)

pub add_each_equal-requires-2-clause-a : goal.add_each_equal-requires-2-clause-a
add_each_equal-requires-2-clause-a c = subst (λ (ls : List ℕ). AreLiteralsOf c.add_each_equal.new.gates ls) (sym c.as_slice-2.ensures.value) (λ k d less. c.in_ok-same_nexts.ensures.extends.literals _ (c.requires.sides.props k d less))

pub add_each_equal-requires-2-clause-b : goal.add_each_equal-requires-2-clause-b
add_each_equal-requires-2-clause-b c = subst (λ (ls : List ℕ). AreLiteralsOf c.add_each_equal.new.gates ls) (sym c.as_slice-props.ensures.value) (λ k d less. c.in_ok-same_nexts.ensures.extends.literals _ (c.requires.sides.first_props k d less))

pub add_failure-requires-clause-graph : goal.add_failure-requires-clause-graph
add_failure-requires-clause-graph c = c.in_ok-same_props.ensures.extends.graph

pub add_failure-requires-clause-given : goal.add_failure-requires-clause-given
add_failure-requires-clause-given c = c.in_ok-same_props.ensures.extends.literals _ (c.in_ok-same_nexts.ensures.extends.literals _ c.requires.sides.image)

pub add_failure-requires-clause-wanted : goal.add_failure-requires-clause-wanted
add_failure-requires-clause-wanted c = c.in_ok-same_props.ensures.extends.literals _ (c.in_ok-same_nexts.ensures.extends.literals _ c.requires.sides.later)

pub add_failure-requires-2-clause-graph : goal.add_failure-requires-2-clause-graph
add_failure-requires-2-clause-graph c = c.in_ok-keep.ensures.extends.graph

pub add_failure-requires-2-clause-given : goal.add_failure-requires-2-clause-given
add_failure-requires-2-clause-given c = c.in_ok-keep.ensures.extends.literals _ (c.in_ok-same_props.ensures.extends.literals _ (c.in_ok-same_nexts.ensures.extends.literals _ c.requires.sides.image))

pub add_failure-requires-2-clause-wanted : goal.add_failure-requires-2-clause-wanted
add_failure-requires-2-clause-wanted c = c.in_ok-keep.ensures.extends.literals _ (c.in_ok-same_props.ensures.extends.literals _ c.in_ok-same_nexts.ensures.equal.within)

pub add_failure-requires-3-clause-graph : goal.add_failure-requires-3-clause-graph
add_failure-requires-3-clause-graph c = c.in_ok-next.ensures.extends.graph

pub add_failure-requires-3-clause-given : goal.add_failure-requires-3-clause-given
add_failure-requires-3-clause-given c = c.in_ok-next.ensures.extends.literals _ (c.in_ok-keep.ensures.extends.literals _ (c.in_ok-same_props.ensures.extends.literals _ (c.in_ok-same_nexts.ensures.extends.literals _ c.requires.sides.image)))

pub add_failure-requires-3-clause-wanted : goal.add_failure-requires-3-clause-wanted
add_failure-requires-3-clause-wanted c = c.in_ok-next.ensures.extends.literals _ (c.in_ok-keep.ensures.extends.literals _ c.in_ok-same_props.ensures.equal.within)
