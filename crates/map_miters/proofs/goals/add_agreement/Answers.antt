use Rattle.std.proofs.Common.{ℕ, ◌∙◌, List, ap, length, sym, subst}
use Rattle.std.proofs.lemmas.Result.{IfOk-weaker}
use Rattle.aig_graph.specs.Circuits.{AreLiteralsOf}
use Rattle.aig_graph.specs.Graph.{Graph}
use Rattle.map_miters.specs.Comparing.{AreEqualIn, SaysThat}
use Rattle.map_miters.specs.declared.sides.Sides.{Sides}
use Rattle.map_miters.proofs.GoalLaws.{agreement-says, props-long}
use Rattle.map_miters.proofs.goals.add_agreement.Goals as goal

pub add_each_equal-requires-clause-long : goal.add_each_equal-requires-clause-long
add_each_equal-requires-clause-long c =
    ap (λ (ls : List ℕ). length ls) c.as_slice.ensures.value
    ∙ props-long c.args.gates.now c.args.first.now c.args.second.now c.args.sides.now c.requires.askable.shape c.requires.sides
    ∙ sym (ap (λ (ls : List ℕ). length ls) c.as_slice-props.ensures.value)

pub add_each_equal-requires-clause-a : goal.add_each_equal-requires-clause-a
add_each_equal-requires-clause-a c = subst (λ (ls : List ℕ). AreLiteralsOf c.args.gates.now ls) (sym c.as_slice.ensures.value) c.requires.sides.second.props.within

pub add_each_equal-requires-clause-b : goal.add_each_equal-requires-clause-b
add_each_equal-requires-clause-b c = subst (λ (ls : List ℕ). AreLiteralsOf c.args.gates.now ls) (sym c.as_slice-props.ensures.value) c.requires.sides.first.props.within

pub returns-clause-says : goal.returns-clause-says
returns-clause-says c =
    let g : Graph = c.args.gates.now in
    let h : Graph = c.add_each_equal.new.gates in
    let s : Sides = c.args.sides.now in
    IfOk-weaker c.add_each_equal.result _ _
    (λ lit equal.
    agreement-says g c.args.first.now c.args.second.now s c.requires.askable.shape c.requires.sides h lit
    (subst (λ (ls : List ℕ). SaysThat h lit (AreEqualIn g s.second.props.items ls)) c.as_slice-props.ensures.value
    (subst (λ (ls : List ℕ). SaysThat h lit (AreEqualIn g ls c.as_slice-props.result.now)) c.as_slice.ensures.value equal)))
    c.add_each_equal.ensures.equal
