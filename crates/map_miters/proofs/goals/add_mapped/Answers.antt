use Rattle.std.proofs.Common.{ℕ, ◌∙◌, List, ap, length, sym, subst}
use Rattle.std.proofs.lemmas.Result.{IfOk-weaker}
use Rattle.aig_graph.specs.Circuits.{AreLiteralsOf, Netlist}
use Rattle.aig_graph.specs.Graph.{Graph}
use Rattle.map_miters.specs.Holding.{HoldAs}
use Rattle.map_miters.specs.Sides.{beside_first, beside_second}
use Rattle.map_miters.proofs.GoalLaws.{mapped-says}
use Rattle.map_miters.proofs.goals.add_mapped.Goals as goal

pub add_given-requires-clause-wide : goal.add_given-requires-clause-wide
add_given-requires-clause-wide c = ap (λ (ls : List ℕ). length ls) c.as_slice.ensures.value ∙ c.requires.sides.first_long ∙ sym c.requires.askable.inputs

pub add_given-requires-clause-long : goal.add_given-requires-clause-long
add_given-requires-clause-long c = ap (λ (ls : List ℕ). length ls) c.as_slice-2.ensures.value ∙ c.requires.sides.second_long ∙ sym c.requires.askable.outputs

pub add_given-requires-clause-state : goal.add_given-requires-clause-state
add_given-requires-clause-state c = subst (λ (ls : List ℕ). AreLiteralsOf c.args.gates.now ls) (sym c.as_slice.ensures.value) c.requires.sides.of_first.within

pub add_given-requires-clause-given : goal.add_given-requires-clause-given
add_given-requires-clause-given c = subst (λ (ls : List ℕ). AreLiteralsOf c.args.gates.now ls) (sym c.as_slice-2.ensures.value) c.requires.sides.of_second.within

pub returns-clause-says : goal.returns-clause-says
returns-clause-says c =
    let g : Graph = c.args.gates.now in
    let a : Netlist = c.args.first.now in
    let first : HoldAs g c.as_slice.result.now beside_first = subst (λ (ls : List ℕ). HoldAs g ls beside_first) (sym c.as_slice.ensures.value) c.requires.sides.of_first in
    let second : HoldAs g c.as_slice-2.result.now (beside_second a.aig) = subst (λ (ls : List ℕ). HoldAs g ls (beside_second a.aig)) (sym c.as_slice-2.ensures.value) c.requires.sides.of_second in
    IfOk-weaker c.add_given.result _ _ (λ lit says. mapped-says a c.args.second.now c.args.map.now c.add_given.new.gates lit c.requires.askable.outputs (says beside_first (beside_second a.aig) first second)) c.add_given.ensures.says
