use Rattle.std.proofs.Common.{ℕ, ◌≡◌, ◌+◌, ◌*◌, ◌∙◌, List, [], ◌∷◌, arith, ap, length, sym, subst}
use Rattle.aig_graph.proofs.TableLaws.{length-table}
use Rattle.aig_graph.specs.Circuits.{AreLiteralsOf, Netlist}
use Rattle.aig_graph.specs.Graph.{Graph}
use Rattle.state_maps.specs.States.{Digits, State}
use Rattle.map_miters.specs.Holding.{HoldAs}
use Rattle.map_miters.specs.Products.{second_state}
use Rattle.map_miters.proofs.TurnedLaws.{first-hold, inputs-hold, leaves-first, leaves-second}
use Rattle.map_miters.proofs.turned.filled.Goals as goal

pub add_given-requires-clause-wide : goal.add_given-requires-clause-wide
add_given-requires-clause-wide c =
    let a : Netlist = c.args.first.now in
    let d : Netlist = c.args.second.now in
    let is = c.as_slice-state.ensures.value ∙ leaves-second a d c.aig.result.now c.aig-2.result.now c.in_ok-leaves.leaves.second.items c.aig.ensures.value c.aig-2.ensures.value c.in_ok-leaves.ensures.second in
    ap (λ (ls : List ℕ). length ls) is ∙ length-table 0 (length d.aig.latches) (λ j. 2 * (1 + length a.aig.latches + j)) ∙ sym c.requires.turnable.map_inputs

pub add_given-requires-clause-long : goal.add_given-requires-clause-long
add_given-requires-clause-long c =
    let a : Netlist = c.args.first.now in
    let is = c.as_slice.ensures.value ∙ leaves-first a c.aig.result.now c.in_ok-leaves.leaves.first.items c.aig.ensures.value c.in_ok-leaves.ensures.first in
    ap (λ (ls : List ℕ). length ls) is ∙ length-table 0 (length a.aig.latches) (λ j. 2 * (1 + j)) ∙ sym c.requires.turnable.map_outputs

pub add_given-requires-clause-state : goal.add_given-requires-clause-state
add_given-requires-clause-state c =
    let a : Netlist = c.args.first.now in
    let d : Netlist = c.args.second.now in
    let g : Graph = c.args.gates.now in
    let wide : g.inputs ≡ length a.aig.latches + length d.aig.latches = ap (λ (h : Graph). h.inputs) c.requires.begun in
    let is = c.as_slice-state.ensures.value ∙ leaves-second a d c.aig.result.now c.aig-2.result.now c.in_ok-leaves.leaves.second.items c.aig.ensures.value c.aig-2.ensures.value c.in_ok-leaves.ensures.second in
    subst (λ (ls : List ℕ). AreLiteralsOf g ls) (sym is) (inputs-hold g c.requires.graph (length a.aig.latches) (length d.aig.latches) (omega (arith, wide))).within

pub add_given-requires-clause-given : goal.add_given-requires-clause-given
add_given-requires-clause-given c =
    let a : Netlist = c.args.first.now in
    let d : Netlist = c.args.second.now in
    let g : Graph = c.args.gates.now in
    let wide : g.inputs ≡ length a.aig.latches + length d.aig.latches = ap (λ (h : Graph). h.inputs) c.requires.begun in
    let is = c.as_slice.ensures.value ∙ leaves-first a c.aig.result.now c.in_ok-leaves.leaves.first.items c.aig.ensures.value c.in_ok-leaves.ensures.first in
    subst (λ (ls : List ℕ). AreLiteralsOf g ls) (sym is) (first-hold g c.requires.graph (length a.aig.latches) (omega (arith, wide))).within

pub returns : goal.returns
returns c =
    let a : Netlist = c.args.first.now in
    let d : Netlist = c.args.second.now in
    let g : Graph = c.args.gates.now in
    let wide : g.inputs ≡ length a.aig.latches + length d.aig.latches = ap (λ (h : Graph). h.inputs) c.requires.begun in
    let seconds = leaves-second a d c.aig.result.now c.aig-2.result.now c.in_ok-leaves.leaves.second.items c.aig.ensures.value c.aig-2.ensures.value c.in_ok-leaves.ensures.second in
    let of_second = c.as_slice-state.ensures.value ∙ seconds in
    let of_first = c.as_slice.ensures.value ∙ leaves-first a c.aig.result.now c.in_ok-leaves.leaves.first.items c.aig.ensures.value c.in_ok-leaves.ensures.first in
    let s : Digits → State → State = λ z u. second_state a.aig z in
    let t : Digits → State → State = λ z u. z in
    let hold_second : HoldAs g c.as_slice-state.result.now s =
    subst (λ (ls : List ℕ). HoldAs g ls s) (sym of_second) (inputs-hold g c.requires.graph (length a.aig.latches) (length d.aig.latches) (omega (arith, wide))) in
    let hold_first : HoldAs g c.as_slice.result.now t =
    subst (λ (ls : List ℕ). HoldAs g ls t) (sym of_first) (first-hold g c.requires.graph (length a.aig.latches) (omega (arith, wide))) in
    record {
      graph = c.in_ok-holds.ensures.extends.graph;
      inputs = c.in_ok-holds.ensures.extends.inputs ∙ wide;
      latches = c.in_ok-holds.ensures.extends.latches ∙ ap (λ (h : Graph). h.latches) c.requires.begun;
      holds = c.in_ok-holds.holds;
      props = c.in_ok-props.ensures ∙ ap (λ (ls : List ℕ). record { outputs = ls; bad = []; constraints = c.in_ok-holds.holds ∷ []; justice = []; fairness = [] }) seconds;
      says = c.in_ok-holds.ensures.says s t hold_second hold_first;
    }
