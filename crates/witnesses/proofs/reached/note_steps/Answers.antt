use Rattle.std.proofs.Common.{ℕ, ◌+◌, ◌≡◌, ◌<◌, ◌∙◌, inl, inr, true, false, [], List, None, Option, ap, ap₂, arith, get_or, length, map, rules, subst, sym}
use Rattle.std.proofs.lemmas.Bool.{cases_lt, false≢true}
use Rattle.std.proofs.lemmas.List.{get_or_default}
use Rattle.std.proofs.lemmas.Option.{get_or_from_slice_get, slice_get_within}
use Rattle.std.specs.List.{list_all}
use Rattle.aig_graph.specs.declared.properties.Props.{Props}
use Rattle.aig_graph.specs.Circuits.{AreLiteralsOf}
use Rattle.aig_graph.specs.Graph.{Graph}
use Rattle.lane_sim.specs.declared.stimulus.InputSequence.{InputSequence}
use Rattle.lane_sim.specs.Blocks.{in_lane}
use Rattle.lane_sim.specs.Steps.{AreAt, HoldsAt}
use Rattle.lane_sim.specs.Traces.{inputs_of, choice_of, value_in}
use Rattle.witnesses.specs.declared.witness.Property.{Property}
use Rattle.witnesses.specs.declared.witness.Property.TheVariants.{Bad}
use Rattle.witnesses.specs.Circuits.{bad_literals}
use Rattle.witnesses.specs.Found.{AreTrue, IsFoundBelow, noted}
use Rattle.witnesses.specs.Reaching.{constraint_row}
use Rattle.witnesses.proofs.FoundLaws.{all_true, bad-in, finished, none_yet, noted_more, stopped}
use Rattle.witnesses.proofs.reached.note_steps.Goals as goal

pub loop-step-init : goal.loop-step-init
loop-step-init c = record {
  state = c.requires.state;
  values = c.requires.values;
  constrained = λ u less. absurd (omega (arith, less));
  found = λ i p here. subst (λ (o : Option ℕ). IsFoundBelow c.args.circuit.now (in_lane c.args.sequences.now 0) 0 p o) (sym (c.requires.none i)) (none_yet c.args.circuit.now (in_lane c.args.sequences.now 0) p);
}

pub are_true-requires : goal.are_true-requires
are_true-requires c =
    let circuit = c.args.circuit.now in
    let at : AreAt circuit.aig c.args.sequences.now c.evaluate.new.self c.loop-step.step = subst (λ (graph : Graph). AreAt graph c.args.sequences.now c.evaluate.new.self c.loop-step.step) c.aig-aig.ensures.value c.evaluate.ensures in
    let literals = c.as_slice.ensures ∙ ap (λ (p : Props). p.constraints) c.props-props.ensures.value in
    let inside : AreLiteralsOf circuit.aig c.as_slice.result.now = subst (AreLiteralsOf circuit.aig) (sym literals) c.known.ensures.netlist.props.constraints in
    λ k d h. omega (arith, inside k d h, at.room.long)

pub note_step-requires-clause-literals : goal.note_step-requires-clause-literals
note_step-requires-clause-literals c =
    let circuit = c.args.circuit.now in
    let at : AreAt circuit.aig c.args.sequences.now c.evaluate.new.self c.loop-step.step = subst (λ (graph : Graph). AreAt graph c.args.sequences.now c.evaluate.new.self c.loop-step.step) c.aig-aig.ensures.value c.evaluate.ensures in
    let literals = c.bad_literals.ensures ∙ ap bad_literals c.props-props.ensures.value in
    let inside : AreLiteralsOf circuit.aig c.bad_literals.result.now = subst (AreLiteralsOf circuit.aig) (sym literals) (bad-in circuit c.known.ensures.netlist) in
    λ k d h. omega (arith, inside k d h, at.room.long)

pub loop-step-preserved : goal.loop-step-preserved
loop-step-preserved c =
    let circuit = c.args.circuit.now in
    let sequences = c.args.sequences.now in
    let run : InputSequence = in_lane sequences 0 in
    let t = c.loop-step.step in
    let at : AreAt circuit.aig sequences c.evaluate.new.self t = subst (λ (graph : Graph). AreAt graph sequences c.evaluate.new.self t) c.aig-aig.ensures.value c.evaluate.ensures in
    let literals = c.as_slice.ensures ∙ ap (λ (p : Props). p.constraints) c.props-props.ensures.value in
    let bad = c.bad_literals.ensures ∙ ap bad_literals c.props-props.ensures.value in
    let true_now : AreTrue (value_in circuit.aig run t) circuit.props.constraints = subst (AreTrue (value_in circuit.aig run t)) literals ((c.are_true.ensures circuit.aig sequences t at).0 (search rules)) in
    let held : (u : ℕ) → u < t + 1 → list_all (λ b. b) (constraint_row circuit (inputs_of run) (choice_of run) u) ≡ true = λ u less. elim (cases_lt u t) [
      | inl before ↦ c.loop-step.invariant.constrained u before
      | inr after ↦
          let same : t ≡ u = omega (arith, less, after) in
          subst (λ (w : ℕ). list_all (λ b. b) (constraint_row circuit (inputs_of run) (choice_of run) w) ≡ true) same (all_true (value_in circuit.aig run t) circuit.props.constraints true_now)
    ] in
    record {
      state = subst (λ (graph : Graph). HoldsAt graph sequences c.advance.new.self (t + 1)) c.aig-aig.ensures.value (c.advance.ensures.next sequences t c.evaluate.ensures);
      values = at.room;
      constrained = held;
      found = λ i p here.
          let within = slice_get_within c.args.properties.now i p here in
          let property : get_or c.args.properties.now i (Bad 0) ≡ p = get_or_from_slice_get c.args.properties.now i p (Bad 0) here in
          let value : get_or c.note_step.new.found i None ≡ noted (map (value_in circuit.aig run t) (bad_literals circuit.props)) t p (get_or c.loop-step.found i None) =
          c.note_step.ensures circuit.aig sequences t at i within
          ∙ ap₂ (λ (lits : List ℕ) (q : Property). noted (map (value_in circuit.aig run t) lits) t q (get_or c.loop-step.found i None)) bad property in
          subst (λ (o : Option ℕ). IsFoundBelow circuit run (t + 1) p o) (sym value)
          (noted_more circuit run t p (get_or c.loop-step.found i None) (λ u less. held u (omega (arith, less))) (c.loop-step.invariant.found i p here));
    }

pub returns-then-not-are_true : goal.returns-then-not-are_true
returns-then-not-are_true c = λ i p here.
    let circuit = c.args.circuit.now in
    let sequences = c.args.sequences.now in
    let run : InputSequence = in_lane sequences 0 in
    let t = c.loop-step.step in
    let at : AreAt circuit.aig sequences c.evaluate.new.self t = subst (λ (graph : Graph). AreAt graph sequences c.evaluate.new.self t) c.aig-aig.ensures.value c.evaluate.ensures in
    let literals = c.as_slice.ensures ∙ ap (λ (p : Props). p.constraints) c.props-props.ensures.value in
    let there = get_or_default sequences 0 c.index-sequences-0.result (record { choice = []; steps = [] }) (omega (arith, c.requires.one)) in
    let one : c.index-sequences-0.result ≡ run = c.index-sequences-0.is ∙ there in
    let no : c.are_true.result ≡ false = search rules in
    finished circuit run t p (get_or c.loop-step.found i None)
    (omega (arith, c.loop-step-test.true, c.len-step-end.ensures, ap (λ (s : InputSequence). length s.steps) one, ap (λ (s : InputSequence). length s.steps) there))
    (λ n u after less r. stopped circuit run t (λ each. false≢true (sym no ∙ (c.are_true.ensures circuit.aig sequences t at).1 (subst (AreTrue (value_in circuit.aig run t)) (sym literals) each))) n u after r)
    (c.loop-step.invariant.found i p here)

pub returns : goal.returns
returns c = λ i p here.
    let sequences = c.args.sequences.now in
    let run : InputSequence = in_lane sequences 0 in
    let there = get_or_default sequences 0 c.index-sequences-0.result (record { choice = []; steps = [] }) (omega (arith, c.requires.one)) in
    let one : c.index-sequences-0.result ≡ run = c.index-sequences-0.is ∙ there in
    let end : c.loop-step.step ≡ length run.steps =
    omega (arith, c.loop-step-test.false, c.loop-step.auto.step-end, c.len-step-end.ensures, ap (λ (s : InputSequence). length s.steps) one, ap (λ (s : InputSequence). length s.steps) there) in
    finished c.args.circuit.now run c.loop-step.step p (get_or c.loop-step.found i None) (omega (arith, end)) (λ n u after less r. absurd (omega (arith, after, less, end))) (c.loop-step.invariant.found i p here)
