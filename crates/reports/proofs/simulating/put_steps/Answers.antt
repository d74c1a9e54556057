use Rattle.std.proofs.Common.{ℕ, ◌+◌, ◌≡◌, ◌∙◌, [], ap, arith, length, subst, sym}
use Rattle.std.proofs.lemmas.List.{get_or_default}
use Rattle.aig_graph.specs.Circuits.{AreLiteralsOf}
use Rattle.aig_graph.specs.Graph.{Graph}
use Rattle.aig_graph.specs.Streams.{property_literals}
use Rattle.lane_sim.specs.declared.stimulus.InputSequence.{InputSequence}
use Rattle.lane_sim.specs.Blocks.{in_lane}
use Rattle.lane_sim.specs.Steps.{AreAt, HoldsAt}
use Rattle.lane_sim.specs.Traces.{value_in}
use Rattle.aig_graph.proofs.PropsLaws.{properties-within}
use Rattle.reports.specs.Simulating.{step_of, steps_of}
use Rattle.reports.proofs.TraceTextLaws.{puts-up}
use Rattle.reports.proofs.simulating.put_steps.Goals as goal

pub put_step-requires : goal.put_step-requires
put_step-requires g c =
    let circuit = c.args.circuit.now in
    let inside : AreLiteralsOf circuit.aig c.as_slice.result.now =
    subst (AreLiteralsOf circuit.aig) (sym (c.as_slice.ensures.value ∙ c.loop-step.invariant.literals)) (properties-within circuit c.known.ensures.netlist) in
    let at : AreAt circuit.aig c.args.sequences.now c.evaluate.new.self c.loop-step.step =
    subst (λ (graph : Graph). AreAt graph c.args.sequences.now c.evaluate.new.self c.loop-step.step) c.aig-aig.ensures.value c.evaluate.ensures in
    λ k d h. omega (arith, inside k d h, at.room.long)

pub loop-step-preserved : goal.loop-step-preserved
loop-step-preserved g c =
    let circuit = c.args.circuit.now in
    let sequences = c.args.sequences.now in
    let t = c.loop-step.step in
    let at : AreAt circuit.aig sequences c.evaluate.new.self t =
    subst (λ (graph : Graph). AreAt graph sequences c.evaluate.new.self t) c.aig-aig.ensures.value c.evaluate.ensures in
    record {
      literals = c.loop-step.invariant.literals;
      state = subst (λ (graph : Graph). HoldsAt graph sequences c.advance.new.self (t + 1)) c.aig-aig.ensures.value (c.advance.ensures.next sequences t c.evaluate.ensures);
      values = at.room;
      text = puts-up (λ (n : ℕ). step_of (value_in circuit.aig (in_lane sequences 0) n) (property_literals circuit.props)) t c.loop-step.invariant.text
          (rw (c.as_slice.ensures.value ∙ c.loop-step.invariant.literals) at (c.put_step.ensures circuit.aig sequences t at));
    }

pub returns-clause-puts : goal.returns-clause-puts
unfolding steps_of
returns-clause-puts g c =
    let sequences = c.args.sequences.now in
    let there = get_or_default sequences 0 c.index-sequences-0.result (record { choice = []; steps = [] }) (omega (arith, c.requires.one)) in
    let here : c.index-sequences-0.result ≡ in_lane sequences 0 = c.index-sequences-0.is ∙ there in
    let end : c.loop-step.step ≡ length (in_lane sequences 0).steps =
    omega (arith, c.loop-step-test.false, c.loop-step.auto.step-end, c.len-step-end.ensures, ap (λ (s : InputSequence). length s.steps) here, ap (λ (s : InputSequence). length s.steps) there) in
    rw end at c.loop-step.invariant.text
