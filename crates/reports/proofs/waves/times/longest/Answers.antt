use Rattle.std.proofs.Common.{◌≡◌, ◌<◌, ◌∙◌, length, max, ap, ap₂, sym, arith}
use Rattle.lane_sim.specs.declared.stimulus.InputSequence.{InputSequence}
use Rattle.lane_sim.specs.Traces.{trace}
use Rattle.reports.specs.waves.Dumps.{longest_of}
use Rattle.reports.proofs.WaveDumpLaws.{longest-next}
use Rattle.reports.proofs.WaveMomentLaws.{trace-length, trace-steps}
use Rattle.reports.proofs.waves.times.longest.Goals as goal

pub loop-sequence-preserved : goal.loop-sequence-preserved
loop-sequence-preserved c =
    let shown = c.args.shown.now in
    let all = trace shown.circuit.now shown.sequences.now in
    let k = c.loop-sequence.sequence in
    let item = c.index-shown-sequence.result in
    let inside : k < length shown.sequences.now = omega (arith, c.loop-sequence-test.true) in
    c.larger-steps.ensures
    ∙ ap₂ max c.loop-sequence.invariant (c.len.ensures ∙ ap (λ (r : InputSequence). length r.steps) (sym c.index-shown-sequence.is)
    ∙ sym (trace-steps shown.circuit.now shown.sequences.now k item inside c.index-shown-sequence.is))
    ∙ sym (longest-next all k)

pub returns : goal.returns
returns c =
    let shown = c.args.shown.now in
    let all = trace shown.circuit.now shown.sequences.now in
    let end : c.loop-sequence.sequence ≡ length all =
    omega (arith, c.loop-sequence-test.false, c.loop-sequence.auto.sequence-end, trace-length shown.circuit.now shown.sequences.now) in
    c.loop-sequence.invariant ∙ ap (longest_of all) end
