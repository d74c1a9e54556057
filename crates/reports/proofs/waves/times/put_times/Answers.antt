use Rattle.std.proofs.Common.{ℕ, ◌+◌, ◌-◌, ◌≡◌, true, arith, rules, subst}
use Rattle.std.specs.List.{flat_map, range_with_len}
use Rattle.counted_io.specs.Buffered.{Puts}
use Rattle.counted_io.proofs.BufferedLaws.{puts-range_ended, puts-range_next}
use Rattle.lane_sim.specs.Traces.{trace}
use Rattle.reports.specs.waves.Dumps.{longest, time_text, later_times}
use Rattle.reports.proofs.waves.times.put_times.Goals as goal

pub loop-step-init : goal.loop-step-init
loop-step-init g c = record { room = c.requires; text = search rules }

pub loop-step-preserved : goal.loop-step-preserved
loop-step-preserved g c =
    let shown = c.args.shown.now in
    let step = c.loop-step.step in
    let next : step + 1 ≡ 1 + step = omega arith in
    let lines = time_text (trace shown.circuit.now shown.sequences.now) shown.places in
    record {
      room = c.put_time.ensures.room;
      text = puts-range_next lines 1 step c.loop-step.invariant.text
          (subst (λ (n : ℕ). Puts g.W.CountedWrite.output c.loop-step.out c.put_time.new.out (lines n)) next c.put_time.ensures.puts);
    }

pub returns-then-has_failed : goal.returns-then-has_failed
unfolding later_times
returns-then-has_failed g c =
    let shown = c.args.shown.now in
    let step = c.loop-step.step in
    let all : ℕ = longest (trace shown.circuit.now shown.sequences.now) in
    let bad : c.loop-step.out.failed ≡ true = search rules in
    let whole : step + (all - step) ≡ all = omega (arith, c.loop-step-test.true, c.longest-step-end.ensures) in
    let lines = time_text (trace shown.circuit.now shown.sequences.now) shown.places in
    subst (λ (n : ℕ). Puts g.W.CountedWrite.output c.args.out.now c.loop-step.out (flat_map lines (range_with_len 1 n))) whole
    (puts-range_ended lines 1 step (all - step) bad c.loop-step.invariant.text)

pub returns : goal.returns
unfolding later_times
returns g c =
    let shown = c.args.shown.now in
    let end : c.loop-step.step ≡ longest (trace shown.circuit.now shown.sequences.now) =
    omega (arith, c.loop-step-test.false, c.loop-step.auto.step-end, c.longest-step-end.ensures) in
    rw end at c.loop-step.invariant.text
