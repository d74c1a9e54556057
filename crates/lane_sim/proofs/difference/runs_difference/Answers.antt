use Rattle.std.proofs.Common.{ℕ, List, Bool, ◌≡◌, ◌+◌, arith, length, subst, sym}
use Rattle.lane_sim.specs.Comparing.{Compares, ComparesAt, lanes_before, row_at, rows_by, steps_below, steps_of}
use Rattle.lane_sim.proofs.ComparingLaws.{all_steps, lanes_few, none_yet, one_more}
use Rattle.lane_sim.proofs.difference.runs_difference.Goals as goal

pub loop-step-init : goal.loop-step-init
loop-step-init c =
    let a = c.args.a.now in
    let b = c.args.b.now in
    record {
      first = c.requires.first;
      second = c.requires.second;
      found = none_yet (length a.sequences.now) (steps_of a.sequences.now) (rows_by a.circuit.now a.sequences.now) (rows_by b.circuit.now b.sequences.now);
    }

pub next_difference-requires-clause-lanes : goal.next_difference-requires-clause-lanes
next_difference-requires-clause-lanes c =
    let a = c.args.a.now in
    let b = c.args.b.now in
    let few = lanes_few (length a.sequences.now) (steps_of a.sequences.now) (rows_by a.circuit.now a.sequences.now) (rows_by b.circuit.now b.sequences.now) c.loop-step.step c.loop-step.found c.loop-step.invariant.found in
    let same : c.lanes_before-lanes.result ≡ lanes_before (length a.sequences.now) c.loop-step.found = c.lanes_before-lanes.ensures in
    omega (arith, same, few)

pub loop-step-preserved : goal.loop-step-preserved
loop-step-preserved c =
    let a = c.args.a.now in
    let b = c.args.b.now in
    let f : ℕ → ℕ → List Bool = rows_by a.circuit.now a.sequences.now in
    let g : ℕ → ℕ → List Bool = rows_by b.circuit.now b.sequences.now in
    let steps : ℕ → ℕ = steps_of a.sequences.now in
    let t = c.loop-step.step in
    let same : c.lanes_before-lanes.result ≡ lanes_before (length a.sequences.now) c.loop-step.found = c.lanes_before-lanes.ensures in
    record {
      first = c.in_ok-next.ensures.first;
      second = c.in_ok-next.ensures.second;
      found = subst (Compares 0 (length a.sequences.now) (steps_below (t + 1) steps) f g) (sym c.later_or-found.ensures)
          (one_more (length a.sequences.now) steps f g t c.loop-step.found c.in_ok-next.next c.loop-step.invariant.found
          (subst (λ (n : ℕ). ComparesAt n t steps (row_at t a) (row_at t b) c.in_ok-next.next) same c.in_ok-next.ensures.found));
    }

pub returns : goal.returns
returns c =
    let a = c.args.a.now in
    let b = c.args.b.now in
    all_steps (length a.sequences.now) (steps_of a.sequences.now) (rows_by a.circuit.now a.sequences.now) (rows_by b.circuit.now b.sequences.now) c.loop-step.step c.loop-step.found
    (λ s h. omega (arith, c.loop-step-test.false, c.longest-step-end.ensures s h)) c.loop-step.invariant.found
