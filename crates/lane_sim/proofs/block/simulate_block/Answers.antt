use Rattle.std.proofs.Common.{ℕ, ◌≡◌, ◌+◌, ◌∙◌, sym, subst, ap, arith, List, length, map, slice_get, Option}
use Rattle.std.proofs.lemmas.List.{length_push}
use Rattle.std.specs.Option.{IsSomeAnd}
use Rattle.lane_sim.specs.Blocks.{in_lane, row_in}
use Rattle.lane_sim.specs.Traces.{value_in}
use Rattle.lane_sim.proofs.BlockLaws.{pushed}
use Rattle.lane_sim.proofs.block.simulate_block.Goals as goal

pub loop-step-init : goal.loop-step-init
loop-step-init c = record {
  long = ap length c.new-rows.ensures.items;
  values = c.in_ok-values.ensures;
  state = c.open.ensures;
  each = λ k t h l. absurd (omega arith);
}

pub loop-step-preserved : goal.loop-step-preserved
loop-step-preserved c =
    let held = c.loop-step.invariant in
    let row = c.in_ok-row.row in
    record {
      long = ap length c.in_ok-push.ensures.items ∙ length_push c.loop-step.rows.items row ∙ ap (λ (n : ℕ). n + 1) held.long;
      values = c.in_ok-row.ensures.values;
      state = c.in_ok-row.ensures.state;
      each = λ k t h l.
          let s = in_lane c.args.sequences.now k in
          let P : ℕ → Option (List (List ℕ)) → Type 0 = λ n o. IsSomeAnd o (λ row. row_in k row ≡ map (value_in c.args.aig.now s n) c.args.literals.now) in
          subst (λ rows. P t (slice_get rows t)) (sym c.in_ok-push.ensures.items)
          (pushed P c.loop-step.rows.items row c.loop-step.step held.long (λ n m. held.each k n h m) (c.in_ok-row.ensures.row k h) t l);
    }

pub open-requires-clause-lanes : goal.open-requires-clause-lanes
open-requires-clause-lanes c = c.requires.lanes

pub open-requires-clause-room : goal.open-requires-clause-room
open-requires-clause-room c = c.in_ok-state.ensures

pub simulate_step-requires-clause-lanes : goal.simulate_step-requires-clause-lanes
simulate_step-requires-clause-lanes c = c.requires.lanes

pub simulate_step-requires-clause-literals : goal.simulate_step-requires-clause-literals
simulate_step-requires-clause-literals c = c.requires.literals

pub simulate_step-requires-clause-state : goal.simulate_step-requires-clause-state
simulate_step-requires-clause-state c = c.loop-step.invariant.state

pub simulate_step-requires-clause-values : goal.simulate_step-requires-clause-values
simulate_step-requires-clause-values c = c.loop-step.invariant.values
