use Rattle.std.proofs.Common.{◌∙◌, ap, sym, refl, arith, length, Some, slice_get}
use Rattle.std.specs.Option.{option_map}
use Rattle.std.proofs.lemmas.Option.{slice_get_read, slice_get_past}
use Rattle.lane_sim.specs.Lanes.{lane}
use Rattle.lane_sim.proofs.TraceLaws.{no_step, in_step}
use Rattle.lane_sim.proofs.trace.value_in_block.Goals as goal

pub returns-then-steps-step : goal.returns-then-steps-step
returns-then-steps-step c = sym (no_step c.args.lane c.args.steps c.args.step c.args.place c.args.rows.now (omega (arith, c.if-steps-step.true)))

pub returns-in_err-row : goal.returns-in_err-row
returns-in_err-row c = c.from_residual.ensures ∙ sym (no_step c.args.lane c.args.steps c.args.step c.args.place c.args.rows.now (omega (arith, c.in_err-row.ensures.lookup.3)))

pub returns-in_err-lanes : goal.returns-in_err-lanes
returns-in_err-lanes c =
    let found = c.in_ok-row.ensures.lookup in
    let row = slice_get_read c.args.rows.now (length c.args.rows.now) c.args.step c.in_ok-row.row.now refl found.3.0 found.1 in
    c.from_residual-in_err-lanes.ensures
    ∙ sym (in_step c.args.lane c.args.steps c.args.step c.args.place c.args.rows.now c.in_ok-row.row.now (omega (arith, c.if-steps-step.false)) row
    ∙ ap (option_map (λ lanes. lane lanes c.args.lane)) (slice_get_past c.in_ok-row.row.now c.args.place (omega (arith, c.in_err-lanes.ensures.lookup.3, ap length c.as_slice.ensures))))

pub returns : goal.returns
returns c =
    let found = c.in_ok-row.ensures.lookup in
    let row = slice_get_read c.args.rows.now (length c.args.rows.now) c.args.step c.in_ok-row.row.now refl found.3.0 found.1 in
    let lanes = c.in_ok-lanes.ensures.lookup in
    let here = slice_get_read c.as_slice.result.now (length c.as_slice.result.now) c.args.place c.in_ok-lanes.lanes.now refl lanes.3.0 lanes.1 in
    ap Some c.get-3.ensures
    ∙ sym (in_step c.args.lane c.args.steps c.args.step c.args.place c.args.rows.now c.in_ok-row.row.now (omega (arith, c.if-steps-step.false)) row
    ∙ ap (option_map (λ lanes. lane lanes c.args.lane)) (ap (λ ls. slice_get ls c.args.place) (sym c.as_slice.ensures) ∙ here))
