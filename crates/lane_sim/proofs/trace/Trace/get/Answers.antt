use Rattle.std.proofs.Common.{◌∙◌, ap, sym, refl, ◌/◌, ◌%◌, [], get_or, map, take, arith, length, slice_get}
use Rattle.std.specs.Option.{option_map}
use Rattle.std.proofs.lemmas.Option.{slice_get_read, slice_get_past}
use Rattle.lane_sim.specs.Blocks.{row_in, steps_in}
use Rattle.lane_sim.specs.Traces.{then_at}
use Rattle.lane_sim.proofs.TraceLaws.{recorded-at}
use Rattle.lane_sim.proofs.trace.Trace.get.Goals as goal

pub returns-in_err-steps : goal.returns-in_err-steps
returns-in_err-steps c =
    let steps = c.self.inside.steps.items in
    let none = slice_get_past steps c.args.sequence (omega (arith, c.in_err-steps.ensures.lookup.3, ap length c.deref.ensures.value)) in
    c.from_residual.ensures
    ∙ sym (ap (λ o. then_at (then_at o c.args.step) c.args.place) (ap (λ t. slice_get t c.args.sequence) (sym c.self.view_is) ∙ recorded-at steps c.self.inside.blocks.items c.args.sequence ∙ ap (option_map (λ n. steps_in c.self.inside.blocks.items c.args.sequence n)) none))

pub returns : goal.returns
returns c =
    let steps = c.self.inside.steps.items in
    let blocks = c.self.inside.blocks.items in
    let n = c.in_ok-steps.field-0.now in
    let found = c.in_ok-steps.ensures.lookup in
    let known = slice_get_read steps (length steps) c.args.sequence n refl (omega (arith, found.3.0, ap length c.deref.ensures.value)) (found.1 ∙ ap (λ ns. get_or ns c.args.sequence n) c.deref.ensures.value) in
    let rows = c.rows_of-rows.ensures ∙ ap (λ bs. get_or bs (c.args.sequence / 256) []) c.as_slice.ensures.value in
    c.value_in_block.ensures
    ∙ ap (λ rs. then_at (slice_get (map (row_in (c.args.sequence % 256)) (take n rs)) c.args.step) c.args.place) rows
    ∙ sym (ap (λ o. then_at (then_at o c.args.step) c.args.place) (ap (λ t. slice_get t c.args.sequence) (sym c.self.view_is) ∙ recorded-at steps blocks c.args.sequence ∙ ap (option_map (λ m. steps_in blocks c.args.sequence m)) known))
