use Rattle.std.proofs.Common.{◌∙◌, ap, sym, refl, ◌/◌, [], arith, length, get_or}
use Rattle.std.proofs.lemmas.Option.{slice_get_read}
use Rattle.lane_sim.proofs.TraceLaws.{recorded-steps, recorded-past, steps_in-length}
use Rattle.lane_sim.proofs.trace.Trace.steps.Goals as goal

pub returns-in_default : goal.returns-in_default
returns-in_default c =
    let steps = c.self.inside.steps.items in
    sym (ap length (ap (λ t. get_or t c.args.sequence []) (sym c.self.view_is)
    ∙ recorded-past steps c.self.inside.blocks.items c.args.sequence (omega (arith, c.in_default.ensures.lookup.3, ap length c.deref.ensures.value))))

pub returns : goal.returns
returns c =
    let steps = c.self.inside.steps.items in
    let blocks = c.self.inside.blocks.items in
    let n = c.in-Some.steps.now in
    let found = c.in-Some.ensures.lookup in
    let known = slice_get_read steps (length steps) c.args.sequence n refl (omega (arith, found.3.0, ap length c.deref.ensures.value)) (found.1 ∙ ap (λ ns. get_or ns c.args.sequence n) c.deref.ensures.value) in
    let rows = c.rows_of-rows.ensures ∙ ap (λ bs. get_or bs (c.args.sequence / 256) []) c.as_slice.ensures.value in
    omega (
      arith,
      c.min.ensures,
      ap length rows,
      ap length (ap (λ t. get_or t c.args.sequence []) (sym c.self.view_is) ∙ recorded-steps steps blocks c.args.sequence n known) ∙ steps_in-length blocks c.args.sequence n,
    )
