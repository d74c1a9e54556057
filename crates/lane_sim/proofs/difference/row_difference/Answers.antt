use Rattle.std.proofs.Common.{◌≡◌, ◌∙◌, sym, ap, arith, []}
use Rattle.std.proofs.lemmas.List.{get_or_read}
use Rattle.lane_sim.specs.Lanes.{lane}
use Rattle.lane_sim.proofs.ComparingLaws.{rows_same, first_in_row, beq_apart}
use Rattle.lane_sim.proofs.difference.row_difference.Goals as goal

pub returns-then-get : goal.returns-then-get
returns-then-get c =
    let x = get_or_read c.args.xs.now c.loop-place.place c.index-xs-place.result c.loop-place-test.true c.index-xs-place.is [] in
    let y = get_or_read c.args.ys.now c.loop-place.place c.index-ys-place.result (omega (arith, c.loop-place-test.true, c.requires.places)) c.index-ys-place.is [] in
    first_in_row c.args.lane c.args.xs.now c.args.ys.now c.loop-place.place c.requires.places c.loop-place-test.true
    (λ same.
    let e : c.get.result ≡ c.get-in-loop-place.result = c.get.ensures ∙ ap (λ l. lane l c.args.lane) x ∙ same ∙ sym (c.get-in-loop-place.ensures ∙ ap (λ l. lane l c.args.lane) y) in
    beq_apart c.get.result c.get-in-loop-place.result c.if-get.true e)
    c.loop-place.invariant

pub returns : goal.returns
returns c = rows_same c.args.lane c.args.xs.now c.args.ys.now c.requires.places (λ q h. c.loop-place.invariant q (omega (arith, c.loop-place-test.false)))
