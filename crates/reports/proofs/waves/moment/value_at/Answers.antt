use Rattle.std.proofs.Common.{◌<◌, ◌∙◌, Some, ap, arith, length, map, refl, sym}
use Rattle.std.specs.Option.{option_map}
use Rattle.std.proofs.lemmas.Bool.{cond-false, cond-true, le-ltb, lt-ltb}
use Rattle.std.proofs.lemmas.List.{length-map}
use Rattle.std.proofs.lemmas.Option.{slice_get-map, slice_get_past, slice_get_read}
use Rattle.lane_sim.specs.Traces.{value_in}
use Rattle.reports.proofs.waves.moment.value_at.Goals as goal

pub returns-then-len-time : goal.returns-then-len-time
returns-then-len-time c = λ g sequences at here.
    sym (cond-false _ _ _ (le-ltb c.args.time (length c.args.sequence.now.steps) (omega (arith, c.if-len-time.true, c.len.ensures))))

pub returns-in_err-lit : goal.returns-in_err-lit
returns-in_err-lit c = λ g sequences at here.
    let run = c.args.sequence.now in
    let literals = c.args.literals.now in
    let has : c.args.time < length run.steps = omega (arith, c.if-len-time.false, c.len.ensures) in
    c.from_residual.ensures
    ∙ sym (cond-true _ _ _ (lt-ltb c.args.time (length run.steps) has)
    ∙ slice_get_past (map (value_in g run c.args.time) literals) c.args.place (omega (arith, c.in_err-lit.ensures.lookup.3, length-map literals (value_in g run c.args.time))))

pub returns : goal.returns
returns c = λ g sequences at here.
    let run = c.args.sequence.now in
    let literals = c.args.literals.now in
    let has : c.args.time < length run.steps = omega (arith, c.if-len-time.false, c.len.ensures) in
    let found = c.in_ok-lit.ensures.lookup in
    let lit = c.in_ok-lit.lit.now in
    let there = slice_get_read literals (length literals) c.args.place lit refl found.3.0 found.1 in
    ap Some (c.get-2.ensures g sequences c.args.time at ∙ ap (λ r. value_in g r c.args.time lit) here)
    ∙ sym (cond-true _ _ _ (lt-ltb c.args.time (length run.steps) has)
    ∙ slice_get-map (value_in g run c.args.time) literals c.args.place ∙ ap (option_map (value_in g run c.args.time)) there)
