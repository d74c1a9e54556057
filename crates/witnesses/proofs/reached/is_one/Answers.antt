use Rattle.std.proofs.Common.{ℕ, ◌∙◌, ◌<◌, ap, arith, length, map, sym, false}
use Rattle.std.proofs.lemmas.List.{get_or-map, get_or_past, get_or_default, length-map}
use Rattle.lane_sim.specs.Blocks.{in_lane}
use Rattle.lane_sim.specs.Traces.{value_in}
use Rattle.witnesses.proofs.reached.is_one.Goals as goal

pub returns-then-number-bad : goal.returns-then-number-bad
returns-then-number-bad c = λ g sequences t at.
    let v : ℕ → _ = value_in g (in_lane sequences 0) t in
    let bad = c.args.bad.now in
    let n = c.args.number in
    let within : n < length bad = omega (arith, c.if-number-bad.true) in
    c.get.ensures g sequences t at
    ∙ ap v (c.index-bad-number.is ∙ get_or_default bad n c.index-bad-number.result 0 within)
    ∙ sym (get_or-map v bad n 0 false within)

pub returns : goal.returns
returns c = λ g sequences t at.
    sym (get_or_past (map (value_in g (in_lane sequences 0) t) c.args.bad.now) c.args.number false
    (omega (arith, c.if-number-bad.false, length-map c.args.bad.now (value_in g (in_lane sequences 0) t))))
