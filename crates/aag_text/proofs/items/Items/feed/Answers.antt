use Rattle.std.proofs.Common.{◌++◌, ◌∷◌, ◌-◌, length, arith, refl, ap, length-append}
use Rattle.std.proofs.lemmas.Result.{err_from_is_err_and}
use Rattle.aag_text.proofs.FeedingLaws.{line_fails_in, line_taken_in, rest_held}
use Rattle.aag_text.proofs.items.Items.feed.Goals as goal

pub overflow_sub-self : goal.overflow_sub-self
overflow_sub-self c = omega (arith, c.loop-part.invariant.short, ap length c.in-Some.ensures.whole, length-append c.in-Some.part.now (10 ∷ c.in-Some.rest.now))

pub returns-in_err-take_line : goal.returns-in_err-take_line
returns-in_err-take_line c bytes hold whole =
    let p = err_from_is_err_and c.from_residual-in_err-take_line.result c.from_residual-in_err-take_line.ensures.1 in
    rw (p.1, p.2) (line_fails_in c.loop-part.self c.extend.new.self c.in-Some.part.now c.in-Some.rest.now c.loop-part.left.now (bytes ++ c.args.piece.now) c.in-Some.ensures c.in_ok-extend.ensures.comment c.in_ok-extend.ensures.goes_on
    (c.loop-part.invariant.holds bytes hold whole) _ c.in_err-take_line.ensures)

pub loop-part-preserved : goal.loop-part-preserved
loop-part-preserved c = record {
  short = omega (arith, c.loop-part.invariant.short, ap length c.in-Some.ensures.whole, length-append c.in-Some.part.now (10 ∷ c.in-Some.rest.now));
  holds = λ bytes hold whole. line_taken_in c.loop-part.self c.extend.new.self c.in-Some.part.now c.in-Some.rest.now c.loop-part.left.now (bytes ++ c.args.piece.now) c.in-Some.ensures c.in_ok-extend.ensures.comment c.in_ok-extend.ensures.goes_on
      (c.loop-part.invariant.holds bytes hold whole) c.take_line.new.self (c.args.end - length c.in-Some.rest.now) c.args.end whole refl c.in_ok-take_line.ensures;
}

pub returns : goal.returns
returns c bytes hold whole =
    rest_held c.loop-part.self c.extend-2.new.self c.loop-part.left.now (bytes ++ c.args.piece.now) c.in_default.ensures c.in_ok-extend-2.ensures.comment c.in_ok-extend-2.ensures.goes_on (c.loop-part.invariant.holds bytes hold whole)
