use Rattle.std.proofs.Common.{ap, sym, ◌∙◌, arith, ◌+◌, ◌++◌, List}
use Rattle.witnesses.specs.declared.witness.Digit.{Digit}
use Rattle.witnesses.specs.declared.witness.Digit.TheVariants.{Zero}
use Rattle.witnesses.proofs.FreeLaws.{rest_free, free_taken, known_passed, free_all}
use Rattle.witnesses.proofs.free.free_digits.Goals as goal
use Rattle.witnesses.proofs.free.free_digits.Goals.{then-is_free+in_ok-push, else-is_free}

pub loop-place-preserved : goal.loop-place-preserved
loop-place-preserved c =
    let latches = c.args.latches.now in
    let digits = c.args.digits.now in
    let place = c.loop-place.place in
    elim c.if-is_free.branch [
      | then-is_free+in_ok-push w ↦
          free_taken latches digits place _ _ _ Zero (omega (arith, c.loop-place-test.true, c.min-place-end.ensures)) (omega (arith, c.loop-place-test.true, c.min-place-end.ensures))
          c.index-latches-place.is (sym c.is_free.ensures ∙ w.if-is_free.true) c.loop-place.invariant
          ∙ ap (λ (ds : List Digit). ds ++ rest_free latches digits place (place + 1)) (sym (ap (λ v. v.items) w.free-is ∙ w.in_ok-push.ensures.items))
      | else-is_free w ↦
          known_passed latches digits place _ _ _ (omega (arith, c.loop-place-test.true, c.min-place-end.ensures)) (omega (arith, c.loop-place-test.true, c.min-place-end.ensures))
          c.index-latches-place.is (sym c.is_free.ensures ∙ w.if-is_free.false) c.loop-place.invariant
          ∙ ap (λ (ds : List Digit). ds ++ rest_free latches digits place (place + 1)) (sym (ap (λ v. v.items) w.free-is))
    ]

pub returns : goal.returns
returns c = free_all c.args.latches.now c.args.digits.now c.loop-place.place _ _ (omega (arith, c.loop-place-test.false, c.min-place-end.ensures)) c.loop-place.invariant
