use Rattle.std.proofs.Common.{ℕ, ap, sym, ◌∙◌, arith, ◌++◌, ◌∷◌, [], ◌+◌, ◌-◌, List, drop}
use Rattle.witnesses.specs.declared.witness.Digit.{Digit}
use Rattle.witnesses.specs.Carrying.{spread}
use Rattle.witnesses.proofs.FreeLaws.{place_kept, place_other, spread_all}
use Rattle.witnesses.proofs.free.spread.Goals as goal
use Rattle.witnesses.proofs.free.spread.Goals.{then-is_next+in_ok-push, else-is_next+in_ok-push-2}

pub loop-place-preserved : goal.loop-place-preserved
loop-place-preserved c =
    let count = c.args.count in
    let place = c.loop-place.place in
    let next = c.loop-place.next in
    let kept = c.args.kept.now in
    let digits = c.args.digits.now in
    let rest : ℕ → List Digit = λ n. spread (count - (place + 1)) (place + 1) (drop n kept) (drop n digits) in
    elim c.if-is_next.branch [
      | then-is_next+in_ok-push w ↦ record {
        few = omega (arith, c.loop-place.invariant.few, w.next-is);
        rest = place_kept count place next kept digits _ _ c.loop-place-test.true c.loop-place.invariant.rest (sym c.is_next.ensures ∙ w.if-is_next.true)
            ∙ ap (λ (d : Digit). (c.loop-place.free.items ++ d ∷ []) ++ rest (next + 1)) (sym w.digit_at.ensures)
            ∙ ap (λ (ds : List Digit). ds ++ rest (next + 1)) (sym (ap (λ v. v.items) w.free-is ∙ w.in_ok-push.ensures.items))
            ∙ ap (λ (n : ℕ). c.if-is_next.free.items ++ rest n) (sym w.next-is);
      }
      | else-is_next+in_ok-push-2 w ↦ record {
        few = omega (arith, c.loop-place.invariant.few, w.next-is);
        rest = place_other count place next kept digits _ _ c.loop-place-test.true c.loop-place.invariant.rest (sym c.is_next.ensures ∙ w.if-is_next.false)
            ∙ ap (λ (ds : List Digit). ds ++ rest next) (sym (ap (λ v. v.items) w.free-is ∙ w.in_ok-push-2.ensures.items))
            ∙ ap (λ (n : ℕ). c.if-is_next.free.items ++ rest n) (sym w.next-is);
      }
    ]

pub returns : goal.returns
returns c = spread_all c.args.count c.loop-place.place _ _ _ _ c.loop-place-test.false c.loop-place.invariant.rest
