use Rattle.std.proofs.Common.{ℕ, ap, sym, ◌∙◌, arith, ◌++◌, ◌∷◌, [], ◌+◌, List, drop}
use Rattle.witnesses.specs.declared.witness.Digit.{Digit}
use Rattle.witnesses.specs.Carrying.{opening_digits}
use Rattle.witnesses.proofs.FreeLaws.{free_opened, known_opened, opening_all}
use Rattle.witnesses.proofs.free.opening.Goals as goal
use Rattle.witnesses.proofs.free.opening.Goals.{then-is_free, else-is_free}

pub loop-latch-preserved : goal.loop-latch-preserved
loop-latch-preserved c =
    let latches = c.args.latches.now in
    let free = c.args.free.now in
    let k = c.loop-latch.latch-index in
    let next = c.loop-latch.next in
    let rest : ℕ → List Digit = λ n. opening_digits (drop (k + 1) latches) (drop n free) in
    let pushed = sym (c.in_ok-push.ensures.items ∙ ap (λ (d : Digit). c.loop-latch.digits.items ++ d ∷ []) c.opened.ensures) in
    elim c.if-is_free.branch [
      | then-is_free w ↦ record {
        few = omega (arith, c.loop-latch.invariant.few, w.next-is);
        rest = free_opened latches free _ _ k next c.loop-latch.invariant.rest c.latch-item.result c.loop-latch-test.true c.latch-item.is (sym c.is_free.ensures ∙ w.if-is_free.true)
            ∙ ap (λ (ds : List Digit). ds ++ rest (next + 1)) pushed ∙ ap (λ (n : ℕ). c.push.new.self.items ++ rest n) (sym w.next-is);
      }
      | else-is_free w ↦ record {
        few = omega (arith, c.loop-latch.invariant.few, w.next-is);
        rest = known_opened latches free _ _ k next c.loop-latch.invariant.rest c.latch-item.result c.loop-latch-test.true c.latch-item.is (sym c.is_free.ensures ∙ w.if-is_free.false)
            ∙ ap (λ (ds : List Digit). ds ++ rest next) pushed ∙ ap (λ (n : ℕ). c.push.new.self.items ++ rest n) (sym w.next-is);
      }
    ]

pub returns : goal.returns
returns c = opening_all c.args.latches.now c.args.free.now _ _ c.loop-latch.latch-index c.loop-latch.next c.loop-latch.invariant.rest c.loop-latch-test.false
