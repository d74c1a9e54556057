use Rattle.std.proofs.Common.{◌≡◌, ap, sym, subst, arith, ℕ}
use Rattle.gate_sharing.specs.Equal.{Equal, IsRight}
use Rattle.gate_sharing.proofs.EqualLaws.{right-push}
use Rattle.gate_sharing.proofs.equalities.Equalities.cover.Goals as goal

pub loop-place-init : goal.loop-place-init
loop-place-init c = record {
  first = ap (λ (e : Equal). e.first) c.self.view_is;
  long = omega (arith, c.len-place.ensures, c.self.inside.substitutes.ok);
  right = λ values negated right. subst (λ (e : Equal). IsRight e values) (sym c.self.view_is) right;
}

pub overflow_add-self-inside : goal.overflow_add-self-inside
overflow_add-self-inside c =
    let same : c.self.inside.first ≡ c.args.self.now.first = ap (λ (e : Equal). e.first) c.self.view_is in
    grind (arith, c.loop-place-test.true, c.loop-place.invariant.first, same, c.var-var.ensures.small, c.if-var-self.false)

pub new-requires : goal.new-requires
new-requires c =
    let same : c.self.inside.first ≡ c.args.self.now.first = ap (λ (e : Equal). e.first) c.self.view_is in
    omega (arith, c.loop-place-test.true, c.loop-place.invariant.first, same, c.var-var.ensures.small, c.if-var-self.false)

pub loop-place-preserved : goal.loop-place-preserved
loop-place-preserved c =
    let first : ℕ = c.loop-place.self-inside.first in
    let own : ℕ = c.new.result in
    record {
      first = c.loop-place.invariant.first;
      long = omega (arith, c.in_ok-push.ensures.len, c.loop-place.invariant.long);
      right = λ values negated right.
          right-push first own c.loop-place.self-inside.substitutes.items c.push.new.self.items c.in_ok-push.ensures.items (omega (arith, c.new.ensures, c.loop-place.invariant.long)) values
          (c.loop-place.invariant.right values negated right);
    }
