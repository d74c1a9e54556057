use Rattle.std.proofs.Common.{◌∙◌, arith, ap, refl}
use Rattle.gate_sharing.specs.Equal.{Equal}
use Rattle.gate_sharing.proofs.EqualLaws.{standing-value}
use Rattle.gate_sharing.proofs.equalities.Equalities.find.Goals as goal

pub loop-next-init : goal.loop-next-init
loop-next-init c = record {
  below = omega arith;
  right = λ values negated right. right;
  root = λ values negated right. refl;
  next = λ values negated right. ap values c.standing-next.ensures ∙ standing-value c.args.self.now values negated right c.args.lit;
}

pub loop-next-preserved : goal.loop-next-preserved
loop-next-preserved c =
    let e : Equal = c.loop-next.self in
    record {
      below = omega (arith, c.loop-next.invariant.below, c.loop-next-test.true, c.var.ensures.variable, c.var-in-loop-next.ensures.variable);
      right = λ values negated right. c.redirect.ensures values negated
          (ap values c.standing-after.ensures ∙ standing-value e values negated (c.loop-next.invariant.right values negated right) c.loop-next.next ∙ c.loop-next.invariant.next values negated right)
          (c.loop-next.invariant.right values negated right);
      root = λ values negated right. c.loop-next.invariant.next values negated right ∙ c.loop-next.invariant.root values negated right;
      next = λ values negated right. ap values c.standing-after.ensures ∙ standing-value e values negated (c.loop-next.invariant.right values negated right) c.loop-next.next;
    }
