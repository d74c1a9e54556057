use Rattle.std.proofs.Common.{refl, sym, ◌∙◌, subst, Option, ℕ}
use Rattle.witnesses.specs.declared.witness.Property.TheVariants.{Bad}
use Rattle.witnesses.specs.Found.{IsReachingStep}
use Rattle.witnesses.proofs.ConfirmingLaws.{found_first, found_other}
use Rattle.witnesses.proofs.confirming.agreed_step.Goals as goal

pub returns-in_default : goal.returns-in_default
returns-in_default c = λ a b run other is there. (refl, subst (λ (o : Option ℕ). IsReachingStep b other (Bad c.args.number) o) c.in_default.is there)

pub returns-then-is_step : goal.returns-then-is_step
returns-then-is_step c = λ a b run other is there. (
  refl,
  record {
    retimed = subst (λ (o : Option ℕ). IsReachingStep b other (Bad c.args.number) o) c.in-Some.is there;
    original = found_first a run c.args.number c.args.found c.in-Some.step is (sym c.is_step.ensures ∙ c.if-is_step.true);
  },
)

pub returns : goal.returns
returns c = λ a b run other is there. (
  refl,
  record {
    step = c.in-Some.step;
    retimed = subst (λ (o : Option ℕ). IsReachingStep b other (Bad c.args.number) o) c.in-Some.is there;
    original = found_other a run c.args.number c.args.found c.in-Some.step is (sym c.is_step.ensures ∙ c.if-is_step.false);
  },
)
