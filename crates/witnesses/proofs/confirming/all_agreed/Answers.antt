use Rattle.std.proofs.Common.{ℕ, ◌+◌, ◌≡◌, ap, subst, ◌∙◌, Result, Some, length, get_or, slice_get}
use Rattle.std.proofs.lemmas.List.{length_push}
use Rattle.std.proofs.lemmas.Option.{slice_get-get_or}
use Rattle.witnesses.specs.declared.witness.Property.{Property}
use Rattle.witnesses.specs.declared.witness.Property.TheVariants.{Bad}
use Rattle.witnesses.specs.declared.witness.Reached.{Reached}
use Rattle.witnesses.specs.declared.confirming.Objection.{Objection}
use Rattle.witnesses.specs.Confirming.{IsAgreed}
use Rattle.witnesses.proofs.ConfirmingLaws.{one_more}
use Rattle.witnesses.proofs.confirming.all_agreed.Goals as goal

pub returns-in-Err : goal.returns-in-Err
returns-in-Err c = λ a b run other is there.
    let k = c.loop-k.k in
    let properties = c.args.properties.now in
    let p : Property = get_or properties k (Bad 0) in
    let at : slice_get properties k ≡ Some p = slice_get-get_or properties k (Bad 0) c.loop-k-test.true in
    record {
      place = k;
      property = p;
      here = at;
      objected = subst (λ (r : Result Reached Objection). IsAgreed a b run other p r) c.in-Err.is (c.agreed.ensures a b run other (is k p at) (there k p at));
    }

pub loop-k-preserved : goal.loop-k-preserved
loop-k-preserved c =
    let k = c.loop-k.k in
    let properties = c.args.properties.now in
    let p : Property = get_or properties k (Bad 0) in
    let at : slice_get properties k ≡ Some p = slice_get-get_or properties k (Bad 0) c.loop-k-test.true in
    record {
      many = ap length c.in_ok-push-in-Ok.ensures.items ∙ length_push c.loop-k.reached.items c.in-Ok.step ∙ ap (λ (n : ℕ). n + 1) c.loop-k.invariant.many;
      each = λ a b run other is there.
          one_more a b run other properties c.loop-k.reached.items _ p c.in-Ok.step c.in_ok-push-in-Ok.ensures.items
          (ap (slice_get properties) c.loop-k.invariant.many ∙ at)
          (subst (λ (r : Result Reached Objection). IsAgreed a b run other p r) c.in-Ok.is (c.agreed.ensures a b run other (is k p at) (there k p at)))
          (c.loop-k.invariant.each a b run other is there);
    }
