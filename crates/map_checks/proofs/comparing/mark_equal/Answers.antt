use Rattle.std.proofs.Common.{ℕ, ◌≡◌, ◌∙◌, ◌<◌, Bool, true, List, length, get_or, arith, ap, sym}
use Rattle.std.proofs.lemmas.List.{get_or_default}
use Rattle.gate_sharing.specs.Equal.{Equal}
use Rattle.map_checks.specs.Parts.{AreEqualAt}
use Rattle.map_checks.proofs.MarkLaws.{marked-push}
use Rattle.map_checks.proofs.comparing.mark_equal.Goals as goal

pub loop-place-preserved : goal.loop-place-preserved
loop-place-preserved c =
    let e : Equal = c.args.equal.now in
    let lits : List ℕ = c.args.lits.now in
    let others : List ℕ = c.args.others.now in
    let old : List Bool = c.loop-place.marks.items in
    let n : ℕ = c.loop-place.place in
    let first : c.index-lits-place.result ≡ get_or lits n 0 = c.index-lits-place.is ∙ get_or_default lits n c.index-lits-place.result 0 c.loop-place-test.true in
    let within : n < length others = omega (arith, c.loop-place-test.true, c.requires) in
    let second : c.index-others-place.result ≡ get_or others n 0 = c.index-others-place.is ∙ get_or_default others n c.index-others-place.result 0 within in
    record {
      right = λ values negated right. c.find.ensures.right values negated (c.find-root.ensures.right values negated (c.loop-place.invariant.right values negated right));
      long = omega (arith, c.in_ok-push.ensures.len, c.loop-place.invariant.long);
      equal = λ k. marked-push (λ place. AreEqualAt k e lits others place) old c.push.new.self.items c.eq.result c.in_ok-push.ensures.items (c.loop-place.invariant.equal k) (λ same values respects right.
          let now = c.loop-place.invariant.right values respects.negation right in
          let one : c.find-root.result ≡ c.find.result = grind (arith, c.eq.ensures, same) in
          ap (λ (place : ℕ). values (get_or lits place 0)) c.loop-place.invariant.long
          ∙ ap values (sym first)
          ∙ sym (c.find-root.ensures.value values respects.negation now)
          ∙ ap values one
          ∙ c.find.ensures.value values respects.negation (c.find-root.ensures.right values respects.negation now)
          ∙ ap values second
          ∙ sym (ap (λ (place : ℕ). values (get_or others place 0)) c.loop-place.invariant.long));
    }
