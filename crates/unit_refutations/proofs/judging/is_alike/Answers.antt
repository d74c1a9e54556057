use Rattle.std.proofs.Common.{◌-◌, ◌≡◌, length, slice_get, refl, arith, ap, sym, ◌∙◌}
use Rattle.std.proofs.lemmas.Option.{same_Some, slice_get_read}
use Rattle.std.proofs.lemmas.Result.{IfOk-weaker}
use Rattle.aig_graph.specs.declared.graph.Latch.{Latch}
use Rattle.std.proofs.Common.{List}
use Rattle.aig_graph.specs.Graph.{first_latch}
use Rattle.aig_graph.proofs.KindLaws.{latch_place}
use Rattle.unit_refutations.specs.Classes.{told}
use Rattle.unit_refutations.proofs.judging.is_alike.Goals as goal

pub returns-then-var-eq0 : goal.returns-then-var-eq0
returns-then-var-eq0 c = IfOk-weaker c.equal_by_probing.result _ _ (λ alike equal is.
    let found = c.in-Some.ensures.lookup in
    let here = ap (λ (ls : List Latch). slice_get ls c.args.place) (sym c.latches.ensures.value)
    ∙ slice_get_read c.latches.result.now (length c.latches.result.now) c.args.place c.in-Some.latch.now refl found.3.0 found.1 in
    record {
      constant = λ latch there zero values respects.
          ap values (sym (c.told.ensures ∙ ap told (same_Some _ _ (sym here ∙ there)))) ∙ equal is values respects;
      first = λ i latch first there first_there at. absurd (omega (arith, at, c.if-var-eq0.true, c.var.ensures.variable));
    }) c.equal_by_probing.ensures

pub returns-in-Some-latch : goal.returns-in-Some-latch
returns-in-Some-latch c = IfOk-weaker c.equal_by_probing-in-Some-latch.result _ _ (λ alike equal is.
    let found = c.in-Some.ensures.lookup in
    let here = ap (λ (ls : List Latch). slice_get ls c.args.place) (sym c.latches.ensures.value)
    ∙ slice_get_read c.latches.result.now (length c.latches.result.now) c.args.place c.in-Some.latch.now refl found.3.0 found.1 in
    let place = latch_place c.args.aig.now c.var-2.result c.in-Some-latch.first (sym c.in-Some-latch.ensures) in
    record {
      constant = λ latch there zero. absurd (omega (arith, zero, c.if-var-eq0.false, c.var.ensures.variable));
      first = λ i latch first there first_there at values respects.
          let index : c.var-2.result - first_latch c.args.aig.now ≡ i = omega (arith, at, c.var-2.ensures.variable) in
          let other = sym place.there ∙ ap (slice_get c.args.aig.now.latches) index ∙ first_there in
          ap values (sym (c.told-in-Some-latch.ensures ∙ ap told (same_Some _ _ (sym here ∙ there)))) ∙ equal is values respects
          ∙ ap values (c.told-in-Some-latch-2.ensures ∙ ap told (same_Some _ _ other));
    }) c.equal_by_probing-in-Some-latch.ensures
