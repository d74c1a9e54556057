use Rattle.std.proofs.Common.{ℕ, ◌≡◌, inl, inr, true, [], map, get_or, arith, ap, sym, subst, ◌∙◌}
use Rattle.std.proofs.lemmas.Bool.{cases_lt}
use Rattle.std.proofs.lemmas.List.{get_or-map, length-map}
use Rattle.aig_graph.specs.Keep.{has_name}
use Rattle.aig_graph.proofs.HoldingLaws.{missing-at, missing-none}
use Rattle.aig_graph.proofs.holding.first_missing.Goals as goal

pub returns-then-not-is_among : goal.returns-then-not-is_among
returns-then-not-is_among c =
    let here : c.is_among.result ≡ has_name c.args.symbols.now (get_or (map (λ name. name.items) c.args.names.now) c.loop-place.place []) =
    c.is_among.ensures ∙ c.in_ok-found.ensures c.as_slice.result.now
    ∙ ap (has_name c.args.symbols.now) (c.as_slice.ensures.value ∙ ap (λ name. name.items) c.index-names-place.is
    ∙ sym (get_or-map (λ name. name.items) c.args.names.now c.loop-place.place c.index-names-place.result [] c.loop-place-test.true)) in
    sym (missing-at _ _ c.loop-place.place (omega (arith, c.loop-place-test.true, length-map c.args.names.now (λ name. name.items))) c.loop-place.invariant (sym here ∙ c.if-not-is_among.true))

pub loop-place-preserved : goal.loop-place-preserved
loop-place-preserved c = λ k h.
    let here : c.is_among.result ≡ has_name c.args.symbols.now (get_or (map (λ name. name.items) c.args.names.now) c.loop-place.place []) =
    c.is_among.ensures ∙ c.in_ok-found.ensures c.as_slice.result.now
    ∙ ap (has_name c.args.symbols.now) (c.as_slice.ensures.value ∙ ap (λ name. name.items) c.index-names-place.is
    ∙ sym (get_or-map (λ name. name.items) c.args.names.now c.loop-place.place c.index-names-place.result [] c.loop-place-test.true)) in
    elim (cases_lt k c.loop-place.place) [
      | inl low ↦ c.loop-place.invariant k low
      | inr high ↦ (let same : c.loop-place.place ≡ k = omega arith in
          subst (λ (i : ℕ). has_name c.args.symbols.now (get_or (map (λ name. name.items) c.args.names.now) i []) ≡ true) same (sym here ∙ c.if-not-is_among.false))
    ]

pub returns : goal.returns
returns c = sym (missing-none _ _ (λ k h. c.loop-place.invariant k (omega (arith, h, c.loop-place-test.false, length-map c.args.names.now (λ name. name.items)))))
