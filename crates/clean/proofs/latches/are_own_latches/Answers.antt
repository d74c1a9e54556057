use Rattle.std.proofs.Common.{◌≡◌, ◌∙◌, ◌+◌, ◌*◌, inl, inr, sym, ap, arith, length, List, ℕ, nat_eq, slice_get, Some, true, refl, subst}
use Rattle.std.proofs.lemmas.Bool.{cases_eq, eqb-true}
use Rattle.std.proofs.lemmas.Option.{same_Some, slice_get_read, slice_get_within}
use Rattle.aig_graph.specs.declared.graph.Latch.{Latch}
use Rattle.aig_graph.specs.Graph.{first_latch}
use Rattle.cleaned_circuits.specs.Latches.{latch_substitute}
use Rattle.clean.proofs.FirstsLaws.{firsts-start}
use Rattle.clean.proofs.latches.are_own_latches.Goals as goal

pub loop-place-init : goal.loop-place-init
loop-place-init c = record {
  firsts = rw c.new-firsts.ensures (firsts-start c.args.aig.now c.args.held.now.positions.now);
  own = λ j latch h e. absurd (omega (arith, h));
}

pub substitute_for_latch-requires-clause-there : goal.substitute_for_latch-requires-clause-there
substitute_for_latch-requires-clause-there c =
    let items : List Latch = c.latches-latch-items.result.now in
    ap (λ (xs : List Latch). slice_get xs c.loop-place.place) (sym c.latches-latch-items.ensures.value)
    ∙ slice_get_read items (length items) c.loop-place.place c.latch-item.result refl c.loop-place-test.true c.latch-item.is

pub loop-place-preserved : goal.loop-place-preserved
loop-place-preserved c =
    let g = c.args.aig.now in
    let held = c.args.held.now.positions.now in
    let place : ℕ = c.loop-place.place in
    let item : Latch = c.latch-item.result in
    let items : List Latch = c.latches-latch-items.result.now in
    let there : slice_get g.latches place ≡ Some item =
    ap (λ (xs : List Latch). slice_get xs place) (sym c.latches-latch-items.ensures.value)
    ∙ slice_get_read items (length items) place item refl c.loop-place-test.true c.latch-item.is in
    let is : nat_eq c.in_ok-substitute.substitute c.own_literal.result ≡ true = grind (arith, c.eq-is_own.ensures, c.if-not-is_own.false, c.if-not-is_own.ensures) in
    let here : latch_substitute g held place (Some item) ≡ 2 * (first_latch g + place) =
    sym c.in_ok-substitute.ensures.literal ∙ eqb-true c.in_ok-substitute.substitute c.own_literal.result is ∙ c.own_literal.ensures in
    record {
      firsts = c.in_ok-substitute.ensures.firsts;
      own = λ j latch h e. elim (cases_eq j place) [
        | inl same ↦ (
            let one : item ≡ latch = same_Some item latch (sym there ∙ ap (slice_get g.latches) (sym same) ∙ e) in
            let P : Latch → Type 0 = λ l. latch_substitute g held j (Some l) ≡ 2 * (first_latch g + j) in
            let Q : ℕ → Type 0 = λ n. latch_substitute g held n (Some item) ≡ 2 * (first_latch g + n) in
            subst P one (subst Q (sym same) here))
        | inr other ↦ c.loop-place.invariant.own j latch (omega (arith, h, other)) e
      ];
    }

pub returns : goal.returns
returns c = λ yes j latch e.
    let g = c.args.aig.now in
    let many = ap (λ (xs : List Latch). length xs) c.latches-latch-items.ensures.value in
    c.loop-place.invariant.own j latch (omega (arith, slice_get_within g.latches j latch e, c.loop-place-test.false, many)) e
