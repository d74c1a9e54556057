use Rattle.std.proofs.Common.{ℕ, ◌+◌, ◌<◌, ◌≡◌, List, Some, inl, inr, arith, ap, get_or, length, set, slice_get, sym, ◌∙◌}
use Rattle.std.specs.Prelude.{slice_index}
use Rattle.std.proofs.lemmas.Bool.{cases_eq}
use Rattle.std.proofs.lemmas.List.{get_or-set_other, get_or-set_same, length-set}
use Rattle.std.proofs.lemmas.Option.{get_or_from_slice_get, slice_get-get_or, slice_get_within}
use Rattle.aag_text.specs.Arranging.{AreDistinct}
use Rattle.aag_text.proofs.circuit.order.ranks.Goals as goal

-- the place of one more number
one_more : (order ranks : List ℕ) (rank : ℕ) → AreDistinct order → rank < length order → length ranks ≡ length order → ((k g : ℕ) → k < rank → slice_get order k ≡ Some g → slice_index ranks g ≡ k)
    → (k g : ℕ) → k < rank + 1 → slice_get order k ≡ Some g → slice_index (set ranks (get_or order rank 0) rank) g ≡ k
one_more order ranks rank distinct within long before k g h there =
    let here = slice_get-get_or order rank 0 within in
    let is : get_or order k 0 ≡ g = get_or_from_slice_get order k g 0 there in
    elim (cases_eq k rank) [
      | inl same ↦
          let at : g ≡ get_or order rank 0 = sym is ∙ ap (λ (i : ℕ). get_or order i 0) same in
          ap (λ (i : ℕ). slice_index (set ranks (get_or order rank 0) rank) i) at
          ∙ get_or-set_same ranks (get_or order rank 0) rank 0 (omega (arith, distinct.below rank 0 within)) ∙ sym same
      | inr other ↦
          get_or-set_other ranks (get_or order rank 0) g rank 0 (λ e. other (distinct.alone g k rank there (here ∙ ap (λ (i : ℕ). Some i) (sym e))))
          ∙ before k g (omega (arith, h, other)) there
    ]

pub loop-rank-preserved : goal.loop-rank-preserved
loop-rank-preserved c = (
  length-set _ _ _ ∙ c.loop-rank.invariant.0,
  one_more c.args.order.now c.loop-rank.ranks.items c.loop-rank.rank c.requires.distinct c.loop-rank-test.true c.loop-rank.invariant.0 c.loop-rank.invariant.1,
)

pub returns : goal.returns
returns c = record {
  as_many = c.loop-rank.invariant.0;
  at = λ k g there. c.loop-rank.invariant.1 k g (omega (arith, slice_get_within c.args.order.now k g there, c.loop-rank-test.false)) there;
}
