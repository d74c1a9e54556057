use Rattle.std.proofs.Common.{ℕ, List, [], ◌∷◌, ◌++◌, ◌+◌, ◌<◌, ◌∙◌, get_or, length, map, take, ap, arith, sym}
use Rattle.std.proofs.lemmas.List.{map_more, take_all}
use Rattle.std.proofs.lemmas.List.Kept.{AllPairs-from_increasing}
use Rattle.aig_graph.proofs.MarkingLaws.{count-start}
use Rattle.aig_graph.specs.Counting.{count_below}
use Rattle.rebuild.proofs.ranks.ranks_of.Goals as goal

pub loop-place-init : goal.loop-place-init
loop-place-init c = record {
  few = omega arith;
  ahead = λ k low high. omega arith;
  last = λ first p all. sym (count-start first c.args.marks.now p all);
  ranked = λ first p all. c.in_ok-ranks.ensures.items;
}

pub loop-place-preserved : goal.loop-place-preserved
loop-place-preserved c =
    let i : ℕ = c.loop-place.place-index in
    let places : List ℕ = c.args.places.now in
    record {
      few = c.rank_from-rank.ensures.few;
      ahead = λ k low high.
          let less : get_or places i 0 < get_or places k 0 = AllPairs-from_increasing places c.requires.rising i k 0 (omega arith) high in
          omega (arith, less);
      last = λ first p all. c.rank_from-rank.ensures.rank first p all (c.loop-place.invariant.last first p all);
      ranked = λ first p all.
          let rank_of : ℕ → ℕ = λ place. count_below p (first + place) in
          c.in_ok-push.ensures.items
          ∙ ap (λ (xs : List ℕ). xs ++ c.rank_from-rank.result ∷ []) (c.loop-place.invariant.ranked first p all)
          ∙ ap (λ (rank : ℕ). map rank_of (take i places) ++ rank ∷ []) (c.rank_from-rank.ensures.rank first p all (c.loop-place.invariant.last first p all))
          ∙ sym (map_more rank_of places i 0 c.loop-place-test.true);
    }

pub rank_from-rank-requires-clause-few : goal.rank_from-rank-requires-clause-few
rank_from-rank-requires-clause-few c = c.loop-place.invariant.few

pub rank_from-rank-requires-clause-order : goal.rank_from-rank-requires-clause-order
rank_from-rank-requires-clause-order c = c.loop-place.invariant.ahead c.loop-place.place-index (omega arith) c.loop-place-test.true

pub rank_from-rank-requires-clause-within : goal.rank_from-rank-requires-clause-within
rank_from-rank-requires-clause-within c =
    let here : get_or c.args.places.now c.loop-place.place-index 0 < length c.args.marks.now = c.requires.within c.loop-place.place-index 0 c.loop-place-test.true in
    omega (arith, here)

pub returns : goal.returns
returns c = λ first p all.
    c.loop-place.invariant.ranked first p all ∙ ap (map (λ place. count_below p (first + place))) (take_all _ _ c.loop-place-test.false)
