-- The free latches of a trimmed graph, by their places among the free latches before.
use Rattle.std.proofs.Common.{ℕ, ◌+◌, ◌-◌, ◌<◌, ◌≤◌, ◌≡◌, inl, inr, suc, zero, List, length, Bool, true, false, Some, slice_get, get_or, arith, ap, sym, ◌∙◌}
use Rattle.std.specs.List.{All}
use Rattle.std.specs.List.Sorted.{IsStrictlyIncreasing}
use Rattle.std.proofs.lemmas.Bool.{cases_Bool, cases_lt, and_from, and_left, and_right, and_parts}
use Rattle.std.proofs.lemmas.Option.{slice_get_within, slice_get-get_or, get_or_from_slice_get}
use Rattle.std.proofs.lemmas.List.{length-map, get_or-map, get_or_default}
use Rattle.std.proofs.lemmas.List.Sums.{count_by_more_no, count_by_more_yes}
use Rattle.aig_graph.specs.declared.graph.Latch.{Latch}
use Rattle.aig_graph.specs.Graph.{Graph, first_latch, first_gate, latch_at, is_free, free_before, free_latches, is_free_latch}
use Rattle.aig_graph.specs.Circuits.{Netlist}
use Rattle.aig_graph.specs.Streams.{AreKept}
use Rattle.aig_graph.specs.Counting.{count_below, places}
use Rattle.cleaned_circuits.specs.Trimmed.{new_variable, renumbered_latch, trimmed_graph, trimmed_of, is_kept_free, kept_free}
use Rattle.aig_graph.proofs.PlacesLaws.{count-pass, count-fail, count-zero, count-le, count-lt, length-places, at_rank, Ranks, rank_at}
use Rattle.aig_graph.proofs.KindLaws.{element, latch_at-first_latch}
use Rattle.aig_graph.proofs.FreeLaws.{is_free_at, free-count}
use Rattle.cleaned_circuits.specs.Reached.{stays}
use Rattle.cleaned_circuits.proofs.TrimmedLaws.{stays-past, stays-reached, new-low, new-from, latch_in, trimmed-first_latch, trimmed-first_gate}

module _ (g : Graph) (s : ℕ → Bool) where
  kept_where : (j : ℕ) (latch : Latch) → slice_get g.latches j ≡ Some latch → is_free latch ≡ true → s (first_latch g + j) ≡ true → is_kept_free g s j ≡ true
  kept_where j latch there free reached =
      and_from (is_free_latch (latch_at g (first_latch g + j))) (s (first_latch g + j)) (ap is_free_latch (latch_at-first_latch g j ∙ there) ∙ free) reached

  -- as many free latches before a latch that stays as before it stayed
  pub free-rank : (j m : ℕ) → j ≤ length g.latches → first_latch g + m ≡ new_variable g s (first_latch g + j) → free_before (trimmed_graph g s) m ≡ count_below (is_kept_free g s) j
  free-rank zero m h rank =
      let place : first_latch g + 0 ≡ first_latch g = omega arith in
      let none : m ≡ 0 = omega (arith, ap (new_variable g s) place, new-low g s (first_latch g) (omega arith)) in
      ap (free_before (trimmed_graph g s)) none ∙ sym (count-zero (is_kept_free g s))
  free-rank (suc j) m h rank =
      let there = element g.latches j (omega arith) in
      let place : first_latch g + suc j ≡ suc (first_latch g + j) = omega arith in
      let at : new_variable g s (first_latch g + suc j) ≡ count_below (stays g s) (suc (first_latch g + j)) = ap (new_variable g s) place in
      elim (cases_Bool (s (first_latch g + j))) [
        | inl reached ↦ (
            let more : new_variable g s (first_latch g + suc j) ≡ new_variable g s (first_latch g + j) + 1 = at ∙ count-pass (stays g s) (first_latch g + j) (stays-reached g s (first_latch g + j) reached) in
            let from : first_latch g ≤ new_variable g s (first_latch g + j) = new-from g s (first_latch g + j) (omega arith) in
            let rank_before : first_latch g + (m - 1) ≡ new_variable g s (first_latch g + j) = omega arith in
            let step : m ≡ m - 1 + 1 = omega arith in
            let before : free_before (trimmed_graph g s) (m - 1) ≡ count_below (is_kept_free g s) j = free-rank j (m - 1) (omega arith) rank_before in
            let new_latch : Latch = renumbered_latch g s there.0 in
            let read : slice_get (trimmed_graph g s).latches (m - 1) ≡ Some new_latch = latch_in g s j (m - 1) there.0 there.1 reached rank_before in
            let get : get_or (trimmed_graph g s).latches (m - 1) new_latch ≡ new_latch = get_or_from_slice_get (trimmed_graph g s).latches (m - 1) new_latch new_latch read in
            let within : m - 1 < length (trimmed_graph g s).latches = slice_get_within (trimmed_graph g s).latches (m - 1) new_latch read in
            elim (cases_Bool (is_free there.0)) [
              | inl free ↦
                  ap (free_before (trimmed_graph g s)) step
                  ∙ count_by_more_yes is_free (trimmed_graph g s).latches (m - 1) new_latch within (ap is_free get ∙ free)
                  ∙ ap (λ (n : ℕ). n + 1) before
                  ∙ sym (count-pass (is_kept_free g s) j (kept_where j there.0 there.1 free reached))
              | inr known ↦
                  ap (free_before (trimmed_graph g s)) step
                  ∙ count_by_more_no is_free (trimmed_graph g s).latches (m - 1) new_latch within (ap is_free get ∙ known)
                  ∙ before
                  ∙ sym (count-fail (is_kept_free g s) j (and_left (is_free_latch (latch_at g (first_latch g + j))) (s (first_latch g + j)) (ap is_free_latch (latch_at-first_latch g j ∙ there.1) ∙ known)))
            ])
        | inr dropped ↦ (
            let fails : stays g s (first_latch g + j) ≡ false = stays-past g s (first_latch g + j) (omega arith) ∙ dropped in
            let same : new_variable g s (first_latch g + suc j) ≡ new_variable g s (first_latch g + j) = at ∙ count-fail (stays g s) (first_latch g + j) fails in
            free-rank j m (omega arith) (rank ∙ same)
            ∙ sym (count-fail (is_kept_free g s) j (and_right (is_free_latch (latch_at g (first_latch g + j))) (s (first_latch g + j)) dropped)))
      ]

  length-kept_free : length (kept_free g s) ≡ count_below (is_kept_free g s) (length g.latches)
  unfolding kept_free
  length-kept_free = length-map (places (is_kept_free g s) (length g.latches)) (free_before g) ∙ length-places (is_kept_free g s) (length g.latches)

  -- each free latch that stays finds its place among the free latches before
  pub kept_free-at : (j : ℕ) (latch : Latch) → slice_get g.latches j ≡ Some latch → is_free latch ≡ true → s (first_latch g + j) ≡ true → get_or (kept_free g s) (count_below (is_kept_free g s) j) 0 ≡ free_before g j
  unfolding kept_free
  kept_free-at j latch there free reached =
      let q : ℕ → Bool = is_kept_free g s in
      let kept : q j ≡ true = kept_where j latch there free reached in
      let within : j < length g.latches = slice_get_within g.latches j latch there in
      let below : count_below q j < length (places q (length g.latches)) = omega (arith, length-places q (length g.latches), count-lt q j (length g.latches) within kept) in
      get_or-map (free_before g) (places q (length g.latches)) (count_below q j) 0 0 below
      ∙ ap (free_before g) (get_or_from_slice_get (places q (length g.latches)) (count_below q j) j 0 (at_rank q (length g.latches) j within kept))

  -- a place of a kept free latch
  record KeptAt (k : ℕ) : Type 0 where
    at : ℕ
    place : get_or (kept_free g s) k 0 ≡ free_before g at
    within : at < length g.latches
    free : is_free_at g (first_latch g + at) ≡ true
    rank : count_below (is_kept_free g s) at ≡ k

  kept_at : (k : ℕ) → k < length (kept_free g s) → KeptAt k
  unfolding kept_free
  kept_at k h =
      let q : ℕ → Bool = is_kept_free g s in
      let all : List ℕ = places q (length g.latches) in
      let within : k < length all = omega (arith, length-map all (free_before g)) in
      let r : Ranks q (length g.latches) k (get_or all k 0) = rank_at q (length g.latches) k (get_or all k 0) (slice_get-get_or all k 0 within) in
      record {
        at = get_or all k 0;
        place = get_or-map (free_before g) all k 0 0 within;
        within = r.below;
        free = (and_parts (is_free_latch (latch_at g (first_latch g + get_or all k 0))) (s (first_latch g + get_or all k 0)) r.passes).0;
        rank = r.rank;
      }

  free-less : (i j : ℕ) → i < j → j ≤ length g.latches → is_free_at g (first_latch g + i) ≡ true → free_before g i < free_before g j
  free-less i j less within free =
      omega (arith, free-count g i (omega arith), free-count g j within, count-lt (is_free_at g) (first_latch g + i) (first_latch g + j) (omega arith) free)

  kept_free-rising : IsStrictlyIncreasing (kept_free g s)
  kept_free-rising k h =
      let first : KeptAt k = kept_at k (omega arith) in
      let second : KeptAt (k + 1) = kept_at (k + 1) (omega arith) in
      let order : first.at < second.at = elim (cases_lt first.at second.at) [
        | inl less ↦ less
        | inr more ↦ absurd (omega (arith, first.rank, second.rank, count-le (is_kept_free g s) second.at first.at more))
      ] in
      omega (arith, first.place, second.place, free-less first.at second.at order (omega (arith, second.within)) first.free)

  kept_free-below : All (λ place. place < free_latches g) (kept_free g s)
  kept_free-below k d h =
      let at : KeptAt k = kept_at k h in
      omega (arith, get_or_default (kept_free g s) k d 0 h, at.place, free-less at.at (length g.latches) at.within (omega arith) at.free)

  trimmed-free : free_latches (trimmed_graph g s) ≡ count_below (is_kept_free g s) (length g.latches)
  trimmed-free =
      let place : first_gate g ≡ first_latch g + length g.latches = omega arith in
      free-rank (length g.latches) (length (trimmed_graph g s).latches) (omega arith)
      (omega (arith, trimmed-first_gate g s, trimmed-first_latch g s, ap (new_variable g s) place))

-- the kept free latches of a trimmed circuit have rising places among those of the circuit, one for
-- each
pub are_kept : (c : Netlist) (s : ℕ → Bool) → AreKept c (trimmed_of c s) (kept_free c.aig s)
are_kept c s = record {
  rising = kept_free-rising c.aig s;
  below = kept_free-below c.aig s;
  each = length-kept_free c.aig s ∙ sym (trimmed-free c.aig s);
}
