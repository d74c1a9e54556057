-- The first inputs or latches as those of the model.
use Rattle.std.proofs.Common.{inl, inr, ℕ, ◌+◌, ◌-◌, ◌<◌, ◌≤◌, ◌≡◌, List, length, map, replicate, slice_get, Option, Some, None, arith, ap, sym, ◌∙◌}
use Rattle.std.specs.List.{range_with_len}
use Rattle.std.proofs.lemmas.Bool.{cases_lt}
use Rattle.std.proofs.lemmas.List.{length-append, length-replicate, get_or-replicate}
use Rattle.std.proofs.lemmas.List.FromFn.{length-map-range_with_len, get_or-map-range_with_len}
use Rattle.std.proofs.lemmas.Option.{none-some, same_Some, slice_get-get_or, slice_get_past}
use Rattle.aig_graph.proofs.PlacesLaws.{slice_get-append_left, slice_get-append_right}
use Rattle.witness_circuits.specs.LiftedLaws.{first_places}

abbrev firsts : ℕ → List (Option ℕ)
firsts n = map (λ i. Some i) (range_with_len 0 n)

length-firsts : (n : ℕ) → length (firsts n) ≡ n
length-firsts n = length-map-range_with_len (λ i. Some i) 0 n

-- a place k below n is shared with place k of the model
pub first-place : (n all k : ℕ) → k < n → slice_get (first_places n all) k ≡ Some (Some k)
first-place n all k less =
    let here : slice_get (firsts n) k ≡ Some (Some k) =
    slice_get-get_or (firsts n) k None (omega (arith, less, length-firsts n)) ∙ ap (λ (o : Option ℕ). Some o) (get_or-map-range_with_len (λ i. Some i) 0 n k k None less (omega arith)) in
    slice_get-append_left (firsts n) (replicate (all - n) None) k (Some k) here

-- past the first there is none of the model's
pub place-first : (n all k place : ℕ) → slice_get (first_places n all) k ≡ Some (Some place) → (place ≡ k) × (k < n)
place-first n all k place e = elim (cases_lt k n) [
  | inl less ↦ (
      let both : Some place ≡ Some k = same_Some (Some place) (Some k) (sym e ∙ first-place n all k less) in
      (same_Some place k both, less))
  | inr past ↦ (
      let at : k ≡ length (firsts n) + (k - n) = omega (arith, past, length-firsts n) in
      let rest : slice_get (first_places n all) k ≡ slice_get (replicate (all - n) None) (k - n) =
      ap (slice_get (first_places n all)) at ∙ slice_get-append_right (firsts n) (replicate (all - n) None) (k - n) in
      absurd (never (k - n) place (sym rest ∙ e)))
]
  where
    never : (i p : ℕ) → slice_get (replicate {A = Option ℕ} (all - n) None) i ≡ Some (Some p) → ⊥
    never i p there = elim (cases_lt i (all - n)) [
      | inl short ↦ (
          let is : slice_get (replicate {A = Option ℕ} (all - n) None) i ≡ Some None =
          slice_get-get_or (replicate (all - n) None) i None (omega (arith, short, length-replicate {A = Option ℕ} (all - n) None)) ∙ ap (λ (o : Option ℕ). Some o) (get_or-replicate (all - n) i None None short) in
          none-some p (same_Some None (Some p) (sym is ∙ there)))
      | inr beyond ↦ none-some (Some p) (sym (slice_get_past (replicate (all - n) None) i (omega (arith, beyond, length-replicate {A = Option ℕ} (all - n) None))) ∙ there)
    ]

-- there are as many places as inputs or latches in all, if the model has no more of them
pub length-first_places : (n all : ℕ) → n ≤ all → length (first_places n all) ≡ all
length-first_places n all h = omega (arith, h, length-append (firsts n) (replicate (all - n) None), length-firsts n, length-replicate {A = Option ℕ} (all - n) None)
