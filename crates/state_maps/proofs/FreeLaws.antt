-- Free latches, in their order, and the outputs that stand for them.
use Rattle.std.proofs.Common.{inl, inr, ℕ, suc, zero, ◌+◌, ◌<◌, ◌≤◌, ◌≡◌, Bool, true, false, List, [], ◌∷◌, length, get_or, slice_get, if◌then◌else◌, refl, arith, ap, ◌∙◌, subst}
use Rattle.std.specs.List.{All}
use Rattle.std.specs.List.Sorted.{IsStrictlyIncreasing}
use Rattle.std.proofs.lemmas.Bool.{cases_lt}
use Rattle.std.proofs.lemmas.List.Elements.{All-cons, All-nil}
use Rattle.std.proofs.lemmas.Option.{slice_get_past}
use Rattle.aig_graph.proofs.PlacesLaws.{count-le, count-lt}
use Rattle.aig_graph.specs.declared.graph.Latch.{Latch}
use Rattle.aig_graph.specs.Graph.{Graph, first_latch, free_before, is_free, is_free_latch}
use Rattle.aig_graph.proofs.FreeLaws.{free-count, is_free_at}
use Rattle.aig_graph.proofs.KindLaws.{latch_at-first_latch}
use Rattle.state_maps.specs.MapCircuits.{free_outputs}

-- a free latch is one of the latches
pub free-within : (latches : List Latch) (k : ℕ) → is_free_latch (slice_get latches k) ≡ true → k < length latches
free-within latches k free = elim (cases_lt k (length latches)) [
  | inl short ↦ short
  | inr past ↦ (let none : is_free_latch (slice_get latches k) ≡ false = ap is_free_latch (slice_get_past latches k past) in absurd (clash (is_free_latch (slice_get latches k)) free none))
]
  where
    clash : (b : Bool) → b ≡ true → b ≡ false → ⊥
    clash true one none = absurd (cc)
    clash false one none = absurd (cc)

-- fewer free latches come before a free one than before a later latch
pub free-fewer : (g : Graph) (j n : ℕ) → is_free_latch (slice_get g.latches j) ≡ true → j < n → n ≤ length g.latches → free_before g j < free_before g n
free-fewer g j n free less within =
    let here : is_free_at g (first_latch g + j) ≡ true = ap is_free_latch (latch_at-first_latch g j) ∙ free in
    omega (arith, count-lt (is_free_at g) (first_latch g + j) (first_latch g + n) (omega (arith, less)) here, free-count g j (omega (arith, less, within)), free-count g n within)

-- a latch before which fewer free ones come is the earlier one
pub free-order : (g : Graph) (j n : ℕ) → j ≤ length g.latches → n ≤ length g.latches → free_before g j < free_before g n → j < n
free-order g j n one two fewer = elim (cases_lt j n) [
  | inl less ↦ less
  | inr past ↦ absurd (omega (
    arith,
    fewer,
    count-le (is_free_at g) (first_latch g + n) (first_latch g + j) (omega (arith, past)),
    free-count g j one,
    free-count g n two,
  ))
]

module _ (P : ℕ → Type 0) where
  all-put : (b : Bool) (x : ℕ) (xs : List ℕ) → (b ≡ true → P x) → All P xs → All P (if b then x ∷ xs else xs)
  all-put true x xs here rest = All-cons P x xs (here refl) rest
  all-put false x xs here rest = rest

  -- what holds of the output of each free latch holds of all outputs for free latches
  pub all-free : (latches : List Latch) (lits : List ℕ) → length lits ≡ length latches → ((j : ℕ) → is_free_latch (slice_get latches j) ≡ true → P (get_or lits j 0)) → All P (free_outputs latches lits)
  all-free [] lits long each = All-nil P
  all-free (l ∷ ls) [] long each = All-nil P
  all-free (l ∷ ls) (x ∷ xs) long each = all-put (is_free l) x (free_outputs ls xs) (λ free. each 0 free) (all-free ls xs (omega (arith, long)) (λ j free. each (suc j) free))

rising-cons : (x : ℕ) (xs : List ℕ) → All (λ y. x < y) xs → IsStrictlyIncreasing xs → IsStrictlyIncreasing (x ∷ xs)
rising-cons x xs first rest zero less = first 0 0 (omega (arith, less))
rising-cons x xs first rest (suc k) less =
    let next : suc (k + 1) ≡ suc k + 1 = omega arith in
    subst (λ (n : ℕ). get_or xs k 0 < get_or (x ∷ xs) n 0) next (rest k (omega (arith, less)))

rising-put : (b : Bool) (x : ℕ) (xs : List ℕ) → (b ≡ true → All (λ y. x < y) xs) → IsStrictlyIncreasing xs → IsStrictlyIncreasing (if b then x ∷ xs else xs)
rising-put true x xs first rest = rising-cons x xs (first refl) rest
rising-put false x xs first rest = rest

-- if the outputs of free latches rise, so do all outputs for them
pub rising-free : (latches : List Latch) (lits : List ℕ) → length lits ≡ length latches
    → ((i j : ℕ) → i < j → is_free_latch (slice_get latches i) ≡ true → is_free_latch (slice_get latches j) ≡ true → get_or lits i 0 < get_or lits j 0) → IsStrictlyIncreasing (free_outputs latches lits)
rising-free [] lits long each = λ k less. absurd (omega (arith, less))
rising-free (l ∷ ls) [] long each = λ k less. absurd (omega (arith, less))
rising-free (l ∷ ls) (x ∷ xs) long each =
    let many : length xs ≡ length ls = omega (arith, long) in
    rising-put (is_free l) x (free_outputs ls xs) (λ free. all-free (λ y. x < y) ls xs many (λ j later. each 0 (suc j) (omega arith) free later))
    (rising-free ls xs many (λ i j less one two. each (suc i) (suc j) (omega (arith, less)) one two))
