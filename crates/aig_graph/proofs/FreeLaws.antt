-- Free latches, counted by variables.
use Rattle.std.proofs.Common.{ℕ, ◌+◌, ◌≤◌, ◌≡◌, inl, inr, suc, zero, length, take, count_by, Bool, arith, ap, sym, ◌∙◌, add-one, ◌<◌, cond, Some, slice_get, get_or, true, false}
use Rattle.std.proofs.lemmas.Bool.{cases_Bool}
use Rattle.std.proofs.lemmas.Option.{get_or_from_slice_get, slice_get_within}
use Rattle.std.proofs.lemmas.List.Sums.{count_by_more_no, count_by_more_yes}
use Rattle.aig_graph.specs.declared.graph.Latch.{Latch}
use Rattle.aig_graph.specs.declared.graph.Reset.{Reset}
use Rattle.aig_graph.specs.declared.graph.Reset.TheVariants.{Zero, One, Free}
use Rattle.aig_graph.specs.Graph.{Graph, first_latch, first_gate, variables_end, latch_at, is_free, is_free_latch, free_before, free_latches}
use Rattle.aig_graph.specs.Counting.{count_below}
use Rattle.aig_graph.proofs.PlacesLaws.{count-pass, count-fail}
use Rattle.aig_graph.proofs.CountingLaws.{count-none}
use Rattle.aig_graph.proofs.KindLaws.{element, latch_at-before, latch_at-first_latch, latch_at-gates}

abbrev pub is_free_at : Graph → ℕ → Bool
is_free_at g v = is_free_latch (latch_at g v)

-- the free latches before a latch, counted by variables
pub free-count : (g : Graph) (j : ℕ) → j ≤ length g.latches → count_below (is_free_at g) (first_latch g + j) ≡ free_before g j
free-count g zero h =
    let none : count_below (is_free_at g) (first_latch g) ≡ 0 = count-none (is_free_at g) (first_latch g) (λ v less. ap is_free_latch (latch_at-before g v less)) in
    let place : first_latch g + 0 ≡ first_latch g = omega arith in
    ap (count_below (is_free_at g)) place ∙ none
free-count g (suc j) h =
    let before : count_below (is_free_at g) (first_latch g + j) ≡ free_before g j = free-count g j (omega arith) in
    let there = element g.latches j (omega arith) in
    let here : is_free_at g (first_latch g + j) ≡ is_free there.0 = ap is_free_latch (latch_at-first_latch g j ∙ there.1) in
    let place : first_latch g + suc j ≡ suc (first_latch g + j) = omega arith in
    let next : suc j ≡ j + 1 = sym (add-one j) in
    let read = get_or_from_slice_get g.latches j there.0 there.0 there.1 in
    elim (cases_Bool (is_free there.0)) [
      | inl free ↦ (
          let more : count_by is_free (take (j + 1) g.latches) ≡ count_by is_free (take j g.latches) + 1 = count_by_more_yes is_free g.latches j there.0 (omega arith) (ap is_free read ∙ free) in
          ap (count_below (is_free_at g)) place ∙ count-pass (is_free_at g) (first_latch g + j) (here ∙ free) ∙ ap (λ (n : ℕ). n + 1) before ∙ sym more ∙ ap (free_before g) (sym next))
      | inr known ↦ (
          let more : count_by is_free (take (j + 1) g.latches) ≡ count_by is_free (take j g.latches) = count_by_more_no is_free g.latches j there.0 (omega arith) (ap is_free read ∙ known) in
          ap (count_below (is_free_at g)) place ∙ count-fail (is_free_at g) (first_latch g + j) (here ∙ known) ∙ before ∙ sym more ∙ ap (free_before g) (sym next))
    ]

-- no more of them among the gates
free-count_rest : (g : Graph) (k : ℕ) → count_below (is_free_at g) (first_gate g + k) ≡ free_latches g
free-count_rest g zero =
    let place : first_gate g + 0 ≡ first_latch g + length g.latches = omega arith in
    ap (count_below (is_free_at g)) place ∙ free-count g (length g.latches) (omega arith)
free-count_rest g (suc k) =
    let place : first_gate g + suc k ≡ suc (first_gate g + k) = omega arith in
    ap (count_below (is_free_at g)) place ∙ count-fail (is_free_at g) (first_gate g + k) (ap is_free_latch (latch_at-gates g (first_gate g + k) (omega arith))) ∙ free-count_rest g k

-- the free latches counted over all variables are the free latches
pub free-count_all : (g : Graph) → count_below (is_free_at g) (variables_end g) ≡ free_latches g
free-count_all g = free-count_rest g (length g.gates)

-- one latch further there is one free latch more if it is free
pub free-more : (g : Graph) (k free one : ℕ) (latch : Latch) → slice_get g.latches k ≡ Some latch → free ≡ free_before g k → one ≡ cond (is_free latch) 1 0 → free + one ≡ free_before g (k + 1)
free-more g k free one latch there is step =
    let within : k < length g.latches = slice_get_within g.latches k latch there in
    let read : get_or g.latches k latch ≡ latch = get_or_from_slice_get g.latches k latch latch there in
    elim (cases_Bool (is_free latch)) [
      | inl open_latch ↦ (
          let here : one ≡ 1 = step ∙ ap (λ (b : Bool). cond {A = ℕ} b 1 0) open_latch in
          omega (arith, is, here, count_by_more_yes is_free g.latches k latch within (ap is_free read ∙ open_latch)))
      | inr known ↦ (
          let here : one ≡ 0 = step ∙ ap (λ (b : Bool). cond {A = ℕ} b 1 0) known in
          omega (arith, is, here, count_by_more_no is_free g.latches k latch within (ap is_free read ∙ known)))
    ]

-- a latch whose reset is free is free
pub free-where : (latch : Latch) → latch.reset ≡ Free → is_free latch ≡ true
free-where latch e = ap by_reset e
  where
    by_reset : Reset → Bool
    by_reset r = elim r [ Zero ↦ false | One ↦ false | Free ↦ true ]
