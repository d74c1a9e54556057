-- The latches of a lifted witness: their resets, and their next literals.
use Rattle.std.proofs.Common.{inl, inr, ℕ, suc, zero, ◌+◌, ◌<◌, ◌≤◌, ◌≡◌, List, [], ◌∷◌, ◌++◌, length, take, get_or, slice_get, Option, Some, None, refl, arith, ap, sym, ◌∙◌, subst}
use Rattle.std.proofs.lemmas.Bool.{cases_lt}
use Rattle.std.proofs.lemmas.List.{length_push}
use Rattle.std.proofs.lemmas.Option.{none-some, same_Some}
use Rattle.aig_graph.proofs.PlacesLaws.{slice_get-append_left, slice_get-append_right, slice_get_push}
use Rattle.aig_graph.specs.declared.graph.Latch.{Latch}
use Rattle.aig_graph.specs.Building.{next_at}
use Rattle.witness_circuits.specs.Joining.{own_count}
use Rattle.witness_circuits.specs.Latches.{AreOwn, with_nexts}
use Rattle.witness_circuits.proofs.CountLaws.{count-own, count-shared}

-- of no latches none is the witness's own
pub own-start : (places : List (Option ℕ)) (latches : List Latch) (own : List Latch) → own ≡ [] → AreOwn places latches 0 own
own-start places latches own none = record {
  many = ap (λ (xs : List Latch). length xs) none;
  each = λ k latch less. absurd (omega (arith, less));
  from = λ q latch there. absurd (none-some latch (sym (ap (λ (xs : List Latch). slice_get xs q) none) ∙ there));
}

-- a latch whose place is shared is left out
pub own-skips : (places : List (Option ℕ)) (latches own : List Latch) (n at : ℕ) → slice_get places n ≡ Some (Some at) → AreOwn places latches n own → AreOwn places latches (n + 1) own
own-skips places latches own n at shared p = record {
  many = p.many ∙ sym (count-shared places n at shared);
  each = λ k latch less mine there. elim (cases_lt k n) [
    | inl before ↦ p.each k latch before mine there
    | inr past ↦ (
        let last : k ≡ n = omega (arith, past, less) in
        let both : Some None ≡ Some (Some at) = sym mine ∙ ap (slice_get places) last ∙ shared in
        absurd (none-some at (same_Some None (Some at) both)))
  ];
  from = p.from;
}

-- one whose place is shared with none is taken
pub own-takes : (places : List (Option ℕ)) (latches own new : List Latch) (n : ℕ) (latch : Latch) → slice_get places n ≡ Some None → slice_get latches n ≡ Some latch → AreOwn places latches n own → new ≡ own ++ latch ∷ []
    → AreOwn places latches (n + 1) new
own-takes places latches own new n latch mine there p pushed =
    let P : List Latch → Type 0 = λ ls. AreOwn places latches (n + 1) ls in
    subst P (sym pushed) (record {
      many = omega (arith, p.many, length_push own latch, count-own places n mine);
      each = λ k l less here is. elim (cases_lt k n) [
        | inl before ↦ slice_get-append_left own (latch ∷ []) (own_count (take k places)) l (p.each k l before here is)
        | inr past ↦ (
            let last : k ≡ n = omega (arith, past, less) in
            let at : own_count (take k places) ≡ length own + 0 = omega (arith, ap (λ (i : ℕ). own_count (take i places)) last, p.many) in
            let same : latch ≡ l = same_Some latch l (sym there ∙ ap (slice_get latches) (sym last) ∙ is) in
            ap (slice_get (own ++ latch ∷ [])) at ∙ slice_get-append_right own (latch ∷ []) 0 ∙ ap (λ (x : Latch). Some x) same)
      ];
      from = λ q l is. elim (slice_get_push own latch q l is) [
        | inl before ↦ p.from q l before
        | inr here ↦ (n, there ∙ ap (λ (x : Latch). Some x) (sym here.1))
      ];
    })

-- one more next literal
next-suc : (nexts : List ℕ) (latches : List Latch) (k : ℕ) → k < length nexts → k < length latches → next_at (with_nexts (take k nexts) latches) k (get_or nexts k 0) ≡ with_nexts (take (suc k) nexts) latches
next-suc [] latches k short less = absurd (omega (arith, short))
next-suc (next ∷ nexts) [] k short less = absurd (omega (arith, less))
next-suc (next ∷ nexts) (latch ∷ latches) zero short less = refl
next-suc (next ∷ nexts) (latch ∷ latches) (suc k) short less = ap (λ ls. record latch { next = next } ∷ ls) (next-suc nexts latches k (omega (arith, short)) (omega (arith, less)))

-- latches with the first k next literals, and the k-th set too, have the first k + 1
pub next-more : (nexts : List ℕ) (latches : List Latch) (k : ℕ) → k < length nexts → k < length latches → next_at (with_nexts (take k nexts) latches) k (get_or nexts k 0) ≡ with_nexts (take (k + 1) nexts) latches
next-more nexts latches k short less =
    let place : suc k ≡ k + 1 = omega arith in
    next-suc nexts latches k short less ∙ ap (λ (n : ℕ). with_nexts (take n nexts) latches) place

-- there are as many latches after their next literals were set, if these are no more
pub length-with_nexts : (nexts : List ℕ) (latches : List Latch) → length nexts ≤ length latches → length (with_nexts nexts latches) ≡ length latches
length-with_nexts [] latches h = refl
length-with_nexts (next ∷ nexts) [] h = refl
length-with_nexts (next ∷ nexts) (latch ∷ latches) h = ap suc (length-with_nexts nexts latches (omega (arith, h)))

-- what latch j is then
pub next-read : (nexts : List ℕ) (latches : List Latch) (j : ℕ) (latch : Latch) → j < length nexts → slice_get latches j ≡ Some latch
    → slice_get (with_nexts nexts latches) j ≡ Some (record latch { next = get_or nexts j 0 })
next-read [] latches j latch less there = absurd (omega (arith, less))
next-read (next ∷ nexts) [] j latch less there = absurd (none-some latch there)
next-read (next ∷ nexts) (x ∷ latches) zero latch less there = ap (λ (l : Latch). Some (record l { next = next })) (same_Some x latch there)
next-read (next ∷ nexts) (x ∷ latches) (suc j) latch less there = next-read nexts latches j latch (omega (arith, less)) there
