-- Where a witness's inputs and latches come from.
use Rattle.std.proofs.Common.{inl, inr, ℕ, ◌+◌, ◌<◌, ◌≡◌, List, [], ◌∷◌, ◌++◌, length, get_or, slice_get, Option, Some, None, arith, ap, sym, ◌∙◌, subst}
use Rattle.std.proofs.lemmas.Bool.{cases_lt}
use Rattle.std.proofs.lemmas.List.{get_or_append_left, get_or_push, length_push}
use Rattle.std.proofs.lemmas.Option.{get_or_from_slice_get}
use Rattle.witness_circuits.specs.Joining.{own_at}
use Rattle.witness_circuits.specs.Literals.{source_of}

-- the first k of them
pub record AreFirst (places : List (Option ℕ)) (shared : List ℕ) (own k next : ℕ) (lits : List ℕ) : Type 0 where
  -- there are k literals
  pub many : length lits ≡ k
  -- the next variable of the witness's own comes after those that the first k places take
  pub next_is : next ≡ own_at own places k
  -- the literal of each place is what is shared there, or that of a variable of the witness's own
  pub each : (j : ℕ) → j < k → get_or lits j 0 ≡ source_of shared (own_at own places j) (get_or places j None)

-- one more
pub first-more : (places : List (Option ℕ)) (shared lits new : List ℕ) (own k next after lit : ℕ) (o : Option ℕ) → slice_get places k ≡ Some o → AreFirst places shared own k next lits
    → lit ≡ source_of shared next o → after ≡ own_at own places (k + 1) → new ≡ lits ++ lit ∷ [] → AreFirst places shared own (k + 1) after new
first-more places shared lits new own k next after lit o there p is counted pushed =
    let P : List ℕ → Type 0 = λ ls. AreFirst places shared own (k + 1) after ls in
    subst P (sym pushed) (record {
      many = omega (arith, p.many, length_push lits lit);
      next_is = counted;
      each = λ j less. elim (cases_lt j k) [
        | inl before ↦ get_or_append_left lits (lit ∷ []) 0 j (omega (arith, before, p.many)) ∙ p.each j before
        | inr past ↦ (
            let last : j ≡ k = omega (arith, past, less) in
            let read : get_or places k None ≡ o = get_or_from_slice_get places k o None there in
            get_or_push lits lit 0 j (omega (arith, last, p.many)) ∙ is
            ∙ ap (λ (n : ℕ). source_of shared n o) p.next_is
            ∙ ap (source_of shared (own_at own places k)) (sym read)
            ∙ ap (λ (i : ℕ). source_of shared (own_at own places i) (get_or places i None)) (sym last))
      ];
    })
