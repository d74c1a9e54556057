-- What the first latches hold at step 0, latch by latch.
use Rattle.std.proofs.Common.{inl, inr, ℕ, ◌+◌, ◌<◌, ◌≡◌, List, [], ◌∷◌, ◌++◌, length, get_or, slice_get, Some, refl, arith, ap, sym, ◌∙◌, subst}
use Rattle.std.proofs.lemmas.Bool.{cases_lt}
use Rattle.std.proofs.lemmas.List.{get_or_append_left, get_or_push, length_push}
use Rattle.std.proofs.lemmas.Option.{same_Some, slice_get_within}
use Rattle.aig_graph.specs.declared.graph.Latch.{Latch}
use Rattle.aig_graph.specs.Value.{opening_literal}
use Rattle.map_miters.specs.Holding.{AreResets}

pub record AreFirstResets (latches : List Latch) (own : List ℕ) (n : ℕ) (lits : List ℕ) : Type 0 where
  -- there are n literals
  pub many : length lits ≡ n
  -- literal j is that of what latch j holds at step 0, for each of the first n latches
  pub each : (j : ℕ) (latch : Latch) → j < n → slice_get latches j ≡ Some latch → get_or lits j 0 ≡ opening_literal latch.reset (get_or own j 0)

module _ (latches : List Latch) (own : List ℕ) where
  -- the empty list has the literals of the first 0 latches
  pub first-none : AreFirstResets latches own 0 []
  first-none = record { many = refl; each = λ j latch less there. absurd (omega (arith, less)) }

  -- the literals of the first n latches, then that of what latch n holds at step 0, are those of
  -- the first n + 1
  pub first-more : (n lit : ℕ) (latch : Latch) (old new : List ℕ) → slice_get latches n ≡ Some latch → lit ≡ opening_literal latch.reset (get_or own n 0) → AreFirstResets latches own n old
      → new ≡ old ++ lit ∷ [] → AreFirstResets latches own (n + 1) new
  first-more n lit latch old new there here p pushed =
      let P : List ℕ → Type 0 = λ ls. AreFirstResets latches own (n + 1) ls in
      subst P (sym pushed) (record {
        many = omega (arith, p.many, length_push old lit);
        each = λ j other less at. elim (cases_lt j n) [
          | inl earlier ↦ get_or_append_left old (lit ∷ []) 0 j (omega (arith, earlier, p.many)) ∙ p.each j other earlier at
          | inr past ↦ (
              let last : j ≡ n = omega (arith, past, less) in
              let same : latch ≡ other = same_Some latch other (sym there ∙ ap (slice_get latches) (sym last) ∙ at) in
              get_or_push old lit 0 j (p.many ∙ sym last) ∙ here
              ∙ ap (λ (n : ℕ). opening_literal latch.reset (get_or own n 0)) (sym last)
              ∙ ap (λ (l : Latch). opening_literal l.reset (get_or own j 0)) same)
        ];
      })

  -- the literals of the first n latches are those of all, if there are n latches
  pub first-all : (n : ℕ) (lits : List ℕ) → n ≡ length latches → AreFirstResets latches own n lits → AreResets latches own lits
  first-all n lits end p = record {
    many = p.many ∙ end;
    each = λ j latch there. p.each j latch (omega (arith, end, within j latch there)) there;
  }
    where
      within : (j : ℕ) (latch : Latch) → slice_get latches j ≡ Some latch → j < length latches
      within j latch there = slice_get_within latches j latch there
