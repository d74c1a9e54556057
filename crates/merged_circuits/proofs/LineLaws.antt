-- The lines of a reading, latch by latch. They say one reading.
use Rattle.std.proofs.Common.{ℕ, zero, suc, zero-add, add-one, ◌+◌, ◌<◌, ◌≡◌, inl, inr, List, [], ◌∷◌, ◌++◌, length, get_or, Bool, true, false, not, nat_eq, refl, arith, ap, sym, ◌∙◌, subst}
use Rattle.std.specs.List.{All, filter}
use Rattle.std.proofs.lemmas.Bool.{cases_Bool, cases_lt, cond-true, cond-false, eqb-true}
use Rattle.std.proofs.lemmas.List.{append-nil, ext_get_or, same_from_push}
use Rattle.std.proofs.lemmas.List.Elements.{All-contains, All-filter, Contains-push, filter-append}
use Rattle.aig_graph.specs.Graph.{Graph, first_latch}
use Rattle.aig_graph.specs.Tables.{table}
use Rattle.aig_graph.proofs.TableLaws.{length-table, table-at, table-more}
use Rattle.certificates.specs.declared.merged.MergedLatch.{MergedLatch}
use Rattle.merged_circuits.specs.Lines.{IsSaidBy, is_merged, latch_line, merged_lines}
use Rattle.merged_circuits.specs.Readings.{own_literal, read}

module _ (g : Graph) (reads : List ℕ) where
  -- the lines of the first n latches
  unfoldable pub lines_below : ℕ → List MergedLatch
  lines_below n = filter is_merged (table 0 n (latch_line g reads))

  -- those of all are the lines of the reading
  pub lines-all : lines_below (length g.latches) ≡ merged_lines g reads
  unfolding lines_below merged_lines
  lines-all = refl

  -- no latch has no line
  pub lines-none : lines_below 0 ≡ []
  unfolding lines_below table
  lines-none = refl

  lines-next : (n : ℕ) → lines_below (n + 1) ≡ lines_below n ++ filter is_merged (latch_line g reads n ∷ [])
  unfolding lines_below
  lines-next n =
      ap (filter is_merged) (table-more 0 n (latch_line g reads) ∙ ap (λ (k : ℕ). table 0 n (latch_line g reads) ++ latch_line g reads k ∷ []) (zero-add n))
      ∙ filter-append is_merged (table 0 n (latch_line g reads)) (latch_line g reads n ∷ [])

  -- one more latch that reads as another adds its line
  pub lines-more : (n : ℕ) → is_merged (latch_line g reads n) ≡ true → lines_below (n + 1) ≡ lines_below n ++ latch_line g reads n ∷ []
  lines-more n merged =
      lines-next n ∙ ap (λ (xs : List MergedLatch). lines_below n ++ xs) (cond-true (is_merged (latch_line g reads n)) (latch_line g reads n ∷ []) [] merged)

  -- one that reads as itself adds none
  pub lines-stay : (n : ℕ) → is_merged (latch_line g reads n) ≡ false → lines_below (n + 1) ≡ lines_below n
  lines-stay n own =
      lines-next n ∙ ap (λ (xs : List MergedLatch). lines_below n ++ xs) (cond-false (is_merged (latch_line g reads n)) (latch_line g reads n ∷ []) [] own)
      ∙ append-nil (lines_below n)

  -- they are of these latches
  lines-within : (n : ℕ) → All (λ line. line.latch < first_latch g + n) (lines_below n)
  unfolding lines_below
  lines-within n =
      All-filter is_merged (λ line. line.latch < first_latch g + n) (table 0 n (latch_line g reads)) (λ k d h.
      let less : k < n = omega (arith, h, length-table 0 n (latch_line g reads)) in
      let here : get_or (table 0 n (latch_line g reads)) k d ≡ latch_line g reads k = table-at 0 n (latch_line g reads) k d less ∙ ap (latch_line g reads) (zero-add k) in
      subst (λ (line : MergedLatch). line.latch < first_latch g + n) (sym here) (omega (arith, less)))

  -- none is of the next one
  not-next : (n : ℕ) (before : List MergedLatch) (line : MergedLatch) → line.latch ≡ first_latch g + n → lines_below n ≡ before ++ line ∷ [] → ⊥
  not-next n before line is same =
      let there : All (λ x. x.latch < first_latch g + n) (before ++ line ∷ []) = subst (λ (xs : List MergedLatch). All (λ x. x.latch < first_latch g + n) xs) same (lines-within n) in
      let less : line.latch < first_latch g + n = All-contains (λ x. x.latch < first_latch g + n) (before ++ line ∷ []) line there (Contains-push before line) in
      omega (arith, less, is)

  -- who has no line reads as itself
  reads-own : (n : ℕ) → is_merged (latch_line g reads n) ≡ false → read reads n ≡ own_literal g n
  reads-own n own = eqb-true (read reads n) (own_literal g n) (not-false (nat_eq (read reads n) (own_literal g n)) own)
    where
      not-false : (b : Bool) → not b ≡ false → b ≡ true
      not-false true e = refl
      not-false false e = absurd (cc)

module _ (g : Graph) (reads other : List ℕ) where
  -- what the lines say of the last latch, and of those before it
  one-last : (n : ℕ) → lines_below g reads (n + 1) ≡ lines_below g other (n + 1) → (lines_below g reads n ≡ lines_below g other n) × (read reads n ≡ read other n)
  one-last n same =
      let first : MergedLatch = latch_line g reads n in
      let second : MergedLatch = latch_line g other n in
      elim (cases_Bool (is_merged first)) [
        | inl one ↦ elim (cases_Bool (is_merged second)) [
          | inl two ↦ (
              let both = same_from_push (lines_below g reads n) (lines_below g other n) first second (sym (lines-more g reads n one) ∙ same ∙ lines-more g other n two) in
              (both.0, ap (λ (line : MergedLatch). line.reads) both.1))
          | inr two ↦ absurd (not-next g other n (lines_below g reads n) first refl (sym (lines-stay g other n two) ∙ sym same ∙ lines-more g reads n one))
        ]
        | inr one ↦ elim (cases_Bool (is_merged second)) [
          | inl two ↦ absurd (not-next g reads n (lines_below g other n) second refl (sym (lines-stay g reads n one) ∙ same ∙ lines-more g other n two))
          | inr two ↦ (sym (lines-stay g reads n one) ∙ same ∙ lines-stay g other n two, reads-own g reads n one ∙ sym (reads-own g other n two))
        ]
      ]

  one-below : (n : ℕ) → lines_below g reads n ≡ lines_below g other n → (k : ℕ) → k < n → read reads k ≡ read other k
  one-below zero same k h = absurd (omega (arith, h))
  one-below (suc n) same k h =
      let last = one-last n (ap (lines_below g reads) (add-one n) ∙ same ∙ sym (ap (lines_below g other) (add-one n))) in
      elim (cases_lt k n) [
        | inl low ↦ one-below n last.0 k low
        | inr past ↦ (let here : k ≡ n = omega (arith, h, past) in ap (read reads) here ∙ last.1 ∙ sym (ap (read other) here))
      ]

-- two readings that one list of lines says are one
pub one-reading : (g : Graph) (lines : List MergedLatch) (reads other : List ℕ) → IsSaidBy g lines reads → IsSaidBy g lines other → reads ≡ other
one-reading g lines reads other one two =
    ext_get_or 0 reads other (one.long ∙ sym two.long) (λ k h.
    one-below g reads other (length g.latches) (lines-all g reads ∙ one.said ∙ sym two.said ∙ sym (lines-all g other)) k (omega (arith, h, one.long)))
