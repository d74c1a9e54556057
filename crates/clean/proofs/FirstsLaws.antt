-- The first latch of each next literal and reset, one latch after another.
use Rattle.std.proofs.Common.{zero-add, ℕ, ◌+◌, ◌-◌, ◌*◌, ◌<◌, ◌≡◌, inl, inr, suc, List, [], ◌∷◌, ◌++◌, Bool, true, false, not, ◌&&◌, ◌||◌, cond, nat_eq, nat_lt, Option, Some, None, slice_get, refl, arith, ap, sym, ◌∙◌, subst, add-one}
use Rattle.std.proofs.Math.Bool.{and-false}
use Rattle.std.specs.Map.{lookup}
use Rattle.std.proofs.lemmas.Bool.{cases_Bool, cases_lt, cases_eq, cond-true, cond-false, lt-ltb, le-ltb, eqb-true, and_parts}
use Rattle.aig_graph.specs.declared.graph.Latch.{Latch}
use Rattle.aig_graph.specs.declared.graph.Reset.{Reset}
use Rattle.aig_graph.specs.declared.graph.Reset.TheVariants.{Zero, One, Free}
use Rattle.aig_graph.specs.Graph.{Graph, first_latch, is_free}
use Rattle.aig_graph.specs.Marking.{has}
use Rattle.aig_graph.specs.Tables.{table}
use Rattle.aig_graph.proofs.TableLaws.{entry, table-same}
use Rattle.cleaned_circuits.specs.Latches.{constant_of, same_reset, same_latch, is_constant_latch, is_duplicate, first_where, latch_substitute, leaf_substitute}
use Rattle.cleaned_circuits.specs.Merged.{substitute_or_own}
use Rattle.cleaned_circuits.proofs.LatchLaws.{first_where-cases, first_where-least, same_reset-is}
use Rattle.clean.specs.Substitutions.{own_literals}
use Rattle.clean.specs.Kept.{or_else}
use Rattle.clean.proofs.KeptLaws.{or_else-none, lookup-push}
use Rattle.clean.specs.Firsts.{first_literal, AreFirsts, entries_after}

first-is : (p : ℕ → Bool) (n h : ℕ) → h < n → p h ≡ true → ((v : ℕ) → v < h → p v ≡ false) → first_where p n ≡ h
first-is p n h less passes least = elim (first_where-cases p n) [
  | inl none ↦ (let fails : p h ≡ false = first_where-least p n h (omega (arith, none)) in absurd (differ (sym passes ∙ fails)))
  | inr there ↦ elim (cases_lt (first_where p n) h) [
    | inl before ↦ absurd (differ (sym there.1 ∙ least (first_where p n) before))
    | inr past ↦ elim (cases_lt h (first_where p n)) [
      | inl after ↦ absurd (differ (sym passes ∙ first_where-least p n h after))
      | inr same ↦ omega arith
    ]
  ]
]
  where
    differ : true ≡ false → ⊥
    differ e = cc

first-none : (p : ℕ → Bool) (n : ℕ) → ((v : ℕ) → v < n → p v ≡ false) → first_where p n ≡ n
first-none p n none = elim (first_where-cases p n) [
  | inl last ↦ last
  | inr there ↦ (let clash : true ≡ false = sym there.1 ∙ none (first_where p n) there.0 in absurd (cc))
]

module _ (g : Graph) (held : List ℕ) where
  abbrev alike : Latch → ℕ → Bool
  alike latch i = is_duplicate g held latch i (slice_get g.latches i)

  literal-some : (latch : Latch) (n h : ℕ) → first_where (alike latch) n ≡ h → h < n → first_literal g held latch n ≡ Some (2 * (first_latch g + h))
  unfolding first_literal
  literal-some latch n h e less =
      ap (λ (k : ℕ). cond (nat_lt k n) (Some (2 * (first_latch g + k))) None) e
      ∙ cond-true (nat_lt h n) (Some (2 * (first_latch g + h))) None (lt-ltb h n less)

  literal-none : (latch : Latch) (n : ℕ) → first_where (alike latch) n ≡ n → first_literal g held latch n ≡ None
  unfolding first_literal
  literal-none latch n e =
      ap (λ (k : ℕ). cond (nat_lt k n) (Some (2 * (first_latch g + k))) None) e
      ∙ cond-false (nat_lt n n) (Some (2 * (first_latch g + n))) None (le-ltb n n (omega arith))

  -- one more latch
  literal-more : (latch : Latch) (n : ℕ) → first_literal g held latch (suc n) ≡ or_else (first_literal g held latch n) (cond (alike latch n) (Some (2 * (first_latch g + n))) None)
  literal-more latch n =
      let p : ℕ → Bool = alike latch in
      let own : Option ℕ = Some (2 * (first_latch g + n)) in
      elim (first_where-cases p n) [
        | inl none ↦ (
            let before : first_literal g held latch n ≡ None = literal-none latch n none in
            let least : (v : ℕ) → v < n → p v ≡ false = λ v h. first_where-least p n v (omega (arith, none)) in
            elim (cases_Bool (p n)) [
              | inl here ↦
                  literal-some latch (suc n) n (first-is p (suc n) n (omega arith) here least) (omega arith)
                  ∙ sym (ap (λ (o : Option ℕ). or_else o (cond (p n) own None)) before ∙ cond-true (p n) own None here)
              | inr fails ↦
                  literal-none latch (suc n) (first-none p (suc n) (λ v h. elim (cases_eq v n) [ inl same ↦ ap p same ∙ fails | inr other ↦ least v (omega arith) ]))
                  ∙ sym (ap (λ (o : Option ℕ). or_else o (cond (p n) own None)) before ∙ cond-false (p n) own None fails)
            ])
        | inr there ↦ (
            let h : ℕ = first_where p n in
            let least : (v : ℕ) → v < h → p v ≡ false = λ v less. first_where-least p n v less in
            literal-some latch (suc n) h (first-is p (suc n) h (omega (arith, there.0)) there.1 least) (omega (arith, there.0))
            ∙ sym (ap (λ (o : Option ℕ). or_else o (cond (p n) own None)) (literal-some latch n h refl there.0)))
      ]

  -- before the first latch there is no entry
  pub firsts-start : AreFirsts g held 0 []
  firsts-start = record { each = λ latch known. sym (literal-none latch 0 (first-none (alike latch) 0 (λ v h. absurd (omega arith)))) }

  alike-here : (latch other : Latch) (n : ℕ) → slice_get g.latches n ≡ Some other → alike latch n ≡ (not (is_constant_latch g held n other) && same_latch latch other)
  alike-here latch other n there = ap (is_duplicate g held latch n) there

  -- a latch that is no first one
  skipped : (n : ℕ) (entries : List (Latch × ℕ)) → ((latch : Latch) → is_free latch ≡ false → alike latch n ≡ false) → AreFirsts g held n entries → AreFirsts g held (n + 1) entries
  skipped n entries fails firsts = record {
    each = λ latch known.
        firsts.each latch known
        ∙ sym (ap (first_literal g held latch) (add-one n) ∙ literal-more latch n
        ∙ ap (or_else (first_literal g held latch n)) (cond-false (alike latch n) (Some (2 * (first_latch g + n))) None (fails latch known))
        ∙ or_else-none (first_literal g held latch n));
  }

  -- a constant latch adds no entry
  pub firsts-constant_latch : (n : ℕ) (own : Latch) (entries : List (Latch × ℕ)) → slice_get g.latches n ≡ Some own → is_constant_latch g held n own ≡ true → AreFirsts g held n entries → AreFirsts g held (n + 1) entries
  firsts-constant_latch n own entries there constant_latch firsts = skipped n entries
      (λ latch known. alike-here latch own n there ∙ ap (λ (b : Bool). not b && same_latch latch own) constant_latch) firsts

  free-apart : (r s : Reset) (a b : ℕ) → is_free (record { next = a; reset = r }) ≡ false → is_free (record { next = b; reset = s }) ≡ true → same_reset r s ≡ false
  free-apart Zero Free a b known free = refl
  free-apart One Free a b known free = refl
  free-apart Free s a b known free = absurd (cc)
  free-apart Zero Zero a b known free = absurd (cc)
  free-apart Zero One a b known free = absurd (cc)
  free-apart One Zero a b known free = absurd (cc)
  free-apart One One a b known free = absurd (cc)

  -- a free latch adds no entry
  pub firsts-free : (n : ℕ) (own : Latch) (entries : List (Latch × ℕ)) → slice_get g.latches n ≡ Some own → is_free own ≡ true → AreFirsts g held n entries → AreFirsts g held (n + 1) entries
  firsts-free n own entries there free firsts = skipped n entries (λ latch known.
      alike-here latch own n there
      ∙ ap (λ (b : Bool). not (is_constant_latch g held n own) && (nat_eq latch.next own.next && b)) (free-apart latch.reset own.reset latch.next own.next known free)
      ∙ ap (λ (b : Bool). not (is_constant_latch g held n own) && b) (and-false (nat_eq latch.next own.next)) ∙ and-false (not (is_constant_latch g held n own)))
      firsts

  latch-is : (latch other : Latch) → same_latch latch other ≡ true → latch ≡ other
  latch-is latch other e =
      let parts = and_parts (nat_eq latch.next other.next) (same_reset latch.reset other.reset) e in
      let with_next : ℕ → Latch = λ n. record { next = n; reset = latch.reset } in
      let with_reset : Reset → Latch = λ r. record { next = other.next; reset = r } in
      ap with_next (eqb-true latch.next other.next parts.0) ∙ ap with_reset (same_reset-is latch.reset other.reset parts.1)

  -- a known latch that isn't constant
  module _ (n : ℕ) (own : Latch) (there : slice_get g.latches n ≡ Some own) (sound : is_constant_latch g held n own ≡ false) (entries : List (Latch × ℕ)) (firsts : AreFirsts g held n entries) where
    alike-own : (latch : Latch) → alike latch n ≡ same_latch latch own
    alike-own latch = alike-here latch own n there ∙ ap (λ (b : Bool). not b && same_latch latch own) sound

    more-own : (latch : Latch) → first_literal g held latch (n + 1) ≡ or_else (first_literal g held latch n) (cond (same_latch latch own) (Some (2 * (first_latch g + n))) None)
    more-own latch =
        ap (first_literal g held latch) (add-one n) ∙ literal-more latch n
        ∙ ap (λ (b : Bool). or_else (first_literal g held latch n) (cond b (Some (2 * (first_latch g + n))) None)) (alike-own latch)

    again : (lit : ℕ) → lookup (same_latch own) entries ≡ Some lit → AreFirsts g held (n + 1) entries
    again lit found = record {
      each = λ latch known. elim (cases_Bool (same_latch latch own)) [
        | inl same ↦ (
            let old : first_literal g held latch n ≡ Some lit = sym (firsts.each latch known) ∙ ap (λ (l : Latch). lookup (same_latch l) entries) (latch-is latch own same) ∙ found in
            firsts.each latch known ∙ old
            ∙ sym (more-own latch ∙ ap (λ (o : Option ℕ). or_else o (cond (same_latch latch own) (Some (2 * (first_latch g + n))) None)) old))
        | inr other ↦
            firsts.each latch known
            ∙ sym (more-own latch ∙ ap (or_else (first_literal g held latch n)) (cond-false (same_latch latch own) (Some (2 * (first_latch g + n))) None other) ∙ or_else-none (first_literal g held latch n))
      ];
    }

    new : AreFirsts g held (n + 1) (entries ++ (own, 2 * (first_latch g + n)) ∷ [])
    new = record {
      each = λ latch known.
          lookup-push (same_latch latch) entries own (2 * (first_latch g + n))
          ∙ ap (λ (o : Option ℕ). or_else o (cond (same_latch latch own) (Some (2 * (first_latch g + n))) None)) (firsts.each latch known) ∙ sym (more-own latch);
    }

    -- a known latch that isn't constant adds an entry if it is the first of its next literal and
    -- reset
    pub firsts-more : (after : List (Latch × ℕ)) → after ≡ entries_after entries (2 * (first_latch g + n)) own (lookup (same_latch own) entries) → AreFirsts g held (n + 1) after
    firsts-more after e = go (lookup (same_latch own) entries) refl
      where
        go : (o : Option ℕ) → lookup (same_latch own) entries ≡ o → AreFirsts g held (n + 1) after
        go None none =
            let P : List (Latch × ℕ) → Type 0 = λ xs. AreFirsts g held (n + 1) xs in
            subst P (sym (e ∙ ap (entries_after entries (2 * (first_latch g + n)) own) none)) new
        go (Some lit) some =
            let P : List (Latch × ℕ) → Type 0 = λ xs. AreFirsts g held (n + 1) xs in
            subst P (sym (e ∙ ap (entries_after entries (2 * (first_latch g + n)) own) some)) (again lit some)

    -- what stands for it
    pub substitute-first : is_free own ≡ false → has held n ≡ false → substitute_or_own (2 * (first_latch g + n)) (lookup (same_latch own) entries) ≡ latch_substitute g held n (Some own)
    substitute-first known loose =
        let here : substitute_or_own (2 * (first_latch g + n)) (first_literal g held own n) ≡ 2 * (first_latch g + first_where (alike own) n) = elim (first_where-cases (alike own) n) [
          | inl none ↦ ap (substitute_or_own (2 * (first_latch g + n))) (literal-none own n none) ∙ ap (λ (k : ℕ). 2 * (first_latch g + k)) (sym none)
          | inr less ↦ ap (substitute_or_own (2 * (first_latch g + n))) (literal-some own n (first_where (alike own) n) refl less.0)
        ] in
        ap (substitute_or_own (2 * (first_latch g + n))) (firsts.each own known) ∙ here
        ∙ sym (cond-false (is_constant_latch g held n own) _ _ sound ∙ cond-false (is_free own || has held n) _ _ (ap (λ (b : Bool). b || has held n) known ∙ loose))

  -- for a constant latch stands the constant of its reset
  pub substitute-constant_latch : (n : ℕ) (own : Latch) → is_constant_latch g held n own ≡ true → constant_of own.reset ≡ latch_substitute g held n (Some own)
  substitute-constant_latch n own constant_latch = sym (cond-true (is_constant_latch g held n own) _ _ constant_latch)

  -- a latch that is free or held, and isn't constant, stands for itself
  pub substitute-fixed : (n : ℕ) (own : Latch) → is_constant_latch g held n own ≡ false → (is_free own || has held n) ≡ true → 2 * (first_latch g + n) ≡ latch_substitute g held n (Some own)
  substitute-fixed n own sound fixed = sym (cond-false (is_constant_latch g held n own) _ _ sound ∙ cond-true (is_free own || has held n) _ _ fixed)

  -- the test of a latch says whether it is constant
  pub constant_latch-is : (n : ℕ) (latch : Latch) (own : ℕ) (is_held told : Bool) → own ≡ 2 * (first_latch g + n) → is_held ≡ has held n
      → told ≡ (not (is_free latch) && not is_held && (nat_eq latch.next own || nat_eq latch.next (constant_of latch.reset))) → told ≡ is_constant_latch g held n latch
  constant_latch-is n latch own is_held told at mark e =
      e ∙ ap (λ (b : Bool). not (is_free latch) && not b && (nat_eq latch.next own || nat_eq latch.next (constant_of latch.reset))) mark
      ∙ ap (λ (m : ℕ). not (is_free latch) && not (has held n) && (nat_eq latch.next m || nat_eq latch.next (constant_of latch.reset))) at

  -- what stands for a latch is what stands for its variable
  pub leaf-latch : (j : ℕ) (latch : Latch) → slice_get g.latches j ≡ Some latch → latch_substitute g held j (Some latch) ≡ leaf_substitute g held (first_latch g + j)
  unfolding leaf_substitute
  leaf-latch j latch there =
      let place : first_latch g + j - first_latch g ≡ j = omega arith in
      sym (cond-false (nat_lt (first_latch g + j) (first_latch g)) _ _ (le-ltb (first_latch g + j) (first_latch g) (omega arith))
      ∙ ap (λ (k : ℕ). latch_substitute g held k (slice_get g.latches k)) place ∙ ap (latch_substitute g held j) there)

  -- the constant and each input stand for themselves
  pub leaf-low : (v : ℕ) → v < first_latch g → 2 * v ≡ leaf_substitute g held v
  unfolding leaf_substitute
  leaf-low v h = sym (cond-true (nat_lt v (first_latch g)) _ _ (lt-ltb v (first_latch g) h))

  -- the entries before the first latch are each variable itself
  pub own-substitutes : own_literals (first_latch g) ≡ table 0 (first_latch g) (leaf_substitute g held)
  unfolding own_literals
  own-substitutes = table-same 0 (first_latch g) (λ v. 2 * v) (leaf_substitute g held) 0 (λ v from h. leaf-low v (omega arith))

  -- with what stands for the next latch, the table has one entry more
  pub substitutes-more : (j : ℕ) (latch : Latch) (old new : List ℕ) (substitute : ℕ) → slice_get g.latches j ≡ Some latch → old ≡ table 0 (first_latch g + j) (leaf_substitute g held)
      → substitute ≡ latch_substitute g held j (Some latch) → new ≡ old ++ substitute ∷ [] → new ≡ table 0 (first_latch g + (j + 1)) (leaf_substitute g held)
  substitutes-more j latch old new substitute there before is pushed =
      let place : first_latch g + j + 1 ≡ first_latch g + (j + 1) = omega arith in
      entry 0 (first_latch g + j) (leaf_substitute g held) old new substitute before pushed (is ∙ leaf-latch j latch there ∙ ap (leaf_substitute g held) (sym (zero-add (first_latch g + j)))) ∙ ap (λ (n : ℕ). table 0 n (leaf_substitute g held)) place
