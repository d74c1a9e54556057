-- The properties of a witness, one after another.
use Rattle.std.proofs.Common.{ℕ, true, false, suc, zero, ◌≡◌, ◌⊎◌, ◌++◌, ◌∷◌, [], inl, inr, List, length, Some, Option, None, slice_get, refl, arith, sym, ap, ◌∙◌, subst, Ok}
use Rattle.std.proofs.lemmas.Bool.{cases_lt, eqb-true, eqb-false, false≢true}
use Rattle.std.specs.Option.{MatchOption}
use Rattle.std.proofs.lemmas.Option.{same_Some, none-some}
use Rattle.aig_graph.specs.Circuits.{Netlist}
use Rattle.lane_sim.specs.declared.stimulus.InputSequence.{InputSequence}
use Rattle.witnesses.specs.declared.witness.Property.{Property}
use Rattle.witnesses.specs.declared.witness.Reached.{Reached}
use Rattle.witnesses.specs.Reaching.{IsFirstReached, NeverReached}
use Rattle.witnesses.specs.Confirming.{is_step, IsAgreed, AgreeEach}

module _ (c : Netlist) (run : InputSequence) (n : ℕ) where
  -- there is one first step
  pub one_first : (t u : ℕ) → IsFirstReached c run n t → IsFirstReached c run n u → t ≡ u
  one_first t u p q = elim (cases_lt t u) [
    | inl less ↦ absurd (q.before t less p.reaches)
    | inr more ↦ elim (cases_lt u t) [
      | inl less ↦ absurd (p.before u less q.reaches)
      | inr same ↦ omega (arith, more, same)
    ]
  ]

  -- a bad state that is never reached isn't first reached at any step
  pub never_first : (t : ℕ) → NeverReached c run n → IsFirstReached c run n t → ⊥
  never_first t never p = never t p.within p.reaches

  -- the first step is the one that was found
  pub found_first : (o : Option ℕ) (t : ℕ) → MatchOption o (NeverReached c run n) (IsFirstReached c run n) → is_step o t ≡ true → IsFirstReached c run n t
  found_first None t found is = absurd (false≢true is)
  found_first (Some u) t found is = subst (λ (k : ℕ). IsFirstReached c run n k) (eqb-true u t is) found

  -- a step other than the one that was found isn't the first at which the bad state is reached
  pub found_other : (o : Option ℕ) (t : ℕ) → MatchOption o (NeverReached c run n) (IsFirstReached c run n) → is_step o t ≡ false → IsFirstReached c run n t → ⊥
  found_other None t never isnt first = never_first t never first
  found_other (Some u) t found isnt first = eqb-false u t isnt (one_first u t found first)

-- the element put last, or one before it
pushed : {X : Type 0} (xs : List X) (x y : X) (i : ℕ) → slice_get (xs ++ x ∷ []) i ≡ Some y → (slice_get xs i ≡ Some y) ⊎ ((i ≡ length xs) × (x ≡ y))
pushed [] x y zero at = inr (refl, same_Some x y at)
pushed [] x y (suc i) at = absurd (none-some y at)
pushed (z ∷ xs) x y zero at = inl at
pushed (z ∷ xs) x y (suc i) at = elim (pushed xs x y i at) [
  | inl before ↦ inl before
  | inr last ↦ inr (ap suc last.0, last.1)
]

-- with the next property agreed on, all reached so far are agreed on
pub one_more : (c d : Netlist) (run other : InputSequence) (properties : List Property) (reached more : List Reached) (p : Property) (r : Reached)
    → more ≡ reached ++ r ∷ [] → slice_get properties (length reached) ≡ Some p → IsAgreed c d run other p (Ok r) → AgreeEach c d run other properties reached
    → AgreeEach c d run other properties more
one_more c d run other properties reached more p r is here agreed each i q s property at =
    elim (pushed reached r s i (ap (λ rs. slice_get rs i) (sym is) ∙ at)) [
      | inl before ↦ each i q s property before
      | inr last ↦
          let same : p ≡ q = same_Some p q (sym here ∙ ap (slice_get properties) (sym last.0) ∙ property) in
          subst (λ (x : Property). IsAgreed c d run other x (Ok s)) same (subst (λ (x : Reached). IsAgreed c d run other p (Ok x)) last.1 agreed)
    ]
