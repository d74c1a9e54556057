-- Marks of the parts of a step.
use Rattle.std.proofs.Common.{◌⊎◌, inl, inr, ℕ, ◌<◌, ◌≡◌, ◌≢◌, Bool, true, false, List, [], ◌∷◌, ◌++◌, length, get_or, take, drop, slice_set, Option, Some, None, IfNone, IfSome, arith, ap, sym, ◌∙◌, subst}
use Rattle.std.proofs.lemmas.Bool.{cases_eq, cases_lt, false≢true}
use Rattle.std.proofs.lemmas.List.{get_or-set_other, get_or-set_same, get_or_append_left, get_or_past, get_or_push, length_push}
use Rattle.std.proofs.Math.Seq.{take-append_seam}
use Rattle.map_checks.specs.Parts.{IsMarked}

-- a mark is within its list
pub marked-within : (marks : List Bool) (place : ℕ) → IsMarked marks place → place < length marks
marked-within marks place marked = elim (cases_lt place (length marks)) [
  | inl less ↦ less
  | inr past ↦ absurd (false≢true (sym (get_or_past marks place false past) ∙ marked))
]

-- what holds at each mark, with one more at the end or none
pub marked-push : (P : ℕ → Type 0) (marks new : List Bool) (mark : Bool) → new ≡ marks ++ mark ∷ [] → ((place : ℕ) → IsMarked marks place → P place) → (mark ≡ true → P (length marks)) → (place : ℕ) → IsMarked new place → P place
marked-push P marks new mark pushed each last place marked =
    let here : get_or (marks ++ mark ∷ []) place false ≡ true = ap (λ (bs : List Bool). get_or bs place false) (sym pushed) ∙ marked in
    elim (cases_lt place (length marks)) [
      | inl less ↦ each place (sym (get_or_append_left marks (mark ∷ []) false place less) ∙ here)
      | inr more ↦ elim (cases_eq place (length marks)) [
        | inl same ↦ subst P (sym same) (last (sym (get_or_push marks mark false place (sym same)) ∙ here))
        | inr other ↦ (
            let within : place < length (marks ++ mark ∷ []) = marked-within (marks ++ mark ∷ []) place here in
            absurd (omega (arith, within, length_push marks mark, more, other)))
      ]
    ]

-- a list with a mark put at a place has that and those of before
pub marked-put : (marks : List Bool) (at place : ℕ) → IsMarked (slice_set marks at true) place → IsMarked marks place ⊎ (place ≡ at)
marked-put marks at place marked = elim (cases_eq place at) [
  | inl same ↦ inr same
  | inr other ↦ inl (sym (get_or-set_other marks at place true false other) ∙ marked)
]

-- a list with the mark at a place taken away has those of before that are elsewhere
pub marked-taken : (marks : List Bool) (at place : ℕ) → at < length marks → IsMarked (slice_set marks at false) place → IsMarked marks place × (place ≢ at)
marked-taken marks at place within marked = elim (cases_eq place at) [
  | inl same ↦ absurd (false≢true (sym (get_or-set_same marks at false false within) ∙ ap (λ (n : ℕ). get_or (slice_set marks at false) n false) (sym same) ∙ marked))
  | inr other ↦ (sym (get_or-set_other marks at place false false other) ∙ marked, other)
]

-- a list that was lent as a whole and written back
pub written-back : (n : ℕ) (back items : List Bool) → n ≡ length back → take n (back ++ drop (length back) items) ≡ back
written-back n back items same = ap (λ (m : ℕ). take m (back ++ drop (length back) items)) same ∙ take-append_seam back (drop (length back) items)

-- what is shown where there is no value
pub if-none : {A P Q : Type 0} (o : Option A) → (P → Q) → IfNone o P → IfNone o Q
if-none None f p = f p
if-none (Some x) f p = tt

-- what is shown of a value, if there is one
pub if-some : {A : Type 0} {P Q : A → Type 0} (o : Option A) → ((x : A) → P x → Q x) → IfSome o P → IfSome o Q
if-some None f p = tt
if-some (Some x) f p = f x p
