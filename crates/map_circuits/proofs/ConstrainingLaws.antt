-- Constraints say what they are to say.
use Rattle.std.proofs.Common.{inl, inr, ℕ, ◌+◌, ◌<◌, ◌≡◌, nat_eq, Bool, true, false, List, [], ◌∷◌, ◌++◌, length, map, get_or, arith, ap, sym, ◌∙◌, subst}
use Rattle.std.specs.List.{All}
use Rattle.std.proofs.Math.Seq.{get_or-append_seam}
use Rattle.std.proofs.Math.ListN.{get_or-append}
use Rattle.std.proofs.lemmas.Bool.{cases_Bool, cases_eq, eqb-true, cond-true, cond-false}
use Rattle.std.proofs.lemmas.List.{get_or-map, length-map, length_push}
use Rattle.std.proofs.lemmas.List.Elements.{All-push}
use Rattle.aig_graph.specs.Circuits.{AreLiteralsOf}
use Rattle.aig_graph.specs.Graph.{Graph, IsGraph, IsLiteralOf, variable, variables_end}
use Rattle.aig_graph.specs.Value.{value_within}
use Rattle.state_maps.specs.States.{State}
use Rattle.state_maps.proofs.FrameMapLaws.{agrees-is, is-agrees}
use Rattle.map_circuits.specs.Growing.{Extends, IsEquality}
use Rattle.map_circuits.specs.Following.{literal_at}
use Rattle.map_circuits.specs.Constraining.{AddsEquality, AddsSubstitutes, AreEqual, AreOne, IsSubstitute, substitute_function}
use Rattle.map_circuits.proofs.GrowingLaws.{extends-itself, extends-transitive}
use Rattle.map_circuits.proofs.FollowingLaws.{literal-within}

-- each of the literals is 1
abbrev EachOne : (ℕ → Bool) → List ℕ → Type 0
EachOne v lits = (k : ℕ) → k < length lits → v (get_or lits k 0) ≡ true

one-from : (v : ℕ → Bool) (lits : List ℕ) → EachOne v lits → All (λ b. b ≡ true) (map v lits)
one-from v lits each = λ k d less. get_or-map v lits k 0 d (omega (arith, less, length-map lits v)) ∙ each k (omega (arith, less, length-map lits v))

one-each : (v : ℕ → Bool) (lits : List ℕ) → All (λ b. b ≡ true) (map v lits) → EachOne v lits
one-each v lits all = λ k less. sym (get_or-map v lits k 0 false less) ∙ all k false (omega (arith, less, length-map lits v))

module _ (v : ℕ → Bool) (lits : List ℕ) (lit : ℕ) where
  one-push : EachOne v lits → v lit ≡ true → EachOne v (lits ++ lit ∷ [])
  one-push each last k less = elim (cases_eq k (length lits)) [
    | inl end ↦ ap (λ (n : ℕ). v (get_or (lits ++ lit ∷ []) n 0)) end ∙ ap v (get_or-append_seam lits lit [] 0) ∙ last
    | inr other ↦ (
        let inside : k < length lits = omega (arith, less, other, length_push lits lit) in
        ap v (get_or-append lits (lit ∷ []) 0 k inside) ∙ each k inside)
  ]

  one-front : EachOne v (lits ++ lit ∷ []) → EachOne v lits
  one-front each k less = ap v (sym (get_or-append lits (lit ∷ []) 0 k less)) ∙ each k (omega (arith, less, length_push lits lit))

  one-last : EachOne v (lits ++ lit ∷ []) → v lit ≡ true
  one-last each = ap v (sym (get_or-append_seam lits lit [] 0)) ∙ each (length lits) (omega (arith, length_push lits lit))

-- literals that are 1 stay so as the graph grows, and were so before
module _ (g h : Graph) (more : Extends g h) (lits : List ℕ) (all : AreLiteralsOf g lits) (s : State) where
  kept-value : (k : ℕ) → k < length lits → value_within h s (λ j. false) (get_or lits k 0) ≡ value_within g s (λ j. false) (get_or lits k 0)
  kept-value k less = more.values s (λ j. false) (get_or lits k 0) (all k 0 less)

  -- literals that are 1 in a state are 1 in that state as the graph grows
  pub ones-later : AreOne g lits s → AreOne h lits s
  ones-later ones = one-from (value_within h s (λ j. false)) lits (λ k less. kept-value k less ∙ one-each (value_within g s (λ j. false)) lits ones k less)

  -- literals that are 1 in a state of the grown graph were 1 before in that state
  pub ones-before : AreOne h lits s → AreOne g lits s
  ones-before ones = one-from (value_within g s (λ j. false)) lits (λ k less. sym (kept-value k less) ∙ one-each (value_within h s (λ j. false)) lits ones k less)

-- the function of what stands for a latch is a literal
pub substitute-within : (g : Graph) (first : ℕ) (functions : List ℕ) (lit : ℕ) → IsGraph g → AreLiteralsOf g functions → IsSubstitute first functions lit → IsLiteralOf g (substitute_function first functions lit)
substitute-within g first functions lit valid all substitute = elim (cases_Bool (nat_eq (variable lit) 0)) [
  | inl zero_variable ↦ (
      let same : substitute_function first functions lit ≡ lit = cond-true {A = ℕ} (nat_eq (variable lit) 0) lit (literal_at first functions lit) zero_variable in
      let none : variable lit ≡ 0 = eqb-true (variable lit) 0 zero_variable in
      subst (λ (l : ℕ). variable l < variables_end g) (sym same) (omega (arith, none)))
  | inr apart ↦ (
      let same : substitute_function first functions lit ≡ literal_at first functions lit = cond-false {A = ℕ} (nat_eq (variable lit) 0) lit (literal_at first functions lit) apart in
      subst (λ (l : ℕ). variable l < variables_end g) (sym same) (elim substitute [
        | inl none ↦ (let clash : nat_eq (variable lit) 0 ≡ true = ap (λ (n : ℕ). nat_eq n 0) none in absurd (cc))
        | inr covered ↦ literal-within g first functions lit all covered.1
      ]))
]

-- an entry, whatever is read past the list
pub read-entry : (xs : List ℕ) (k r : ℕ) → k < length xs → r ≡ get_or xs k r → r ≡ get_or xs k 0
read-entry xs k r less read = read ∙ sym (get_or-map (λ x. x) xs k r 0 less) ∙ get_or-map (λ x. x) xs k 0 0 less

-- one more constraint, and none
pub adds-equality : (g h : Graph) (old new : List ℕ) (a b lit : ℕ) → IsLiteralOf g a → IsLiteralOf g b → Extends g h → IsEquality h a b lit → new ≡ old ++ lit ∷ [] → AddsEquality g h old new a b
adds-equality g h old new a b lit in_a in_b more is pushed =
    let P : List ℕ → Type 0 = λ lits. AddsEquality g h old lits a b in
    subst P (sym pushed) (record {
      extends = more;
      within = λ all. All-push (λ l. IsLiteralOf h l) old lit (λ k d less. more.literals (get_or old k d) (all k d less)) is.within;
      says = λ all s.
          let after : ℕ → Bool = value_within h s (λ j. false) in
          let before : ℕ → Bool = value_within g s (λ j. false) in
          let same_a : after a ≡ before a = more.values s (λ j. false) a in_a in
          let same_b : after b ≡ before b = more.values s (λ j. false) b in_b in
          let kept : (k : ℕ) → k < length old → after (get_or old k 0) ≡ before (get_or old k 0) = λ k less. more.values s (λ j. false) (get_or old k 0) (all k 0 less) in (
            λ ones.
                let each : EachOne after (old ++ lit ∷ []) = one-each after (old ++ lit ∷ []) ones in (
                  one-from before old (λ k less. sym (kept k less) ∙ one-front after old lit each k less),
                  sym same_a ∙ agrees-is (after a) (after b) (sym (is.is s (λ j. false)) ∙ one-last after old lit each) ∙ same_b,
                ),
            λ both. one-from after (old ++ lit ∷ []) (one-push after old lit (λ k less. kept k less ∙ one-each before old both.0 k less)
                (is.is s (λ j. false) ∙ is-agrees (after a) (after b) (same_a ∙ both.1 ∙ sym same_b))),
          );
    })

-- two equal literals need no constraint to be equal
pub adds-nothing : (g : Graph) (old : List ℕ) (a b : ℕ) → IsGraph g → a ≡ b → AddsEquality g g old old a b
adds-nothing g old a b valid same = record {
  extends = extends-itself g valid;
  within = λ all. all;
  says = λ all s. (λ ones. (ones, ap (value_within g s (λ j. false)) same), λ both. both.0);
}

module _ (g : Graph) (first : ℕ) (functions substitutes old : List ℕ) where
  -- for the first none of the latches the constraints need nothing more
  pub substitutes-none : IsGraph g → AreLiteralsOf g old → AddsSubstitutes g first functions substitutes 0 g old old
  substitutes-none valid all = record {
    extends = extends-itself g valid;
    within = all;
    says = λ s. (λ ones. (ones, λ j less. absurd (omega (arith, less))), λ both. both.0);
  }

  -- constraints that also equate the next latch's function with that of what stands for the latch
  -- say so of one latch more
  pub substitutes-more : (h i : Graph) (mid new : List ℕ) (n : ℕ) → IsLiteralOf g (get_or functions n 0) → IsLiteralOf g (substitute_function first functions (get_or substitutes n 0))
      → AddsSubstitutes g first functions substitutes n h old mid → AddsEquality h i mid new (get_or functions n 0) (substitute_function first functions (get_or substitutes n 0))
      → AddsSubstitutes g first functions substitutes (n + 1) i old new
  substitutes-more h i mid new n in_a in_b p q = record {
    extends = extends-transitive g h i p.extends q.extends;
    within = q.within p.within;
    says = λ s.
        let a : ℕ = get_or functions n 0 in
        let b : ℕ = substitute_function first functions (get_or substitutes n 0) in
        let same_a : value_within h s (λ j. false) a ≡ value_within g s (λ j. false) a = p.extends.values s (λ j. false) a in_a in
        let same_b : value_within h s (λ j. false) b ≡ value_within g s (λ j. false) b = p.extends.values s (λ j. false) b in_b in
        let step = q.says p.within s in
        let before = p.says s in (
          λ ones.
              let last = step.0 ones in
              let rest = before.0 last.0 in (
                rest.0,
                λ j less. elim (cases_eq j n) [
                  | inl here ↦ subst (λ (k : ℕ). AreEqual g s (get_or functions k 0) (substitute_function first functions (get_or substitutes k 0))) (sym here) (sym same_a ∙ last.1 ∙ same_b)
                  | inr other ↦ rest.1 j (omega (arith, less, other))
                ],
              ),
          λ both. step.1 (before.1 (both.0, λ j less. both.1 j (omega (arith, less))), same_a ∙ both.1 n (omega arith) ∙ sym same_b),
        );
  }
