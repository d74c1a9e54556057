-- Conjunctions of many literals.
use Rattle.std.proofs.Common.{inl, inr, ℕ, ◌+◌, ◌<◌, ◌≡◌, ◌↔◌, Bool, true, not, ◌&&◌, List, length, get_or, arith, ap, sym, ◌∙◌, subst}
use Rattle.std.proofs.lemmas.Bool.{cases_lt, and_parts}
use Rattle.std.proofs.lemmas.List.{get_or_default}
use Rattle.aig_graph.specs.Graph.{Graph, IsGraph, IsLiteralOf}
use Rattle.aig_graph.specs.Circuits.{AreLiteralsOf}
use Rattle.aig_graph.specs.Value.{value_within}
use Rattle.state_maps.specs.States.{Digits, State}
use Rattle.state_maps.proofs.WithinLaws.{within_laws}
use Rattle.map_circuits.specs.Growing.{Extends, IsConjunction}
use Rattle.map_circuits.specs.Instances.{AreAll}

-- the literal says that the first n of these are 1
pub record AreFirst (g : Graph) (lits : List ℕ) (n lit : ℕ) : Type 0 where
  -- the literal is one of the graph
  pub within : IsLiteralOf g lit
  -- the literal is 1 just if the first n are
  pub is : (z : Digits) (u : State) → (value_within g z u lit ≡ true) ↔ ((j : ℕ) → j < n → value_within g z u (get_or lits j 0) ≡ true)

-- the constant 1 is the conjunction of the first none of the literals
pub first-none : (g : Graph) (lits : List ℕ) (lit : ℕ) → IsGraph g → lit ≡ 1 → AreFirst g lits 0 lit
first-none g lits lit valid one =
    let P : ℕ → Type 0 = λ n. AreFirst g lits 0 n in
    subst P (sym one) (record {
      within = omega arith;
      is = λ z u. (λ _ j less. absurd (omega (arith, less)), λ _. (within_laws g valid z u).negation 0 ∙ ap not (within_laws g valid z u).constant);
    })

-- the constant 1 adds nothing
pub conjunction-one : (g : Graph) → IsGraph g → (a b : ℕ) → IsLiteralOf g b → a ≡ 1 → IsConjunction g a b b
conjunction-one g valid a b within one = record {
  within = within;
  is = λ z u.
      let is_one : value_within g z u a ≡ true = ap (value_within g z u) one ∙ (within_laws g valid z u).negation 0 ∙ ap not (within_laws g valid z u).constant in
      sym (ap (λ (t : Bool). t && value_within g z u b) is_one);
}

-- one more
pub first-more : (g h i : Graph) (lits : List ℕ) (k before lit own : ℕ) → Extends g h → AreLiteralsOf g lits → k < length lits → own ≡ get_or lits k 0 → Extends h i → AreFirst h lits k before
    → IsConjunction i before own lit → AreFirst i lits (k + 1) lit
first-more g h i lits k before lit own one within less here more p is = record {
  within = is.within;
  is = λ z u. (forth z u, back z u);
}
  where
    of_h : (j : ℕ) → j < length lits → IsLiteralOf h (get_or lits j 0)
    of_h j short = one.literals (get_or lits j 0) (within j 0 short)

    forth : (z : Digits) (u : State) → value_within i z u lit ≡ true → (j : ℕ) → j < k + 1 → value_within i z u (get_or lits j 0) ≡ true
    forth z u is_one j short =
        let parts = and_parts (value_within i z u before) (value_within i z u own) (sym (is.is z u) ∙ is_one) in
        elim (cases_lt j k) [
          | inl earlier ↦
              more.values z u (get_or lits j 0) (of_h j (omega (arith, earlier, less)))
              ∙ (p.is z u).0 (sym (more.values z u before p.within) ∙ parts.0) j earlier
          | inr last ↦ (let at : j ≡ k = omega (arith, last, short) in ap (λ (n : ℕ). value_within i z u (get_or lits n 0)) at ∙ ap (value_within i z u) (sym here) ∙ parts.1)
        ]

    back : (z : Digits) (u : State) → ((j : ℕ) → j < k + 1 → value_within i z u (get_or lits j 0) ≡ true) → value_within i z u lit ≡ true
    back z u all =
        let first : value_within i z u before ≡ true =
        more.values z u before p.within
        ∙ (p.is z u).1 (λ j earlier. sym (more.values z u (get_or lits j 0) (of_h j (omega (arith, earlier, less)))) ∙ all j (omega (arith, earlier))) in
        let last : value_within i z u own ≡ true = ap (value_within i z u) here ∙ all k (omega arith) in
        is.is z u ∙ ap (λ (b : Bool). b && value_within i z u own) first ∙ last

-- all of them
pub first-all : (g : Graph) (lits : List ℕ) (n lit : ℕ) → n ≡ length lits → AreFirst g lits n lit → AreAll g lits lit
first-all g lits n lit end p = record {
  within = p.within;
  is = λ z u. (
    λ is_one j d short. ap (value_within g z u) (get_or_default lits j d 0 short) ∙ (p.is z u).0 is_one j (omega (arith, short, end)),
    λ all. (p.is z u).1 (λ j short. all j 0 (omega (arith, short, end))),
  );
}
