-- Literals that say that others are equal, or that one of two fails.
use Rattle.std.proofs.Common.{inl, inr, ℕ, ◌+◌, ◌/◌, ◌%◌, ◌<◌, ◌≡◌, ◌≢◌, ◌↔◌, Bool, true, false, not, ◌&&◌, List, [], ◌∷◌, ◌++◌, length, get_or, refl, arith, ap, sym, ◌∙◌, subst}
use Rattle.std.proofs.lemmas.Bool.{cases_lt}
use Rattle.std.proofs.lemmas.List.{get_or_append_left, get_or_default, get_or_push, length_push}
use Rattle.std.proofs.lemmas.List.Elements.{All-push}
use Rattle.aig_graph.specs.Circuits.{AreLiteralsOf}
use Rattle.aig_graph.specs.Graph.{Graph, IsGraph, IsLiteralOf}
use Rattle.aig_graph.specs.Value.{value_within}
use Rattle.state_maps.specs.RetimedStates.{agrees}
use Rattle.state_maps.specs.States.{Digits, State}
use Rattle.state_maps.proofs.FrameMapLaws.{agrees-is, is-agrees}
use Rattle.map_circuits.specs.Growing.{Extends, IsConjunction, IsEquality}
use Rattle.map_circuits.proofs.GrowingLaws.{negated-value}
use Rattle.map_circuits.specs.Instances.{AreAll}
use Rattle.map_miters.specs.Comparing.{AreEqualIn, AreEqualities, FailsBut, SaysThat}

-- what a literal says it says as the graph grows
pub says-grow : (g h : Graph) (lit : ℕ) (holds : Digits → State → Type 0) → Extends g h → SaysThat g lit holds → SaysThat h lit holds
says-grow g h lit holds more p = record {
  within = more.literals lit p.within;
  is = λ z u.
      let same = more.values z u lit p.within in
      (λ e. (p.is z u).0 (sym same ∙ e), λ has. same ∙ (p.is z u).1 has);
}

-- a literal that is 0 if and only if something holds stays so as the graph grows
pub fails-grow : (g h : Graph) (lit : ℕ) (holds : Digits → State → Type 0) → Extends g h → FailsBut g lit holds → FailsBut h lit holds
fails-grow g h lit holds more p = record {
  within = more.literals lit p.within;
  is = λ z u.
      let same = more.values z u lit p.within in
      (λ e. (p.is z u).0 (sym same ∙ e), λ has. same ∙ (p.is z u).1 has);
}

-- it says whatever is equal
pub fails-same : (h : Graph) (lit : ℕ) (one two : Digits → State → Type 0) → ((z : Digits) (u : State) → one z u ↔ two z u) → FailsBut h lit one → FailsBut h lit two
fails-same h lit one two same p = record {
  within = p.within;
  is = λ z u. (λ e. (same z u).0 ((p.is z u).0 e), λ has. (p.is z u).1 ((same z u).1 has));
}

module _ (g : Graph) (a b : List ℕ) where
  -- the empty list has a literal for each of the first 0 pairs that says that the two are equal
  pub equal-none : AreEqualities g g a b 0 []
  equal-none = record { many = refl; within = λ k d less. absurd (omega (arith, less)); each = λ z u k less. absurd (omega (arith, less)) }

  -- one more pair
  pub equal-more : (h i : Graph) (lits new : List ℕ) (k x y lit : ℕ) → AreLiteralsOf g a → AreLiteralsOf g b → k < length a → k < length b → Extends g h → AreEqualities g h a b k lits → Extends h i
      → IsEquality i x y lit → x ≡ get_or a k 0 → y ≡ get_or b k 0 → new ≡ lits ++ lit ∷ [] → AreEqualities g i a b (k + 1) new
  equal-more h i lits new k x y lit of_a of_b less_a less_b one p two is of_x of_y pushed =
      let P : List ℕ → Type 0 = λ ls. AreEqualities g i a b (k + 1) ls in
      subst P (sym pushed) (record {
        many = omega (arith, p.many, length_push lits lit);
        within = All-push (λ l. IsLiteralOf i l) lits lit (λ j d less. two.literals (get_or lits j d) (p.within j d less)) is.within;
        each = λ z u j less. elim (cases_lt j k) [
          | inl earlier ↦ (
              let short : j < length lits = omega (arith, earlier, p.many) in
              ap (value_within i z u) (get_or_append_left lits (lit ∷ []) 0 j short)
              ∙ two.values z u (get_or lits j 0) (p.within j 0 short) ∙ p.each z u j earlier)
          | inr past ↦ last z u j (omega (arith, past, less))
        ];
      })
    where
      old : (z : Digits) (u : State) (l : ℕ) → IsLiteralOf g l → value_within i z u l ≡ value_within g z u l
      old z u l within = two.values z u l (one.literals l within) ∙ one.values z u l within

      last : (z : Digits) (u : State) (j : ℕ) → j ≡ k → value_within i z u (get_or (lits ++ lit ∷ []) j 0) ≡ agrees (value_within g z u (get_or a j 0)) (value_within g z u (get_or b j 0))
      last z u j at =
          let left : value_within i z u x ≡ value_within g z u (get_or a j 0) =
          ap (value_within i z u) of_x ∙ old z u (get_or a k 0) (of_a k 0 less_a) ∙ ap (λ (n : ℕ). value_within g z u (get_or a n 0)) (sym at) in
          let right : value_within i z u y ≡ value_within g z u (get_or b j 0) =
          ap (value_within i z u) of_y ∙ old z u (get_or b k 0) (of_b k 0 less_b) ∙ ap (λ (n : ℕ). value_within g z u (get_or b n 0)) (sym at) in
          ap (value_within i z u) (get_or_push lits lit 0 j (p.many ∙ sym at))
          ∙ is.is z u
          ∙ ap (λ (t : Bool). agrees t (value_within i z u y)) left ∙ ap (agrees (value_within g z u (get_or a j 0))) right

  -- all of them are
  pub all-equal : (h i : Graph) (lits : List ℕ) (lit : ℕ) → AreEqualities g h a b (length a) lits → Extends h i → AreAll i lits lit → SaysThat i lit (AreEqualIn g a b)
  all-equal h i lits lit p more all = record {
    within = all.within;
    is = λ z u. (forth z u, back z u);
  }
    where
      here : (z : Digits) (u : State) (k : ℕ) → k < length a → value_within i z u (get_or lits k 0) ≡ agrees (value_within g z u (get_or a k 0)) (value_within g z u (get_or b k 0))
      here z u k less = more.values z u (get_or lits k 0) (p.within k 0 (omega (arith, less, p.many))) ∙ p.each z u k less

      forth : (z : Digits) (u : State) → value_within i z u lit ≡ true → AreEqualIn g a b z u
      forth z u e k less =
          agrees-is (value_within g z u (get_or a k 0)) (value_within g z u (get_or b k 0)) (sym (here z u k less) ∙ (all.is z u).0 e k 0 (omega (arith, less, p.many)))

      back : (z : Digits) (u : State) → AreEqualIn g a b z u → value_within i z u lit ≡ true
      back z u equal = (all.is z u).1 (λ k d less.
          let short : k < length a = omega (arith, less, p.many) in
          ap (value_within i z u) (get_or_default lits k d 0 less) ∙ here z u k short ∙ is-agrees (value_within g z u (get_or a k 0)) (value_within g z u (get_or b k 0)) (equal k short))

-- the one and not the other
but-not : (a b : Bool) → ((a && not b) ≡ false) ↔ (a ≡ true → b ≡ true)
but-not true true = (λ _ _. refl, λ _. refl)
but-not true false = (λ e. absurd (cc), λ f. absurd (no (f refl)))
  where
    no : false ≡ true → ⊥
    no e = absurd (cc)
but-not false b = (λ _ e. absurd (cc), λ _. refl)

-- the conjunction of a given literal and the negation of a wanted one is 0 just if the given one
-- implies the wanted one
pub failure-says : (g h : Graph) (given wanted other lit : ℕ) → IsGraph g → IsLiteralOf g given → IsLiteralOf g wanted → other / 2 ≡ wanted / 2 → other % 2 ≢ wanted % 2 → Extends g h
    → IsConjunction h given other lit → FailsBut h lit (λ z u. value_within g z u given ≡ true → value_within g z u wanted ≡ true)
failure-says g h given wanted other lit valid of_given of_wanted same sign more is = record {
  within = is.within;
  is = λ z u.
      let of_other : IsLiteralOf g other = omega (arith, of_wanted, same) in
      let value : value_within h z u lit ≡ (value_within g z u given && not (value_within g z u wanted)) =
      is.is z u
      ∙ ap (λ (t : Bool). t && value_within h z u other) (more.values z u given of_given)
      ∙ ap (λ (t : Bool). value_within g z u given && t) (more.values z u other of_other ∙ negated-value g valid z u wanted other same sign) in
      let both = but-not (value_within g z u given) (value_within g z u wanted) in
      (λ e. both.0 (sym value ∙ e), λ holds. value ∙ both.1 holds);
}

-- literals that are equal are so as the graph grows
pub equal-same : (g h : Graph) (a b : List ℕ) → Extends g h → AreLiteralsOf g a → AreLiteralsOf g b → length a ≡ length b → (z : Digits) (u : State) → AreEqualIn h a b z u ↔ AreEqualIn g a b z u
equal-same g h a b more of_a of_b long z u = (
  λ equal k less. sym (more.values z u (get_or a k 0) (of_a k 0 less)) ∙ equal k less ∙ more.values z u (get_or b k 0) (of_b k 0 (omega (arith, less, long))),
  λ equal k less. more.values z u (get_or a k 0) (of_a k 0 less) ∙ equal k less ∙ sym (more.values z u (get_or b k 0) (of_b k 0 (omega (arith, less, long)))),
)

-- a literal that says one thing says whatever holds in those steps
pub says-same : (h : Graph) (lit : ℕ) (one two : Digits → State → Type 0) → ((z : Digits) (u : State) → one z u ↔ two z u) → SaysThat h lit one → SaysThat h lit two
says-same h lit one two same p = record {
  within = p.within;
  is = λ z u. (λ e. (same z u).0 ((p.is z u).0 e), λ has. (p.is z u).1 ((same z u).1 has));
}
