-- Free latches that start alike, latch by latch.
use Rattle.std.proofs.Common.{inl, inr, ℕ, suc, zero, ◌+◌, ◌*◌, ◌/◌, ◌%◌, ◌<◌, ◌≡◌, ◌≢◌, ◌↔◌, Bool, true, false, not, List, [], ◌∷◌, ◌++◌, length, get_or, slice_get, Some, if◌then◌else◌, refl, arith, ap, sym, ◌∙◌, subst}
use Rattle.std.specs.List.{All}
use Rattle.std.proofs.lemmas.Bool.{cases_lt}
use Rattle.std.proofs.lemmas.List.{get_or-map, get_or_append_left, get_or_push, length_push}
use Rattle.std.proofs.lemmas.List.Elements.{All-cons, All-nil, All-push}
use Rattle.std.proofs.lemmas.Option.{none-some, same_Some}
use Rattle.aig_graph.specs.declared.graph.Latch.{Latch}
use Rattle.aig_graph.specs.Circuits.{Netlist}
use Rattle.aig_graph.specs.Graph.{Graph, IsGraph, IsLiteralOf, first_latch, is_free, is_free_latch, variable}
use Rattle.aig_graph.specs.Value.{value_within}
use Rattle.state_maps.specs.MapCircuits.{IsFreeInput, free_outputs, mapped}
use Rattle.state_maps.specs.States.{Digits, State}
use Rattle.state_maps.proofs.FrameMapLaws.{agrees-is, is-agrees}
use Rattle.state_maps.proofs.FreeLaws.{free-within}
use Rattle.state_maps.proofs.WithinLaws.{within_laws}
use Rattle.map_circuits.specs.Growing.{Extends, IsEquality}
use Rattle.map_circuits.proofs.GrowingLaws.{negated-value}
use Rattle.map_circuits.specs.Instances.{AreAll}
use Rattle.witness_circuits.proofs.ViewLaws.{input-value, latch-value}
use Rattle.map_miters.specs.Comparing.{FailsBut, SaysThat}
use Rattle.map_miters.specs.Questions.{IsAskable}
use Rattle.map_miters.specs.Products.{IsTied, StartsAlike, second_state}
use Rattle.map_miters.specs.Ties.{AreConstraints, AreTies, HasLatches}
use Rattle.map_miters.proofs.LeafLaws.{latches-room, length-resets}

module _ (P : ℕ → Type 0) where
  head-free : (b : Bool) (x : ℕ) (xs : List ℕ) → b ≡ true → All P (if b then x ∷ xs else xs) → P x
  head-free true x xs e all = all 0 0 (omega arith)
  head-free false x xs e all = absurd (cc)

  tail-free : (b : Bool) (x : ℕ) (xs : List ℕ) → All P (if b then x ∷ xs else xs) → All P xs
  tail-free true x xs all = λ k d less. all (suc k) d (omega (arith, less))
  tail-free false x xs all = all

  -- what holds of all outputs for free latches holds of the output of each
  pub free-each : (latches : List Latch) (lits : List ℕ) (k : ℕ) (latch : Latch) → All P (free_outputs latches lits) → slice_get latches k ≡ Some latch → is_free latch ≡ true → k < length lits → P (get_or lits k 0)
  free-each [] lits k latch all there free less = absurd (none-some latch there)
  free-each (l ∷ ls) [] k latch all there free less = absurd (omega (arith, less))
  free-each (l ∷ ls) (x ∷ xs) zero latch all there free less = head-free (is_free l) x (free_outputs ls xs) (ap is_free (same_Some l latch there) ∙ free) all
  free-each (l ∷ ls) (x ∷ xs) (suc k) latch all there free less = free-each ls xs k latch (tail-free (is_free l) x (free_outputs ls xs) all) there free (omega (arith, less))

module _ (c d m : Netlist) (askable : IsAskable c d m) (map_graph : IsGraph m.aig) (h : Graph) (valid : IsGraph h) (has : HasLatches c.aig d.aig true h) where
  -- of a free latch the literal of what it is in the second circuit
  pub second-value : (j lit : ℕ) → j < length d.aig.latches → lit ≡ 2 * (1 + c.aig.inputs + length c.aig.latches + j) → (z : Digits) (u : State)
      → value_within h z u lit ≡ second_state c.aig u j
  second-value j lit less is z u =
      let place : lit ≡ 2 * (first_latch h + (length c.aig.latches + j)) = omega (arith, is, has.inputs) in
      ap (value_within h z u) place ∙ latch-value h valid z u (length c.aig.latches + j) (omega (arith, less, latches-room c.aig d.aig h true has))

  -- and in the first
  pub first-value : (j lit : ℕ) → j < length d.aig.latches → IsFreeInput c.aig (get_or m.props.outputs j 0) → lit ≡ 2 * (c.aig.inputs + variable (get_or m.props.outputs j 0)) → (z : Digits) (u : State)
      → value_within h z u lit ≡ mapped m u j
  first-value j lit less input is z u =
      let short : input.place < length c.aig.latches = free-within c.aig.latches input.place input.free in
      let at : lit ≡ 2 * (first_latch h + input.place) = omega (arith, is, input.is, has.inputs) in
      let many : j < length m.props.outputs = omega (arith, less, askable.outputs) in
      ap (value_within h z u) at ∙ latch-value h valid z u input.place (omega (arith, short, latches-room c.aig d.aig h true has))
      ∙ sym (input-value m.aig map_graph u (λ k. false) input.place (omega (arith, short, askable.inputs)))
      ∙ sym (ap (value_within m.aig u (λ k. false)) input.is)
      ∙ sym (get_or-map (value_within m.aig u (λ k. false)) m.props.outputs j 0 false many)

-- what says that both are equal says that the latch is tied
pub tie-says : (c m : Netlist) (h : Graph) (j x y lit : ℕ) → IsEquality h x y lit → ((z : Digits) (u : State) → value_within h z u x ≡ second_state c.aig u j)
    → ((z : Digits) (u : State) → value_within h z u y ≡ mapped m u j) → SaysThat h lit (λ z u. IsTied c m j u)
tie-says c m h j x y lit is of_x of_y = record {
  within = is.within;
  is = λ z u. (
    λ e. sym (of_x z u) ∙ agrees-is (value_within h z u x) (value_within h z u y) (sym (is.is z u) ∙ e) ∙ of_y z u,
    λ same. is.is z u ∙ is-agrees (value_within h z u x) (value_within h z u y) (of_x z u ∙ same ∙ sym (of_y z u)),
  );
}

module _ (c d m : Netlist) where
  abbrev TiedBelow : ℕ → State → Type 0
  TiedBelow n u = (j : ℕ) → j < n → is_free_latch (slice_get d.aig.latches j) ≡ true → IsTied c m j u

  -- no literals say it of the first 0 latches
  pub ties-none : (g : Graph) → AreTies g c d m 0 []
  ties-none g = record {
    within = λ k x less. absurd (omega (arith, less));
    says = λ z u. (λ all j less free. absurd (omega (arith, less)), λ ties k x less. absurd (omega (arith, less)));
  }

  -- they say as much as the graph grows
  pub ties-grow : (g h : Graph) (n : ℕ) (lits : List ℕ) → Extends g h → AreTies g c d m n lits → AreTies h c d m n lits
  ties-grow g h n lits more p = record {
    within = λ k x less. more.literals (get_or lits k x) (p.within k x less);
    says = λ z u. (
      λ all. (p.says z u).0 (λ k x less. sym (more.values z u (get_or lits k x) (p.within k x less)) ∙ all k x less),
      λ ties k x less. more.values z u (get_or lits k x) (p.within k x less) ∙ (p.says z u).1 ties k x less,
    );
  }

  -- a latch that isn't free asks for none
  pub ties-skip : (g : Graph) (n : ℕ) (latch : Latch) (lits : List ℕ) → slice_get d.aig.latches n ≡ Some latch → is_free latch ≡ false → AreTies g c d m n lits → AreTies g c d m (n + 1) lits
  ties-skip g n latch lits there known p = record {
    within = p.within;
    says = λ z u. (
      λ all j less free. elim (cases_lt j n) [
        | inl before ↦ (p.says z u).0 all j before free
        | inr past ↦ (
            let last : j ≡ n = omega (arith, past, less) in
            let same : is_free_latch (slice_get d.aig.latches j) ≡ false = ap (λ (k : ℕ). is_free_latch (slice_get d.aig.latches k)) last ∙ ap is_free_latch there ∙ known in
            absurd (clash (is_free_latch (slice_get d.aig.latches j)) free same))
      ],
      λ ties. (p.says z u).1 (λ j less free. ties j (omega (arith, less)) free),
    );
  }
    where
      clash : (b : Bool) → b ≡ true → b ≡ false → ⊥
      clash true one none = absurd (cc)
      clash false one none = absurd (cc)

  -- one that is free for one more
  pub ties-more : (g h : Graph) (n lit : ℕ) (latch : Latch) (lits new : List ℕ) → slice_get d.aig.latches n ≡ Some latch → is_free latch ≡ true → Extends g h → AreTies g c d m n lits
      → SaysThat h lit (λ z u. IsTied c m n u) → new ≡ lits ++ lit ∷ [] → AreTies h c d m (n + 1) new
  ties-more g h n lit latch lits new there free more p is pushed =
      let grown : AreTies h c d m n lits = ties-grow g h n lits more p in
      let P : List ℕ → Type 0 = λ ls. AreTies h c d m (n + 1) ls in
      subst P (sym pushed) (record {
        within = All-push (λ l. IsLiteralOf h l) lits lit grown.within is.within;
        says = λ z u. (λ all j less f. forth z u grown all j less f, λ ties. All-push (λ l. value_within h z u l ≡ true) lits lit (rest z u grown ties) (last z u ties));
      })
    where
      is-free : is_free_latch (slice_get d.aig.latches n) ≡ true
      is-free = ap is_free_latch there ∙ free

      forth : (z : Digits) (u : State) → AreTies h c d m n lits → All (λ l. value_within h z u l ≡ true) (lits ++ lit ∷ []) → (j : ℕ) → j < n + 1 → is_free_latch (slice_get d.aig.latches j) ≡ true → IsTied c m j u
      forth z u grown all j less f = elim (cases_lt j n) [
        | inl before ↦ (grown.says z u).0 (λ k e short. sym (ap (value_within h z u) (get_or_append_left lits (lit ∷ []) e k short)) ∙ all k e (omega (arith, short, length_push lits lit))) j before f
        | inr past ↦ (
            let end : j ≡ n = omega (arith, past, less) in
            let one : value_within h z u lit ≡ true = sym (ap (value_within h z u) (get_or_push lits lit 0 (length lits) refl)) ∙ all (length lits) 0 (omega (arith, length_push lits lit)) in
            subst (λ (k : ℕ). IsTied c m k u) (sym end) ((is.is z u).0 one))
      ]

      rest : (z : Digits) (u : State) → AreTies h c d m n lits → TiedBelow (n + 1) u → All (λ l. value_within h z u l ≡ true) lits
      rest z u grown ties = (grown.says z u).1 (λ j less f. ties j (omega (arith, less)) f)

      last : (z : Digits) (u : State) → TiedBelow (n + 1) u → value_within h z u lit ≡ true
      last z u ties = (is.is z u).1 (ties n (omega arith) is-free)

  flip-true : (a b : Bool) → a ≡ not b → (a ≡ true) ↔ (b ≡ false)
  flip-true a true e = (λ f. absurd (cc), λ f. absurd (cc))
  flip-true a false e = (λ _. refl, λ _. e)

  -- the literal of what starts alike: of all ties, and of what tells the first step
  pub start-says : (f g h i : Graph) (started alike failure other : ℕ) (ties : List ℕ) → IsGraph f → HasLatches c.aig d.aig true f → AreTies g c d m (length d.aig.latches) ties → Extends f g → Extends g h → AreAll h ties alike
      → Extends h i → started ≡ 2 * (1 + c.aig.inputs + length c.aig.latches + length d.aig.latches) + 1 → FailsBut i failure (λ z u. value_within h z u started ≡ true → value_within h z u alike ≡ true)
      → other / 2 ≡ failure / 2 → other % 2 ≢ failure % 2 → SaysThat i other (λ z u. StartsAlike c d m true u)
  start-says f g h i started alike failure other ties valid has are first more all last is fails same sign = record {
    within = omega (arith, fails.within, same);
    is = λ z u.
        let flip = flip-true (value_within i z u other) (value_within i z u failure) (negated-value i last.graph z u failure other same sign) in (
          λ e _ opens j free.
              (grown.says z u).0 ((all.is z u).0 ((fails.is z u).0 (flip.0 e) (tells z u opens))) j (free-within d.aig.latches j free) free,
          λ starts. flip.1 ((fails.is z u).1 (λ told. (all.is z u).1 ((grown.says z u).1 (λ j less free. starts refl (told-first z u told) j free)))),
        );
  }
    where
      grown : AreTies h c d m (length d.aig.latches) ties
      grown = ties-grow g h (length d.aig.latches) ties more are

      latch : (z : Digits) (u : State) → value_within h z u started ≡ not (u (length c.aig.latches + length d.aig.latches))
      latch z u =
          let n : ℕ = length c.aig.latches + length d.aig.latches in
          let v : ℕ = 1 + c.aig.inputs + length c.aig.latches + length d.aig.latches in
          let place : 2 * (1 + c.aig.inputs + length c.aig.latches + length d.aig.latches) ≡ 2 * (first_latch f + (length c.aig.latches + length d.aig.latches)) = omega (arith, has.inputs) in
          let short : length c.aig.latches + length d.aig.latches < length f.latches = omega (arith, has.latches, length-resets c.aig d.aig true) in
          let held : value_within f z u (2 * v) ≡ u n = ap (value_within f z u) place ∙ latch-value f valid z u n short in
          let within : IsLiteralOf f (2 * v) = omega (arith, short, has.inputs) in
          let grown : value_within h z u (2 * v) ≡ value_within f z u (2 * v) = more.values z u (2 * v) (first.literals (2 * v) within) ∙ first.values z u (2 * v) within in
          ap (value_within h z u) is ∙ (within_laws h more.graph z u).negation v ∙ ap not (grown ∙ held)

      tells : (z : Digits) (u : State) → u (length c.aig.latches + length d.aig.latches) ≡ false → value_within h z u started ≡ true
      tells z u opens = latch z u ∙ ap not opens

      told-first : (z : Digits) (u : State) → value_within h z u started ≡ true → u (length c.aig.latches + length d.aig.latches) ≡ false
      told-first z u told = by_value (u (length c.aig.latches + length d.aig.latches)) (sym (latch z u) ∙ told)
        where
          by_value : (b : Bool) → not b ≡ true → b ≡ false
          by_value true e = absurd (cc)
          by_value false e = refl

  -- no constraint if nothing is tied
  pub constraints-none : (h : Graph) (tied : Bool) (lits : List ℕ) → tied ≡ false → lits ≡ [] → AreConstraints h c d m tied lits
  constraints-none h tied lits free none = subst (λ (ls : List ℕ). AreConstraints h c d m tied ls) (sym none) (record {
    within = λ k x less. absurd (omega (arith, less));
    says = λ z u. (λ all is first. absurd (clash tied is free), λ starts k x less. absurd (omega (arith, less)));
  })
    where
      clash : (b : Bool) → b ≡ true → b ≡ false → ⊥
      clash true one none = absurd (cc)
      clash false one none = absurd (cc)

  -- one if something is
  pub constraints-one : (h : Graph) (tied : Bool) (lit : ℕ) (lits : List ℕ) → tied ≡ true → SaysThat h lit (λ z u. StartsAlike c d m true u) → lits ≡ lit ∷ [] → AreConstraints h c d m tied lits
  constraints-one h tied lit lits is says one =
      let P : List ℕ → Type 0 = λ ls. AreConstraints h c d m tied ls in
      subst P (sym one) (record {
        within = All-cons (λ l. IsLiteralOf h l) lit [] says.within (All-nil (λ l. IsLiteralOf h l));
        says = λ z u. (
          λ all told first. (says.is z u).0 (all 0 false (omega arith)) refl first,
          λ starts. All-cons (λ (b : Bool). b ≡ true) (value_within h z u lit) [] ((says.is z u).1 (λ _ first. starts is first)) (All-nil (λ (b : Bool). b ≡ true)),
        );
      })
