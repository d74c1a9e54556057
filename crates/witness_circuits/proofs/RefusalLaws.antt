-- Names that are refused: no places are those that they say.
use Rattle.std.proofs.Common.{inl, inr, ◌⊎◌, ℕ, ◌+◌, ◌*◌, ◌<◌, ◌≡◌, ◌++◌, Bool, true, false, List, length, map, drop, get_or, slice_get, Option, Some, codes, arith, ap, sym, ◌∙◌, subst}
use Rattle.std.specs.List.Sorted.{IsStrictlyIncreasing}
use Rattle.std.proofs.lemmas.Bool.{cases_lt}
use Rattle.std.proofs.lemmas.List.{get_or-map, length-map}
use Rattle.std.proofs.lemmas.List.Kept.{AllPairs-from_increasing}
use Rattle.std.proofs.lemmas.Option.{get_or_from_slice_get, same_Some, slice_get-get_or, slice_get_within}
use Rattle.aig_graph.specs.declared.properties.Symbol.{Symbol}
use Rattle.aig_graph.specs.Circuits.{Netlist}
use Rattle.file_words.specs.Numbers.{number_of}
use Rattle.witness_circuits.specs.declared.sharing.Sharing.{Sharing}
use Rattle.witness_circuits.specs.Naming.{AreNamed, IsByNames, IsRefused, IsSaid, IsSaying, IsSharedBy, Says, SomeSays}
use Rattle.witness_circuits.proofs.NamingLaws.{AreTaken, IsSaidBefore}

-- what follows `= ` in a name is one text
pub one_rest : (name a b : List ℕ) → name ≡ codes "= " ++ a → name ≡ codes "= " ++ b → a ≡ b
one_rest name a b one two = ap (λ (xs : List ℕ). drop 2 xs) (sym one ∙ two)

-- so a name says one place
pub one_literal : (name : List ℕ) (first a b : ℕ) → Says name (2 * (first + a)) → Says name (2 * (first + b)) → a ≡ b
one_literal name first a b one two =
    let same : one.0 ≡ two.0 = one_rest name one.0 two.0 one.1 two.1 in
    let both : 2 * (first + a) ≡ 2 * (first + b) = same_Some (2 * (first + a)) (2 * (first + b)) (sym one.2 ∙ ap number_of same ∙ two.2) in
    omega (arith, both)

-- a name that says a literal begins with `= `
pub is_saying : (name : List ℕ) (lit : ℕ) → Says name lit → IsSaying name
is_saying name lit says = (says.0, says.1)

module _ (names : List Symbol) (rising : IsStrictlyIncreasing (map (λ s. s.position) names)) where
  position-at : (j : ℕ) (name : Symbol) → slice_get names j ≡ Some name → get_or (map (λ (s : Symbol). s.position) names) j 0 ≡ name.position
  position-at j name there =
      get_or-map (λ (s : Symbol). s.position) names j name 0 (slice_get_within names j name there) ∙ ap (λ (s : Symbol). s.position) (get_or_from_slice_get names j name name there)

  rises : (i j : ℕ) (a b : Symbol) → i < j → slice_get names i ≡ Some a → slice_get names j ≡ Some b → a.position < b.position
  rises i j a b less one two =
      let long : j < length (map (λ (s : Symbol). s.position) names) = omega (arith, slice_get_within names j b two, length-map names (λ (s : Symbol). s.position)) in
      let before : get_or (map (λ (s : Symbol). s.position) names) i 0 < get_or (map (λ (s : Symbol). s.position) names) j 0 = AllPairs-from_increasing (map (λ (s : Symbol). s.position) names) rising i j 0 less long in
      omega (arith, before, position-at i a one, position-at j b two)

  -- at a position there is one name
  one_place : (i j : ℕ) (a b : Symbol) → slice_get names i ≡ Some a → slice_get names j ≡ Some b → a.position ≡ b.position → i ≡ j
  one_place i j a b one two same = elim (cases_lt i j) [
    | inl less ↦ absurd (omega (arith, rises i j a b less one two, same))
    | inr not_less ↦ elim (cases_lt j i) [
      | inl more ↦ absurd (omega (arith, rises j i b a more two one, same))
      | inr not_more ↦ omega (arith, not_less, not_more)
    ]
  ]

  -- what a name says is what stands at its position
  says-there : (first count many j : ℕ) (places : List (Option ℕ)) (name : Symbol) → AreNamed first count names many places → slice_get names j ≡ Some name → IsSaying name.name
      → (place : ℕ) × (place < count) × (slice_get places name.position ≡ Some (Some place)) × Says name.name (2 * (first + place))
  says-there first count many j places name named there saying =
      let put = named.each j name there saying in
      let shared = named.shared name.position put.0 put.1 in
      let said : IsSaid names name.position (2 * (first + put.0)) = shared.1 in
      let at : said.0 ≡ j = one_place said.0 j said.1 name said.2 there said.3 in
      let same : said.1 ≡ name = same_Some said.1 name (sym said.2 ∙ ap (slice_get names) at ∙ there) in
      (put.0, shared.0, put.1, subst (λ (s : Symbol). Says s.name (2 * (first + put.0))) same said.4)

  -- a name that is refused after the first n were taken
  pub refused-all : (first count many n : ℕ) (taken_places : List (Option ℕ)) (taken : List Bool) (name : Symbol) → AreTaken first count names many n taken_places taken
      → slice_get names n ≡ Some name → IsRefused first name taken → (places : List (Option ℕ)) → AreNamed first count names many places → ⊥
  refused-all first count many n taken_places taken name p there refused places named =
      let here = says-there first count many n places name named there refused.0 in
      let place : ℕ = here.0 in
      let mark : slice_get taken place ≡ Some (get_or taken place false) = slice_get-get_or taken place false (omega (arith, here.1, p.wide)) in
      by_mark (get_or taken place false) place here.2 here.3 mark
    where
      by_mark : (b : Bool) (place : ℕ) → slice_get places name.position ≡ Some (Some place) → Says name.name (2 * (first + place)) → slice_get taken place ≡ Some b → ⊥
      by_mark false place put says mark = refused.1 place mark says
      by_mark true place put says mark =
          let before : IsSaidBefore first names n place = p.said place mark in
          let other = says-there first count many before.0 places before.1 named before.3 (is_saying before.1.name (2 * (first + place)) before.4) in
          let same : other.0 ≡ place = one_literal before.1.name first other.0 place other.3 before.4 in
          let at : before.1.position ≡ name.position = named.once before.1.position name.position place (other.2 ∙ ap (λ (q : ℕ). Some (Some q)) same) put in
          omega (arith, before.2, one_place before.0 n before.1 name before.3 there at)

-- no sharing is by the names if there is none by their inputs, or by their latches
pub not-shared : (c w : Netlist) → SomeSays w.symbols.inputs ⊎ SomeSays w.symbols.latches → ((k : Sharing) → IsByNames c w k → ⊥) → (k : Sharing) → IsSharedBy c w k → ⊥
not-shared c w some none k (inl named) = none k named.1
not-shared c w (inl inputs) none k (inr unnamed) = unnamed.0 inputs.0 inputs.1 inputs.2 inputs.3
not-shared c w (inr latches) none k (inr unnamed) = unnamed.1 latches.0 latches.1 latches.2 latches.3
