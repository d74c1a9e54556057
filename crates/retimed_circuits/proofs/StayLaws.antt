-- A step that keeps held latches, with their names and resets, whatever becomes of the others.
use Rattle.std.proofs.Common.{ℕ, ◌≡◌, ◌<◌, ◌==◌, inl, inr, List, [], ◌∷◌, length, map, filter, Bool, true, false, cond, slice_get, refl, arith, ap, ap₂, sym, ◌∙◌, subst}
use Rattle.std.specs.List.{All}
use Rattle.std.proofs.lemmas.Bool.{cases_lt, cases_eq, eq-eqb, eqb-true, ne_eqb}
use Rattle.std.proofs.lemmas.List.{get_or-map, length-map}
use Rattle.std.proofs.lemmas.List.Elements.{All-head, All-tail, All-map, All-weaker}
use Rattle.aig_graph.specs.Marking.{has}
use Rattle.aig_graph.proofs.ListLaws.{map-map, map-same}
use Rattle.aig_graph.specs.declared.properties.Symbol.{Symbol}
use Rattle.aig_graph.specs.Circuits.{Netlist}
use Rattle.aig_graph.specs.Keep.{is_named, held_by, held_in}
use Rattle.aig_graph.proofs.PositionLaws.{has-own}
use Rattle.aig_graph.proofs.SearchLaws.{has_iff_contains}
use Rattle.retimed_circuits.specs.Names.{Covers, StayHeld, held_latch, held_latches, latch_placed, latches_at, names_at, reset_of}

abbrev position_of : Symbol → ℕ
position_of s = s.position

-- what the symbols that pass give doesn't change if the symbols that aren't kept are dropped and
-- the rest are moved
module _ {A : Type 0} (f g : Symbol → A) (after before keeps : Symbol → Bool) (moved : Symbol → Symbol) (P : ℕ → Type 0) (n : ℕ)
    (same : (x : Symbol) → keeps x ≡ true → after (moved x) ≡ before x)
    (each : (x : Symbol) → x.position < n → before x ≡ true → P x.position → (keeps x ≡ true) × (f (moved x) ≡ g x)) where
  push : (x : Symbol) (rest : List Symbol) (k : Bool) → map f (filter after (map moved (cond k (x ∷ rest) rest)))
      ≡ cond k (map f (cond (after (moved x)) (moved x ∷ filter after (map moved rest)) (filter after (map moved rest)))) (map f (filter after (map moved rest)))
  push x rest true = refl
  push x rest false = refl

  pick : (x : Symbol) (W U : List Symbol) (k m b : Bool) → (b ≡ true → (k ≡ true) × (f (moved x) ≡ g x)) → (k ≡ true → m ≡ b) → map f W ≡ map g U
      → cond k (map f (cond m (moved x ∷ W) W)) (map f W) ≡ map g (cond b (x ∷ U) U)
  pick x W U true true true here e rest = ap₂ (λ (y : A) (ys : List A). y ∷ ys) (here refl).1 rest
  pick x W U true false false here e rest = rest
  pick x W U false m false here e rest = rest
  pick x W U true true false here e rest = let clash : true ≡ false = e refl in absurd (cc)
  pick x W U true false true here e rest = let clash : false ≡ true = e refl in absurd (cc)
  pick x W U false m true here e rest = let clash : false ≡ true = (here refl).0 in absurd (cc)

  at_head : (x : Symbol) (U : List Symbol) (b : Bool) → All P (map position_of (cond b (x ∷ U) U)) → b ≡ true → P x.position
  at_head x U true all e = All-head P x.position (map position_of U) all
  at_head x U false all e = absurd (cc)

  at_tail : (x : Symbol) (U : List Symbol) (b : Bool) → All P (map position_of (cond b (x ∷ U) U)) → All P (map position_of U)
  at_tail x U true all = All-tail P x.position (map position_of U) all
  at_tail x U false all = all

  kept-entries : (xs : List Symbol) → All (λ (x : Symbol). x.position < n) xs → All P (map position_of (filter before xs)) → map f (filter after (map moved (filter keeps xs))) ≡ map g (filter before xs)
  kept-entries [] below all = refl
  kept-entries (x ∷ xs) below all =
      let rest = kept-entries xs (All-tail (λ (y : Symbol). y.position < n) x xs below) (at_tail x (filter before xs) (before x) all) in
      let low : x.position < n = All-head (λ (y : Symbol). y.position < n) x xs below in
      push x (filter keeps xs) (keeps x)
      ∙ pick x (filter after (map moved (filter keeps xs))) (filter before xs) (keeps x) (after (moved x)) (before x) (λ e. each x low e (at_head x (filter before xs) (before x) all e)) (same x) rest

-- what a function makes of a number of a list is one of what it makes of the list
pub has-map : (f : ℕ → ℕ) (xs : List ℕ) (j : ℕ) → has xs j ≡ true → has (map f xs) (f j) ≡ true
has-map f xs j e =
    let found = (has_iff_contains xs j).0 e in
    let long : length (map f xs) ≡ length xs = length-map xs f in
    (has_iff_contains (map f xs) (f j)).1 (found.0, omega (arith, long, found.1), get_or-map f xs found.0 j (f j) found.1 ∙ ap f found.2)

-- the position with a symbol, moved
abbrev moved_to : (ℕ → ℕ) → Symbol → Symbol
moved_to f x = record x { position = f x.position }

-- d has the latches of c that stay, with their symbols and resets; the held ones do
pub record KeepsLatches (held : List ℕ) (c d : Netlist) (keeps : ℕ → Bool) (f : ℕ → ℕ) : Type 0 where
  -- the symbols of latches are those of the ones that stay, at their new positions
  pub symbols : d.symbols.latches ≡ map (moved_to f) (filter (λ (x : Symbol). keeps x.position) c.symbols.latches)
  -- each symbol is that of a latch
  pub below : All (λ (x : Symbol). x.position < length c.aig.latches) c.symbols.latches
  -- each held position is that of a latch
  pub in_range : All (λ j. j < length c.aig.latches) held
  -- held latches stay
  pub stay : All (λ j. keeps j ≡ true) held
  -- a latch that stays has its reset
  pub resets : (j : ℕ) → j < length c.aig.latches → keeps j ≡ true → reset_of (slice_get d.aig.latches (f j)) ≡ reset_of (slice_get c.aig.latches j)
  -- latches that stay keep their order
  pub rises : (i j : ℕ) → keeps i ≡ true → i < j → f i < f j

module _ (held : List ℕ) (c d : Netlist) (keeps : ℕ → Bool) (f : ℕ → ℕ) (step : KeepsLatches held c d keeps f) where
  abbrev stays : Symbol → Bool
  stays x = keeps x.position

  abbrev holds : ℕ → Type 0
  holds j = has held j ≡ true

  -- a number of the list passes what all of it pass
  of-all : (P : ℕ → Type 0) → All P held → (j : ℕ) → holds j → P j
  of-all P all j e = let found = (has_iff_contains held j).0 e in subst P found.2 (all found.0 j found.1)

  stays-held : (j : ℕ) → holds j → keeps j ≡ true
  stays-held j e = of-all (λ i. keeps i ≡ true) step.stay j e

  reset-entry : (x : Symbol) → x.position < length c.aig.latches → holds x.position → held_latch d.aig (moved_to f x) ≡ held_latch c.aig x
  reset-entry x low here = λ i. record { name = x.name; reset = step.resets x.position low (stays-held x.position here) i }

  covered : (names : List (List ℕ)) → Covers names held c → All holds (map position_of (filter (is_named names) c.symbols.latches))
  unfolding held_by
  covered names covers = covers

  -- names hold these latches
  named-stay : (names : List (List ℕ)) → Covers names held c → held_latches names d ≡ held_latches names c
  unfolding held_latches
  named-stay names covers =
      ap (λ (xs : List Symbol). map (held_latch d.aig) (filter (is_named names) xs)) step.symbols
      ∙ kept-entries (held_latch d.aig) (held_latch c.aig) (is_named names) (is_named names) stays (moved_to f) holds (length c.aig.latches) (λ x here. refl)
      (λ x low is here. (stays-held x.position here, reset-entry x low here)) c.symbols.latches step.below (covered names covers)

  -- they stand where the step puts them
  names-move : (names : List (List ℕ)) → Covers names held c → held_in names d ≡ map f (held_in names c)
  unfolding held_by
  names-move names covers =
      ap (λ (xs : List Symbol). map position_of (filter (is_named names) xs)) step.symbols
      ∙ kept-entries position_of (λ x. f x.position) (is_named names) (is_named names) stays (moved_to f) holds (length c.aig.latches) (λ x here. refl)
      (λ x low is here. (stays-held x.position here, refl)) c.symbols.latches step.below covers
      ∙ sym (map-map f position_of (filter (is_named names) c.symbols.latches))

  names-covered : (names : List (List ℕ)) → Covers names held c → Covers names (map f held) d
  names-covered names covers =
      let moved : All (λ j. has (map f held) (f j) ≡ true) (held_in names c) = All-weaker holds (λ j. has (map f held) (f j) ≡ true) (has-map f held) (held_in names c) covers in
      subst (λ (xs : List ℕ). All (λ j. has (map f held) j ≡ true) xs) (sym (names-move names covers)) (All-map (λ j. has (map f held) j ≡ true) f (held_in names c) moved)

  names-exact : (names : List (List ℕ)) → held ≡ held_in names c → map f held ≡ held_in names d
  names-exact names same =
      let covers : Covers names held c = subst (λ (xs : List ℕ). All holds xs) same (has-own held) in
      ap (map f) same ∙ sym (names-move names covers)

  -- of latches that stay none comes to where another is
  apart : (i j : ℕ) → keeps i ≡ true → keeps j ≡ true → (f i == f j) ≡ (i == j)
  apart i j one other = elim (cases_eq i j) [
    | inl same ↦ eq-eqb (f i) (f j) (ap f same) ∙ sym (eq-eqb i j same)
    | inr differs ↦ ne_eqb (f i) (f j) (λ e. elim (cases_lt i j) [
      | inl below ↦ (let less : f i < f j = step.rises i j one below in absurd (omega (arith, less, e)))
      | inr above ↦ (let less : f j < f i = step.rises j i other (omega (arith, above, differs)) in absurd (omega (arith, less, e)))
    ]) ∙ sym (ne_eqb i j differs)
  ]

  names-there : (j : ℕ) → keeps j ≡ true → names_at d.symbols.latches (f j) ≡ names_at c.symbols.latches j
  unfolding names_at
  names-there j here =
      let P : ℕ → Type 0 = λ k. k ≡ k in
      ap (λ (xs : List Symbol). map (λ (s : Symbol). s.name) (filter (λ (s : Symbol). s.position == f j) xs)) step.symbols
      ∙ kept-entries (λ (s : Symbol). s.name) (λ (s : Symbol). s.name) (λ (s : Symbol). s.position == f j) (λ (s : Symbol). s.position == j) stays (moved_to f) P (length c.aig.latches)
      (λ x there. apart x.position j there here)
      (λ x low is _. (ap keeps (eqb-true x.position j is) ∙ here, refl)) c.symbols.latches step.below (λ k a h. refl)

  placed-stay : latches_at (map f held) d ≡ latches_at held c
  placed-stay =
      let P : ℕ → Type 0 = λ j. (j < length c.aig.latches) × (keeps j ≡ true) in
      map-map (latch_placed d) f held
      ∙ map-same P (λ j. latch_placed d (f j)) (latch_placed c)
      (λ j here. λ i. record { names = names-there j here.1 i; reset = step.resets j here.0 here.1 i }) held
      (λ k a h. (step.in_range k a h, step.stay k a h))

  -- so the held latches stay
  pub step-stays : StayHeld held c (map f held) d
  step-stays = record { stay = placed-stay; named = named-stay; covers = names-covered; exact = names-exact }

-- held latches that stay in one step and in the next stay in both
pub stays-then : (held now later : List ℕ) (c d e : Netlist) → StayHeld held c now d → StayHeld now d later e → StayHeld held c later e
stays-then held now later c d e p q = record {
  stay = q.stay ∙ p.stay;
  named = λ names covers. q.named names (p.covers names covers) ∙ p.named names covers;
  covers = λ names covers. q.covers names (p.covers names covers);
  exact = λ names same. q.exact names (p.exact names same);
}

-- if nothing changes, they stay
pub stays-same : (held now : List ℕ) (c d : Netlist) → d ≡ c → now ≡ held → StayHeld held c now d
stays-same held now c d same there =
    let itself : StayHeld held c held c = record { stay = refl; named = λ names covers. refl; covers = λ names covers. covers; exact = λ names is. is } in
    subst (λ (x : Netlist). StayHeld held c now x) (sym same) (subst (λ (xs : List ℕ). StayHeld held c xs c) (sym there) itself)
