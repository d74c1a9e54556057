-- The places that names say, name by name.
use Rattle.std.proofs.Common.{inl, inr, ◌⊎◌, ℕ, suc, zero, ◌+◌, ◌*◌, ◌<◌, ◌≡◌, Bool, true, false, List, [], ◌∷◌, length, map, replicate, set, get_or, slice_get, Option, Some, None, refl, arith, ap, sym, ◌∙◌, subst, ◌++◌, codes, drop}
use Rattle.std.specs.List.Sorted.{IsStrictlyIncreasing}
use Rattle.std.proofs.lemmas.Bool.{cases_eq, cases_lt, false≢true}
use Rattle.std.proofs.lemmas.List.{get_or-map, get_or-replicate, length-map, length-replicate, length-set}
use Rattle.std.proofs.lemmas.List.Kept.{AllPairs-from_increasing}
use Rattle.std.proofs.lemmas.Option.{get_or_from_slice_get, none-some, same_Some, slice_get-get_or, slice_get_past, slice_get_within}
use Rattle.aig_graph.specs.declared.properties.Symbol.{Symbol}
use Rattle.aig_graph.specs.Circuits.{AreNamesBelow}
use Rattle.file_words.specs.Numbers.{number_of}
use Rattle.witness_circuits.specs.Naming.{AreNamed, IsRefused, IsSaid, IsSaying, Says, Takes}

-- an element that is set, and the others
set-same : {A : Type 0} (xs : List A) (i : ℕ) (v : A) → i < length xs → slice_get (set xs i v) i ≡ Some v
set-same [] i v less = absurd (omega (arith, less))
set-same (x ∷ xs) zero v less = refl
set-same (x ∷ xs) (suc i) v less = set-same xs i v (omega (arith, less))

set-other : {A : Type 0} (xs : List A) (i j : ℕ) (v : A) → (i ≡ j → ⊥) → slice_get (set xs i v) j ≡ slice_get xs j
set-other [] i j v other = refl
set-other (x ∷ xs) zero zero v other = absurd (other refl)
set-other (x ∷ xs) zero (suc j) v other = refl
set-other (x ∷ xs) (suc i) zero v other = refl
set-other (x ∷ xs) (suc i) (suc j) v other = set-other xs i j v (λ e. other (ap suc e))

-- nothing is shared at first
no-place : (many i p : ℕ) → slice_get (replicate {A = Option ℕ} many None) i ≡ Some (Some p) → ⊥
no-place many i p e = elim (cases_lt i many) [
  | inl less ↦ (
      let there : slice_get (replicate {A = Option ℕ} many None) i ≡ Some None =
      slice_get-get_or (replicate many None) i None (omega (arith, less, length-replicate {A = Option ℕ} many None)) ∙ ap (λ (o : Option ℕ). Some o) (get_or-replicate many i None None less) in
      none-some p (same_Some None (Some p) (sym there ∙ e)))
  | inr past ↦ none-some (Some p) (sym (slice_get_past (replicate {A = Option ℕ} many None) i (omega (arith, past, length-replicate {A = Option ℕ} many None))) ∙ e)
]

no-mark : (count i : ℕ) → slice_get (replicate {A = Bool} count false) i ≡ Some true → ⊥
no-mark count i e = elim (cases_lt i count) [
  | inl less ↦ (
      let there : slice_get (replicate {A = Bool} count false) i ≡ Some false =
      slice_get-get_or (replicate count false) i false (omega (arith, less, length-replicate {A = Bool} count false)) ∙ ap (λ (b : Bool). Some b) (get_or-replicate count i false false less) in
      false≢true (same_Some false true (sym there ∙ e)))
  | inr past ↦ none-some true (sym (slice_get_past (replicate {A = Bool} count false) i (omega (arith, past, length-replicate {A = Bool} count false))) ∙ e)
]

-- one of the first n names says the literal of this place
abbrev pub IsSaidBefore : ℕ → List Symbol → ℕ → ℕ → Type 0
IsSaidBefore first names n place = (j : ℕ) × (name : Symbol) × (j < n) × (slice_get names j ≡ Some name) × Says name.name (2 * (first + place))

said-more : (first : ℕ) (names : List Symbol) (n place : ℕ) → IsSaidBefore first names n place → IsSaidBefore first names (n + 1) place
said-more first names n place said = (said.0, said.1, omega (arith, said.2), said.3, said.4)

-- what the first n names say
pub record AreTaken (first count : ℕ) (names : List Symbol) (many n : ℕ) (places : List (Option ℕ)) (taken : List Bool) : Type 0 where
  -- there is a place for each of the witness's
  pub long : length places ≡ many
  -- there is a mark for each of the model's
  pub wide : length taken ≡ count
  -- a shared place is one of the model's, and a name at that position says the literal
  pub shared : (i place : ℕ) → slice_get places i ≡ Some (Some place) → (place < count) × IsSaid names i (2 * (first + place))
  -- each of the first n names that begins with `= ` has a shared place at the name's position
  pub each : (j : ℕ) (name : Symbol) → j < n → slice_get names j ≡ Some name → IsSaying name.name → (place : ℕ) × (slice_get places name.position ≡ Some (Some place))
  -- no two positions share one place
  pub once : (i j place : ℕ) → slice_get places i ≡ Some (Some place) → slice_get places j ≡ Some (Some place) → i ≡ j
  -- each shared place is marked
  pub marks : (i place : ℕ) → slice_get places i ≡ Some (Some place) → slice_get taken place ≡ Some true
  -- each marked place has a literal that one of the first n names says
  pub said : (place : ℕ) → slice_get taken place ≡ Some true → IsSaidBefore first names n place

-- before the first name nothing is shared, and nothing is marked
pub taken-none : (first count : ℕ) (names : List Symbol) (many : ℕ) (places : List (Option ℕ)) (taken : List Bool) → places ≡ replicate many None → taken ≡ replicate count false
    → AreTaken first count names many 0 places taken
taken-none first count names many places taken no_places no_marks =
    let never : (i p : ℕ) → slice_get places i ≡ Some (Some p) → ⊥ = λ i p e. no-place many i p (ap (λ (ps : List (Option ℕ)). slice_get ps i) (sym no_places) ∙ e) in
    record {
      long = ap length no_places ∙ length-replicate many None;
      wide = ap length no_marks ∙ length-replicate count false;
      shared = λ i p e. absurd (never i p e);
      each = λ j name less. absurd (omega (arith, less));
      once = λ i j p e. absurd (never i p e);
      marks = λ i p e. absurd (never i p e);
      said = λ place e. absurd (no-mark count place (ap (λ (ms : List Bool). slice_get ms place) (sym no_marks) ∙ e));
    }

module _ (first count : ℕ) (names : List Symbol) (many n : ℕ) (places : List (Option ℕ)) (taken : List Bool) (name : Symbol) (there : slice_get names n ≡ Some name)
    (rising : IsStrictlyIncreasing (map (λ s. s.position) names)) (within : name.position < many) (p : AreTaken first count names many n places taken) where
  -- names before come at other positions
  apart : (j : ℕ) (other : Symbol) → j < n → slice_get names j ≡ Some other → name.position ≡ other.position → ⊥
  apart j other less is same =
      let long : n < length (map (λ (s : Symbol). s.position) names) = omega (arith, slice_get_within names n name there, length-map names (λ (s : Symbol). s.position)) in
      let before : get_or (map (λ (s : Symbol). s.position) names) j 0 < get_or (map (λ (s : Symbol). s.position) names) n 0 = AllPairs-from_increasing (map (λ (s : Symbol). s.position) names) rising j n 0 less long in
      let here : get_or (map (λ (s : Symbol). s.position) names) j 0 ≡ other.position =
      get_or-map (λ (s : Symbol). s.position) names j other 0 (slice_get_within names j other is) ∙ ap (λ (s : Symbol). s.position) (get_or_from_slice_get names j other other is) in
      let last : get_or (map (λ (s : Symbol). s.position) names) n 0 ≡ name.position =
      get_or-map (λ (s : Symbol). s.position) names n name 0 (slice_get_within names n name there) ∙ ap (λ (s : Symbol). s.position) (get_or_from_slice_get names n name name there) in
      omega (arith, before, here, last, same)

  taken-skips : (IsSaying name.name → ⊥) → AreTaken first count names many (n + 1) places taken
  taken-skips silent = record {
    long = p.long;
    wide = p.wide;
    shared = p.shared;
    each = λ j other less is saying. elim (cases_lt j n) [
      | inl before ↦ p.each j other before is saying
      | inr past ↦ (
          let last : j ≡ n = omega (arith, past, less) in
          let same : other ≡ name = same_Some other name (sym is ∙ ap (slice_get names) last ∙ there) in
          absurd (silent (subst (λ (s : Symbol). IsSaying s.name) same saying)))
    ];
    once = p.once;
    marks = p.marks;
    said = λ place e. said-more first names n place (p.said place e);
  }

  module _ (place : ℕ) (below : place < length taken) (says : Says name.name (2 * (first + place))) (free : slice_get taken place ≡ Some false) where
    abbrev new : List (Option ℕ)
    new = set places name.position (Some place)

    abbrev marked : List Bool
    marked = set taken place true

    short : name.position < length places
    short = omega (arith, within, p.long)

    -- what is put, and what stood there before
    read : (i q : ℕ) → slice_get new i ≡ Some (Some q) → ((i ≡ name.position) × (q ≡ place)) ⊎ ((name.position ≡ i → ⊥) × (slice_get places i ≡ Some (Some q)))
    read i q e = elim (cases_eq i name.position) [
      | inl same ↦ (
          let here : slice_get new i ≡ Some (Some place) = ap (slice_get new) same ∙ set-same places name.position (Some place) short in
          inl (same, same_Some q place (same_Some (Some q) (Some place) (sym e ∙ here))))
      | inr other ↦ (
          let apart_here : name.position ≡ i → ⊥ = λ e2. omega (arith, e2, other) in
          inr (apart_here, sym (set-other places name.position i (Some place) apart_here) ∙ e))
    ]

    -- a place that stood before isn't the new one
    unlike : (i q : ℕ) → slice_get places i ≡ Some (Some q) → q ≡ place → ⊥
    unlike i q e same =
        let mark : slice_get taken place ≡ Some true = ap (slice_get taken) (sym same) ∙ p.marks i q e in
        false≢true (same_Some false true (sym free ∙ mark))

    taken-takes : AreTaken first count names many (n + 1) new marked
    taken-takes = record {
      long = length-set places name.position (Some place) ∙ p.long;
      wide = length-set taken place true ∙ p.wide;
      shared = λ i q e. elim (read i q e) [
        | inl here ↦ (omega (arith, here.1, below, p.wide), (n, name, there, sym here.0, subst (λ (r : ℕ). Says name.name (2 * (first + r))) (sym here.1) says))
        | inr before ↦ p.shared i q before.1
      ];
      each = λ j other less is saying. elim (cases_lt j n) [
        | inl before ↦ (
            let old = p.each j other before is saying in
            (old.0, set-other places name.position other.position (Some place) (apart j other before is) ∙ old.1))
        | inr past ↦ (
            let last : j ≡ n = omega (arith, past, less) in
            let same : other ≡ name = same_Some other name (sym is ∙ ap (slice_get names) last ∙ there) in
            (place, ap (λ (s : Symbol). slice_get new s.position) same ∙ set-same places name.position (Some place) short))
      ];
      once = λ i j q one two. elim (read i q one) [
        | inl here ↦ elim (read j q two) [
          | inl there_too ↦ here.0 ∙ sym there_too.0
          | inr before ↦ absurd (unlike j q before.1 here.1)
        ]
        | inr before ↦ elim (read j q two) [
          | inl here ↦ absurd (unlike i q before.1 here.1)
          | inr other ↦ p.once i j q before.1 other.1
        ]
      ];
      marks = λ i q e. elim (read i q e) [
        | inl here ↦ ap (slice_get marked) here.1 ∙ set-same taken place true below
        | inr before ↦ set-other taken place q true (λ same. unlike i q before.1 (sym same)) ∙ p.marks i q before.1
      ];
      said = λ q e. elim (cases_eq place q) [
        | inl same ↦ (n, name, omega arith, there, subst (λ (r : ℕ). Says name.name (2 * (first + r))) same says)
        | inr other ↦ (
            let apart_here : place ≡ q → ⊥ = λ e2. omega (arith, e2, other) in
            said-more first names n q (p.said q (sym (set-other taken place q true apart_here) ∙ e)))
      ];
    }

  -- what the first n names say, with what the next name takes, is what the first n + 1 names say
  pub taken-more : (new : List (Option ℕ)) (marked : List Bool) → Takes first name places taken new marked → AreTaken first count names many (n + 1) new marked
  taken-more new marked (inl skips) =
      let P : List (Option ℕ) → List Bool → Type 0 = λ ps ms. AreTaken first count names many (n + 1) ps ms in
      subst (λ (ps : List (Option ℕ)). P ps marked) (sym skips.1) (subst (λ (ms : List Bool). P places ms) (sym skips.2) (taken-skips skips.0))
  taken-more new marked (inr takes) =
      let P : List (Option ℕ) → List Bool → Type 0 = λ ps ms. AreTaken first count names many (n + 1) ps ms in
      let put : List (Option ℕ) = set places name.position (Some takes.0) in
      subst (λ (ps : List (Option ℕ)). P ps marked) (sym takes.4) (subst (λ (ms : List Bool). P put ms) (sym takes.5) (taken-takes takes.0 takes.1 takes.2 takes.3))

-- all names
pub taken-all : (first count : ℕ) (names : List Symbol) (many n : ℕ) (places : List (Option ℕ)) (taken : List Bool) → n ≡ length names → AreTaken first count names many n places taken → AreNamed first count names many places
taken-all first count names many n places taken end p = record {
  long = p.long;
  shared = p.shared;
  each = λ j name is saying. p.each j name (omega (arith, slice_get_within names j name is, end)) is saying;
  once = p.once;
}

-- names of places below n, wherever these names and that number are read
pub names-below : (n m : ℕ) (names now : List Symbol) → m ≡ n → now ≡ names → AreNamesBelow n names → AreNamesBelow m now
names-below n m names now many same below =
    subst (λ (ns : List Symbol). AreNamesBelow m ns) (sym same) (subst (λ (k : ℕ). AreNamesBelow k names) (sym many) below)

-- a name that begins with `= ` is refused if no place that is left is the one that its digits say
pub refused-where : (first : ℕ) (name : Symbol) (digits : List ℕ) (taken : List Bool) → name.name ≡ codes "= " ++ digits
    → ((place : ℕ) → slice_get taken place ≡ Some false → number_of digits ≡ Some (2 * (first + place)) → ⊥) → IsRefused first name taken
refused-where first name digits taken begins none = (
  (digits, begins),
  λ place free says.
      let same : digits ≡ says.0 = ap (drop 2) (sym begins ∙ says.1) in
      none place free (ap number_of same ∙ says.2),
)

-- so it is if the place is marked
pub refused-taken : (first : ℕ) (name : Symbol) (digits : List ℕ) (taken : List Bool) (place : ℕ) (mark : Bool) → name.name ≡ codes "= " ++ digits → number_of digits ≡ Some (2 * (first + place))
    → mark ≡ get_or taken place mark → mark ≡ true → IsRefused first name taken
refused-taken first name digits taken place mark begins number there is = refused-where first name digits taken begins (λ other free said.
    let same : place ≡ other = omega (arith, same_Some (2 * (first + place)) (2 * (first + other)) (sym number ∙ said)) in
    let left : get_or taken place mark ≡ false = subst (λ (q : ℕ). get_or taken q mark ≡ false) (sym same) (get_or_from_slice_get taken other false mark free) in
    false≢true (sym left ∙ sym there ∙ is))
