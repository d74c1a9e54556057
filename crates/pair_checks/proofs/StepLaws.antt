-- A step from a state in which latches hold what they read as, if the graph of both circuits is
-- asked.
use Rattle.std.proofs.Common.{◌⊎◌, inl, inr, ℕ, ◌+◌, ◌-◌, ◌*◌, ◌%◌, ◌<◌, ◌≡◌, suc, zero, Bool, false, not, List, ◌++◌, length, map, take, drop, get_or, slice_get, Option, Some, refl, arith, ap, sym, ◌∙◌, length-append}
use Rattle.std.proofs.lemmas.Bool.{cases_lt}
use Rattle.std.proofs.Math.Bool.{not-not}
use Rattle.std.proofs.lemmas.List.{get_or-drop, get_or-take, length-drop, length-map, length-take-le}
use Rattle.std.proofs.lemmas.Option.{same_Some, slice_get_within}
use Rattle.aig_graph.specs.declared.graph.Latch.{Latch}
use Rattle.aig_graph.specs.declared.graph.Reset.{Reset}
use Rattle.aig_graph.specs.declared.graph.Reset.TheVariants.{Zero, One, Free}
use Rattle.aig_graph.specs.Gates.{AreEqualIn, Respects, gates_of}
use Rattle.aig_graph.specs.Graph.{Graph, IsGraph, first_gate, first_latch, free_before, variable, variables_end}
use Rattle.aig_graph.specs.Laws.{all_free}
use Rattle.aig_graph.specs.Value.{next_value, opening_literal, signed, value_within}
use Rattle.aig_graph.proofs.KindLaws.{element}
use Rattle.aig_graph.proofs.ListLaws.{slice_get-map_some}
use Rattle.aig_graph.proofs.PlacesLaws.{slice_get-append_left, slice_get-append_right}
use Rattle.aig_graph.proofs.SignLaws.{signed-even, signed-odd, value_signed, value_signed_as}
use Rattle.gate_sharing.specs.Circuits.{copied_latch}
use Rattle.gate_sharing.specs.Copies.{CopiesValues, copy_of}
use Rattle.map_checks.proofs.ImageLaws.{graph-respects, latch-value, leaves-follow}
use Rattle.state_maps.specs.States.{Digits, State, after_step}
use Rattle.state_maps.proofs.WithinLaws.{within_laws}
use Rattle.unit_refutations.specs.Classes.{AreAlike, IsAlike, told}
use Rattle.pair_checks.specs.declared.pairs.Pair.{Pair}
use Rattle.pair_checks.specs.Openings.{BeginAlike, BeginsAs, constant, latch, choice_literal, opening_of, openings}
use Rattle.pair_checks.specs.Pairs.{AgreesWith, held, read_value}
use Rattle.pair_checks.specs.Sides.{IsPair, IsRead, leaves_of}
use Rattle.pair_checks.proofs.OpeningLaws.{held-first, held-second, length-openings, opening-first, opening-second, read-constant, read-latch}

-- a literal is even or odd
parity : (n : ℕ) → (n % 2 ≡ 0) ⊎ (n % 2 ≡ 1)
parity zero = inl refl
parity (suc n) = elim (parity n) [
  | inl even ↦ inr (omega (arith, even))
  | inr odd ↦ inl (omega (arith, odd))
]

-- signs alone count
pub signed-alike : (a b : ℕ) (v : Bool) → a % 2 ≡ b % 2 → signed a v ≡ signed b v
signed-alike a b v same = elim (parity b) [
  | inl even ↦ signed-even a v (same ∙ even) ∙ sym (signed-even b v even)
  | inr odd ↦ signed-odd a v (same ∙ odd) ∙ sym (signed-odd b v odd)
]

-- a sign taken twice is none
pub signed-twice : (a : ℕ) (v : Bool) → signed a (signed a v) ≡ v
signed-twice a v = elim (parity a) [
  | inl even ↦ signed-even a (signed a v) even ∙ signed-even a v even
  | inr odd ↦ signed-odd a (signed a v) odd ∙ ap not (signed-odd a v odd) ∙ not-not v
]

-- two signs one after another are that of their sum
pub signed-sum : (a b : ℕ) (v : Bool) → signed a (signed b v) ≡ signed (a + b) v
signed-sum a b v = elim (parity a) [
  | inl even ↦ signed-even a (signed b v) even ∙ signed-alike b (a + b) v (omega (arith, even))
  | inr odd ↦ signed-odd a (signed b v) odd ∙ elim (parity b) [
    | inl other ↦ ap not (signed-even b v other) ∙ sym (signed-odd (a + b) v (omega (arith, odd, other)))
    | inr other ↦ ap not (signed-odd b v other) ∙ not-not v ∙ sym (signed-even (a + b) v (omega (arith, odd, other)))
  ]
]

-- an opening has the sign of the latch's reset
opening-parity : (reset : Reset) (place : ℕ) → opening_literal reset (choice_literal place) % 2 ≡ opening_literal reset 0 % 2
opening-parity Zero place = refl
opening-parity One place = refl
opening-parity Free place = omega arith

module _ (c d : Graph) (reads : List ℕ) (p : Pair) (is : IsPair c d reads p) (of_first : IsGraph c) (of_second : IsGraph d) (of_pair : IsGraph p.graph) (inputs : d.inputs ≡ c.inputs) where
  abbrev m : Graph
  m = p.graph

  -- the graph has the latches of both circuits
  pub many : length m.latches ≡ length c.latches + length d.latches
  many =
      ap (λ (latches : List Latch). length latches) is.latches
      ∙ omega (arith, length-append (map (copied_latch p.first) c.latches) (map (copied_latch p.second) d.latches), length-map c.latches (copied_latch p.first), length-map d.latches (copied_latch p.second))

  -- what the graph has for a latch of the one circuit
  pub latch-first : (j : ℕ) (l : Latch) → slice_get c.latches j ≡ Some l → slice_get m.latches j ≡ Some (copied_latch p.first l)
  latch-first j l there =
      ap (λ (latches : List Latch). slice_get latches j) is.latches
      ∙ slice_get-append_left (map (copied_latch p.first) c.latches) (map (copied_latch p.second) d.latches) j (copied_latch p.first l) (slice_get-map_some (copied_latch p.first) c.latches j l there)

  -- what it has for a latch of the other
  pub latch-second : (j : ℕ) (l : Latch) → slice_get d.latches j ≡ Some l → slice_get m.latches (length c.latches + j) ≡ Some (copied_latch p.second l)
  latch-second j l there =
      let ours : List Latch = map (copied_latch p.first) c.latches in
      let theirs : List Latch = map (copied_latch p.second) d.latches in
      let place : length c.latches + j ≡ length ours + j = omega (arith, length-map c.latches (copied_latch p.first)) in
      ap (λ (latches : List Latch). slice_get latches (length c.latches + j)) is.latches
      ∙ ap (λ (n : ℕ). slice_get (ours ++ theirs) n) place
      ∙ slice_get-append_right ours theirs j
      ∙ slice_get-map_some (copied_latch p.second) d.latches j l there

  -- the sign of a latch's opening is that of its reset
  opening-sign : (kept : List ℕ) (j : ℕ) (l : Latch) → slice_get m.latches j ≡ Some l → get_or (openings c d kept) j 0 % 2 ≡ opening_literal l.reset 0 % 2
  opening-sign kept j l there = elim (cases_lt j (length c.latches)) [
    | inl before ↦ (
        let own = element c.latches j before in
        let place : ℕ = get_or (all_free c) (free_before c j) 0 in
        let same : copied_latch p.first own.0 ≡ l = same_Some (copied_latch p.first own.0) l (sym (latch-first j own.0 own.1) ∙ there) in
        ap (λ (n : ℕ). n % 2) (opening-first c d kept j before ∙ ap (opening_of place) own.1)
        ∙ opening-parity own.0.reset place
        ∙ ap (λ (k : Latch). opening_literal k.reset 0 % 2) same)
    | inr past ↦ (
        let i : ℕ = j - length c.latches in
        let less : i < length d.latches = omega (arith, past, many, slice_get_within m.latches j l there) in
        let own = element d.latches i less in
        let place : ℕ = get_or kept (free_before d i) 0 in
        let at : length c.latches + i ≡ j = omega (arith, past) in
        let same : copied_latch p.second own.0 ≡ l =
        same_Some (copied_latch p.second own.0) l (sym (latch-second i own.0 own.1) ∙ ap (λ (n : ℕ). slice_get m.latches n) at ∙ there) in
        ap (λ (n : ℕ). get_or (openings c d kept) n 0 % 2) (sym at)
        ∙ ap (λ (n : ℕ). n % 2) (opening-second c d kept i less ∙ ap (opening_of place) own.1)
        ∙ opening-parity own.0.reset place
        ∙ ap (λ (k : Latch). opening_literal k.reset 0 % 2) same)
  ]

  -- a state in which the latches hold what they read as, and the values in the graph
  module _ (x : Digits) (s r : State) (agrees : AgreesWith c reads s r) where
    abbrev both : State
    both = held c s r

    abbrev vals : ℕ → Bool
    vals = value_within m x both

    respects : Respects (gates_of m) vals
    respects = graph-respects m of_pair x both

    count : length reads ≡ length c.latches + length d.latches
    count = is.long ∙ many

    -- what a latch reads as has the value that the latch holds
    read-there : (j : ℕ) → j < length reads → vals (get_or reads j 0) ≡ both j
    read-there j less = go (get_or reads j 0) (is.each j 0 less) (agrees j less)
      where
        go : (lit : ℕ) → IsRead (first_latch c) (first_gate m) lit → both j ≡ read_value c s r lit → vals lit ≡ both j
        go lit (inl none) reading =
            let at : 2 * variable lit ≡ 0 = omega (arith, none) in
            value_signed vals respects.negation lit
            ∙ ap (signed lit) (ap vals at ∙ respects.constant)
            ∙ sym (reading ∙ read-constant c s r lit none)
        go lit (inr (from, below)) reading =
            let i : ℕ = variable lit - first_latch c in
            let place : 2 * variable lit ≡ 2 * (first_latch m + i) = omega (arith, from, is.start) in
            let within : i < length m.latches = omega (arith, from, below, is.start) in
            value_signed vals respects.negation lit
            ∙ ap (signed lit) (ap vals place ∙ latch-value m of_pair x both i within)
            ∙ sym (reading ∙ read-latch c s r lit from)

    inputs-there : (g : Graph) → IsGraph g → first_latch g ≡ first_latch m → (t : State) (v : ℕ) → v < first_latch g → vals (2 * v) ≡ value_within g x t (2 * v)
    inputs-there g valid same t zero less = respects.constant ∙ sym (within_laws g valid x t).constant
    inputs-there g valid same t (suc i) less =
        let place : 2 * suc i ≡ 2 * (1 + i) = omega arith in
        ap vals place ∙ (within_laws m of_pair x both).input i (omega (arith, less, same))
        ∙ sym (ap (value_within g x t) place ∙ (within_laws g valid x t).input i (omega (arith, less)))

    -- the copies have the values of both circuits
    first-follows : CopiesValues p.first (variables_end c) vals (value_within c x s)
    first-follows =
        let own : ℕ → Bool = value_within c x s in
        let front : List ℕ = take (length c.latches) reads in
        let long : length front ≡ length c.latches = length-take-le (length c.latches) reads (omega (arith, count)) in
        is.first.follows vals own respects (graph-respects c of_first x s)
        (leaves-follow (leaves_of c front) (first_gate c) vals own respects.negation (within_laws c of_first x s).negation (omega (arith, long))
        (λ v less. inputs-there c of_first (sym is.start) s v less)
        (λ j less.
        let before : j < length c.latches = omega (arith, less, long) in
        ap vals (get_or-take (length c.latches) reads j 0 before)
        ∙ read-there j (omega (arith, before, count))
        ∙ held-first c s r j before
        ∙ sym (latch-value c of_first x s j before)))

    second-follows : CopiesValues p.second (variables_end d) vals (value_within d x r)
    second-follows =
        let own : ℕ → Bool = value_within d x r in
        let back : List ℕ = drop (length c.latches) reads in
        let long : length back ≡ length d.latches = omega (arith, length-drop (length c.latches) reads, count) in
        is.second.follows vals own respects (graph-respects d of_second x r)
        (leaves-follow (leaves_of d back) (first_gate d) vals own respects.negation (within_laws d of_second x r).negation (omega (arith, long))
        (λ v less. inputs-there d of_second (omega (arith, inputs, is.start)) r v less)
        (λ j less.
        let within : j < length d.latches = omega (arith, less, long) in
        let back_at : (length c.latches + j) - length c.latches ≡ j = omega arith in
        ap vals (get_or-drop (length c.latches) reads j 0)
        ∙ read-there (length c.latches + j) (omega (arith, within, count))
        ∙ held-second c s r (length c.latches + j) (omega arith)
        ∙ ap r back_at
        ∙ sym (latch-value d of_second x r j within)))

    abbrev later : State
    later = held c (after_step c x s) (after_step d x r)

    -- what a latch holds a step later is the value of what it is told in the graph
    later-there : (j : ℕ) (l : Latch) → slice_get m.latches j ≡ Some l → later j ≡ vals l.next
    later-there j l there = elim (cases_lt j (length c.latches)) [
      | inl before ↦ (
          let own = element c.latches j before in
          let same : copied_latch p.first own.0 ≡ l = same_Some (copied_latch p.first own.0) l (sym (latch-first j own.0 own.1) ∙ there) in
          held-first c (after_step c x s) (after_step d x r) j before
          ∙ ap (next_value (value_within c x s)) own.1
          ∙ sym (first-follows own.0.next (of_first.latches j own.0 own.1))
          ∙ ap (λ (k : Latch). vals k.next) same)
      | inr past ↦ (
          let i : ℕ = j - length c.latches in
          let own = element d.latches i (omega (arith, past, many, slice_get_within m.latches j l there)) in
          let at : length c.latches + i ≡ j = omega (arith, past) in
          let same : copied_latch p.second own.0 ≡ l =
          same_Some (copied_latch p.second own.0) l (sym (latch-second i own.0 own.1) ∙ ap (λ (n : ℕ). slice_get m.latches n) at ∙ there) in
          held-second c (after_step c x s) (after_step d x r) j past
          ∙ ap (next_value (value_within d x r)) own.1
          ∙ sym (second-follows own.0.next (of_second.latches i own.0 own.1))
          ∙ ap (λ (k : Latch). vals k.next) same)
    ]

    told-value : (l : Latch) → vals (told l) ≡ signed (opening_literal l.reset 0) (vals l.next)
    told-value l = value_signed_as vals respects.negation (opening_literal l.reset 0) l.next

    -- so they hold what they read as a step later, where the latches of the graph are told alike
    pub agree-later : (kept : List ℕ) → BeginAlike (first_latch c) (openings c d kept) reads → AreAlike m reads → AgreesWith c reads (after_step c x s) (after_step d x r)
    agree-later kept alike told_alike j less =
        let there = element m.latches j (omega (arith, less, is.long)) in
        later-there j there.0 there.1 ∙ go there.0 there.1 (get_or reads j 0) (get_or (openings c d kept) j 0) (alike.each j less) (told_alike j less) (opening-sign kept j there.0 there.1)
      where
        go : (l : Latch) → slice_get m.latches j ≡ Some l → (lit begin : ℕ) → BeginsAs (first_latch c) (openings c d kept) lit begin → IsAlike m j lit → begin % 2 ≡ opening_literal l.reset 0 % 2
            → vals l.next ≡ read_value c (after_step c x s) (after_step d x r) lit
        go l there lit begin (constant null e) here sign =
            let o : ℕ = opening_literal l.reset 0 in
            let none : signed o (vals l.next) ≡ false = sym (told-value l) ∙ here.constant l there null vals respects ∙ respects.constant in
            sym (signed-twice o (vals l.next)) ∙ ap (signed o) none
            ∙ signed-alike o lit false (sym sign ∙ ap (λ (n : ℕ). n % 2) e)
            ∙ sym (read-constant c (after_step c x s) (after_step d x r) lit null)
        go l there lit begin (latch from below e) here sign =
            let o : ℕ = opening_literal l.reset 0 in
            let i : ℕ = variable lit - first_latch c in
            let first = element m.latches i (omega (arith, from, below, many, length-openings c d kept)) in
            let q : ℕ = opening_literal first.0.reset 0 in
            let both_told : signed o (vals l.next) ≡ signed q (vals first.0.next) =
            sym (told-value l) ∙ here.first i l first.0 there first.1 (omega (arith, from, is.start)) vals respects ∙ told-value first.0 in
            let first_sign : get_or (openings c d kept) i 0 % 2 ≡ q % 2 = opening-sign kept i first.0 first.1 in
            let read : begin % 2 ≡ (get_or (openings c d kept) i 0 + lit) % 2 = ap (λ (n : ℕ). n % 2) e ∙ omega arith in
            sym (signed-twice o (vals l.next)) ∙ ap (signed o) both_told
            ∙ signed-sum o q (vals first.0.next)
            ∙ signed-alike (o + q) lit (vals first.0.next) (omega (arith, sign, first_sign, read))
            ∙ ap (signed lit) (sym (later-there i first.0 first.1))
            ∙ sym (read-latch c (after_step c x s) (after_step d x r) lit from)

    -- literals that are equal in the graph have equal values in both circuits
    pub equal-there : (a b : ℕ) → variable a < variables_end c → variable b < variables_end d → AreEqualIn (gates_of m) (copy_of p.second b) (copy_of p.first a) → value_within d x r b ≡ value_within c x s a
    equal-there a b ours theirs equal = sym (second-follows b theirs) ∙ equal vals respects ∙ first-follows a ours
