-- What is gathered says whether the low copies are normalised.
use Rattle.std.proofs.Common.{ℕ, ◌+◌, ◌-◌, ◌<◌, ◌≤◌, ◌≡◌, inl, inr, suc, zero, List, [], ◌∷◌, ◌++◌, length, take, drop, Bool, true, false, ◌||◌, nat_eq, nat_le, nat_lt, Option, Some, None, is_some, slice_get, slice_index_or, refl, arith, ap, sym, ◌∙◌, subst}
use Rattle.std.specs.Map.{lookup}
use Rattle.std.proofs.lemmas.Bool.{cases_lt, cases_eq, and_parts, both_ways, leb-true, ltb-true, and_from, le-leb, lt-ltb, or_left, or_right, eq-eqb}
use Rattle.std.proofs.lemmas.Option.{none-some, same_Some, slice_get_within}
use Rattle.std.proofs.lemmas.List.{take_all, length-drop, get_or_past}
use Rattle.aig_graph.specs.declared.graph.Gate.{Gate}
use Rattle.aig_graph.specs.Graph.{Graph, variable, first_gate}
use Rattle.aig_graph.specs.Marking.{Marks, mark_at}
use Rattle.aig_graph.proofs.ListLaws.{place_take, take_place}
use Rattle.cleaned_circuits.specs.Merged.{same_fan_ins}
use Rattle.cleaned_circuits.proofs.SubstituteLaws.{same_fan_ins-is, lookup_push, same_fan_ins-self}
use Rattle.clean.specs.Normalised.{IsPlain, AreLowNormalised}
use Rattle.clean.specs.Gathered.{AreGathered, AreMarked, AreNew, IsLowCopy, IsShared, IsSpoilt, by_gate, by_pair, is_plain}
use Rattle.clean.proofs.CleanLaws.{lookup-none}

-- of no copies no pairs are gathered
pub gathered-start : (copies : List Gate) (start : ℕ) → AreGathered copies start 0 []
gathered-start copies start = record {
  plain = λ k gate h e low. absurd (omega (arith, h));
  found = λ k gate h e low missing. omega (arith, h);
  apart = λ i k gate less h e f low. omega (arith, h);
  from = λ gate w e. absurd (none-some w e);
}

later : (copies : List Gate) (start n : ℕ) (gate : Gate) → IsLowCopy copies start n gate → IsLowCopy copies start (n + 1) gate
later copies start n gate low = record { place = low.place; before = omega (arith, low.before); there = low.there; low = low.low }

-- a copy that isn't low leaves what was gathered as it is
pub gathered-skip : (copies : List Gate) (start n : ℕ) (gate : Gate) (pairs : List (Gate × ℕ)) → slice_get copies n ≡ Some gate → start ≤ variable gate.rhs1
    → AreGathered copies start n pairs → AreGathered copies start (n + 1) pairs
gathered-skip copies start n gate pairs there high so_far = record {
  plain = λ k other h e low. so_far.plain k other (earlier k other h e low) e low;
  found = λ k other h e low missing. so_far.found k other (earlier k other h e low) e low missing;
  apart = λ i k other less h e f low. so_far.apart i k other less (earlier k other h f low) e f low;
  from = λ other w e. later copies start n other (so_far.from other w e);
}
  where
    earlier : (k : ℕ) (other : Gate) → k < n + 1 → slice_get copies k ≡ Some other → variable other.rhs1 < start → k < n
    earlier k other h e low = elim (cases_eq k n) [
      | inl same ↦ (
          let one : gate ≡ other = same_Some gate other (sym there ∙ ap (slice_get copies) (sym same) ∙ e) in
          absurd (omega (arith, low, high, ap (λ (g : Gate). variable g.rhs1) one)))
      | inr before ↦ omega (arith, h, before)
    ]

-- what isn't there is none
pub none-where : {A : Type 0} (o : Option A) → is_some o ≡ false → o ≡ None
none-where None e = refl
none-where (Some x) e = absurd (cc)

plain-where : (gate : Gate) → is_plain gate ≡ true → IsPlain gate
plain-where gate e =
    let parts = and_parts (nat_le 2 gate.rhs1) (nat_lt (variable gate.rhs1) (variable gate.rhs0)) e in
    record { constant = leb-true 2 gate.rhs1 parts.0; apart = ltb-true (variable gate.rhs1) (variable gate.rhs0) parts.1 }

-- a low copy that is plain and has new literals is gathered with those before it
pub gathered-more : (copies : List Gate) (start n : ℕ) (gate : Gate) (pairs : List (Gate × ℕ)) → slice_get copies n ≡ Some gate → variable gate.rhs1 < start → is_plain gate ≡ true → lookup (same_fan_ins gate) pairs ≡ None
    → AreGathered copies start n pairs → AreGathered copies start (n + 1) (pairs ++ (gate, 0) ∷ [])
gathered-more copies start n gate pairs there low_here plain new so_far = record {
  plain = λ k other h e low. elim (cases_eq k n) [
    | inl same ↦ subst (λ (g : Gate). IsPlain g) (last k other same e) (plain-where gate plain)
    | inr before ↦ so_far.plain k other (omega (arith, h, before)) e low
  ];
  found = λ k other h e low missing.
      let parts = lookup-none (same_fan_ins other) pairs gate 0 missing in
      elim (cases_eq k n) [
        | inl same ↦ both_ways (same_fan_ins other gate) parts.1 (ap (same_fan_ins other) (last k other same e) ∙ same_fan_ins-self other)
        | inr before ↦ so_far.found k other (omega (arith, h, before)) e low parts.0
      ];
  apart = λ i k other less h e f low. elim (cases_eq k n) [
    | inl same ↦ so_far.found i other (omega (arith, less, same)) e low (ap (λ (g : Gate). lookup (same_fan_ins g) pairs) (sym (last k other same f)) ∙ new)
    | inr before ↦ so_far.apart i k other less (omega (arith, h, before)) e f low
  ];
  from = λ other w e. elim (lookup_push (same_fan_ins other) pairs gate 0 w e) [
    | inl before ↦ later copies start n other (so_far.from other w before)
    | inr here ↦ (
        let one : gate ≡ other = sym (same_fan_ins-is other gate here.0) in
        let P : Gate → Type 0 = λ g. IsLowCopy copies start (n + 1) g in
        subst P one (record { place = n; before = omega arith; there = there; low = low_here }))
  ];
}
  where
    last : (k : ℕ) (other : Gate) → k ≡ n → slice_get copies k ≡ Some other → gate ≡ other
    last k other same e = same_Some gate other (sym there ∙ ap (slice_get copies) (sym same) ∙ e)

-- if the first n gates have none of the pairs, nor has the next one, the first n + 1 have none
pub new-more : (gates : List Gate) (pairs : List (Gate × ℕ)) (n : ℕ) (gate : Gate) → slice_get gates n ≡ Some gate → lookup (same_fan_ins gate) pairs ≡ None → AreNew gates pairs n → AreNew gates pairs (n + 1)
new-more gates pairs n gate there new so_far k other h e = elim (cases_eq k n) [
  | inl same ↦ (
      let one : gate ≡ other = same_Some gate other (sym there ∙ ap (slice_get gates) (sym same) ∙ e) in
      ap (λ (g : Gate). lookup (same_fan_ins g) pairs) (sym one) ∙ new)
  | inr before ↦ so_far k other (omega (arith, h, before)) e
]

dropped : {A : Type 0} (xs : List A) (n k : ℕ) (x : A) → slice_get xs (n + k) ≡ Some x → slice_get (drop n xs) k ≡ Some x
dropped {A} xs zero k x e = let place : 0 + k ≡ k = omega arith in ap (slice_get xs) (sym place) ∙ e
dropped [] (suc n) k x e = absurd (none-some x e)
dropped (y ∷ ys) (suc n) k x e =
    let place : suc n + k ≡ suc (n + k) = omega arith in
    dropped ys n k x (ap (slice_get (y ∷ ys)) (sym place) ∙ e)

-- if all low copies were gathered, and no gate before the copies has one of their pairs, the low
-- copies are normalised
pub normalised-where : (g : Graph) (first start : ℕ) (pairs : List (Gate × ℕ)) → start ≡ first_gate g + first
    → AreGathered (drop first g.gates) start (length (drop first g.gates)) pairs → AreNew (take first g.gates) pairs (length (take first g.gates)) → AreLowNormalised g first
normalised-where g first start pairs starts copies outside = record {
  plain = λ k gate past e low. let at = copy k gate past e in copies.plain (k - first) gate at.1 at.0 (omega (arith, starts, low));
  pairs = λ i k gate past e f low.
      let at = copy k gate past f in
      let low_here : variable gate.rhs1 < start = omega (arith, starts, low) in
      elim (cases_lt i first) [
        | inl before ↦ (
            let here : slice_get (take first g.gates) i ≡ Some gate = place_take g.gates first i gate before e in
            absurd (copies.found (k - first) gate at.1 at.0 low_here (outside i gate (slice_get_within (take first g.gates) i gate here) here)))
        | inr after ↦ (
            let other = copy i gate after e in
            elim (cases_lt i k) [
              | inl less ↦ absurd (copies.apart (i - first) (k - first) gate (omega (arith, less, after)) at.1 other.0 at.0 low_here)
              | inr more ↦ elim (cases_lt k i) [
                | inl less ↦ absurd (copies.apart (k - first) (i - first) gate (omega (arith, less, past)) other.1 at.0 other.0 low_here)
                | inr same ↦ omega (arith, more, same)
              ]
            ])
      ];
}
  where
    copy : (k : ℕ) (gate : Gate) → first ≤ k → slice_get g.gates k ≡ Some gate → (slice_get (drop first g.gates) (k - first) ≡ Some gate) × (k - first < length (drop first g.gates))
    copy k gate past e =
        let place : first + (k - first) ≡ k = omega (arith, past) in
        let here : slice_get (drop first g.gates) (k - first) ≡ Some gate = dropped g.gates first (k - first) gate (ap (slice_get g.gates) place ∙ e) in
        (here, slice_get_within (drop first g.gates) (k - first) gate here)

-- normalised, over the parts of a slice of the gates
pub normalised-sliced : (g : Graph) (gates : List Gate) (first start : ℕ) (pairs : List (Gate × ℕ)) → gates ≡ g.gates → start ≡ first_gate g + first
    → AreGathered (take (length gates - first) (drop first gates)) start (length (take (length gates - first) (drop first gates))) pairs
    → AreNew (take first gates) pairs (length (take first gates)) → AreLowNormalised g first
normalised-sliced g gates first start pairs same starts copies outside =
    let whole : take (length gates - first) (drop first gates) ≡ drop first gates = take_all (length gates - first) (drop first gates) (omega (arith, length-drop first gates)) in
    let P : List Gate → Type 0 = λ xs. AreGathered xs start (length xs) pairs in
    let Q : List Gate → Type 0 = λ xs. AreGathered (drop first xs) start (length (drop first xs)) pairs in
    let R : List Gate → Type 0 = λ xs. AreNew (take first xs) pairs (length (take first xs)) in
    normalised-where g first start pairs starts (subst Q same (subst P whole copies)) (subst R same outside)

-- why the answer is no
pub spoilt-pair : (copies : List Gate) (start n : ℕ) (gate : Gate) (pairs : List (Gate × ℕ)) → slice_get copies n ≡ Some gate → is_some (lookup (same_fan_ins gate) pairs) ≡ true
    → AreGathered copies start n pairs → IsSpoilt copies start
spoilt-pair copies start n gate pairs there found so_far = go (lookup (same_fan_ins gate) pairs) refl found
  where
    go : (o : Option ℕ) → lookup (same_fan_ins gate) pairs ≡ o → is_some o ≡ true → IsSpoilt copies start
    go None e h = absurd (cc)
    go (Some w) e h = let low : IsLowCopy copies start n gate = so_far.from gate w e in by_pair low.place n gate low.before low.there there low.low

undropped : {A : Type 0} (xs : List A) (n k : ℕ) (x : A) → slice_get (drop n xs) k ≡ Some x → slice_get xs (n + k) ≡ Some x
undropped {A} xs zero k x e = let place : 0 + k ≡ k = omega arith in ap (slice_get xs) place ∙ e
undropped [] (suc n) k x e = absurd (none-some x e)
undropped (y ∷ ys) (suc n) k x e =
    let place : suc n + k ≡ suc (n + k) = omega arith in
    ap (slice_get (y ∷ ys)) place ∙ undropped ys n k x e

not-plain : (gate : Gate) → is_plain gate ≡ false → IsPlain gate → ⊥
not-plain gate fails plain =
    both_ways (is_plain gate) fails
    (and_from (nat_le 2 gate.rhs1) (nat_lt (variable gate.rhs1) (variable gate.rhs0)) (le-leb 2 gate.rhs1 plain.constant) (lt-ltb (variable gate.rhs1) (variable gate.rhs0) plain.apart))

spoilt : (g : Graph) (first start : ℕ) → start ≡ first_gate g + first → IsSpoilt (drop first g.gates) start → AreLowNormalised g first → ⊥
spoilt g first start starts (by_gate k gate there low fails) normalised =
    not-plain gate fails (normalised.plain (first + k) gate (omega arith) (undropped g.gates first k gate there) (omega (arith, low, starts)))
spoilt g first start starts (by_pair i k gate less e f low) normalised =
    omega (arith, less, normalised.pairs (first + i) (first + k) gate (omega arith) (undropped g.gates first i gate e) (undropped g.gates first k gate f) (omega (arith, low, starts)))

shared : (g : Graph) (first start : ℕ) (pairs : List (Gate × ℕ)) → start ≡ first_gate g + first → AreGathered (drop first g.gates) start (length (drop first g.gates)) pairs
    → IsShared (take first g.gates) pairs → AreLowNormalised g first → ⊥
shared g first start pairs starts copies share normalised = go (lookup (same_fan_ins share.gate) pairs) refl share.found
  where
    go : (o : Option ℕ) → lookup (same_fan_ins share.gate) pairs ≡ o → is_some o ≡ true → ⊥
    go None e h = absurd (cc)
    go (Some w) e h =
        let low : IsLowCopy (drop first g.gates) start (length (drop first g.gates)) share.gate = copies.from share.gate w e in
        let other = take_place g.gates first share.place share.gate share.there in
        omega (arith, other.0, normalised.pairs share.place (first + low.place) share.gate (omega arith) other.1 (undropped g.gates first low.place share.gate low.there) (omega (arith, low.low, starts)))

-- if a low copy isn't plain, or two have equal literals, the low copies aren't normalised
pub spoilt-sliced : (g : Graph) (gates : List Gate) (first start : ℕ) → gates ≡ g.gates → start ≡ first_gate g + first → IsSpoilt (take (length gates - first) (drop first gates)) start → AreLowNormalised g first → ⊥
spoilt-sliced g gates first start same starts copies =
    let whole : take (length gates - first) (drop first gates) ≡ drop first gates = take_all (length gates - first) (drop first gates) (omega (arith, length-drop first gates)) in
    let P : List Gate → Type 0 = λ xs. IsSpoilt xs start in
    spoilt g first start starts (subst P (whole ∙ ap (drop first) same) copies)

-- if a gate before the copies has the pair of a low one, the low copies aren't normalised
pub shared-sliced : (g : Graph) (gates : List Gate) (first start : ℕ) (pairs : List (Gate × ℕ)) → gates ≡ g.gates → start ≡ first_gate g + first
    → AreGathered (take (length gates - first) (drop first gates)) start (length (take (length gates - first) (drop first gates))) pairs
    → IsShared (take first gates) pairs → AreLowNormalised g first → ⊥
shared-sliced g gates first start pairs same starts copies share =
    let whole : take (length gates - first) (drop first gates) ≡ drop first gates = take_all (length gates - first) (drop first gates) (omega (arith, length-drop first gates)) in
    let P : List Gate → Type 0 = λ xs. AreGathered xs start (length xs) pairs in
    let R : List Gate → Type 0 = λ xs. IsShared (take first xs) pairs in
    shared g first start pairs starts (subst P (whole ∙ ap (drop first) same) copies) (subst R same share)

-- what was marked stays marked, and the variable that is marked is
marked-at : (marks new : List Bool) (p : ℕ → Bool) (v : ℕ) → Marks 0 marks new p → v < length marks → (slice_index_or marks v false || p v) ≡ true → mark_at 0 new v ≡ true
unfolding mark_at
marked-at marks new p v more within e =
    let place : v - 0 ≡ v = omega arith in
    let from : 0 + v ≡ v = omega arith in
    let here : slice_index_or new (v - 0) false ≡ true =
    ap (λ (k : ℕ). slice_index_or new k false) place ∙ more.each v within ∙ ap (λ (k : ℕ). slice_index_or marks v false || p k) from ∙ e in
    and_from (nat_le 0 v) (slice_index_or new (v - 0) false) (le-leb 0 v (omega arith)) here

marked-within : (marks : List Bool) (v : ℕ) → mark_at 0 marks v ≡ true → (v < length marks) × (slice_index_or marks v false ≡ true)
unfolding mark_at
marked-within marks v e =
    let place : v - 0 ≡ v = omega arith in
    let here : slice_index_or marks v false ≡ true = ap (λ (k : ℕ). slice_index_or marks k false) (sym place) ∙ (and_parts (nat_le 0 v) (slice_index_or marks (v - 0) false) e).1 in (
      elim (cases_lt v (length marks)) [
        | inl less ↦ less
        | inr past ↦ absurd (both_ways (slice_index_or marks v false) (get_or_past marks v false past) here)
      ],
      here,
    )

-- if the second variable of a pair is marked too, all pairs with that one are marked
pub marked-more : (pairs : List (Gate × ℕ)) (marks new : List Bool) (gate : Gate) (var : ℕ) → var ≡ variable gate.rhs1 → var < length marks → Marks 0 marks new (λ v. nat_eq var v)
    → AreMarked pairs marks → AreMarked (pairs ++ (gate, 0) ∷ []) new
marked-more pairs marks new gate var is within more so_far other w e = elim (lookup_push (same_fan_ins other) pairs gate 0 w e) [
  | inl before ↦ (
      let v : ℕ = variable other.rhs1 in
      let at = marked-within marks v (so_far other w before) in
      marked-at marks new (λ u. nat_eq var u) v more at.0 (or_left (slice_index_or marks v false) (nat_eq var v) at.1))
  | inr here ↦ (
      let one : other ≡ gate = same_fan_ins-is other gate here.0 in
      let v : ℕ = variable other.rhs1 in
      let same : var ≡ v = is ∙ ap (λ (g : Gate). variable g.rhs1) (sym one) in
      marked-at marks new (λ u. nat_eq var u) v more (omega (arith, within, same)) (or_right (slice_index_or marks v false) (nat_eq var v) (eq-eqb var v same)))
]

-- any marks are those of no pairs
pub marked-none : (marks : List Bool) → AreMarked [] marks
marked-none marks gate w e = absurd (none-some w e)

-- a gate whose second variable isn't marked has none of the pairs
pub unmarked : (pairs : List (Gate × ℕ)) (marks : List Bool) (gate : Gate) → AreMarked pairs marks → mark_at 0 marks (variable gate.rhs1) ≡ false → is_some (lookup (same_fan_ins gate) pairs) ≡ false
unmarked pairs marks gate marked fails = go (lookup (same_fan_ins gate) pairs) refl
  where
    go : (o : Option ℕ) → lookup (same_fan_ins gate) pairs ≡ o → is_some o ≡ false
    go None e = refl
    go (Some w) e = absurd (both_ways (mark_at 0 marks (variable gate.rhs1)) fails (marked gate w e))
