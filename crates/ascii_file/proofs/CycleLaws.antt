-- Each gate stands once, and there is an order if and only if there is no cycle.
use Rattle.std.proofs.Common.{ℕ, ◌+◌, ◌<◌, ◌≤◌, ◌≡◌, inl, inr, suc, zero, List, [], ◌∷◌, ◌++◌, length, take, true, false, not, nat_eq, Option, Some, None, slice_get, get_or, refl, arith, ap, sym, subst, ◌∙◌}
use Rattle.std.specs.List.{IsDistinct, AllByRecursion}
use Rattle.std.proofs.lemmas.Bool.{cases_eq, cases_lt, cases_Bool, both_ways, and_cases, or_cases, or_left, or_right, or_parts, eqb-true, eq-eqb, not-true, not-false, not_from_false, false_from_ne_true}
use Rattle.std.proofs.lemmas.Option.{none-some, slice_get_within, slice_get-get_or, get_or_from_slice_get, MatchOption-at_some}
use Rattle.std.proofs.lemmas.List.{length_push}
use Rattle.std.proofs.lemmas.List.Elements.{All-get_or}
use Rattle.std.proofs.lemmas.Map.Steps.{length-le_from_distinct_below, le-length_from_below}
use Rattle.std.specs.Option.{option_map, MatchOption}
use Rattle.aig_graph.proofs.ListLaws.{place_take, take_place}
use Rattle.ascii_file.specs.declared.order.reads.Reads.{Reads}
use Rattle.ascii_file.specs.order.Order.{has_gate, is_met, are_met, may_follow, IsOrder, ReadsBelow, AreReadsInFile, order_from, ordered}
use Rattle.ascii_file.specs.order.Cycles.{is_gate, does_read, ReadsGate, LeadsTo, HasCycle}
use Rattle.ascii_file.specs.order.Laws.{HasEachGateOnce, ReadsBefore, CycleLaw, ExistsLaw}
use Rattle.ascii_file.proofs.FirstLaws.{first_below_cases, place_has, has_place}
use Rattle.ascii_file.proofs.GateOrderLaws.{follows_where_true, AreNext, AreNext-push, next_from_first, order_from-more, order_from-zero, ordered_law}

-- numbers of which none stands twice
abbrev pub AreApart : List ℕ → Type 0
AreApart xs = (i j x : ℕ) → slice_get xs i ≡ Some x → slice_get xs j ≡ Some x → i ≡ j

lacks_each : (x : ℕ) (xs : List ℕ) → has_gate xs x ≡ false → AllByRecursion (λ y. nat_eq x y ≡ false) xs
lacks_each x [] e = tt
lacks_each x (y ∷ ys) e = let parts = or_parts (nat_eq x y) (has_gate ys x) e in (parts.0, lacks_each x ys parts.1)

distinct_from_apart : (xs : List ℕ) → AreApart xs → IsDistinct nat_eq xs
unfolding IsDistinct
distinct_from_apart [] apart = tt
distinct_from_apart (x ∷ xs) apart = (
  lacks_each x xs (false_from_ne_true (has_gate xs x) (λ e.
      let place = has_place xs x e in
      let same : 0 ≡ suc place.0 = apart 0 (suc place.0) x refl place.1 in
      absurd (omega arith))),
  distinct_from_apart xs (λ i j y p q. let same : suc i ≡ suc j = apart (suc i) (suc j) y p q in omega arith),
)

-- numbers apart from each other below n are at most n
few_below : (xs : List ℕ) (n : ℕ) → AreApart xs → ((x : ℕ) → has_gate xs x ≡ true → x < n) → length xs ≤ n
few_below xs n apart below = length-le_from_distinct_below xs n (distinct_from_apart xs apart) below

-- one more in front
apart-cons : (x : ℕ) (xs : List ℕ) → AreApart xs → has_gate xs x ≡ false → AreApart (x ∷ xs)
apart-cons x xs apart lacks zero zero y p q = refl
apart-cons x xs apart lacks zero (suc j) y p q = absurd (both_ways (has_gate xs x) lacks (place_has xs j x (q ∙ sym p)))
apart-cons x xs apart lacks (suc i) zero y p q = absurd (both_ways (has_gate xs x) lacks (place_has xs i x (p ∙ sym q)))
apart-cons x xs apart lacks (suc i) (suc j) y p q = ap suc (apart i j y p q)

-- the gates of a beginning of an order are apart, and in the file
next_fresh : (gates : List Reads) (placed : List ℕ) → AreNext gates placed → (i j x : ℕ) → i < j → slice_get placed i ≡ Some x → slice_get placed j ≡ Some x → ⊥
next_fresh gates placed next i j x less p q =
    let f = follows_where_true gates (take j placed) x (next j x q).follows in
    both_ways (has_gate (take j placed) x) f.fresh (place_has (take j placed) i x (place_take placed j i x less p))

next_apart : (gates : List Reads) (placed : List ℕ) → AreNext gates placed → AreApart placed
next_apart gates placed next i j x p q = elim (cases_eq i j) [
  | inl same ↦ same
  | inr other ↦ elim (cases_lt i j) [
    | inl less ↦ absurd (next_fresh gates placed next i j x less p q)
    | inr above ↦ absurd (next_fresh gates placed next j i x (omega arith) q p)
  ]
]

next_below : (gates : List Reads) (placed : List ℕ) → AreNext gates placed → (x : ℕ) → has_gate placed x ≡ true → x < length gates
next_below gates placed next x e =
    let place = has_place placed x e in
    let f = follows_where_true gates (take place.0 placed) x (next place.0 x place.1).follows in
    f.below

-- each gate is in an order
in_order : (gates : List Reads) (order : List ℕ) → IsOrder gates order → (g : ℕ) → g < length gates → has_gate order g ≡ true
in_order gates order is g less = elim (cases_Bool (has_gate order g)) [
  | inl here ↦ here
  | inr lacks ↦ (
      let more : length (g ∷ order) ≤ length gates = few_below (g ∷ order) (length gates) (apart-cons g order (next_apart gates order is.each) lacks)
      (λ x e. elim (or_cases (nat_eq x g) (has_gate order x) e) [
        | inl same ↦ (let here : x ≡ g = eqb-true x g same in omega arith)
        | inr later ↦ next_below gates order is.each x later
      ]) in
      absurd (omega (arith, is.as_many)))
]

-- each gate of the file stands in its order once
pub each_once : (gates : List Reads) (order : List ℕ) → HasEachGateOnce gates order
each_once gates order is g less =
    let place = has_place order g (in_order gates order is g less) in
    record {
      stands = (place.0, slice_get_within order place.0 g place.1, get_or_from_slice_get order place.0 g g place.1);
      alone = λ i j p q. next_apart gates order is.each i j g p q;
    }

-- what a gate reads stands before it
met_where_reads : (placed : List ℕ) (o : Option ℕ) (h : ℕ) → is_met (has_gate placed) o ≡ true → is_gate o h ≡ true → has_gate placed h ≡ true
met_where_reads placed None h met e = absurd (both_ways false refl e)
met_where_reads placed (Some g) h met e = let same : g ≡ h = eqb-true g h e in ap (has_gate placed) (sym same) ∙ met

earlier : (gates : List Reads) (order : List ℕ) → AreNext gates order → (k g h : ℕ) → slice_get order k ≡ Some g → ReadsGate gates g h
    → (j : ℕ) × (j < k) × (slice_get order j ≡ Some h)
earlier gates order next k g h there reads =
    let f = follows_where_true gates (take k order) g (next k g there).follows in
    let of_gate : does_read (Some f.reads) h ≡ true = ap (λ (o : Option Reads). does_read o h) (sym f.there) ∙ reads in
    let placed : has_gate (take k order) h ≡ true = elim (or_cases (is_gate f.reads.first h) (is_gate f.reads.second h) of_gate) [
      | inl first ↦ met_where_reads (take k order) f.reads.first h f.first first
      | inr second ↦ met_where_reads (take k order) f.reads.second h f.second second
    ] in
    let place = has_place (take k order) h placed in
    let inner = take_place order k place.0 h place.1 in
    (place.0, inner.0, inner.1)

-- what a gate reads stands before it in the order
pub reads_before : (gates : List Reads) (order : List ℕ) → ReadsBefore gates order
reads_before gates order is = earlier gates order is.each

trail_earlier : (gates : List Reads) (order : List ℕ) → AreNext gates order → (rest : List ℕ) (k g end : ℕ) → slice_get order k ≡ Some g → LeadsTo gates g rest end
    → (j : ℕ) × (j < k) × (slice_get order j ≡ Some end)
trail_earlier gates order next [] k g end there leads = earlier gates order next k g end there leads
trail_earlier gates order next (h ∷ rest) k g end there leads =
    let step = earlier gates order next k g h there leads.0 in
    let further = trail_earlier gates order next rest step.0 h end step.2 leads.1 in
    (further.0, omega arith, further.2)

no_cycle_at : (gates : List Reads) (order : List ℕ) → AreNext gates order → (rest : List ℕ) (g : ℕ) → LeadsTo gates g rest g → (bound k : ℕ) → k < bound → slice_get order k ≡ Some g → ⊥
no_cycle_at gates order next rest g leads zero k less there = absurd (omega arith)
no_cycle_at gates order next rest g leads (suc bound) k less there =
    let before = trail_earlier gates order next rest k g g there leads in
    no_cycle_at gates order next rest g leads bound before.0 (omega arith) before.2

reads_in_file : (gates : List Reads) (o : Option Reads) (g h : ℕ) → slice_get gates g ≡ o → does_read o h ≡ true → g < length gates
reads_in_file gates None g h e reads = absurd (both_ways false refl reads)
reads_in_file gates (Some r) g h e reads = slice_get_within gates g r e

leads_in_file : (gates : List Reads) (g : ℕ) (rest : List ℕ) (end : ℕ) → LeadsTo gates g rest end → g < length gates
leads_in_file gates g [] end leads = reads_in_file gates (slice_get gates g) g end refl leads
leads_in_file gates g (h ∷ rest) end leads = reads_in_file gates (slice_get gates g) g h refl leads.0

no_cycle : (gates : List Reads) (order : List ℕ) → IsOrder gates order → HasCycle gates → ⊥
no_cycle gates order is cycle =
    let g : ℕ = cycle.0 in
    let place = has_place order g (in_order gates order is g (leads_in_file gates g cycle.1 g cycle.2)) in
    no_cycle_at gates order is.each cycle.1 g cycle.2 (suc place.0) place.0 (omega arith) place.1

-- one gate more at the end of a trail
leads-push : (gates : List Reads) (g : ℕ) (rest : List ℕ) (h end : ℕ) → LeadsTo gates g rest h → ReadsGate gates h end → LeadsTo gates g (rest ++ h ∷ []) end
leads-push gates g [] h end leads reads = (leads, reads)
leads-push gates g (i ∷ rest) h end leads reads = (leads.0, leads-push gates i rest h end leads.1 reads)

-- if no gate may follow, a gate that isn't placed reads another
abbrev IsStuck : List Reads → List ℕ → Type 0
IsStuck gates placed = (h : ℕ) → h < length gates → may_follow gates placed h ≡ false

unmet_fan_in : (placed : List ℕ) (o : Option ℕ) → is_met (has_gate placed) o ≡ false → (h : ℕ) × (o ≡ Some h) × (has_gate placed h ≡ false)
unmet_fan_in placed None e = absurd (both_ways true e refl)
unmet_fan_in placed (Some h) e = (h, refl, e)

gate_is : (o : Option ℕ) (h : ℕ) → o ≡ Some h → is_gate o h ≡ true
gate_is o h e = ap (λ (p : Option ℕ). is_gate p h) e ∙ eq-eqb h h refl

pub record Waits (gates : List Reads) (placed : List ℕ) (g : ℕ) : Type 0 where
  -- the gate is in the file
  pub below : g < length gates
  -- it isn't placed
  pub fresh : has_gate placed g ≡ false

-- the next gate of a trail
pub record Awaits (gates : List Reads) (placed : List ℕ) (g : ℕ) : Type 0 where
  -- a gate that is read
  pub gate : ℕ
  -- it isn't placed either
  pub waits : Waits gates placed gate
  -- the gate g reads it
  pub reads : ReadsGate gates g gate

stuck_reads : (gates : List Reads) (placed : List ℕ) (g : ℕ) → AreReadsInFile gates → IsStuck gates placed → Waits gates placed g → Awaits gates placed g
unfolding may_follow
stuck_reads gates placed g in_file stuck waits =
    let none : Reads = record { first = None; second = None } in
    let reads : Reads = get_or gates g none in
    let there : slice_get gates g ≡ Some reads = slice_get-get_or gates g none waits.below in
    let inside : ReadsBelow (length gates) reads = All-get_or (ReadsBelow (length gates)) gates g none waits.below in_file in
    let fresh : not (has_gate placed g) ≡ true = not_from_false (has_gate placed g) waits.fresh in
    let unmet : are_met (has_gate placed) (slice_get gates g) ≡ false = elim (and_cases (are_met (has_gate placed) (slice_get gates g)) (not (has_gate placed g)) (stuck g waits.below)) [
      | inl lacking ↦ lacking
      | inr impossible ↦ absurd (both_ways (not (has_gate placed g)) impossible fresh)
    ] in
    elim (and_cases (is_met (has_gate placed) reads.first) (is_met (has_gate placed) reads.second) (ap (are_met (has_gate placed)) (sym there) ∙ unmet)) [
      | inl first ↦ (
          let f = unmet_fan_in placed reads.first first in
          record {
            gate = f.0;
            waits = record { below = MatchOption-at_some (Unit {0}) (λ i. i < length gates) f.0 f.1 inside.first; fresh = f.2 };
            reads = ap (λ (o : Option Reads). does_read o f.0) there ∙ or_left (is_gate reads.first f.0) (is_gate reads.second f.0) (gate_is reads.first f.0 f.1);
          })
      | inr second ↦ (
          let f = unmet_fan_in placed reads.second second in
          record {
            gate = f.0;
            waits = record { below = MatchOption-at_some (Unit {0}) (λ i. i < length gates) f.0 f.1 inside.second; fresh = f.2 };
            reads = ap (λ (o : Option Reads). does_read o f.0) there ∙ or_right (is_gate reads.first f.0) (is_gate reads.second f.0) (gate_is reads.second f.0 f.1);
          })
    ]

-- a trail from one gate that waits to the next comes back within as many steps as there are gates
cycle_from : (gates : List Reads) (placed : List ℕ) → AreReadsInFile gates → IsStuck gates placed
    → (more h : ℕ) (seen : List ℕ) → AreApart seen → ((v : ℕ) → has_gate seen v ≡ true → v < length gates)
    → ((v : ℕ) → has_gate seen v ≡ true → (rest : List ℕ) × LeadsTo gates v rest h) → length gates < length seen + more → Waits gates placed h → HasCycle gates
cycle_from gates placed in_file stuck zero h seen apart below leads size waits = absurd (omega (arith, few_below seen (length gates) apart below))
cycle_from gates placed in_file stuck (suc more) h seen apart below leads size waits = elim (cases_Bool (has_gate seen h)) [
  | inl back ↦ (let trail = leads h back in (h, trail.0, trail.1))
  | inr lacks ↦ (
      let next = stuck_reads gates placed h in_file stuck waits in
      cycle_from gates placed in_file stuck more next.gate (h ∷ seen) (apart-cons h seen apart lacks)
      (λ v e. elim (or_cases (nat_eq v h) (has_gate seen v) e) [
        | inl same ↦ (let here : v ≡ h = eqb-true v h same in omega (arith, waits.below))
        | inr later ↦ below v later
      ])
      (λ v e. elim (or_cases (nat_eq v h) (has_gate seen v) e) [
        | inl same ↦ (
            let here : v ≡ h = eqb-true v h same in
            let step : LeadsTo gates v [] next.gate = subst (λ (i : ℕ). ReadsGate gates i next.gate) (sym here) next.reads in
            ([], step))
        | inr later ↦ (
            let trail = leads v later in
            (trail.0 ++ h ∷ [], leads-push gates v trail.0 h next.gate trail.1 next.reads))
      ])
      (omega arith)
      next.waits)
]

-- if fewer are placed than there are gates, one waits
one_waits : (gates : List Reads) (placed : List ℕ) → length placed < length gates → (g : ℕ) × Waits gates placed g
one_waits gates placed fewer = elim (first_below_cases (λ h. not (has_gate placed h)) (length gates)) [
  | inl found ↦ (found.0, record { below = found.2.below; fresh = not-true (has_gate placed found.0) found.2.passes })
  | inr none ↦ absurd (omega (arith, le-length_from_below placed (length gates) (λ g less. not-false (has_gate placed g) (none.1 g less))))
]

cycle_where_none : (gates : List Reads) → AreReadsInFile gates → (more : ℕ) (placed : List ℕ) → AreNext gates placed → length placed + more ≡ length gates
    → order_from gates placed more ≡ None → HasCycle gates
cycle_where_none gates in_file zero placed next size e = absurd (none-some placed (sym e ∙ order_from-zero gates placed))
cycle_where_none gates in_file (suc more) placed next size e = elim (first_below_cases (may_follow gates placed) (length gates)) [
  | inl found ↦
      cycle_where_none gates in_file more (placed ++ found.0 ∷ [])
      (AreNext-push gates placed found.0 next (next_from_first gates placed found.0 found.2))
      (omega (arith, length_push placed found.0))
      (sym (order_from-more gates placed more (Some found.0) found.1) ∙ e)
  | inr none ↦ (
      let start = one_waits gates placed (omega arith) in
      cycle_from gates placed in_file none.1 (suc (length gates)) start.0 [] (λ i j x p q. absurd (none-some x p))
      (λ v none. absurd (both_ways false refl none)) (λ v none. absurd (both_ways false refl none)) (omega arith) start.1)
]

none_where_cycle : (gates : List Reads) (o : Option (List ℕ)) → ordered gates ≡ o → HasCycle gates → o ≡ None
none_where_cycle gates None e cycle = refl
none_where_cycle gates (Some order) e cycle = absurd (no_cycle gates order ((ordered_law gates order).0 e) cycle)

-- no order is computed if and only if gates read each other in a cycle
pub cycle_law : (gates : List Reads) → CycleLaw gates
cycle_law gates in_file = (
  cycle_where_none gates in_file (length gates) [] (λ k g e. absurd (none-some g e)) (omega arith),
  none_where_cycle gates (ordered gates) refl,
)

order_where_none : (gates : List Reads) → AreReadsInFile gates → (o : Option (List ℕ)) → ordered gates ≡ o → ¬ HasCycle gates → (order : List ℕ) × IsOrder gates order
order_where_none gates in_file None e none = absurd (none ((cycle_law gates in_file).0 e))
order_where_none gates in_file (Some order) e none = (order, (ordered_law gates order).0 e)

-- there is an order if and only if there is no cycle
pub exists_law : (gates : List Reads) → ExistsLaw gates
exists_law gates in_file = (λ found cycle. no_cycle gates found.0 found.1 cycle, order_where_none gates in_file (ordered gates) refl)

-- what a computed order says
pub rule_where_computed : {A : Type 0} (items : A → List ℕ) (gates : List Reads) → AreReadsInFile gates → (found : Option A) → option_map items found ≡ ordered gates
    → MatchOption found (HasCycle gates) (λ places. IsOrder gates (items places))
rule_where_computed items gates in_file None e = (cycle_law gates in_file).0 (sym e)
rule_where_computed items gates in_file (Some places) e = (ordered_law gates (items places)).0 (sym e)
