-- The gates that may follow, step by step.
use Rattle.std.proofs.Common.{ℕ, ◌+◌, ◌<◌, ◌≤◌, ◌≡◌, inl, inr, suc, List, [], ◌∷◌, ◌++◌, length, Bool, true, false, not, ◌&&◌, ◌||◌, nat_eq, nat_le, nat_lt, nat_cmp, cond, Option, Some, None, slice_get, get_or, refl, arith, ap, sym, ◌∙◌}
use Rattle.std.proofs.Math.Bool.{and-not_self, and-true, or-false}
use Rattle.std.specs.List.{range_with_len}
use Rattle.std.specs.List.Sorted.{IsPermutation}
use Rattle.std.specs.Option.{option_eq}
use Rattle.std.specs.Ordering.{is_lt}
use Rattle.std.specs.declared.cmp.Ordering.TheVariants.{Less, Equal, Greater}
use Rattle.std.specs.BinaryHeap.{IsUpperBound}
use Rattle.std.specs.declared.cmp.Reverse.{Reverse}
use Rattle.std.proofs.lemmas.Bool.{cases_eq, cases_lt, both_ways, and_parts, and_from, and_left, or_cases, or_left, or_right, eqb-true, eq-eqb, ne_eqb, le-leb, lt-leb, lt-ltb, le-ltb, false_from_ne_true}
use Rattle.std.proofs.lemmas.List.{length-set, get_or-set_same, get_or-set_other, get_or-replicate, get_or_past, length-replicate, map-id}
use Rattle.std.proofs.lemmas.List.Folds.{list_any-append}
use Rattle.std.proofs.lemmas.List.FromFn.{map-range_with_len_more}
use Rattle.std.proofs.lemmas.List.Sorted.{sum_by_pushed, sum_by_popped}
use Rattle.std.proofs.lemmas.List.Sums.{sum_by-cons}
use Rattle.std.proofs.lemmas.Option.{none-some, slice_get-get_or}
use Rattle.std.proofs.Math.ListN.{set, replicate}
use Rattle.ascii_file.specs.declared.order.reads.Reads.{Reads}
use Rattle.ascii_file.specs.declared.order.reads.Side.{Side}
use Rattle.ascii_file.specs.declared.order.reads.Side.TheVariants.{First, Second}
use Rattle.ascii_file.specs.order.Order.{has_gate, is_met, are_met, may_follow, IsNextGate, order_from}
use Rattle.ascii_file.specs.order.Cycles.{is_gate}
use Rattle.ascii_file.specs.order.Readers.{fan_in, read_by, IsLastReader}
use Rattle.ascii_file.specs.order.Ready.{number, times_in_heap, IsReadyHeap, Gains, mark_of, is_released, IsState}
use Rattle.ascii_file.proofs.FirstLaws.{first_below_none, first_below_is}
use Rattle.ascii_file.proofs.GateOrderLaws.{Follows, follows_where_true, order_from-more}
use Rattle.ascii_file.proofs.ReaderLaws.{read_by-at, read_by-past}

-- how often, after a push and a pop
pub times-push : (g : ℕ) (x : Reverse ℕ) (xs ys : List (Reverse ℕ)) → IsPermutation (x ∷ xs) ys → times_in_heap g ys ≡ times_in_heap g xs + number (nat_eq g x.0)
unfolding times_in_heap
times-push g x xs ys moved =
    let sums = sum_by_pushed (λ (y : Reverse ℕ). cond (nat_eq g y.0) 1 0) x xs ys moved in
    omega (arith, sums)

-- a pop makes the heap have the popped number once less, and any other as often
pub times-pop : (g : ℕ) (x : Reverse ℕ) (xs ys : List (Reverse ℕ)) → IsPermutation xs (x ∷ ys) → times_in_heap g ys + number (nat_eq g x.0) ≡ times_in_heap g xs
unfolding times_in_heap
times-pop g x xs ys moved = sum_by_popped (λ (y : Reverse ℕ). cond (nat_eq g y.0) 1 0) x xs ys moved

-- an empty heap has no number
pub times-nil : (g : ℕ) → times_in_heap g [] ≡ 0
unfolding times_in_heap
times-nil g = refl

times-cons : (g : ℕ) (x : Reverse ℕ) (xs : List (Reverse ℕ)) → times_in_heap g (x ∷ xs) ≡ number (nat_eq g x.0) + times_in_heap g xs
unfolding times_in_heap
times-cons g x xs = sum_by-cons (λ (y : Reverse ℕ). cond (nat_eq g y.0) 1 0) x xs

-- a test that passes counts 1
pub number-true : (b : Bool) → b ≡ true → number b ≡ 1
number-true b e = ap number e

-- a test that fails counts 0
pub number-false : (b : Bool) → b ≡ false → number b ≡ 0
number-false b e = ap number e

number_true : (b : Bool) → 0 < number b → b ≡ true
number_true true h = refl
number_true false h = absurd (omega arith)

-- no number of a heap is below its top
not_below : (x y : ℕ) → is_lt (nat_cmp y x) ≡ false → x ≤ y
not_below x y e = elim (cases_lt y x) [
  | inl less ↦ absurd (both_ways (is_lt (nat_cmp y x)) e (ap (λ (b : Bool). is_lt (cond b Less (cond (nat_eq y x) Equal Greater))) (lt-ltb y x less)))
  | inr above ↦ above
]

-- no number of the heap is smaller than the one on its top
pub top_is_first : (x : Reverse ℕ) (xs : List (Reverse ℕ)) → IsUpperBound (λ a b. nat_cmp b.0 a.0) x xs → (g : ℕ) → 0 < times_in_heap g xs → x.0 ≤ g
top_is_first x [] bound g some = absurd (omega (arith, times-nil g))
top_is_first x (y ∷ ys) bound g some = elim (cases_eq g y.0) [
  | inl same ↦ (let above : x.0 ≤ y.0 = not_below x.0 y.0 bound.0 in omega arith)
  | inr other ↦ top_is_first x ys bound.1 g (omega (arith, times-cons g y ys, number-false (nat_eq g y.0) (ne_eqb g y.0 other)))
]

-- what a heap gains
pub Gains-none : (test : ℕ → Bool) (xs : List (Reverse ℕ)) → ((g : ℕ) → test g ≡ false) → Gains test xs xs
Gains-none test xs fails = record { each = λ g. omega (arith, number-false (test g) (fails g)) }

-- a heap gains alike by a test that agrees everywhere
pub Gains-same : (test other : ℕ → Bool) (old new : List (Reverse ℕ)) → ((g : ℕ) → other g ≡ test g) → Gains test old new → Gains other old new
Gains-same test other old new same gains = record { each = λ g. gains.each g ∙ ap (λ (b : Bool). times_in_heap g old + number b) (sym (same g)) }

-- with a number pushed after them a heap gains the numbers that pass, and this one, which didn't
pub Gains-push : (test other : ℕ → Bool) (old mid new : List (Reverse ℕ)) (x : Reverse ℕ) → ((g : ℕ) → number (other g) ≡ number (test g) + number (nat_eq g x.0))
    → Gains test old mid → IsPermutation (x ∷ mid) new → Gains other old new
Gains-push test other old mid new x more gains moved = record { each = λ g. omega (arith, gains.each g, times-push g x mid new moved, more g) }

-- the readers from a link on
abbrev pub from : ℕ → (ℕ → Bool) → ℕ → Bool
from c test g = nat_le c g && test g

from-at : (c g : ℕ) (test : ℕ → Bool) → c ≤ g → from c test g ≡ test g
from-at c g test above = ap (λ (b : Bool). b && test g) (le-leb c g above)

from-below : (c g : ℕ) (test : ℕ → Bool) → g < c → from c test g ≡ false
from-below c g test below = and_left (nat_le c g) (test g) (lt-leb c g below)

module _ (c r : ℕ) (test : ℕ → Bool) (within : c ≤ r) (gap : (g : ℕ) → c ≤ g → g < r → test g ≡ false) where
  -- if the number past a gap doesn't pass, those that pass from the gap on are those past it
  pub from_skip : test r ≡ false → (g : ℕ) → from c test g ≡ from (r + 1) test g
  from_skip fails g = elim (cases_lt r g) [
    | inl above ↦ from-at c g test (omega arith) ∙ sym (from-at (r + 1) g test (omega arith))
    | inr below ↦ elim (cases_eq g r) [
      | inl same ↦ from-at c g test (omega arith) ∙ ap test same ∙ fails ∙ sym (from-below (r + 1) g test (omega arith))
      | inr other ↦ elim (cases_lt g c) [
        | inl lower ↦ from-below c g test lower ∙ sym (from-below (r + 1) g test (omega arith))
        | inr inside ↦ from-at c g test inside ∙ gap g inside (omega arith) ∙ sym (from-below (r + 1) g test (omega arith))
      ]
    ]
  ]

  -- if the number past a gap passes, it is one of those that pass from the gap on, and the others
  -- are past it
  pub from_push : test r ≡ true → (g : ℕ) → number (from c test g) ≡ number (from (r + 1) test g) + number (nat_eq g r)
  from_push passes g = elim (cases_eq g r) [
    | inl same ↦ omega (
      arith,
      number-true (from c test g) (from-at c g test (omega arith) ∙ ap test same ∙ passes),
      number-false (from (r + 1) test g) (from-below (r + 1) g test (omega arith)),
      number-true (nat_eq g r) (eq-eqb g r same),
    )
    | inr other ↦ (
        let alone : number (nat_eq g r) ≡ 0 = number-false (nat_eq g r) (ne_eqb g r other) in
        elim (cases_lt r g) [
          | inl above ↦ omega (arith, ap number (from-at c g test (omega arith)), ap number (from-at (r + 1) g test (omega arith)))
          | inr below ↦ elim (cases_lt g c) [
            | inl lower ↦ omega (arith, number-false (from c test g) (from-below c g test lower), number-false (from (r + 1) test g) (from-below (r + 1) g test (omega arith)))
            | inr inside ↦ omega (arith, number-false (from c test g) (from-at c g test inside ∙ gap g inside (omega arith)), number-false (from (r + 1) test g) (from-below (r + 1) g test (omega arith)))
          ]
        ])
  ]

-- the gates below c
abbrev pub before : ℕ → (ℕ → Bool) → ℕ → Bool
before c test g = nat_lt g c && test g

before-at : (c g : ℕ) (test : ℕ → Bool) → g < c → before c test g ≡ test g
before-at c g test below = ap (λ (b : Bool). b && test g) (lt-ltb g c below)

before-past : (c g : ℕ) (test : ℕ → Bool) → c ≤ g → before c test g ≡ false
before-past c g test past = and_left (nat_lt g c) (test g) (le-ltb g c past)

-- no number below 0 passes
pub before_none : (test : ℕ → Bool) (g : ℕ) → before 0 test g ≡ false
before_none test g = before-past 0 g test (omega arith)

-- a number that doesn't pass adds none to those below it that do
pub before_skip : (r : ℕ) (test : ℕ → Bool) → test r ≡ false → (g : ℕ) → before (r + 1) test g ≡ before r test g
before_skip r test fails g = elim (cases_lt g r) [
  | inl less ↦ before-at (r + 1) g test (omega arith) ∙ sym (before-at r g test less)
  | inr above ↦ elim (cases_eq g r) [
    | inl same ↦ before-at (r + 1) g test (omega arith) ∙ ap test same ∙ fails ∙ sym (before-past r g test above)
    | inr other ↦ before-past (r + 1) g test (omega arith) ∙ sym (before-past r g test above)
  ]
]

-- a number that passes comes to those below it that do
pub before_push : (r : ℕ) (test : ℕ → Bool) → test r ≡ true → (g : ℕ) → number (before (r + 1) test g) ≡ number (before r test g) + number (nat_eq g r)
before_push r test passes g = elim (cases_lt g r) [
  | inl less ↦ omega (arith, ap number (before-at (r + 1) g test (omega arith)), ap number (before-at r g test less), number-false (nat_eq g r) (ne_eqb g r (λ same. omega arith)))
  | inr above ↦ elim (cases_eq g r) [
    | inl same ↦ omega (
      arith,
      number-true (before (r + 1) test g) (before-at (r + 1) g test (omega arith) ∙ ap test same ∙ passes),
      number-false (before r test g) (before-past r g test above),
      number-true (nat_eq g r) (eq-eqb g r same),
    )
    | inr other ↦ omega (
      arith,
      number-false (before (r + 1) test g) (before-past (r + 1) g test (omega arith)),
      number-false (before r test g) (before-past r g test above),
      number-false (nat_eq g r) (ne_eqb g r other),
    )
  ]
]

-- if nothing passes from n on, all that pass are below n
pub before_all : (n : ℕ) (test : ℕ → Bool) → ((g : ℕ) → n ≤ g → test g ≡ false) → (g : ℕ) → test g ≡ before n test g
before_all n test past g = elim (cases_lt g n) [
  | inl less ↦ sym (before-at n g test less)
  | inr above ↦ past g above ∙ sym (before-past n g test above)
]

-- a gate that reads none may follow at the start
pub may_follow-start : (gates : List Reads) (g : ℕ) (reads : Reads) → slice_get gates g ≡ Some reads → may_follow gates [] g ≡ are_met (λ h. false) (Some reads)
unfolding may_follow
may_follow-start gates g reads e = ap (λ (o : Option Reads). are_met (has_gate []) o && not (has_gate [] g)) e ∙ and-true (are_met (λ h. false) (Some reads))

-- past the file's last gate no gate may follow
pub may_follow-past : (gates : List Reads) (placed : List ℕ) (g : ℕ) → length gates ≤ g → may_follow gates placed g ≡ false
may_follow-past gates placed g past = false_from_ne_true (may_follow gates placed g) (λ e.
    let f = follows_where_true gates placed g e in
    omega (arith, f.below))

-- the numbers below n and n itself are those below n + 1
pub range-push : (n : ℕ) → range_with_len 0 (n + 1) ≡ range_with_len 0 n ++ n ∷ []
range-push n = sym (map-id (range_with_len 0 (n + 1))) ∙ map-range_with_len_more (λ (x : ℕ). x) 0 n n (omega arith) ∙ ap (λ (xs : List ℕ). xs ++ n ∷ []) (map-id (range_with_len 0 n))

-- the readers that a table leads to
is_gate-some : (o : Option ℕ) (p : ℕ) → is_gate o p ≡ true → o ≡ Some p
is_gate-some None p e = absurd (both_ways false refl e)
is_gate-some (Some g) p e = ap (λ (h : ℕ). Some h) (eqb-true g p e)

is_gate-at : (o : Option ℕ) (p : ℕ) → o ≡ Some p → is_gate o p ≡ true
is_gate-at o p e = ap (λ (x : Option ℕ). is_gate x p) e ∙ eq-eqb p p refl

released-unread : (gates : List Reads) (side : Side) (marks : List Bool) (p g : ℕ) → (read_by side gates g ≡ Some p → ⊥) → is_released gates side marks p g ≡ false
unfolding is_released
released-unread gates side marks p g other =
    and_left (is_gate (read_by side gates g) p) (are_met (mark_of marks) (slice_get gates g))
    (false_from_ne_true (is_gate (read_by side gates g) p) (λ e. other (is_gate-some (read_by side gates g) p e)))

-- between the link to a reader and that reader no gate is released
pub released-gap : (gates : List Reads) (side : Side) (marks : List Bool) (p r c : ℕ) → IsLastReader (read_by side gates) p r c
    → (g : ℕ) → c ≤ g → g < r → is_released gates side marks p g ≡ false
released-gap gates side marks p r c last g above below = released-unread gates side marks p g (last.none g above below)

-- from the last link on no gate is released
pub released-none : (gates : List Reads) (side : Side) (marks : List Bool) (p c : ℕ) → IsLastReader (read_by side gates) p (length gates) c
    → (g : ℕ) → from c (is_released gates side marks p) g ≡ false
released-none gates side marks p c last g = elim (cases_lt g c) [
  | inl lower ↦ from-below c g (is_released gates side marks p) lower
  | inr above ↦ from-at c g (is_released gates side marks p) above ∙ (elim (cases_lt g (length gates)) [
    | inl inside ↦ released-gap gates side marks p (length gates) c last g above inside
    | inr past ↦ released-unread gates side marks p g (λ e. none-some p (sym (read_by-past side gates g past) ∙ e))
  ])
]

-- a reader of the placed gate is released if all its fan-ins are marked
pub released-at : (gates : List Reads) (side : Side) (marks : List Bool) (p r : ℕ) (reads : Reads) → read_by side gates r ≡ Some p → slice_get gates r ≡ Some reads
    → is_released gates side marks p r ≡ are_met (mark_of marks) (Some reads)
unfolding is_released
released-at gates side marks p r reads reader there =
    ap (λ (b : Bool). b && are_met (mark_of marks) (slice_get gates r)) (is_gate-at (read_by side gates r) p reader) ∙ ap (are_met (mark_of marks)) there

-- what passes from 0 on is all that passes
pub from-all : (test : ℕ → Bool) (g : ℕ) → test g ≡ from 0 test g
from-all test g = sym (from-at 0 g test (omega arith))

-- one more gate is placed
has-push : (placed : List ℕ) (g h : ℕ) → has_gate (placed ++ g ∷ []) h ≡ (has_gate placed h || nat_eq h g)
has-push placed g h = list_any-append (nat_eq h) placed (g ∷ []) ∙ ap (λ (b : Bool). has_gate placed h || b) (or-false (nat_eq h g))

mark_of-push : (marks : List Bool) (placed : List ℕ) (g : ℕ) → g < length marks → ((h : ℕ) → mark_of marks h ≡ has_gate placed h)
    → (h : ℕ) → mark_of (set marks g true) h ≡ has_gate (placed ++ g ∷ []) h
mark_of-push marks placed g within same h = elim (cases_eq h g) [
  | inl here ↦
      ap (λ (i : ℕ). mark_of (set marks g true) i) here ∙ get_or-set_same marks g true false within
      ∙ sym (or_right (has_gate placed h) (nat_eq h g) (eq-eqb h g here)) ∙ sym (has-push placed g h)
  | inr other ↦
      get_or-set_other marks g h true false other ∙ same h ∙ sym (or_nothing (has_gate placed h) (nat_eq h g) (ne_eqb h g other)) ∙ sym (has-push placed g h)
]
  where
    or_nothing : (a b : Bool) → b ≡ false → (a || b) ≡ a
    or_nothing true b e = refl
    or_nothing false b e = e

-- The gates that may follow, counted. a and b are for the fan-ins that were met, u and v for those
-- that are the new gate. p is for placed, e for the new gate itself.
balance : (a b u v p e : Bool) → (a ≡ true → u ≡ false) → (b ≡ true → v ≡ false) → (p ≡ true → (a && b) ≡ true) → (e ≡ true → ((a && b) && not p) ≡ true)
    → number (((a || u) && (b || v)) && not (p || e)) + number e ≡ number ((a && b) && not p) + number (u && ((a || u) && (b || v))) + number ((v && not u) && ((a || u) && (b || v)))
balance true b true v p e hu hv hp he = absurd (both_ways true (hu refl) refl)
balance a true u true p e hu hv hp he = absurd (both_ways true (hv refl) refl)
balance true true false false true true hu hv hp he = absurd (both_ways false refl (he refl))
balance true true false false true false hu hv hp he = refl
balance true true false false false true hu hv hp he = refl
balance true true false false false false hu hv hp he = refl
balance true false u v true e hu hv hp he = absurd (both_ways false refl (hp refl))
balance true false u v false true hu hv hp he = absurd (both_ways false refl (he refl))
balance true false false true false false hu hv hp he = refl
balance true false false false false false hu hv hp he = refl
balance false b u v true e hu hv hp he = absurd (both_ways false refl (hp refl))
balance false b u v false true hu hv hp he = absurd (both_ways false refl (he refl))
balance false true true false false false hu hv hp he = refl
balance false true false false false false hu hv hp he = refl
balance false false true true false false hu hv hp he = refl
balance false false true false false false hu hv hp he = refl
balance false false false true false false hu hv hp he = refl
balance false false false false false false hu hv hp he = refl

funext_of : {A : Type 0} (f g : ℕ → A) → ((h : ℕ) → f h ≡ g h) → f ≡ g
funext_of f g same = λ i. λ h. same h i

is_met-push : (placed : List ℕ) (g : ℕ) (o : Option ℕ) → is_met (has_gate (placed ++ g ∷ [])) o ≡ (is_met (has_gate placed) o || is_gate o g)
is_met-push placed g None = refl
is_met-push placed g (Some h) = has-push placed g h

-- what is met stays so
are_met-push : (placed : List ℕ) (g : ℕ) (o : Option Reads) → are_met (has_gate placed) o ≡ true → are_met (has_gate (placed ++ g ∷ [])) o ≡ true
are_met-push placed g None e = e
are_met-push placed g (Some reads) e =
    let parts = and_parts (is_met (has_gate placed) reads.first) (is_met (has_gate placed) reads.second) e in
    and_from (is_met (has_gate (placed ++ g ∷ [])) reads.first) (is_met (has_gate (placed ++ g ∷ [])) reads.second)
    (is_met-push placed g reads.first ∙ or_left (is_met (has_gate placed) reads.first) (is_gate reads.first g) parts.0)
    (is_met-push placed g reads.second ∙ or_left (is_met (has_gate placed) reads.second) (is_gate reads.second g) parts.1)

-- a gate that isn't placed meets no fan-in
met_other : (placed : List ℕ) (g : ℕ) (o : Option ℕ) → has_gate placed g ≡ false → is_met (has_gate placed) o ≡ true → is_gate o g ≡ false
met_other placed g o fresh met = false_from_ne_true (is_gate o g) (λ e.
    both_ways (has_gate placed g) fresh (sym (ap (is_met (has_gate placed)) (is_gate-some o g e)) ∙ met))

-- the second fan-in, if it is another one
second-is : (a b : Option ℕ) (g : ℕ) → is_gate (cond (option_eq nat_eq b a) None b) g ≡ (is_gate b g && not (is_gate a g))
second-is None None g = refl
second-is (Some j) None g = refl
second-is None (Some i) g = sym (and-true (nat_eq i g))
second-is (Some j) (Some i) g = elim (cases_eq i j) [
  | inl same ↦
      ap (λ (b : Bool). is_gate (cond b None (Some i)) g) (eq-eqb i j same)
      ∙ sym (and-not_self (nat_eq i g)) ∙ ap (λ (k : ℕ). nat_eq i g && not (nat_eq k g)) same
  | inr other ↦ ap (λ (b : Bool). is_gate (cond b None (Some i)) g) (ne_eqb i j other) ∙ elim (cases_eq i g) [
    | inl here ↦ (
        let away : nat_eq j g ≡ false = ne_eqb j g (λ there. other (here ∙ sym there)) in
        sym (ap (λ (b : Bool). nat_eq i g && not b) away ∙ and-true (nat_eq i g)))
    | inr away ↦ ne_eqb i g away ∙ sym (and_left (nat_eq i g) (not (nat_eq j g)) (ne_eqb i g away))
  ]
]

may_follow-at : (gates : List Reads) (placed : List ℕ) (h : ℕ) (reads : Reads) → slice_get gates h ≡ Some reads
    → may_follow gates placed h ≡ ((is_met (has_gate placed) reads.first && is_met (has_gate placed) reads.second) && not (has_gate placed h))
unfolding may_follow
may_follow-at gates placed h reads there = ap (λ (o : Option Reads). are_met (has_gate placed) o && not (has_gate placed h)) there

module _ (gates : List Reads) (placed : List ℕ) (marks : List Bool) (g : ℕ) (same : (h : ℕ) → mark_of marks h ≡ has_gate (placed ++ g ∷ []) h) where
  released-is : (side : Side) (h : ℕ) (reads : Reads) → slice_get gates h ≡ Some reads
      → is_released gates side marks g h ≡ (is_gate (fan_in side reads) g && (is_met (has_gate (placed ++ g ∷ [])) reads.first && is_met (has_gate (placed ++ g ∷ [])) reads.second))
  unfolding is_released
  released-is side h reads there =
      ap (λ (o : Option ℕ). is_gate o g && are_met (mark_of marks) (slice_get gates h)) (read_by-at side gates h reads there)
      ∙ ap (λ (o : Option Reads). is_gate (fan_in side reads) g && are_met (mark_of marks) o) there
      ∙ ap (λ (f : ℕ → Bool). is_gate (fan_in side reads) g && are_met f (Some reads)) (funext_of (mark_of marks) (has_gate (placed ++ g ∷ [])) same)

  balance-in : (fresh : has_gate placed g ≡ false) (closed : (h : ℕ) → has_gate placed h ≡ true → are_met (has_gate placed) (slice_get gates h) ≡ true) (follows : may_follow gates placed g ≡ true)
      → (h : ℕ) (reads : Reads) → slice_get gates h ≡ Some reads
      → number (may_follow gates (placed ++ g ∷ []) h) + number (nat_eq h g)
      ≡ number (may_follow gates placed h) + number (is_released gates First marks g h) + number (is_released gates Second marks g h)
  balance-in fresh closed follows h reads there =
      let a : Bool = is_met (has_gate placed) reads.first in
      let b : Bool = is_met (has_gate placed) reads.second in
      let u : Bool = is_gate reads.first g in
      let v : Bool = is_gate reads.second g in
      let p : Bool = has_gate placed h in
      let e : Bool = nat_eq h g in
      let met : (is_met (has_gate (placed ++ g ∷ [])) reads.first && is_met (has_gate (placed ++ g ∷ [])) reads.second) ≡ ((a || u) && (b || v)) =
      ap (λ (x : Bool). x && is_met (has_gate (placed ++ g ∷ [])) reads.second) (is_met-push placed g reads.first) ∙ ap (λ (x : Bool). (a || u) && x) (is_met-push placed g reads.second) in
      let later : may_follow gates (placed ++ g ∷ []) h ≡ (((a || u) && (b || v)) && not (p || e)) =
      may_follow-at gates (placed ++ g ∷ []) h reads there ∙ ap (λ (x : Bool). x && not (has_gate (placed ++ g ∷ []) h)) met ∙ ap (λ (x : Bool). ((a || u) && (b || v)) && not x) (has-push placed g h) in
      let now : may_follow gates placed h ≡ ((a && b) && not p) = may_follow-at gates placed h reads there in
      let one : is_released gates First marks g h ≡ (u && ((a || u) && (b || v))) = released-is First h reads there ∙ ap (λ (x : Bool). u && x) met in
      let two : is_released gates Second marks g h ≡ ((v && not u) && ((a || u) && (b || v))) =
      released-is Second h reads there ∙ ap (λ (x : Bool). is_gate (fan_in Second reads) g && x) met ∙ ap (λ (x : Bool). x && ((a || u) && (b || v))) (second-is reads.first reads.second g) in
      let equal : number (((a || u) && (b || v)) && not (p || e)) + number e ≡ number ((a && b) && not p) + number (u && ((a || u) && (b || v))) + number ((v && not u) && ((a || u) && (b || v))) =
      balance a b u v p e (met_other placed g reads.first fresh) (met_other placed g reads.second fresh)
      (λ placed_h. sym (ap (are_met (has_gate placed)) there) ∙ closed h placed_h)
      (λ here. sym now ∙ ap (may_follow gates placed) (eqb-true h g here) ∙ follows) in
      ap (λ (x : Bool). number x + number e) later ∙ equal ∙ sym (
      ap (λ (x : Bool). number x + number (is_released gates First marks g h) + number (is_released gates Second marks g h)) now
      ∙ ap (λ (x : Bool). number ((a && b) && not p) + number x + number (is_released gates Second marks g h)) one
      ∙ ap (λ (x : Bool). number ((a && b) && not p) + number (u && ((a || u) && (b || v))) + number x) two)

  balance-past : (h : ℕ) → length gates ≤ h → g < length gates
      → number (may_follow gates (placed ++ g ∷ []) h) + number (nat_eq h g)
      ≡ number (may_follow gates placed h) + number (is_released gates First marks g h) + number (is_released gates Second marks g h)
  balance-past h past inside =
      omega (
        arith,
        number-false (may_follow gates (placed ++ g ∷ []) h) (may_follow-past gates (placed ++ g ∷ []) h past),
        number-false (may_follow gates placed h) (may_follow-past gates placed h past),
        number-false (nat_eq h g) (ne_eqb h g (λ e. omega arith)),
        number-false (is_released gates First marks g h) (released-unread gates First marks g h (λ e. none-some g (sym (read_by-past First gates h past) ∙ e))),
        number-false (is_released gates Second marks g h) (released-unread gates Second marks g h (λ e. none-some g (sym (read_by-past Second gates h past) ∙ e))),
      )

-- the state at the start
pub state_start : (gates : List Reads) (marks : List Bool) (ready : List (Reverse ℕ)) → length marks ≡ length gates → ((h : ℕ) → mark_of marks h ≡ false)
    → IsReadyHeap ready → Gains (may_follow gates []) [] ready → IsState gates [] marks ready
state_start gates marks ready as_many unmarked heap gains = record {
  as_many = as_many;
  marked = unmarked;
  closed = λ h e. absurd (both_ways false refl e);
  heap = heap;
  each = λ h. omega (arith, gains.each h, times-nil h);
}

-- what comes out of the heap may follow, and is the next gate
pub popped_follows : (gates : List Reads) (placed : List ℕ) (marks : List Bool) (ready rest : List (Reverse ℕ)) (x : Reverse ℕ) → IsState gates placed marks ready
    → IsPermutation ready (x ∷ rest) → may_follow gates placed x.0 ≡ true
popped_follows gates placed marks ready rest x state moved =
    number_true (may_follow gates placed x.0) (omega (arith, times-pop x.0 x ready rest moved, number-true (nat_eq x.0 x.0) (eq-eqb x.0 x.0 refl), state.each x.0))

-- what comes off the heap's top is the next gate of the order
pub popped_next : (gates : List Reads) (placed : List ℕ) (marks : List Bool) (ready rest : List (Reverse ℕ)) (x : Reverse ℕ) → IsState gates placed marks ready
    → IsPermutation ready (x ∷ rest) → IsUpperBound (λ a b. nat_cmp b.0 a.0) x ready → IsNextGate gates placed x.0
popped_next gates placed marks ready rest x state moved bound = record {
  follows = popped_follows gates placed marks ready rest x state moved;
  first = λ h may. top_is_first x ready bound h (omega (arith, state.each h, number-true (may_follow gates placed h) may));
}

-- one more gate
pub state_then : (gates : List Reads) (placed : List ℕ) (marks : List Bool) (ready rest mid new : List (Reverse ℕ)) (x : Reverse ℕ) → IsState gates placed marks ready
    → IsPermutation ready (x ∷ rest) → Gains (is_released gates First (set marks x.0 true) x.0) rest mid → Gains (is_released gates Second (set marks x.0 true) x.0) mid new
    → IsReadyHeap new → IsState gates (placed ++ x.0 ∷ []) (set marks x.0 true) new
state_then gates placed marks ready rest mid new x state moved first second heap =
    let g : ℕ = x.0 in
    let may : may_follow gates placed g ≡ true = popped_follows gates placed marks ready rest x state moved in
    let f : Follows gates placed g = follows_where_true gates placed g may in
    let same = mark_of-push marks placed g (omega (arith, f.below, state.as_many)) state.marked in
    record {
      as_many = length-set marks g true ∙ state.as_many;
      marked = same;
      closed = λ h e. elim (or_cases (has_gate placed h) (nat_eq h g) (sym (has-push placed g h) ∙ e)) [
        | inl before ↦ are_met-push placed g (slice_get gates h) (state.closed h before)
        | inr here ↦ are_met-push placed g (slice_get gates h) (
            ap (λ (i : ℕ). are_met (has_gate placed) (slice_get gates i)) (eqb-true h g here)
            ∙ ap (are_met (has_gate placed)) f.there ∙ and_from (is_met (has_gate placed) f.reads.first) (is_met (has_gate placed) f.reads.second) f.first f.second)
      ];
      heap = heap;
      each = λ h.
          let equal : number (may_follow gates (placed ++ g ∷ []) h) + number (nat_eq h g)
          ≡ number (may_follow gates placed h) + number (is_released gates First (set marks g true) g h) + number (is_released gates Second (set marks g true) g h) =
          elim (cases_lt h (length gates)) [
            | inl inside ↦ (
                let none : Reads = record { first = None; second = None } in
                balance-in gates placed (set marks g true) g same f.fresh state.closed may h (get_or gates h none) (slice_get-get_or gates h none inside))
            | inr past ↦ balance-past gates placed (set marks g true) g same h past f.below
          ] in
          omega (arith, equal, times-pop h x ready rest moved, state.each h, first.each h, second.each h);
    }

-- going on with the next gate, and if there is none
pub rest_then : (gates : List Reads) (placed : List ℕ) (more g : ℕ) → IsNextGate gates placed g → order_from gates placed (suc more) ≡ order_from gates (placed ++ g ∷ []) more
rest_then gates placed more g next =
    let f = follows_where_true gates placed g next.follows in
    order_from-more gates placed more (Some g) (first_below_is (may_follow gates placed) (length gates) g (record { below = f.below; passes = next.follows; least = next.first }))

-- if the heap is empty and a gate is still wanted, there is no order
pub rest_none : (gates : List Reads) (placed : List ℕ) (marks : List Bool) (more : ℕ) → IsState gates placed marks [] → order_from gates placed (suc more) ≡ None
rest_none gates placed marks more state =
    order_from-more gates placed more None (first_below_none (may_follow gates placed) (length gates) (λ h less.
    false_from_ne_true (may_follow gates placed h) (λ may. omega (arith, state.each h, times-nil h, number-true (may_follow gates placed h) may))))

-- a table of no marks marks no gate
pub unmarked : (n : ℕ) (marks : List Bool) → marks ≡ replicate n false → (h : ℕ) → mark_of marks h ≡ false
unmarked n marks same h = ap (λ (xs : List Bool). mark_of xs h) same ∙ elim (cases_lt h n) [
  | inl inside ↦ get_or-replicate n h false false inside
  | inr past ↦ get_or_past (replicate n false) h false (omega (arith, length-replicate n false))
]
