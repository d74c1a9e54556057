-- What is computed is the order, and there is at most one.
use Rattle.std.proofs.Common.{ℕ, ◌+◌, ◌<◌, ◌≤◌, ◌≡◌, inl, inr, suc, zero, List, [], ◌∷◌, ◌++◌, length, take, true, false, not, ◌&&◌, Option, Some, None, slice_get, get_or, refl, arith, ap, sym, subst, ◌∙◌}
use Rattle.std.specs.Option.{option_and_then}
use Rattle.std.specs.List.{range_with_len}
use Rattle.std.proofs.lemmas.Bool.{cases_lt, both_ways, and_parts, and_from, not-true, not_from_false, false_from_ne_true}
use Rattle.std.proofs.lemmas.Option.{none-some, same_Some, slice_get_within, slice_get-get_or, get_or_from_slice_get, MatchOption-at_some}
use Rattle.std.proofs.lemmas.List.{take_all, take_at, take-append-le, length_push}
use Rattle.std.proofs.lemmas.List.FromFn.{length-range_with_len, get_or-range_with_len}
use Rattle.aig_graph.proofs.PlacesLaws.{slice_get_push}
use Rattle.aig_graph.proofs.ListLaws.{place_take, take_place}
use Rattle.ascii_file.specs.declared.order.reads.Reads.{Reads}
use Rattle.ascii_file.specs.order.Order.{has_gate, is_met, are_met, may_follow, IsNextGate, IsOrder, ReadsBelow, first_below, order_from}
use Rattle.ascii_file.specs.order.Laws.{OrderedLaw, HasAtMostOneOrder, KeepsOrder}
use Rattle.ascii_file.proofs.FirstLaws.{IsFirst, first_below_cases, first_below_is, place_has, has_place, take_push}

-- what a gate that may follow is
pub record Follows (gates : List Reads) (placed : List ℕ) (g : ℕ) : Type 0 where
  -- what the gate reads
  pub reads : Reads
  -- it is the gate at this place of the file
  pub there : slice_get gates g ≡ Some reads
  -- the place is within the file
  pub below : g < length gates
  -- its first fan-in is no gate or a placed one
  pub first : is_met (has_gate placed) reads.first ≡ true
  -- its second fan-in is no gate or a placed one
  pub second : is_met (has_gate placed) reads.second ≡ true
  -- the gate isn't placed
  pub fresh : has_gate placed g ≡ false

follows_from : (gates : List Reads) (placed : List ℕ) (g : ℕ) (o : Option Reads) → slice_get gates g ≡ o → (are_met (has_gate placed) o && not (has_gate placed g)) ≡ true → Follows gates placed g
follows_from gates placed g None e h = absurd (both_ways false refl h)
follows_from gates placed g (Some reads) e h =
    let parts = and_parts (is_met (has_gate placed) reads.first && is_met (has_gate placed) reads.second) (not (has_gate placed g)) h in
    let met = and_parts (is_met (has_gate placed) reads.first) (is_met (has_gate placed) reads.second) parts.0 in
    record { reads = reads; there = e; below = slice_get_within gates g reads e; first = met.0; second = met.1; fresh = not-true (has_gate placed g) parts.1 }

-- a gate that may follow by the test isn't placed, and what it reads is
pub follows_where_true : (gates : List Reads) (placed : List ℕ) (g : ℕ) → may_follow gates placed g ≡ true → Follows gates placed g
unfolding may_follow
follows_where_true gates placed g h = follows_from gates placed g (slice_get gates g) refl h

-- a gate that isn't placed and whose fan-ins are may follow by the test
pub true_where_follows : (gates : List Reads) (placed : List ℕ) (g : ℕ) → Follows gates placed g → may_follow gates placed g ≡ true
unfolding may_follow
true_where_follows gates placed g f =
    and_from (are_met (has_gate placed) (slice_get gates g)) (not (has_gate placed g))
    (ap (are_met (has_gate placed)) f.there ∙ and_from (is_met (has_gate placed) f.reads.first) (is_met (has_gate placed) f.reads.second) f.first f.second)
    (not_from_false (has_gate placed g) f.fresh)

-- the next gate is the first that may follow
first_from_next : (gates : List Reads) (placed : List ℕ) (g : ℕ) → IsNextGate gates placed g → IsFirst (may_follow gates placed) (length gates) g
first_from_next gates placed g next =
    let f = follows_where_true gates placed g next.follows in
    record { below = f.below; passes = next.follows; least = next.first }

-- the first gate that may follow is the next one
pub next_from_first : (gates : List Reads) (placed : List ℕ) (g : ℕ) → IsFirst (may_follow gates placed) (length gates) g → IsNextGate gates placed g
next_from_first gates placed g f = record { follows = f.passes; first = f.least }

-- one more gate
pub order_from-more : (gates : List Reads) (placed : List ℕ) (more : ℕ) (o : Option ℕ) → first_below (may_follow gates placed) (length gates) ≡ o
    → order_from gates placed (suc more) ≡ option_and_then (λ g. order_from gates (placed ++ g ∷ []) more) o
unfolding order_from
order_from-more gates placed more o e = ap (option_and_then (λ g. order_from gates (placed ++ g ∷ []) more)) e

-- if no more gates are wanted, those placed are the order
pub order_from-zero : (gates : List Reads) (placed : List ℕ) → order_from gates placed 0 ≡ Some placed
unfolding order_from
order_from-zero gates placed = refl

-- a beginning of an order: each gate is the next one
abbrev pub AreNext : List Reads → List ℕ → Type 0
AreNext gates placed = (k g : ℕ) → slice_get placed k ≡ Some g → IsNextGate gates (take k placed) g

-- a beginning of an order with the next gate at its end is one
pub AreNext-push : (gates : List Reads) (placed : List ℕ) (g : ℕ) → AreNext gates placed → IsNextGate gates placed g → AreNext gates (placed ++ g ∷ [])
AreNext-push gates placed g before next k h e = elim (slice_get_push placed g k h e) [
  | inl there ↦ (
      let less : k < length placed = slice_get_within placed k h there in
      let same : take k placed ≡ take k (placed ++ g ∷ []) = sym (take-append-le k placed (g ∷ []) (omega arith)) in
      subst (λ (xs : List ℕ). IsNextGate gates xs h) same (before k h there))
  | inr here ↦ (
      let same : placed ≡ take k (placed ++ g ∷ []) = sym (take_at placed (g ∷ []) k (sym here.0)) in
      subst (λ (xs : List ℕ). IsNextGate gates xs h) same (subst (λ (i : ℕ). IsNextGate gates placed i) (sym here.1) next))
]

order_where_computed : (gates : List Reads) (more : ℕ) (placed order : List ℕ) → AreNext gates placed → length placed + more ≡ length gates
    → order_from gates placed more ≡ Some order → IsOrder gates order
order_where_computed gates zero placed order before size e =
    let same : placed ≡ order = same_Some placed order (sym (order_from-zero gates placed) ∙ e) in
    let whole : IsOrder gates placed = record { as_many = omega arith; each = before } in
    subst (IsOrder gates) same whole
order_where_computed gates (suc more) placed order before size e = elim (first_below_cases (may_follow gates placed) (length gates)) [
  | inl found ↦ (
      let step : order_from gates placed (suc more) ≡ order_from gates (placed ++ found.0 ∷ []) more = order_from-more gates placed more (Some found.0) found.1 in
      order_where_computed gates more (placed ++ found.0 ∷ []) order
      (AreNext-push gates placed found.0 before (next_from_first gates placed found.0 found.2))
      (omega (arith, length_push placed found.0))
      (sym step ∙ e))
  | inr none ↦ absurd (none-some order (sym (order_from-more gates placed more None none.0) ∙ e))
]

computed_where_order : (gates : List Reads) (order : List ℕ) → IsOrder gates order → (more k : ℕ) → k + more ≡ length gates → order_from gates (take k order) more ≡ Some order
computed_where_order gates order is zero k size =
    order_from-zero gates (take k order) ∙ ap (λ (xs : List ℕ). Some xs) (take_all k order (omega (arith, is.as_many)))
computed_where_order gates order is (suc more) k size =
    let g : ℕ = get_or order k 0 in
    let there : slice_get order k ≡ Some g = slice_get-get_or order k 0 (omega (arith, is.as_many)) in
    let found : first_below (may_follow gates (take k order)) (length gates) ≡ Some g =
    first_below_is (may_follow gates (take k order)) (length gates) g (first_from_next gates (take k order) g (is.each k g there)) in
    order_from-more gates (take k order) more (Some g) found
    ∙ ap (λ (xs : List ℕ). order_from gates xs more) (sym (take_push order k g there))
    ∙ computed_where_order gates order is more (suc k) (omega arith)

-- what is computed is the order, and the order is computed
pub ordered_law : (gates : List Reads) (order : List ℕ) → OrderedLaw gates order
ordered_law gates order = (
  order_where_computed gates (length gates) [] order (λ k g e. absurd (none-some g e)) (omega arith),
  λ is. computed_where_order gates order is (length gates) 0 (omega arith),
)

-- two orders of one list of gates are one
pub at_most_one : (gates : List Reads) (first second : List ℕ) → HasAtMostOneOrder gates first second
at_most_one gates first second p q = same_Some first second (sym ((ordered_law gates first).1 p) ∙ (ordered_law gates second).1 q)

-- a file in order
front_has : (n k h : ℕ) → h < k → k ≤ n → has_gate (take k (range_with_len 0 n)) h ≡ true
front_has n k h less within =
    let there : slice_get (range_with_len 0 n) h ≡ Some h =
    slice_get-get_or (range_with_len 0 n) h 0 (omega (arith, length-range_with_len 0 n)) ∙ ap (λ (i : ℕ). Some i) (get_or-range_with_len 0 n h 0 (omega arith) ∙ omega arith) in
    place_has (take k (range_with_len 0 n)) h h (place_take (range_with_len 0 n) k h h less there)

at_itself : (n k g : ℕ) → slice_get (range_with_len 0 n) k ≡ Some g → (g ≡ k) × (k < n)
at_itself n k g e =
    let less : k < length (range_with_len 0 n) = slice_get_within (range_with_len 0 n) k g e in
    let within : k < n = omega (arith, length-range_with_len 0 n) in
    (sym (get_or_from_slice_get (range_with_len 0 n) k g 0 e) ∙ get_or-range_with_len 0 n k 0 within ∙ omega arith, within)

front_lacks : (n k h : ℕ) → k ≤ h → has_gate (take k (range_with_len 0 n)) h ≡ false
front_lacks n k h above = false_from_ne_true (has_gate (take k (range_with_len 0 n)) h) (λ e.
    let place = has_place (take k (range_with_len 0 n)) h e in
    let inner = take_place (range_with_len 0 n) k place.0 h place.1 in
    let self = at_itself n place.0 h inner.1 in
    omega arith)

met_below : (n k : ℕ) (o : Option ℕ) → k ≤ n → ((h : ℕ) → o ≡ Some h → h < k) → is_met (has_gate (take k (range_with_len 0 n))) o ≡ true
met_below n k None within below = refl
met_below n k (Some h) within below = front_has n k h (below h refl) within

-- the gates of a file in order stand in the file's order
pub keeps_order : (gates : List Reads) → KeepsOrder gates
keeps_order gates in_order = record {
  as_many = length-range_with_len 0 (length gates);
  each = λ k g e.
      let n : ℕ = length gates in
      let self = at_itself n k g e in
      let reads : Reads = get_or gates k (record { first = None; second = None }) in
      let there : slice_get gates k ≡ Some reads = slice_get-get_or gates k (record { first = None; second = None }) self.1 in
      let below : ReadsBelow k reads = in_order k reads there in
      let follows : Follows gates (take k (range_with_len 0 n)) k = record {
        reads = reads;
        there = there;
        below = self.1;
        first = met_below n k reads.first (omega arith) (λ h some. MatchOption-at_some (Unit {0}) (λ i. i < k) h some below.first);
        second = met_below n k reads.second (omega arith) (λ h some. MatchOption-at_some (Unit {0}) (λ i. i < k) h some below.second);
        fresh = front_lacks n k k (omega arith);
      } in
      let next : IsNextGate gates (take k (range_with_len 0 n)) k = record {
        follows = true_where_follows gates (take k (range_with_len 0 n)) k follows;
        first = λ h may. elim (cases_lt h k) [
          | inl less ↦ (
              let f = follows_where_true gates (take k (range_with_len 0 n)) h may in
              absurd (both_ways (has_gate (take k (range_with_len 0 n)) h) f.fresh (front_has n k h less (omega arith))))
          | inr above ↦ above
        ];
      } in
      subst (λ (i : ℕ). IsNextGate gates (take k (range_with_len 0 n)) i) (sym self.0) next;
}
