-- Passable gates, the empty set, and sets that are one.
use Rattle.std.proofs.Common.{ℕ, ◌<◌, ◌≤◌, ◌≡◌, ◌⊎◌, inl, inr, Bool, ◌&&◌, ◌||◌, List, [], ◌∷◌, get_or, IsTrue, refl, arith, ap, sym, ◌∙◌, subst, suc, zero}
use Rattle.std.proofs.Math.Bool.{or-false}
use Rattle.std.specs.Prelude.{◌↔◌}
use Rattle.std.specs.List.{Contains}
use Rattle.std.specs.List.Sorted.{IsStrictlyIncreasing}
use Rattle.std.proofs.lemmas.Bool.{and_from}
use Rattle.std.proofs.lemmas.List.{get_or_default}
use Rattle.std.proofs.lemmas.List.Kept.{AllPairs-from_increasing}
use Rattle.aig_graph.specs.declared.graph.Gate.{Gate}
use Rattle.aig_graph.specs.Graph.{Graph, IsGraph, variable, variables_end, latch_at, is_known}
use Rattle.aig_graph.specs.Circuits.{Netlist}
use Rattle.aig_graph.specs.Closed.{is_held, is_settled, IsClosedSet}
use Rattle.aig_graph.specs.Border.{is_read}
use Rattle.aig_graph.specs.Laws.{MayMoveOrPassable, PassableLaw, EmptySetLaws, AtMostOne}
use Rattle.aig_graph.proofs.ClosedLaws.{settled_where, is_settled-gate, and_left, and_right}
use Rattle.aig_graph.proofs.ClosedBorderLaws.{closed-border_size}
use Rattle.aig_graph.proofs.CountingLaws.{count_below-same}
use Rattle.aig_graph.proofs.MemberLaws.{rising_rest}

-- a variable is settled if and only if it is a known latch that isn't held or a passable gate
settled_iff : (g : Graph) (held : List ℕ) (v : ℕ) → IsTrue (is_settled g held v) ↔ MayMoveOrPassable g held v
settled_iff g held v = settled_where g held v

-- a gate is passable if and only if each fan-in's variable is a known latch that isn't held, or a
-- passable gate
pub passable_law : (g : Graph) (held : List ℕ) (v : ℕ) → IsGraph g → PassableLaw g held v
passable_law g held v valid = (
  (λ passable.
      let gate : Gate = passable.0 in
      let settled : IsTrue (is_settled g held (variable gate.rhs0) && is_settled g held (variable gate.rhs1)) =
      subst (λ (b : Bool). IsTrue b) (is_settled-gate g held valid v gate passable.1) passable.2 in (
        gate,
        passable.1,
        (settled_iff g held (variable gate.rhs0)).0 (and_left (is_settled g held (variable gate.rhs0)) (is_settled g held (variable gate.rhs1)) settled),
        (settled_iff g held (variable gate.rhs1)).0 (and_right (is_settled g held (variable gate.rhs0)) (is_settled g held (variable gate.rhs1)) settled),
      )),
  (λ rests.
      let gate : Gate = rests.0 in (
        gate,
        rests.1,
        subst (λ (b : Bool). IsTrue b) (sym (is_settled-gate g held valid v gate rests.1))
            (and_from (is_settled g held (variable gate.rhs0)) (is_settled g held (variable gate.rhs1))
            ((settled_iff g held (variable gate.rhs0)).1 rests.2) ((settled_iff g held (variable gate.rhs1)).1 rests.3)),
      )),
)

-- the empty set is closed
pub empty-closed : (g : Graph) (held : List ℕ) → IsClosedSet g held []
empty-closed g held = record {
  rising = λ i h. absurd (omega arith);
  closed = record {
    passable = λ v member. absurd (omega (arith, member.1));
    fan_ins = λ v gate member e. absurd (omega (arith, member.1));
  };
}

-- the empty set is closed, and its border are the known latches that are held or read
pub empty_set_laws : (c : Netlist) (held : List ℕ) → EmptySetLaws c held
empty_set_laws c held = record {
  closed = empty-closed c.aig held;
  count = closed-border_size c held [] (empty-closed c.aig held)
      ∙ count_below-same _ _ (variables_end c.aig) (λ v h. ap (λ b. b && (is_held c.aig held v || is_read c [] v)) (or-false (is_known (latch_at c.aig v))));
}

contains_head : (x : ℕ) (xs : List ℕ) → Contains (x ∷ xs) x
contains_head x xs = (0, omega arith, refl)

contains_tail : (x : ℕ) (xs : List ℕ) (v : ℕ) → Contains xs v → Contains (x ∷ xs) v
contains_tail x xs v (k, h, e) = (suc k, omega arith, e)

contains_cases : (x : ℕ) (xs : List ℕ) (v : ℕ) → Contains (x ∷ xs) v → (x ≡ v) ⊎ Contains xs v
contains_cases x xs v (zero, h, e) = inl e
contains_cases x xs v (suc k, h, e) = inr (k, omega arith, e)

contains_none : (v : ℕ) → Contains [] v → ⊥
contains_none v (k, h, e) = absurd (omega arith)

-- a rising list begins with its least member
tail_above : (x : ℕ) (xs : List ℕ) → IsStrictlyIncreasing (x ∷ xs) → (v : ℕ) → Contains xs v → x < v
tail_above x xs rising v (k, h, e) =
    let below : get_or (x ∷ xs) 0 0 < get_or (x ∷ xs) (suc k) 0 = AllPairs-from_increasing (x ∷ xs) rising 0 (suc k) 0 (omega arith) (omega arith) in
    let there : get_or xs k 0 ≡ v = get_or_default xs k 0 v h ∙ e in
    omega arith

-- a member of one rising list is one of the other's tail, if the heads are one
tail_within : (x : ℕ) (xs : List ℕ) (y : ℕ) (ys : List ℕ) → x ≡ y → IsStrictlyIncreasing (x ∷ xs) → ((v : ℕ) → Contains (x ∷ xs) v → Contains (y ∷ ys) v) → (v : ℕ) → Contains xs v → Contains ys v
tail_within x xs y ys heads rising there v member =
    let above : x < v = tail_above x xs rising v member in
    elim (contains_cases y ys v (there v (contains_tail x xs v member))) [
      | inl same ↦ absurd (omega arith)
      | inr inner ↦ inner
    ]

-- a head isn't above the other's
head_least : (x : ℕ) (xs : List ℕ) (y : ℕ) (ys : List ℕ) → IsStrictlyIncreasing (y ∷ ys) → ((v : ℕ) → Contains (x ∷ xs) v → Contains (y ∷ ys) v) → y ≤ x
head_least x xs y ys rising there = elim (contains_cases y ys x (there x (contains_head x xs))) [
  | inl same ↦ omega arith
  | inr inner ↦ (let above : y < x = tail_above y ys rising x inner in omega arith)
]

-- rising lists of equal members are one
pub rising_same : (xs ys : List ℕ) → IsStrictlyIncreasing xs → IsStrictlyIncreasing ys → ((v : ℕ) → Contains xs v → Contains ys v) → ((v : ℕ) → Contains ys v → Contains xs v) → xs ≡ ys
rising_same [] [] p q there back = refl
rising_same [] (y ∷ ys) p q there back = absurd (contains_none y (back y (contains_head y ys)))
rising_same (x ∷ xs) [] p q there back = absurd (contains_none x (there x (contains_head x xs)))
rising_same (x ∷ xs) (y ∷ ys) p q there back =
    let low : y ≤ x = head_least x xs y ys q there in
    let high : x ≤ y = head_least y ys x xs p back in
    let heads : x ≡ y = omega arith in
    let tails : xs ≡ ys = rising_same xs ys (rising_rest x xs p) (rising_rest y ys q) (tail_within x xs y ys heads p there) (tail_within y ys x xs (sym heads) q back) in
    cc

-- there is at most one greatest least set, and one smallest
pub at_most_one : (c : Netlist) (held s r : List ℕ) → AtMostOne c held s r
at_most_one c held s r = record {
  greatest = λ p q. rising_same s r p.least.closed.rising q.least.closed.rising (q.holds s p.least) (p.holds r q.least);
  smallest = λ p q. rising_same s r p.least.closed.rising q.least.closed.rising (p.within r q.least) (q.within s p.least);
}
