-- The gates of a moved circuit are plain, each with a pair of its own, if the low copies are.
use Rattle.std.proofs.Common.{ℕ, ◌+◌, ◌-◌, ◌*◌, ◌<◌, ◌≤◌, ◌≡◌, inl, inr, true, Some, slice_get, arith, ap, sym, ◌∙◌, subst, Option}
use Rattle.std.proofs.lemmas.Bool.{cases_Bool, cases_lt, both_ways, cond-true, cond-false, leb-true}
use Rattle.aig_graph.specs.declared.graph.Gate.{Gate}
use Rattle.aig_graph.specs.declared.graph.Latch.{Latch}
use Rattle.aig_graph.specs.Building.{gate_of}
use Rattle.aig_graph.specs.Closed.{IsClosedSet, IsLatchOrIn}
use Rattle.aig_graph.specs.Graph.{IsGraph, IsGateAt, variable, first_latch, first_gate, variables_end, latch_at, gate_at}
use Rattle.aig_graph.specs.Move.{Move}
use Rattle.aig_graph.proofs.FoldingLaws.{gate_at-first_gate, gate_at-is}
use Rattle.aig_graph.proofs.KindLaws.{GatePlace, LatchPlace, element, gate_place, latch_place}
use Rattle.aig_graph.proofs.SearchLaws.{has_iff_contains}
use Rattle.aig_graph.proofs.SignLaws.{variable-signed_as, variable-signed_as_twice}
use Rattle.aig_graph.specs.Counting.{count_below}
use Rattle.aig_graph.specs.Marking.{has}
use Rattle.rebuild.specs.Moved.{advanced, advanced_literal, copies_start, copy_for, copy_variable, gate_between, gate_for, is_outside, moved_graph, moved_literal, new_variable, next_of}
use Rattle.rebuild.proofs.BorderLaws.{closed-passable, member-gate, outside_parts, read-first, read-second}
use Rattle.rebuild.proofs.MovedLaws.{copies_start-is, copy_variable-is, from_member, from_outside, gate_source, moved-first_gate, next-within}
use Rattle.clean.specs.Normalised.{IsPlain, IsNormalised, AreLowNormalised}
use Rattle.clean.proofs.SpotLaws.{Spot, literal-one, pair-one, plain-of, read-spot, same-rank, spot-below, spot-constant, spot-one}

module _ (m : Move) (valid : IsGraph m.circuit.aig) (set : IsClosedSet m.circuit.aig m.held m.set) where
  -- a gate outside the set
  record Outer (v : ℕ) : Type 0 where
    gate : Gate
    there : slice_get m.circuit.aig.gates (v - first_gate m.circuit.aig) ≡ Some gate
    from : first_gate m.circuit.aig ≤ v
    at : IsGateAt v gate
    first : Spot m set (variable gate.rhs0)
    second : Spot m set (variable gate.rhs1)
    made : gate_for m v ≡ gate_of (moved_literal m gate.rhs0) (moved_literal m gate.rhs1)

  outer : (v : ℕ) → v < variables_end m.circuit.aig → is_outside m v ≡ true → Outer v
  outer v within outside =
      let parts = outside_parts m v outside in
      let past : first_gate m.circuit.aig ≤ v = leb-true (first_gate m.circuit.aig) v parts.0 in
      let found = element m.circuit.aig.gates (v - first_gate m.circuit.aig) (omega arith) in
      let place : v ≡ first_gate m.circuit.aig + (v - first_gate m.circuit.aig) = omega arith in
      let here : gate_at m.circuit.aig v ≡ Some found.0 = ap (gate_at m.circuit.aig) place ∙ gate_at-first_gate m.circuit.aig (v - first_gate m.circuit.aig) ∙ found.1 in
      let is_at : IsGateAt v found.0 = gate_at-is m.circuit.aig valid v found.0 here in
      record {
        gate = found.0;
        there = found.1;
        from = past;
        at = is_at;
        first = read-spot m set (variable found.0.rhs0) (omega (arith, is_at.below)) (read-first m v found.0 here parts.1);
        second = read-spot m set (variable found.0.rhs1) (omega (arith, is_at.below, is_at.ordered)) (read-second m v found.0 here parts.1);
        made = ap (gate_between (moved_literal m)) here;
      }

  -- a gate of the set
  record Inner (v : ℕ) : Type 0 where
    gate : Gate
    there : slice_get m.circuit.aig.gates (v - first_gate m.circuit.aig) ≡ Some gate
    from : first_gate m.circuit.aig ≤ v
    at : IsGateAt v gate
    first : IsLatchOrIn m.circuit.aig m.set (variable gate.rhs0)
    second : IsLatchOrIn m.circuit.aig m.set (variable gate.rhs1)
    made : copy_for m v ≡ gate_of (advanced_literal m gate.rhs0) (advanced_literal m gate.rhs1)

  inner : (v : ℕ) → has m.set v ≡ true → Inner v
  inner v member =
      let found = member-gate m (closed-passable m set.closed) v member in
      let place : GatePlace m.circuit.aig v found.0 = gate_place m.circuit.aig v found.0 found.1 in
      let sources = set.closed.fan_ins v found.0 ((has_iff_contains m.set v).0 member) found.1 in
      record {
        gate = found.0;
        there = place.there;
        from = place.from;
        at = gate_at-is m.circuit.aig valid v found.0 found.1;
        first = sources.0;
        second = sources.1;
        made = ap (gate_between (advanced_literal m)) found.1;
      }

  -- what isn't low is a copy of a member
  high-member : (w : ℕ) → IsLatchOrIn m.circuit.aig m.set w → copies_start m ≤ variable (advanced m w) → (has m.set w ≡ true) × (advanced m w ≡ 2 * copy_variable m w)
  unfolding advanced
  high-member w source high = elim (cases_Bool (has m.set w)) [
    | inl member ↦ (member, cond-true (has m.set w) (2 * copy_variable m w) (moved_literal m (next_of (latch_at m.circuit.aig w))) member)
    | inr other ↦ elim source [
      | inl latch ↦ (
          let next : ℕ = latch.0.next in
          let place : LatchPlace m.circuit.aig w latch.0 = latch_place m.circuit.aig w latch.0 latch.1 in
          let here : variable (advanced m w) ≡ new_variable m (variable next) =
          ap variable (cond-false (has m.set w) (2 * copy_variable m w) (moved_literal m (next_of (latch_at m.circuit.aig w))) other)
          ∙ ap (λ (o : Option Latch). variable (moved_literal m (next_of o))) latch.1 ∙ variable-signed_as_twice next (new_variable m (variable next)) in
          absurd (omega (arith, here, high, next-within m valid set (w - first_latch m.circuit.aig) latch.0 place.there)))
      | inr member ↦ absurd (both_ways (has m.set w) other ((has_iff_contains m.set w).1 member))
    ]
  ]

  copy-one : (v w : ℕ) → has m.set v ≡ true → has m.set w ≡ true → copy_variable m v ≡ copy_variable m w → v ≡ w
  copy-one v w pv pw same = same-rank (has m.set) v w pv pw (omega (arith, same, copy_variable-is m v, copy_variable-is m w))

  -- a literal that copies read as that of a copy
  record High (lit : ℕ) : Type 0 where
    member : has m.set (variable lit) ≡ true
    place : variable (advanced_literal m lit) ≡ copy_variable m (variable lit)
    exact : advanced m (variable lit) ≡ 2 * copy_variable m (variable lit)

  high-literal : (lit : ℕ) → IsLatchOrIn m.circuit.aig m.set (variable lit) → copies_start m ≤ variable (advanced_literal m lit) → High lit
  high-literal lit source high =
      let same : variable (advanced_literal m lit) ≡ variable (advanced m (variable lit)) = variable-signed_as lit (advanced m (variable lit)) in
      let here = high-member (variable lit) source (omega (arith, same, high)) in
      record { member = here.0; place = same ∙ ap variable here.1 ∙ omega arith; exact = here.1 }

  high-one : (a b : ℕ) → High a → High b → advanced_literal m a ≡ advanced_literal m b → a ≡ b
  high-one a b ha hb same =
      let vars : copy_variable m (variable a) ≡ copy_variable m (variable b) = sym ha.place ∙ ap variable same ∙ hb.place in
      let one : variable a ≡ variable b = copy-one (variable a) (variable b) ha.member hb.member vars in
      omega (arith, same, ha.exact, hb.exact, vars, one)

  -- a copy that isn't low reads copies
  record HighPair (v : ℕ) (own : Inner v) : Type 0 where
    first : High own.gate.rhs0
    second : High own.gate.rhs1

  high-pair : (v : ℕ) (own : Inner v) (gate : Gate) → gate ≡ copy_for m v → copies_start m ≤ variable gate.rhs1 → HighPair v own
  high-pair v own gate at high =
      let a : ℕ = advanced_literal m own.gate.rhs0 in
      let b : ℕ = advanced_literal m own.gate.rhs1 in
      let low : gate.rhs1 ≡ (gate_of a b).rhs1 = ap (λ (g : Gate). g.rhs1) (at ∙ own.made) in
      record {
        first = high-literal own.gate.rhs0 own.first (high-first a b (omega (arith, low, high)));
        second = high-literal own.gate.rhs1 own.second (high-second a b (omega (arith, low, high)));
      }
    where
      high-first : (a b : ℕ) → copies_start m ≤ variable (gate_of a b).rhs1 → copies_start m ≤ variable a
      high-first a b h = omega arith

      high-second : (a b : ℕ) → copies_start m ≤ variable (gate_of a b).rhs1 → copies_start m ≤ variable b
      high-second a b h = omega arith

  -- an outside gate reads no copy
  outer-low : (v : ℕ) (own : Outer v) (gate : Gate) → gate ≡ gate_for m v → variable gate.rhs1 < copies_start m
  outer-low v own gate at =
      let a : ℕ = moved_literal m own.gate.rhs0 in
      let b : ℕ = moved_literal m own.gate.rhs1 in
      let low : gate.rhs1 ≡ (gate_of a b).rhs1 = ap (λ (g : Gate). g.rhs1) (at ∙ own.made) in
      let below : variable a < copies_start m = omega (arith, variable-signed_as_twice own.gate.rhs0 (new_variable m (variable own.gate.rhs0)), spot-below m set (variable own.gate.rhs0) own.first) in
      omega (arith, low, below)

  module _ (normalised : IsNormalised m.held m.circuit) (lows : AreLowNormalised (moved_graph m) (count_below (is_outside m) (variables_end m.circuit.aig))) where
    low-is : first_gate (moved_graph m) + count_below (is_outside m) (variables_end m.circuit.aig) ≡ copies_start m
    low-is = omega (arith, moved-first_gate m, copies_start-is m)

    outer-plain : (v : ℕ) → Outer v → IsPlain (gate_for m v)
    outer-plain v own =
        let plain : IsPlain own.gate = normalised.plain (v - first_gate m.circuit.aig) own.gate own.there in
        let x : ℕ = variable own.gate.rhs0 in
        let y : ℕ = variable own.gate.rhs1 in
        let at_x : variable (moved_literal m own.gate.rhs0) ≡ new_variable m x = variable-signed_as_twice own.gate.rhs0 (new_variable m x) in
        let at_y : variable (moved_literal m own.gate.rhs1) ≡ new_variable m y = variable-signed_as_twice own.gate.rhs1 (new_variable m y) in
        subst (λ (g : Gate). IsPlain g) (sym own.made)
        (plain-of (moved_literal m own.gate.rhs0) (moved_literal m own.gate.rhs1)
        (omega (arith, at_x, spot-constant m set x own.first (omega (arith, plain.apart))))
        (omega (arith, at_y, spot-constant m set y own.second (omega (arith, plain.constant))))
        (λ same. absurd (omega (arith, plain.apart, spot-one m set x y own.first own.second (sym at_x ∙ same ∙ at_y)))))

    inner-plain : (v : ℕ) (own : Inner v) → HighPair v own → IsPlain (copy_for m v)
    inner-plain v own high =
        let plain : IsPlain own.gate = normalised.plain (v - first_gate m.circuit.aig) own.gate own.there in
        let x : ℕ = variable own.gate.rhs0 in
        let y : ℕ = variable own.gate.rhs1 in
        subst (λ (g : Gate). IsPlain g) (sym own.made)
        (plain-of (advanced_literal m own.gate.rhs0) (advanced_literal m own.gate.rhs1)
        (omega (arith, high.first.place, copy_variable-is m x, copies_start-is m, moved-first_gate m))
        (omega (arith, high.second.place, copy_variable-is m y, copies_start-is m, moved-first_gate m))
        (λ same. absurd (omega (arith, plain.apart, copy-one x y high.first.member high.second.member (sym high.first.place ∙ same ∙ high.second.place)))))

    -- each gate of a moved normalised circuit is plain, if the low copies are normalised
    pub moved-plain : (k : ℕ) (gate : Gate) → slice_get (moved_graph m).gates k ≡ Some gate → IsPlain gate
    moved-plain k gate there = elim (gate_source m set k gate there) [
      | from_outside v ranks at ↦ subst (λ (g : Gate). IsPlain g) (sym at) (outer-plain v (outer v ranks.below ranks.passes))
      | from_member v j ranks place at ↦ elim (cases_lt (variable gate.rhs1) (copies_start m)) [
        | inl low ↦ lows.plain k gate (omega (arith, place)) there (omega (arith, low, low-is))
        | inr high ↦ (
            let own : Inner v = inner v ranks.passes in
            subst (λ (g : Gate). IsPlain g) (sym at) (inner-plain v own (high-pair v own gate at high)))
      ]
    ]

    outer-one : (v w : ℕ) → (own : Outer v) → (other : Outer w) → gate_for m v ≡ gate_for m w → v ≡ w
    outer-one v w own other same =
        let one : own.gate ≡ other.gate = pair-one (moved_literal m) own.gate other.gate own.at.ordered other.at.ordered
        (literal-one m set own.gate.rhs0 other.gate.rhs0 own.first other.first)
        (literal-one m set own.gate.rhs1 other.gate.rhs1 own.second other.second)
        (literal-one m set own.gate.rhs0 other.gate.rhs1 own.first other.second)
        (literal-one m set own.gate.rhs1 other.gate.rhs0 own.second other.first)
        (sym own.made ∙ same ∙ other.made) in
        let places : v - first_gate m.circuit.aig ≡ w - first_gate m.circuit.aig =
        normalised.pairs (v - first_gate m.circuit.aig) (w - first_gate m.circuit.aig) own.gate own.there (other.there ∙ ap (λ (g : Gate). Some g) (sym one)) in
        omega (arith, places, own.from, other.from)

    inner-one : (v w : ℕ) → (own : Inner v) → (other : Inner w) → HighPair v own → HighPair w other → copy_for m v ≡ copy_for m w → v ≡ w
    inner-one v w own other high higher same =
        let one : own.gate ≡ other.gate = pair-one (advanced_literal m) own.gate other.gate own.at.ordered other.at.ordered
        (high-one own.gate.rhs0 other.gate.rhs0 high.first higher.first)
        (high-one own.gate.rhs1 other.gate.rhs1 high.second higher.second)
        (high-one own.gate.rhs0 other.gate.rhs1 high.first higher.second)
        (high-one own.gate.rhs1 other.gate.rhs0 high.second higher.first)
        (sym own.made ∙ same ∙ other.made) in
        let places : v - first_gate m.circuit.aig ≡ w - first_gate m.circuit.aig =
        normalised.pairs (v - first_gate m.circuit.aig) (w - first_gate m.circuit.aig) own.gate own.there (other.there ∙ ap (λ (g : Gate). Some g) (sym one)) in
        omega (arith, places, own.from, other.from)

    -- no two gates of a moved normalised circuit have equal literals, if the low copies are
    -- normalised
    pub moved-pairs : (i k : ℕ) (gate : Gate) → slice_get (moved_graph m).gates i ≡ Some gate → slice_get (moved_graph m).gates k ≡ Some gate → i ≡ k
    moved-pairs i k gate e f = elim (gate_source m set i gate e) [
      | from_outside v ranks at ↦ elim (gate_source m set k gate f) [
        | from_outside w ranks2 at2 ↦ (
            let one : v ≡ w = outer-one v w (outer v ranks.below ranks.passes) (outer w ranks2.below ranks2.passes) (sym at ∙ at2) in
            sym ranks.rank ∙ ap (count_below (is_outside m)) one ∙ ranks2.rank)
        | from_member w j ranks2 place at2 ↦
            lows.pairs i k gate (omega (arith, place)) e f (omega (arith, low-is, outer-low v (outer v ranks.below ranks.passes) gate at))
      ]
      | from_member v j ranks place at ↦ elim (gate_source m set k gate f) [
        | from_outside w ranks2 at2 ↦
            sym (lows.pairs k i gate (omega (arith, place)) f e (omega (arith, low-is, outer-low w (outer w ranks2.below ranks2.passes) gate at2)))
        | from_member w l ranks2 place2 at2 ↦ elim (cases_lt (variable gate.rhs1) (copies_start m)) [
          | inl low ↦ lows.pairs i k gate (omega (arith, place2)) e f (omega (arith, low, low-is))
          | inr high ↦ (
              let own : Inner v = inner v ranks.passes in
              let other : Inner w = inner w ranks2.passes in
              let one : v ≡ w = inner-one v w own other (high-pair v own gate at high) (high-pair w other gate at2 high) (sym at ∙ at2) in
              let rank : j ≡ l = sym ranks.rank ∙ ap (count_below (has m.set)) one ∙ ranks2.rank in
              omega (arith, place, place2, rank))
        ]
      ]
    ]
