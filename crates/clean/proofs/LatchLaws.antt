-- The latches of a moved circuit are neither constant nor duplicates of earlier ones, if those of
-- the circuit aren't.
use Rattle.std.proofs.Common.{ℕ, ◌+◌, ◌-◌, ◌*◌, ◌<◌, ◌≤◌, ◌≡◌, ◌⊎◌, inl, inr, List, map, Bool, true, false, not, ◌||◌, ◌&&◌, nat_eq, Some, None, slice_get, arith, ap, sym, ◌∙◌, subst, Option}
use Rattle.std.proofs.lemmas.Bool.{cases_lt, cases_eq, and_parts, and_from, or_cases, or_left, or_right, eqb-true, eq-eqb, both_ways, not-true, false_from_ne_true}
use Rattle.std.proofs.lemmas.List.{length-map, get_or-map}
use Rattle.aig_graph.specs.declared.graph.Latch.{Latch}
use Rattle.aig_graph.specs.declared.graph.Reset.{Reset}
use Rattle.aig_graph.specs.Closed.{IsClosedSet}
use Rattle.aig_graph.specs.Graph.{Graph, IsGraph, variable, first_latch, variables_end, latch_at, is_free}
use Rattle.aig_graph.specs.Move.{Move}
use Rattle.aig_graph.proofs.KindLaws.{LatchPlace, latch_place}
use Rattle.aig_graph.proofs.SearchLaws.{has_iff_contains}
use Rattle.aig_graph.proofs.SignLaws.{variable-signed_as_twice}
use Rattle.aig_graph.specs.Counting.{count_below}
use Rattle.aig_graph.specs.Marking.{has}
use Rattle.aig_graph.proofs.PlacesLaws.{Ranks, count-le, count-lt}
use Rattle.cleaned_circuits.specs.Latches.{constant_of, is_constant_latch}
use Rattle.cleaned_circuits.proofs.LatchLaws.{constant-even}
use Rattle.rebuild.specs.Moved.{copies_start, copy_variable, is_latched, latch_for, latch_from, moved_graph, moved_held, moved_literal, new_variable}
use Rattle.rebuild.proofs.BorderLaws.{latched-cases, read-next}
use Rattle.rebuild.proofs.MovedLaws.{copies_start-is, copy_variable-is, gates_start-is, latch_source, moved-first_latch}
use Rattle.clean.specs.Normalised.{IsNormalised}
use Rattle.clean.proofs.SpotLaws.{Spot, latched-spot, literal-one, read-spot, same-rank, spot-below, spot-constant}
use Rattle.rebuild.proofs.BorderLaws.{closed-passable, new_variable-latched}

pub record ConstantLatchParts (g : Graph) (held : List ℕ) (j : ℕ) (latch : Latch) : Type 0 where
  -- its reset is known
  pub known : is_free latch ≡ false
  -- it isn't held
  pub moves : has held j ≡ false
  -- it reads itself or the constant of its reset
  pub next : (latch.next ≡ 2 * (first_latch g + j)) ⊎ (latch.next ≡ constant_of latch.reset)

-- a latch that is constant by the test is known, not held, and reads itself or the constant of its
-- reset
pub constant_latch-parts : (g : Graph) (held : List ℕ) (j : ℕ) (latch : Latch) → is_constant_latch g held j latch ≡ true → ConstantLatchParts g held j latch
constant_latch-parts g held j latch e =
    let parts = and_parts (not (is_free latch) && not (has held j)) (nat_eq latch.next (2 * (first_latch g + j)) || nat_eq latch.next (constant_of latch.reset)) e in
    let first = and_parts (not (is_free latch)) (not (has held j)) parts.0 in
    record {
      known = not-true (is_free latch) first.0;
      moves = not-true (has held j) first.1;
      next = elim (or_cases (nat_eq latch.next (2 * (first_latch g + j))) (nat_eq latch.next (constant_of latch.reset)) parts.1) [
        | inl own ↦ inl (eqb-true latch.next (2 * (first_latch g + j)) own)
        | inr constant ↦ inr (eqb-true latch.next (constant_of latch.reset) constant)
      ];
    }

-- a known latch that isn't held and reads itself or the constant of its reset is constant by the
-- test
pub constant_latch-from : (g : Graph) (held : List ℕ) (j : ℕ) (latch : Latch) → ConstantLatchParts g held j latch → is_constant_latch g held j latch ≡ true
constant_latch-from g held j latch parts =
    let own : Bool = nat_eq latch.next (2 * (first_latch g + j)) in
    let constant : Bool = nat_eq latch.next (constant_of latch.reset) in
    and_from (not (is_free latch) && not (has held j)) (own || constant)
    (and_from (not (is_free latch)) (not (has held j)) (ap not parts.known) (ap not parts.moves))
    (elim parts.next [
      | inl same ↦ or_left own constant (eq-eqb latch.next (2 * (first_latch g + j)) same)
      | inr same ↦ or_right own constant (eq-eqb latch.next (constant_of latch.reset) same)
    ])

latch-is : (a b : Latch) → a.next ≡ b.next → a.reset ≡ b.reset → a ≡ b
latch-is a b next reset =
    let one : ℕ → Latch = λ n. record { next = n; reset = a.reset } in
    let two : Reset → Latch = λ r. record { next = b.next; reset = r } in
    ap one next ∙ ap two reset

-- a latch that is held is held where it moved
pub held-moved : (m : Move) (j : ℕ) → has m.held j ≡ true → has (moved_held m) (count_below (is_latched m) (first_latch m.circuit.aig + j)) ≡ true
held-moved m j e =
    let f : ℕ → ℕ = λ i. count_below (is_latched m) (first_latch m.circuit.aig + i) in
    let member = (has_iff_contains m.held j).0 e in
    (has_iff_contains (map f m.held) (f j)).1 (member.0, omega (arith, member.1, length-map m.held f), get_or-map f m.held member.0 j (f j) member.1 ∙ ap f member.2)

module _ (m : Move) (valid : IsGraph m.circuit.aig) (set : IsClosedSet m.circuit.aig m.held m.set) where
  -- a latch of the moved circuit that was one before
  record Stays (k v : ℕ) (latch : Latch) : Type 0 where
    old : Latch
    place : LatchPlace m.circuit.aig v old
    next : latch.next ≡ moved_literal m old.next
    reset : latch.reset ≡ old.reset
    spot : Spot m set (variable old.next)

  stays_at : (k v : ℕ) (latch old : Latch) → latch_at m.circuit.aig v ≡ Some old → latch ≡ latch_for m v → Stays k v latch
  stays_at k v latch old e same =
      let place : LatchPlace m.circuit.aig v old = latch_place m.circuit.aig v old e in
      let j : ℕ = v - first_latch m.circuit.aig in
      record {
        old = old;
        place = place;
        next = ap (λ (l : Latch). l.next) same ∙ ap (λ (o : Option Latch). (latch_from m v o).next) e;
        reset = ap (λ (l : Latch). l.reset) same ∙ ap (λ (o : Option Latch). (latch_from m v o).reset) e;
        spot = read-spot m set (variable old.next) (valid.latches j old place.there) (read-next m j old place.there);
      }

  new-next : (v : ℕ) (latch : Latch) → latch_at m.circuit.aig v ≡ None → latch ≡ latch_for m v → latch.next ≡ 2 * copy_variable m v
  new-next v latch none same = ap (λ (l : Latch). l.next) same ∙ ap (λ (o : Option Latch). (latch_from m v o).next) none

  -- the next literal of a latch that stays is no copy
  stays-low : (k v : ℕ) (latch : Latch) → Stays k v latch → variable latch.next < copies_start m
  stays-low k v latch s =
      omega (arith, s.next, variable-signed_as_twice s.old.next (new_variable m (variable s.old.next)), spot-below m set (variable s.old.next) s.spot)

  -- its next literal is its own, or a constant, only if that was so before
  own-before : (k v : ℕ) (latch : Latch) (s : Stays k v latch) → v < variables_end m.circuit.aig → is_latched m v ≡ true → count_below (is_latched m) v ≡ k
      → latch.next ≡ 2 * (first_latch (moved_graph m) + k) → s.old.next ≡ 2 * (first_latch m.circuit.aig + (v - first_latch m.circuit.aig))
  own-before k v latch s within kept rank own =
      let here : new_variable m v ≡ first_latch m.circuit.aig + count_below (is_latched m) v = new_variable-latched m (closed-passable m set.closed) v kept in
      let twice : variable (2 * v) ≡ v = omega arith in
      let spot : Spot m set (variable (2 * v)) = subst (λ (w : ℕ). Spot m set w) (sym twice) (latched-spot m set v within kept) in
      let there : new_variable m (variable (2 * v)) ≡ new_variable m v = ap (new_variable m) twice in
      let same : moved_literal m s.old.next ≡ moved_literal m (2 * v) = omega (arith, s.next, own, here, there, rank, moved-first_latch m) in
      let one : s.old.next ≡ 2 * v = literal-one m set s.old.next (2 * v) s.spot spot same in
      omega (arith, one, s.place.from)

  constant-before : (k v : ℕ) (latch : Latch) (s : Stays k v latch) → latch.next ≡ constant_of latch.reset → s.old.next ≡ constant_of s.old.reset
  constant-before k v latch s constant =
      let same : constant_of latch.reset ≡ constant_of s.old.reset = ap constant_of s.reset in
      let bit : constant_of s.old.reset < 2 = constant-even s.old.reset in
      let zero_at : new_variable m (variable s.old.next) ≡ 0 = omega (arith, s.next, constant, same, bit) in
      elim (cases_eq (variable s.old.next) 0) [
        | inl none ↦ omega (arith, s.next, constant, same, zero_at, none)
        | inr some ↦ absurd (omega (arith, zero_at, spot-constant m set (variable s.old.next) s.spot (omega (arith, some))))
      ]

  free-same : (k v : ℕ) (latch : Latch) (s : Stays k v latch) → is_free latch ≡ is_free s.old
  free-same k v latch s =
      let with_reset : Reset → Latch = λ r. record { next = 0; reset = r } in
      ap (λ (r : Reset). is_free (with_reset r)) s.reset

  -- a latch that isn't held after the move wasn't before
  moves-before : (k v : ℕ) → first_latch m.circuit.aig ≤ v → count_below (is_latched m) v ≡ k → has (moved_held m) k ≡ false → has m.held (v - first_latch m.circuit.aig) ≡ false
  moves-before k v from rank moves = false_from_ne_true (has m.held (v - first_latch m.circuit.aig)) (λ held.
      let place : first_latch m.circuit.aig + (v - first_latch m.circuit.aig) ≡ v = omega (arith, from) in
      let there : has (moved_held m) (count_below (is_latched m) (first_latch m.circuit.aig + (v - first_latch m.circuit.aig))) ≡ true = held-moved m (v - first_latch m.circuit.aig) held in
      both_ways (has (moved_held m) k) moves (ap (has (moved_held m)) (sym (ap (count_below (is_latched m)) place ∙ rank)) ∙ there))

  module _ (normalised : IsNormalised m.held m.circuit) where
    -- no latch of a moved normalised circuit is constant
    pub moved-moving : (k : ℕ) (latch : Latch) → slice_get (moved_graph m).latches k ≡ Some latch → is_constant_latch (moved_graph m) (moved_held m) k latch ≡ false
    moved-moving k latch e = false_from_ne_true (is_constant_latch (moved_graph m) (moved_held m) k latch) (λ constant_latch.
        let parts : ConstantLatchParts (moved_graph m) (moved_held m) k latch = constant_latch-parts (moved_graph m) (moved_held m) k latch constant_latch in
        let from = latch_source m k latch e in
        let v : ℕ = from.0 in
        let ranks : Ranks (is_latched m) (variables_end m.circuit.aig) k v = from.1 in
        elim (latched-cases m v ranks.passes) [
          | inl found ↦ (
              let s : Stays k v latch = stays_at k v latch found.0 found.1 from.2 in
              let j : ℕ = v - first_latch m.circuit.aig in
              let before : ConstantLatchParts m.circuit.aig m.held j s.old = record {
                known = sym (free-same k v latch s) ∙ parts.known;
                moves = moves-before k v s.place.from ranks.rank parts.moves;
                next = elim parts.next [
                  | inl own ↦ inl (own-before k v latch s ranks.below ranks.passes ranks.rank own)
                  | inr constant ↦ inr (constant-before k v latch s constant)
                ];
              } in
              both_ways (is_constant_latch m.circuit.aig m.held j s.old) (normalised.moving j s.old s.place.there) (constant_latch-from m.circuit.aig m.held j s.old before))
          | inr new ↦ (
              let next : latch.next ≡ 2 * copy_variable m v = new-next v latch new.0 from.2 in
              let far : copies_start m ≤ copy_variable m v = omega (arith, copy_variable-is m v) in
              elim parts.next [
                | inl own ↦ omega (arith, next, own, far, copies_start-is m, gates_start-is m, moved-first_latch m, ranks.rank, count-lt (is_latched m) v (variables_end m.circuit.aig) ranks.below ranks.passes)
                | inr constant ↦ omega (arith, next, constant, far, copies_start-is m, gates_start-is m, constant-even latch.reset)
              ])
        ])

    -- a known latch of a moved normalised circuit that duplicates an earlier one is held
    pub moved-single : (i k : ℕ) (latch : Latch) → i < k → slice_get (moved_graph m).latches i ≡ Some latch → slice_get (moved_graph m).latches k ≡ Some latch → is_free latch ≡ false
        → has (moved_held m) k ≡ true
    moved-single i k latch less e f known =
        let one = latch_source m i latch e in
        let two = latch_source m k latch f in
        let v : ℕ = one.0 in
        let w : ℕ = two.0 in
        let first : Ranks (is_latched m) (variables_end m.circuit.aig) i v = one.1 in
        let second : Ranks (is_latched m) (variables_end m.circuit.aig) k w = two.1 in
        elim (latched-cases m v first.passes) [
          | inl found ↦ (
              let s : Stays i v latch = stays_at i v latch found.0 found.1 one.2 in
              elim (latched-cases m w second.passes) [
                | inl other ↦ (
                    let t : Stays k w latch = stays_at k w latch other.0 other.1 two.2 in
                    let same : s.old ≡ t.old = latch-is s.old t.old (literal-one m set s.old.next t.old.next s.spot t.spot (sym s.next ∙ t.next)) (sym s.reset ∙ t.reset) in
                    let earlier : v < w = before v w less first.rank second.rank in
                    let j : ℕ = w - first_latch m.circuit.aig in
                    let held : has m.held j ≡ true =
                    normalised.single (v - first_latch m.circuit.aig) j s.old (omega (arith, earlier, s.place.from)) s.place.there (t.place.there ∙ ap (λ (l : Latch). Some l) (sym same)) (sym (free-same i v latch s) ∙ known) in
                    let place : first_latch m.circuit.aig + j ≡ w = omega (arith, t.place.from) in
                    ap (has (moved_held m)) (sym (ap (count_below (is_latched m)) place ∙ second.rank)) ∙ held-moved m j held)
                | inr new ↦ absurd (omega (arith, new-next w latch new.0 two.2, stays-low i v latch s, copy_variable-is m w))
              ])
          | inr new ↦ elim (latched-cases m w second.passes) [
            | inl other ↦ absurd (omega (arith, new-next v latch new.0 one.2, stays-low k w latch (stays_at k w latch other.0 other.1 two.2), copy_variable-is m v))
            | inr newer ↦ (
                let copies : copy_variable m v ≡ copy_variable m w = omega (arith, new-next v latch new.0 one.2, new-next w latch newer.0 two.2) in
                let same : v ≡ w = same-rank (has m.set) v w new.1 newer.1 (omega (arith, copies, copy_variable-is m v, copy_variable-is m w)) in
                let ranks : i ≡ k = sym first.rank ∙ ap (count_below (is_latched m)) same ∙ second.rank in
                absurd (omega (arith, ranks, less)))
          ]
        ]
      where
        before : (v w : ℕ) → i < k → count_below (is_latched m) v ≡ i → count_below (is_latched m) w ≡ k → v < w
        before v w less first second = elim (cases_lt v w) [
          | inl earlier ↦ earlier
          | inr later ↦ absurd (omega (arith, less, first, second, count-le (is_latched m) w v later))
        ]
