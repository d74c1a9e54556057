-- The levels in a moved graph. What is read from outside the set has at most the level that it had,
-- a member's copy at most the member's arrival.
use Rattle.std.proofs.Common.{ℕ, ◌+◌, ◌-◌, ◌*◌, ◌<◌, ◌≤◌, ◌≡◌, ◌∙◌, inl, inr, suc, zero, List, max, get_or, Bool, true, false, cond, Option, Some, None, refl, sym, ap, subst, arith}
use Rattle.std.specs.List.{All}
use Rattle.std.proofs.lemmas.Bool.{cases_Bool}
use Rattle.std.proofs.lemmas.List.Elements.{All-map}
use Rattle.aig_graph.specs.declared.graph.Gate.{Gate}
use Rattle.aig_graph.specs.declared.graph.Latch.{Latch}
use Rattle.aig_graph.specs.Border.{is_read}
use Rattle.aig_graph.specs.Building.{gate_of}
use Rattle.aig_graph.specs.Circuits.{IsNetlist}
use Rattle.aig_graph.specs.Closed.{IsClosedSet, IsLatchOrIn}
use Rattle.aig_graph.specs.Folding.{fold_step, fold_to_depth, fold_gates}
use Rattle.aig_graph.specs.Graph.{Graph, IsGateAt, IsGraph, variable, first_gate, first_latch, gate_at, latch_at, variables_end}
use Rattle.aig_graph.specs.Move.{Move}
use Rattle.aig_graph.specs.Streams.{property_literals}
use Rattle.aig_graph.proofs.FoldingLaws.{fold_gates-leaf, gate_at-before, gate_at-first_gate, gate_at-is}
use Rattle.aig_graph.proofs.KindLaws.{LatchPlace, GatePlace, gate_place, is_constant, is_gate, is_input, is_latch, kind_of, latch_at-first_latch, latch_place}
use Rattle.aig_graph.proofs.SearchLaws.{has_iff_contains}
use Rattle.aig_graph.proofs.SignLaws.{variable-signed_as, variable-signed_as_twice}
use Rattle.path_levels.specs.Arrivals.{ArriveWithin, IsClosedWithin, arrival, level_of_next, next_level}
use Rattle.path_levels.specs.Levels.{ground_level, level, levels, one_above}
use Rattle.path_levels.proofs.ArrivalLaws.{arrival-gate}
use Rattle.path_levels.proofs.LevelLaws.{level-gate}
use Rattle.rebuild.proofs.BorderLaws.{closed-passable, latched-cases, latched-latch, latched-member, member-gate, new_variable-latched, new_variable-leaf, new_variable-outside, outside_where, read-first, read-next, read-second}
use Rattle.rebuild.proofs.MovedLaws.{copies_start-is, copy_in, copy_variable-is, gate_in, gates_start-is, latch_source, moved-first_gate}
use Rattle.rebuild.proofs.ReadLaws.{IsReadable, all-readable, moved-literals}
use Rattle.rebuild.specs.Moved.{advanced, advanced_literal, copy_variable, gate_between, gates_start, is_latched, is_outside, latch_for, latch_from, moved_graph, moved_literal, moved_of, new_variable, next_of}
use Rattle.aig_graph.proofs.PlacesLaws.{count-lt}
use Rattle.aig_graph.specs.Counting.{count_below}
use Rattle.aig_graph.specs.Marking.{has}
use Rattle.retimed_circuits.proofs.GateLevelLaws.{gate_level-gate_of}
use Rattle.retimed_circuits.proofs.HighestLaws.{IsReadWithin, levels-most, read-within_levels}

-- the level of a variable, as far as this many gates on each way show it
abbrev shown_level : Graph → ℕ → ℕ → ℕ
shown_level g n v = fold_to_depth g ground_level one_above n v

-- no gate on a way shows none
shown-at_zero : (g : Graph) (v : ℕ) → shown_level g 0 v ≡ 0
unfolding fold_to_depth
shown-at_zero g v = refl

-- nor does what is no gate
shown-no_gate : (g : Graph) (n v : ℕ) → gate_at g v ≡ None → shown_level g n v ≡ 0
unfolding fold_to_depth
shown-no_gate g zero v none = refl
shown-no_gate g (suc n) v none = ap (fold_step ground_level one_above (fold_to_depth g ground_level one_above n) v) none

-- a gate is at most one above what its literals are at most
shown-gate : (g : Graph) (n v a b x y : ℕ) → gate_at g v ≡ Some (gate_of a b) → shown_level g n (variable a) ≤ x → shown_level g n (variable b) ≤ y → shown_level g (suc n) v ≤ suc (max x y)
unfolding fold_to_depth
shown-gate g n v a b x y there p q =
    let same : shown_level g (suc n) v ≡ suc (max (shown_level g n (variable a)) (shown_level g n (variable b))) =
    ap (fold_step ground_level one_above (fold_to_depth g ground_level one_above n) v) there ∙ gate_level-gate_of (shown_level g n) a b in
    omega (arith, same, p, q)

-- a level is shown by as many gates as there are variables up to its own
shown-whole : (g : Graph) (v : ℕ) → level g v ≡ shown_level g (suc v) v
unfolding level fold_gates
shown-whole g v = refl

-- a latch arrives at the level of its next literal
arrival-latch : (g : Graph) (v : ℕ) (latch : Latch) → latch_at g v ≡ Some latch → arrival g v ≡ level g (variable latch.next)
unfolding arrival
arrival-latch g v latch there =
    let place : LatchPlace g v latch = latch_place g v latch there in
    fold_gates-leaf g (next_level g) one_above v (gate_at-before g v place.below) ∙ ap (level_of_next g) there

module _ (m : Move) (valid : IsGraph m.circuit.aig) (set : IsClosedSet m.circuit.aig m.held m.set) where
  -- what is read before the gates is on the ground
  ground : (n v : ℕ) → new_variable m v < gates_start m → shown_level (moved_graph m) n (new_variable m v) ≤ level m.circuit.aig v
  ground n v before =
      let none = gate_at-before (moved_graph m) (new_variable m v) (omega (arith, before, moved-first_gate m)) in
      omega (arith, shown-no_gate (moved_graph m) n (new_variable m v) none)

  at_leaf : (n v : ℕ) → v < first_latch m.circuit.aig → shown_level (moved_graph m) n (new_variable m v) ≤ level m.circuit.aig v
  at_leaf n v before = ground n v (omega (arith, before, new_variable-leaf m (closed-passable m set.closed) v before, gates_start-is m))

  at_latch : (n v : ℕ) → v < variables_end m.circuit.aig → is_latched m v ≡ true → shown_level (moved_graph m) n (new_variable m v) ≤ level m.circuit.aig v
  at_latch n v within kept =
      ground n v (omega (arith, new_variable-latched m (closed-passable m set.closed) v kept, gates_start-is m, count-lt (is_latched m) v (variables_end m.circuit.aig) within kept))

  -- the moved gate of one that is outside
  gate-outside : (v : ℕ) (gate : Gate) → gate_at m.circuit.aig v ≡ Some gate → has m.set v ≡ false
      → gate_at (moved_graph m) (new_variable m v) ≡ Some (gate_of (moved_literal m gate.rhs0) (moved_literal m gate.rhs1))
  gate-outside v gate here other =
      let place : GatePlace m.circuit.aig v gate = gate_place m.circuit.aig v gate here in
      let outer = outside_where m v place.from other in
      let there : new_variable m v ≡ first_gate (moved_graph m) + count_below (is_outside m) v = omega (arith, new_variable-outside m (closed-passable m set.closed) v outer, moved-first_gate m) in
      ap (gate_at (moved_graph m)) there
      ∙ gate_at-first_gate (moved_graph m) (count_below (is_outside m) v) ∙ gate_in m set v place.below outer
      ∙ ap (λ (o : Option Gate). Some (gate_between (moved_literal m) o)) here

  -- and that of a member's copy
  gate-copy : (v : ℕ) (gate : Gate) → gate_at m.circuit.aig v ≡ Some gate → has m.set v ≡ true
      → gate_at (moved_graph m) (copy_variable m v) ≡ Some (gate_of (advanced_literal m gate.rhs0) (advanced_literal m gate.rhs1))
  gate-copy v gate here member =
      let place : GatePlace m.circuit.aig v gate = gate_place m.circuit.aig v gate here in
      let rank : ℕ = count_below (is_outside m) (variables_end m.circuit.aig) + count_below (has m.set) v in
      let there : copy_variable m v ≡ first_gate (moved_graph m) + rank = omega (arith, copy_variable-is m v, copies_start-is m, moved-first_gate m) in
      ap (gate_at (moved_graph m)) there
      ∙ gate_at-first_gate (moved_graph m) rank ∙ copy_in m set v place.below member
      ∙ ap (λ (o : Option Gate). Some (gate_between (advanced_literal m) o)) here

  -- what is read from outside has at most the level that it had
  abbrev KeepsOutside : ℕ → Type 0
  KeepsOutside n = (v : ℕ) → v < variables_end m.circuit.aig → is_read m.circuit m.set v ≡ true → shown_level (moved_graph m) n (new_variable m v) ≤ level m.circuit.aig v

  moved_literal-level : (n : ℕ) → KeepsOutside n → (lit : ℕ) → variable lit < variables_end m.circuit.aig → is_read m.circuit m.set (variable lit) ≡ true
      → shown_level (moved_graph m) n (variable (moved_literal m lit)) ≤ level m.circuit.aig (variable lit)
  moved_literal-level n keeps lit within read =
      let same : shown_level (moved_graph m) n (variable (moved_literal m lit)) ≡ shown_level (moved_graph m) n (new_variable m (variable lit)) =
      ap (shown_level (moved_graph m) n) (variable-signed_as_twice lit (new_variable m (variable lit))) in
      omega (arith, same, keeps (variable lit) within read)

  -- a gate outside, if that holds of what it reads
  at_outside : (n v : ℕ) (gate : Gate) → KeepsOutside n → gate_at m.circuit.aig v ≡ Some gate → has m.set v ≡ false → shown_level (moved_graph m) (suc n) (new_variable m v) ≤ level m.circuit.aig v
  at_outside n v gate keeps here other =
      let place : GatePlace m.circuit.aig v gate = gate_place m.circuit.aig v gate here in
      let at : IsGateAt v gate = gate_at-is m.circuit.aig valid v gate here in
      let first = moved_literal-level n keeps gate.rhs0 (omega (arith, at.below, place.below)) (read-first m v gate here other) in
      let second = moved_literal-level n keeps gate.rhs1 (omega (arith, at.below, at.ordered, place.below)) (read-second m v gate here other) in
      let made = shown-gate (moved_graph m) n (new_variable m v) (moved_literal m gate.rhs0) (moved_literal m gate.rhs1) (level m.circuit.aig (variable gate.rhs0)) (level m.circuit.aig (variable gate.rhs1))
      (gate-outside v gate here other) first second in
      omega (arith, made, level-gate m.circuit.aig valid v gate here)

  keeps-outside : (n : ℕ) → KeepsOutside n
  keeps-outside zero v within read = omega (arith, shown-at_zero (moved_graph m) (new_variable m v))
  keeps-outside (suc n) v within read = elim (kind_of m.circuit.aig v within) [
    | is_constant e ↦ at_leaf (suc n) v (omega (arith, e))
    | is_input i less e ↦ at_leaf (suc n) v (omega (arith, less, e))
    | is_latch j latch there e ↦ at_latch (suc n) v within (latched-latch m v latch (ap (latch_at m.circuit.aig) e ∙ latch_at-first_latch m.circuit.aig j ∙ there) read)
    | is_gate k gate there e ↦ (
        let here : gate_at m.circuit.aig v ≡ Some gate = ap (gate_at m.circuit.aig) e ∙ gate_at-first_gate m.circuit.aig k ∙ there in
        elim (cases_Bool (has m.set v)) [
          | inl member ↦ at_latch (suc n) v within (latched-member m v gate here member read)
          | inr other ↦ at_outside n v gate (keeps-outside n) here other
        ])
  ]

  -- a member's copy has at most the member's arrival
  abbrev KeepsArrival : ℕ → Type 0
  KeepsArrival n = (v : ℕ) → has m.set v ≡ true → shown_level (moved_graph m) n (copy_variable m v) ≤ arrival m.circuit.aig v

  -- what a copy reads for a latch: the latch's next literal
  at_next : (n v : ℕ) (latch : Latch) → latch_at m.circuit.aig v ≡ Some latch → shown_level (moved_graph m) n (variable (moved_literal m latch.next)) ≤ arrival m.circuit.aig v
  at_next n v latch here =
      let place : LatchPlace m.circuit.aig v latch = latch_place m.circuit.aig v latch here in
      let j : ℕ = v - first_latch m.circuit.aig in
      omega (arith, arrival-latch m.circuit.aig v latch here, moved_literal-level n (keeps-outside n) latch.next (valid.latches j latch place.there) (read-next m j latch place.there))

  -- what a copy reads for a fan-in
  at_source : (n v : ℕ) → KeepsArrival n → IsLatchOrIn m.circuit.aig m.set v → shown_level (moved_graph m) n (variable (advanced m v)) ≤ arrival m.circuit.aig v
  unfolding advanced
  at_source n v keeps source = elim (cases_Bool (has m.set v)) [
    | inl inside ↦ (
        let here : advanced m v ≡ 2 * copy_variable m v = ap (λ (b : Bool). cond b (2 * copy_variable m v) (moved_literal m (next_of (latch_at m.circuit.aig v)))) inside in
        let copy : variable (advanced m v) ≡ copy_variable m v = omega (arith, here) in
        let same = ap (shown_level (moved_graph m) n) copy in
        omega (arith, same, keeps v inside))
    | inr other ↦ elim source [
      | inl latch ↦ (
          let here : advanced m v ≡ moved_literal m latch.0.next =
          ap (λ (b : Bool). cond b (2 * copy_variable m v) (moved_literal m (next_of (latch_at m.circuit.aig v)))) other ∙ ap (λ (o : Option Latch). moved_literal m (next_of o)) latch.1 in
          let same = ap (λ (lit : ℕ). shown_level (moved_graph m) n (variable lit)) here in
          omega (arith, same, at_next n v latch.0 latch.1))
      | inr inside ↦ (let listed : has m.set v ≡ true = (has_iff_contains m.set v).1 inside in let clash : false ≡ true = sym other ∙ listed in absurd (cc))
    ]
  ]

  advanced_literal-level : (n lit : ℕ) → KeepsArrival n → IsLatchOrIn m.circuit.aig m.set (variable lit) → shown_level (moved_graph m) n (variable (advanced_literal m lit)) ≤ arrival m.circuit.aig (variable lit)
  advanced_literal-level n lit keeps source =
      let same = ap (shown_level (moved_graph m) n) (variable-signed_as lit (advanced m (variable lit))) in
      omega (arith, same, at_source n (variable lit) keeps source)

  keeps-arrival : (n : ℕ) → KeepsArrival n
  keeps-arrival zero v member = omega (arith, shown-at_zero (moved_graph m) (copy_variable m v))
  keeps-arrival (suc n) v member =
      let there = member-gate m (closed-passable m set.closed) v member in
      let gate : Gate = there.0 in
      let sources = set.closed.fan_ins v gate ((has_iff_contains m.set v).0 member) there.1 in
      let first = advanced_literal-level n gate.rhs0 (keeps-arrival n) sources.0 in
      let second = advanced_literal-level n gate.rhs1 (keeps-arrival n) sources.1 in
      let made = shown-gate (moved_graph m) n (copy_variable m v) (advanced_literal m gate.rhs0) (advanced_literal m gate.rhs1) (arrival m.circuit.aig (variable gate.rhs0)) (arrival m.circuit.aig (variable gate.rhs1))
      (gate-copy v gate there.1 member) first second in
      omega (arith, made, arrival-gate m.circuit.aig valid v gate there.1)

  -- what is read in the place of a literal from outside
  level-moved_literal : (lit : ℕ) → IsReadable m lit → level (moved_graph m) (variable (moved_literal m lit)) ≤ level m.circuit.aig (variable lit)
  level-moved_literal lit readable =
      let v : ℕ = variable (moved_literal m lit) in
      omega (arith, shown-whole (moved_graph m) v, moved_literal-level (suc v) (keeps-outside (suc v)) lit readable.within readable.read)

  -- a member's copy
  level-copy : (v : ℕ) → has m.set v ≡ true → level (moved_graph m) (copy_variable m v) ≤ arrival m.circuit.aig v
  level-copy v member = omega (arith, shown-whole (moved_graph m) (copy_variable m v), keeps-arrival (suc (copy_variable m v)) v member)

  -- what the latch of a variable reads: a next literal as before, or a copy that arrives within the
  -- bound
  level-next : (bound v : ℕ) → ArriveWithin bound m.circuit.aig m.set → is_latched m v ≡ true → level (moved_graph m) (variable (latch_for m v).next) ≤ max bound (levels m.circuit)
  level-next bound v within kept = elim (latched-cases m v kept) [
    | inl old ↦ (
        let place : LatchPlace m.circuit.aig v old.0 = latch_place m.circuit.aig v old.0 old.1 in
        let j : ℕ = v - first_latch m.circuit.aig in
        let next : (latch_for m v).next ≡ moved_literal m old.0.next = ap (λ (o : Option Latch). (latch_from m v o).next) old.1 in
        let same = ap (λ (lit : ℕ). level (moved_graph m) (variable lit)) next in
        let moved = level-moved_literal old.0.next (record { read = read-next m j old.0 place.there; within = valid.latches j old.0 place.there }) in
        omega (arith, same, moved, (read-within_levels m.circuit).next j old.0 place.there))
    | inr new ↦ (
        let next : (latch_for m v).next ≡ 2 * copy_variable m v = ap (λ (o : Option Latch). (latch_from m v o).next) new.0 in
        let copy : variable (latch_for m v).next ≡ copy_variable m v = omega (arith, next) in
        let same = ap (level (moved_graph m)) copy in
        omega (arith, same, level-copy v new.1, within v ((has_iff_contains m.set v).0 new.1)))
  ]

-- what a circuit reads whose latches have moved over gates that arrive within the bound
moved-within : (m : Move) → IsGraph m.circuit.aig → (bound : ℕ) → IsClosedWithin bound m.circuit.aig m.held m.set → IsNetlist m.circuit → IsReadWithin (max bound (levels m.circuit)) (moved_of m)
moved-within m valid bound set netlist =
    let most : ℕ = max bound (levels m.circuit) in
    let P : ℕ → Type 0 = λ lit. level (moved_graph m) (variable lit) ≤ most in
    let each : All (λ lit. P (moved_literal m lit)) (property_literals m.circuit.props) = λ k d h.
    omega (
      arith,
      level-moved_literal m valid set.closed (get_or (property_literals m.circuit.props) k d) (all-readable m netlist k d h),
      (read-within_levels m.circuit).properties k d h,
    ) in
    record {
      next = λ k latch there.
          let from = latch_source m k latch there in
          subst (λ (x : Latch). P x.next) (sym from.2) (level-next m valid set.closed bound from.0 set.within from.1.passes);
      properties = subst (λ (lits : List ℕ). All P lits) (sym (moved-literals m)) (All-map P (moved_literal m) (property_literals m.circuit.props) each);
    }

-- latches that have moved over gates that arrive within the bound leave no path longer than the
-- bound, but for those that were there
pub moved-levels : (m : Move) → IsGraph m.circuit.aig → (bound : ℕ) → IsClosedWithin bound m.circuit.aig m.held m.set → IsNetlist m.circuit → levels (moved_of m) ≤ max bound (levels m.circuit)
moved-levels m valid bound set netlist = levels-most (max bound (levels m.circuit)) (moved_of m) (moved-within m valid bound set netlist)
