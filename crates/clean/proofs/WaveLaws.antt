-- All of a moved circuit is reached, if all of the circuit is.
use Rattle.std.proofs.Common.{ℕ, ◌+◌, ◌-◌, ◌*◌, ◌<◌, ◌≤◌, ◌≡◌, inl, inr, List, length, map, Bool, true, false, not, ◌||◌, cond, Option, Some, None, is_some, get_or, refl, arith, ap, sym, ◌∙◌, subst}
use Rattle.std.specs.List.{All, Contains}
use Rattle.std.proofs.lemmas.Bool.{cases_Bool, cases_lt, and_parts, and_from, or_cases, or_left, or_right, both_ways, not-true, cond-true, cond-false, leb-true}
use Rattle.std.proofs.lemmas.Option.{same_Some, slice_get_within, slice_get-get_or, get_or_from_slice_get}
use Rattle.std.proofs.lemmas.List.{length-map, get_or-map}
use Rattle.std.proofs.lemmas.List.Elements.{Contains-get_or}
use Rattle.aig_graph.specs.declared.graph.Gate.{Gate}
use Rattle.aig_graph.specs.declared.graph.Latch.{Latch}
use Rattle.aig_graph.specs.Border.{in_border, is_gate_in, is_read}
use Rattle.aig_graph.specs.Building.{gate_of}
use Rattle.aig_graph.specs.Circuits.{IsNetlist}
use Rattle.aig_graph.specs.Closed.{IsClosedSet, MayMoveOrIn, RestsOn, is_held}
use Rattle.aig_graph.specs.Graph.{IsGraph, IsGateAt, variable, first_latch, first_gate, variables_end, latch_at, gate_at, is_free, is_known, is_free_latch}
use Rattle.aig_graph.specs.Move.{Move}
use Rattle.aig_graph.specs.Streams.{property_literals}
use Rattle.aig_graph.proofs.ClosedLaws.{rests-from_closed}
use Rattle.aig_graph.proofs.FoldingLaws.{gate_at-first_gate, gate_at-is}
use Rattle.aig_graph.proofs.KindLaws.{GatePlace, LatchPlace, element, gate_place, is_constant, is_gate, is_input, is_latch, kind_of, latch_at-first_latch, latch_at-gates, latch_place}
use Rattle.aig_graph.proofs.PropsLaws.{literals_within}
use Rattle.aig_graph.proofs.SearchLaws.{has_iff_contains}
use Rattle.aig_graph.proofs.SignLaws.{variable-signed_as, variable-signed_as_twice}
use Rattle.aig_graph.specs.Counting.{count_below}
use Rattle.aig_graph.specs.Marking.{has}
use Rattle.aig_graph.proofs.PlacesLaws.{Ranks}
use Rattle.cleaned_circuits.specs.Reached.{stays, HoldsReads}
use Rattle.cleaned_circuits.proofs.TrimmedLaws.{stays-past, stays-low, stays-reached}
use Rattle.rebuild.specs.Moved.{advanced, advanced_literal, copy_for, copy_variable, gate_between, gate_for, is_latched, is_outside, latch_for, latch_from, moved_graph, moved_held, moved_literal, moved_props, new_variable, next_of}
use Rattle.rebuild.proofs.BorderLaws.{closed-passable, latched-latch, latched-member, latched_where_free, member-gate, new_variable-latched, new_variable-outside, outside_parts, outside_where, read-first, read-next, read-property, read-second}
use Rattle.rebuild.proofs.MovedLaws.{copies_start-is, copy_in, copy_variable-is, from_member, from_outside, gate_in, gate_source, gates_start-is, latch_in, latch_source, moved-first_gate, moved-first_latch}
use Rattle.rebuild.proofs.ReadLaws.{moved-literals}
use Rattle.clean.specs.Normalised.{IsNormalised}
use Rattle.clean.proofs.ReachLaws.{by_latch, by_outside, by_property, reader_of}

of_member : (P : ℕ → Type 0) (f : ℕ → ℕ) (xs : List ℕ) → All P (map f xs) → (x : ℕ) → Contains xs x → P (f x)
of_member P f xs all x (k, h, e) =
    let long : length (map f xs) ≡ length xs = length-map xs f in
    let there : get_or (map f xs) k 0 ≡ f (get_or xs k x) = get_or-map f xs k x 0 h in
    subst P (there ∙ ap f e) (all k 0 (omega (arith, long)))

-- what holds of the variables of both literals of a gate holds of those that it was made of
of_both : (P : ℕ → Type 0) (a b : ℕ) → P (variable (gate_of a b).rhs0) → P (variable (gate_of a b).rhs1) → P (variable a) × P (variable b)
of_both P a b first second = elim (cases_lt a b) [
  | inl less ↦ (
      let large : (gate_of a b).rhs0 ≡ b = omega arith in
      let small : (gate_of a b).rhs1 ≡ a = omega arith in
      (subst P (ap variable small) second, subst P (ap variable large) first))
  | inr more ↦ (
      let large : (gate_of a b).rhs0 ≡ a = omega arith in
      let small : (gate_of a b).rhs1 ≡ b = omega arith in
      (subst P (ap variable large) first, subst P (ap variable small) second))
]

-- where the variables of a circuit stand in the moved one
module _ (m : Move) (set : IsClosedSet m.circuit.aig m.held m.set) where
  -- at the new variable of what has a latch stands the latch that the move makes for it
  pub latch_at-new : (v : ℕ) → v < variables_end m.circuit.aig → is_latched m v ≡ true → latch_at (moved_graph m) (new_variable m v) ≡ Some (latch_for m v)
  latch_at-new v within kept =
      let place : new_variable m v ≡ first_latch (moved_graph m) + count_below (is_latched m) v =
      omega (arith, new_variable-latched m (closed-passable m set.closed) v kept, moved-first_latch m) in
      ap (latch_at (moved_graph m)) place ∙ latch_at-first_latch (moved_graph m) (count_below (is_latched m) v) ∙ latch_in m v within kept

  -- at the new variable of a gate outside the set stands that gate, reading the moved literals
  pub gate_at-new : (v : ℕ) → v < variables_end m.circuit.aig → is_outside m v ≡ true → gate_at (moved_graph m) (new_variable m v) ≡ Some (gate_for m v)
  gate_at-new v within outer =
      let place : new_variable m v ≡ first_gate (moved_graph m) + count_below (is_outside m) v =
      omega (arith, new_variable-outside m (closed-passable m set.closed) v outer, moved-first_gate m) in
      ap (gate_at (moved_graph m)) place ∙ gate_at-first_gate (moved_graph m) (count_below (is_outside m) v) ∙ gate_in m set v within outer

  -- at the copy's variable of a member of the set stands its copy
  pub gate_at-copy : (v : ℕ) → v < variables_end m.circuit.aig → has m.set v ≡ true → gate_at (moved_graph m) (copy_variable m v) ≡ Some (copy_for m v)
  gate_at-copy v within member =
      let k : ℕ = count_below (is_outside m) (variables_end m.circuit.aig) + count_below (has m.set) v in
      let place : copy_variable m v ≡ first_gate (moved_graph m) + k = omega (arith, copy_variable-is m v, copies_start-is m, moved-first_gate m) in
      ap (gate_at (moved_graph m)) place ∙ gate_at-first_gate (moved_graph m) k ∙ copy_in m set v within member

  -- a copy's variable is from the first latch on
  pub copy-from : (v : ℕ) → first_latch (moved_graph m) ≤ copy_variable m v
  copy-from v = omega (arith, copy_variable-is m v, copies_start-is m, gates_start-is m, moved-first_latch m)

  -- the new variable of what has a latch is from the first latch on
  pub latched-from : (v : ℕ) → is_latched m v ≡ true → first_latch (moved_graph m) ≤ new_variable m v
  latched-from v kept = omega (arith, new_variable-latched m (closed-passable m set.closed) v kept, moved-first_latch m)

  -- the new variable of a gate outside the set is from the first latch on
  pub outside-from : (v : ℕ) → is_outside m v ≡ true → first_latch (moved_graph m) ≤ new_variable m v
  outside-from v outer = omega (arith, new_variable-outside m (closed-passable m set.closed) v outer, gates_start-is m, moved-first_latch m)

-- a latch that may move is known
known-latch : (o : Option Latch) → is_known o ≡ true → (latch : Latch) × (o ≡ Some latch) × (is_free latch ≡ false)
known-latch None e = absurd (cc)
known-latch (Some latch) e = (latch, refl, not-true (is_free latch) e)

free-latch : (o : Option Latch) → is_free_latch o ≡ true → (latch : Latch) × (o ≡ Some latch) × (is_free latch ≡ true)
free-latch None e = absurd (cc)
free-latch (Some latch) e = (latch, refl, e)

some-latch : (o : Option Latch) → is_some o ≡ true → (latch : Latch) × (o ≡ Some latch)
some-latch None e = absurd (cc)
some-latch (Some latch) e = (latch, refl)

module _ (m : Move) (valid : IsGraph m.circuit.aig) (netlist : IsNetlist m.circuit) (in_range : All (λ j. j < length m.circuit.aig.latches) m.held)
    (set : IsClosedSet m.circuit.aig m.held m.set) (r : ℕ → Bool) (holds : HoldsReads (moved_graph m) (moved_props m) (moved_held m) r) where
  -- a literal of the moved circuit whose variable stays
  abbrev lives : ℕ → Bool
  lives v = stays (moved_graph m) r v

  abbrev wave_at : ℕ → Option Latch → Bool
  wave_at v None = cond (has m.set v) (r (copy_variable m v)) (lives (new_variable m v))
  wave_at v (Some latch) = cond (is_free latch) (lives (new_variable m v)) (lives (new_variable m (variable latch.next)))

  -- What is reached in the moved circuit for a variable. It is a free latch and a gate outside the
  -- set, the next literal of a known latch, the copy of a member.
  abbrev wave : ℕ → Bool
  wave v = wave_at v (latch_at m.circuit.aig v)

  wave-free : (v : ℕ) (latch : Latch) → latch_at m.circuit.aig v ≡ Some latch → is_free latch ≡ true → wave v ≡ lives (new_variable m v)
  wave-free v latch e free = ap (wave_at v) e ∙ cond-true (is_free latch) (lives (new_variable m v)) (lives (new_variable m (variable latch.next))) free

  wave-known : (v : ℕ) (latch : Latch) → latch_at m.circuit.aig v ≡ Some latch → is_free latch ≡ false → wave v ≡ lives (new_variable m (variable latch.next))
  wave-known v latch e known = ap (wave_at v) e ∙ cond-false (is_free latch) (lives (new_variable m v)) (lives (new_variable m (variable latch.next))) known

  wave-member : (v : ℕ) → latch_at m.circuit.aig v ≡ None → has m.set v ≡ true → wave v ≡ r (copy_variable m v)
  wave-member v none member = ap (wave_at v) none ∙ cond-true (has m.set v) (r (copy_variable m v)) (lives (new_variable m v)) member

  wave-outside : (v : ℕ) → latch_at m.circuit.aig v ≡ None → has m.set v ≡ false → wave v ≡ lives (new_variable m v)
  wave-outside v none other = ap (wave_at v) none ∙ cond-false (has m.set v) (r (copy_variable m v)) (lives (new_variable m v)) other

  lives-from : (v : ℕ) → first_latch (moved_graph m) ≤ v → lives v ≡ true → r v ≡ true
  lives-from v past e = sym (stays-past (moved_graph m) r v past) ∙ e

  -- a reached latch of the moved circuit hands on
  next-lives : (v : ℕ) → v < variables_end m.circuit.aig → is_latched m v ≡ true → r (new_variable m v) ≡ true → lives (variable (latch_for m v).next) ≡ true
  next-lives v within kept e = holds.latches (new_variable m v) (latch_for m v) (latch_at-new m set v within kept) e

  next-old : (v : ℕ) (latch : Latch) → latch_at m.circuit.aig v ≡ Some latch → variable (latch_for m v).next ≡ new_variable m (variable latch.next)
  next-old v latch e = ap (λ (o : Option Latch). variable (latch_from m v o).next) e ∙ variable-signed_as_twice latch.next (new_variable m (variable latch.next))

  next-new : (v : ℕ) → latch_at m.circuit.aig v ≡ None → variable (latch_for m v).next ≡ copy_variable m v
  next-new v none = ap (λ (o : Option Latch). variable (latch_from m v o).next) none ∙ omega arith

  -- what is read in the moved circuit in the place of a variable, hands on to what the variable
  -- stands for
  hand_on : (w : ℕ) → w < variables_end m.circuit.aig → is_read m.circuit m.set w ≡ true → lives (new_variable m w) ≡ true → stays m.circuit.aig wave w ≡ true
  hand_on w within read e = elim (kind_of m.circuit.aig w within) [
    | is_constant same ↦ stays-low m.circuit.aig wave w (omega arith)
    | is_input i h same ↦ stays-low m.circuit.aig wave w (omega arith)
    | is_latch j latch there same ↦ (
        let here : latch_at m.circuit.aig w ≡ Some latch = ap (latch_at m.circuit.aig) same ∙ latch_at-first_latch m.circuit.aig j ∙ there in
        let kept : is_latched m w ≡ true = latched-latch m w latch here read in
        stays-reached m.circuit.aig wave w (elim (cases_Bool (is_free latch)) [
          | inl free ↦ wave-free w latch here free ∙ e
          | inr known ↦ wave-known w latch here known ∙ ap lives (sym (next-old w latch here))
              ∙ next-lives w within kept (lives-from (new_variable m w) (latched-from m set w kept) e)
        ]))
    | is_gate k gate there same ↦ (
        let here : gate_at m.circuit.aig w ≡ Some gate = ap (gate_at m.circuit.aig) same ∙ gate_at-first_gate m.circuit.aig k ∙ there in
        let none : latch_at m.circuit.aig w ≡ None = latch_at-gates m.circuit.aig w (omega arith) in
        stays-reached m.circuit.aig wave w (elim (cases_Bool (has m.set w)) [
          | inl member ↦ (
              let kept : is_latched m w ≡ true = latched-member m w gate here member read in
              wave-member w none member ∙ lives-from (copy_variable m w) (copy-from m set w)
              (ap lives (sym (next-new w none)) ∙ next-lives w within kept (lives-from (new_variable m w) (latched-from m set w kept) e)))
          | inr other ↦ wave-outside w none other ∙ e
        ]))
  ]

  -- a held latch has a latch
  held-latched : (v : ℕ) (latch : Latch) → latch_at m.circuit.aig v ≡ Some latch → is_held m.circuit.aig m.held v ≡ true → is_latched m v ≡ true
  unfolding is_latched in_border
  held-latched v latch e held = elim (cases_Bool (is_free latch)) [
    | inl free ↦ latched_where_free m v latch e free
    | inr known ↦ or_right (is_free_latch (latch_at m.circuit.aig v)) (in_border m v)
        (and_from (is_known (latch_at m.circuit.aig v) || is_gate_in m.circuit.aig m.set v) (is_held m.circuit.aig m.held v || is_read m.circuit m.set v)
        (or_left (is_known (latch_at m.circuit.aig v)) (is_gate_in m.circuit.aig m.set v) (ap is_known e ∙ ap not known))
        (or_left (is_held m.circuit.aig m.held v) (is_read m.circuit m.set v) held))
  ]

  -- and is reached
  held-reached : (j : ℕ) → Contains m.held j → is_latched m (first_latch m.circuit.aig + j) ≡ true → r (new_variable m (first_latch m.circuit.aig + j)) ≡ true
  held-reached j member kept =
      let v : ℕ = first_latch m.circuit.aig + j in
      let place : first_latch (moved_graph m) + count_below (is_latched m) v ≡ new_variable m v =
      omega (arith, new_variable-latched m (closed-passable m set.closed) v kept, moved-first_latch m) in
      ap r (sym place) ∙ of_member (λ k. r (first_latch (moved_graph m) + k) ≡ true) (λ i. count_below (is_latched m) (first_latch m.circuit.aig + i)) m.held holds.all_held j member

  wave-held : (j : ℕ) → Contains m.held j → j < length m.circuit.aig.latches → wave (first_latch m.circuit.aig + j) ≡ true
  wave-held j member below =
      let v : ℕ = first_latch m.circuit.aig + j in
      let there = element m.circuit.aig.latches j below in
      let here : latch_at m.circuit.aig v ≡ Some there.0 = latch_at-first_latch m.circuit.aig j ∙ there.1 in
      let place : v - first_latch m.circuit.aig ≡ j = omega arith in
      let held : is_held m.circuit.aig m.held v ≡ true =
      and_from (has m.held (v - first_latch m.circuit.aig)) (is_some (latch_at m.circuit.aig v)) (ap (has m.held) place ∙ (has_iff_contains m.held j).1 member) (ap is_some here) in
      let kept : is_latched m v ≡ true = held-latched v there.0 here held in
      let reached : r (new_variable m v) ≡ true = held-reached j member kept in
      elim (cases_Bool (is_free there.0)) [
        | inl free ↦ wave-free v there.0 here free ∙ stays-reached (moved_graph m) r (new_variable m v) reached
        | inr known ↦ wave-known v there.0 here known ∙ ap lives (sym (next-old v there.0 here)) ∙ next-lives v (omega arith) kept reached
      ]

  -- a gate outside the set hands on
  outside-lives : (v : ℕ) (gate : Gate) → gate_at m.circuit.aig v ≡ Some gate → has m.set v ≡ false → r (new_variable m v) ≡ true
      → (lives (new_variable m (variable gate.rhs0)) ≡ true) × (lives (new_variable m (variable gate.rhs1)) ≡ true)
  outside-lives v gate e other told =
      let place : GatePlace m.circuit.aig v gate = gate_place m.circuit.aig v gate e in
      let outer : is_outside m v ≡ true = outside_where m v place.from other in
      let same : gate_for m v ≡ gate_of (moved_literal m gate.rhs0) (moved_literal m gate.rhs1) = ap (gate_between (moved_literal m)) e in
      let both = holds.gates (new_variable m v) (gate_of (moved_literal m gate.rhs0) (moved_literal m gate.rhs1)) (gate_at-new m set v place.below outer ∙ ap (λ (x : Gate). Some x) same) told in
      let each = of_both (λ v. lives v ≡ true) (moved_literal m gate.rhs0) (moved_literal m gate.rhs1) both.0 both.1 in (
        ap lives (sym (variable-signed_as_twice gate.rhs0 (new_variable m (variable gate.rhs0)))) ∙ each.0,
        ap lives (sym (variable-signed_as_twice gate.rhs1 (new_variable m (variable gate.rhs1)))) ∙ each.1,
      )

  -- so does a copy
  copy-lives : (v : ℕ) (gate : Gate) → gate_at m.circuit.aig v ≡ Some gate → has m.set v ≡ true → r (copy_variable m v) ≡ true
      → (lives (variable (advanced m (variable gate.rhs0))) ≡ true) × (lives (variable (advanced m (variable gate.rhs1))) ≡ true)
  copy-lives v gate e member told =
      let place : GatePlace m.circuit.aig v gate = gate_place m.circuit.aig v gate e in
      let same : copy_for m v ≡ gate_of (advanced_literal m gate.rhs0) (advanced_literal m gate.rhs1) = ap (gate_between (advanced_literal m)) e in
      let both = holds.gates (copy_variable m v) (gate_of (advanced_literal m gate.rhs0) (advanced_literal m gate.rhs1)) (gate_at-copy m set v place.below member ∙ ap (λ (x : Gate). Some x) same) told in
      let each = of_both (λ v. lives v ≡ true) (advanced_literal m gate.rhs0) (advanced_literal m gate.rhs1) both.0 both.1 in (
        ap lives (sym (variable-signed_as gate.rhs0 (advanced m (variable gate.rhs0)))) ∙ each.0,
        ap lives (sym (variable-signed_as gate.rhs1 (advanced m (variable gate.rhs1)))) ∙ each.1,
      )

  -- what a copy reads, hands on to what the fan-in stands for
  hand_up : (w : ℕ) → MayMoveOrIn m.circuit.aig m.held m.set w → lives (variable (advanced m w)) ≡ true → stays m.circuit.aig wave w ≡ true
  unfolding advanced
  hand_up w source e = elim (cases_Bool (has m.set w)) [
    | inl member ↦ (
        let there = member-gate m (closed-passable m set.closed) w member in
        let place : GatePlace m.circuit.aig w there.0 = gate_place m.circuit.aig w there.0 there.1 in
        let none : latch_at m.circuit.aig w ≡ None = latch_at-gates m.circuit.aig w place.from in
        let here : variable (advanced m w) ≡ copy_variable m w = ap variable (cond-true (has m.set w) (2 * copy_variable m w) (moved_literal m (next_of (latch_at m.circuit.aig w))) member) ∙ omega arith in
        stays-reached m.circuit.aig wave w (wave-member w none member ∙ lives-from (copy_variable m w) (copy-from m set w) (ap lives (sym here) ∙ e)))
    | inr other ↦ elim source [
      | inl moves ↦ (
          let known = known-latch (latch_at m.circuit.aig w) (and_parts (not (is_held m.circuit.aig m.held w)) (is_known (latch_at m.circuit.aig w)) moves).1 in
          let next : ℕ = known.0.next in
          let here : variable (advanced m w) ≡ new_variable m (variable next) =
          ap variable (cond-false (has m.set w) (2 * copy_variable m w) (moved_literal m (next_of (latch_at m.circuit.aig w))) other)
          ∙ ap (λ (o : Option Latch). variable (moved_literal m (next_of o))) known.1 ∙ variable-signed_as_twice next (new_variable m (variable next)) in
          stays-reached m.circuit.aig wave w (wave-known w known.0 known.1 known.2 ∙ ap lives (sym here) ∙ e))
      | inr member ↦ absurd (both_ways (has m.set w) other ((has_iff_contains m.set w).1 member))
    ]
  ]

  lives-property : (k d : ℕ) → k < length (property_literals m.circuit.props) → lives (new_variable m (variable (get_or (property_literals m.circuit.props) k d))) ≡ true
  lives-property k d h =
      let lits : List ℕ = property_literals m.circuit.props in
      let lit : ℕ = get_or lits k d in
      let P : ℕ → Type 0 = λ x. lives (variable x) ≡ true in
      let told : P (moved_literal m lit) = of_member P (moved_literal m) lits (subst (λ (xs : List ℕ). All P xs) (moved-literals m) holds.properties) lit (Contains-get_or lits k d h) in
      ap lives (sym (variable-signed_as_twice lit (new_variable m (variable lit)))) ∙ told

  wave-holds : HoldsReads m.circuit.aig m.circuit.props m.held wave
  unfolding RestsOn
  wave-holds = record {
    all_held = λ k d h. wave-held (get_or m.held k d) (Contains-get_or m.held k d h) (in_range k d h);
    properties = λ k d h.
        let lits : List ℕ = property_literals m.circuit.props in
        hand_on (variable (get_or lits k d)) (literals_within m.circuit.aig m.circuit.props netlist.props k d h)
        (read-property m k (get_or lits k d) (slice_get-get_or lits k d h)) (lives-property k d h);
    gates = λ v gate e told.
        let place : GatePlace m.circuit.aig v gate = gate_place m.circuit.aig v gate e in
        let at : IsGateAt v gate = gate_at-is m.circuit.aig valid v gate e in
        let none : latch_at m.circuit.aig v ≡ None = latch_at-gates m.circuit.aig v place.from in
        elim (cases_Bool (has m.set v)) [
          | inl member ↦ (
              let both = copy-lives v gate e member (sym (wave-member v none member) ∙ told) in
              let rests : RestsOn m.circuit.aig m.held m.set v = rests-from_closed m.circuit.aig m.held valid m.set set.closed v ((has_iff_contains m.set v).0 member) in
              let sources = sources_of v gate e rests in
              (hand_up (variable gate.rhs0) sources.0 both.0, hand_up (variable gate.rhs1) sources.1 both.1))
          | inr other ↦ (
              let outer : is_outside m v ≡ true = outside_where m v place.from other in
              let both = outside-lives v gate e other (lives-from (new_variable m v) (outside-from m set v outer) (sym (wave-outside v none other) ∙ told)) in
              (hand_on (variable gate.rhs0) (omega arith) (read-first m v gate e other) both.0, hand_on (variable gate.rhs1) (omega arith) (read-second m v gate e other) both.1))
        ];
    latches = λ v latch e told.
        let place : LatchPlace m.circuit.aig v latch = latch_place m.circuit.aig v latch e in
        let read : is_read m.circuit m.set (variable latch.next) ≡ true = read-next m (v - first_latch m.circuit.aig) latch place.there in
        let within : variable latch.next < variables_end m.circuit.aig = valid.latches (v - first_latch m.circuit.aig) latch place.there in
        elim (cases_Bool (is_free latch)) [
          | inl free ↦ (
              let kept : is_latched m v ≡ true = latched_where_free m v latch e free in
              let here : r (new_variable m v) ≡ true = lives-from (new_variable m v) (latched-from m set v kept) (sym (wave-free v latch e free) ∙ told) in
              hand_on (variable latch.next) within read (ap lives (sym (next-old v latch e)) ∙ next-lives v (omega arith) kept here))
          | inr known ↦ hand_on (variable latch.next) within read (sym (wave-known v latch e known) ∙ told)
        ];
  }
    where
      sources_of : (v : ℕ) (gate : Gate) → gate_at m.circuit.aig v ≡ Some gate → RestsOn m.circuit.aig m.held m.set v
          → MayMoveOrIn m.circuit.aig m.held m.set (variable gate.rhs0) × MayMoveOrIn m.circuit.aig m.held m.set (variable gate.rhs1)
      sources_of v gate e rests =
          let same : rests.0 ≡ gate = same_Some rests.0 gate (sym rests.1 ∙ e) in
          let P : ℕ → Type 0 = λ w. MayMoveOrIn m.circuit.aig m.held m.set w in
          (subst P (ap (λ (x : Gate). variable x.rhs0) same) rests.2, subst P (ap (λ (x : Gate). variable x.rhs1) same) rests.3)

  module _ (normalised : IsNormalised m.held m.circuit) where
    wave-all : (v : ℕ) → first_latch m.circuit.aig ≤ v → v < variables_end m.circuit.aig → wave v ≡ true
    wave-all v past within = normalised.reached wave wave-holds v past within

    outside-reached : (v : ℕ) → is_outside m v ≡ true → v < variables_end m.circuit.aig → first_gate m.circuit.aig ≤ v → has m.set v ≡ false → r (new_variable m v) ≡ true
    outside-reached v outer within past other =
        lives-from (new_variable m v) (outside-from m set v outer)
        (sym (wave-outside v (latch_at-gates m.circuit.aig v past) other) ∙ wave-all v (omega arith) within)

    copy-reached : (v : ℕ) → has m.set v ≡ true → v < variables_end m.circuit.aig → r (copy_variable m v) ≡ true
    copy-reached v member within =
        let there = member-gate m (closed-passable m set.closed) v member in
        let place : GatePlace m.circuit.aig v there.0 = gate_place m.circuit.aig v there.0 there.1 in
        sym (wave-member v (latch_at-gates m.circuit.aig v place.from) member) ∙ wave-all v (omega (arith, place.from)) within

    -- what is read from outside lives
    read-lives : (w : ℕ) → is_read m.circuit m.set w ≡ true → lives (new_variable m w) ≡ true
    read-lives w read = elim (reader_of m w read) [
      | by_outside v gate e other which ↦ (
          let place : GatePlace m.circuit.aig v gate = gate_place m.circuit.aig v gate e in
          let both = outside-lives v gate e other (outside-reached v (outside_where m v place.from other) place.below place.from other) in
          elim which [
            | inl first ↦ ap (λ (n : ℕ). lives (new_variable m n)) first ∙ both.0
            | inr second ↦ ap (λ (n : ℕ). lives (new_variable m n)) second ∙ both.1
          ])
      | by_latch j latch there same ↦ (
          let v : ℕ = first_latch m.circuit.aig + j in
          let here : latch_at m.circuit.aig v ≡ Some latch = latch_at-first_latch m.circuit.aig j ∙ there in
          let within : v < variables_end m.circuit.aig = omega (arith, slice_get_within m.circuit.aig.latches j latch there) in
          let waves : wave v ≡ true = wave-all v (omega arith) within in
          ap (λ (n : ℕ). lives (new_variable m n)) same ∙ elim (cases_Bool (is_free latch)) [
            | inl free ↦ (
                let kept : is_latched m v ≡ true = latched_where_free m v latch here free in
                let told : r (new_variable m v) ≡ true = lives-from (new_variable m v) (latched-from m set v kept) (sym (wave-free v latch here free) ∙ waves) in
                ap lives (sym (next-old v latch here)) ∙ next-lives v within kept told)
            | inr known ↦ sym (wave-known v latch here known) ∙ waves
          ])
      | by_property k lit there same ↦ (
          let lits : List ℕ = property_literals m.circuit.props in
          let at : get_or lits k 0 ≡ lit = get_or_from_slice_get lits k lit 0 there in
          ap (λ (n : ℕ). lives (new_variable m n)) same ∙ ap (λ (n : ℕ). lives (new_variable m (variable n))) (sym at) ∙ lives-property k 0 (slice_get_within lits k lit there))
    ]

    latch-reached : (v : ℕ) → v < variables_end m.circuit.aig → is_latched m v ≡ true → r (new_variable m v) ≡ true
    unfolding is_latched in_border
    latch-reached v within kept = elim (or_cases (is_free_latch (latch_at m.circuit.aig v)) (in_border m v) kept) [
      | inl free ↦ (
          let there = free-latch (latch_at m.circuit.aig v) free in
          let place : LatchPlace m.circuit.aig v there.0 = latch_place m.circuit.aig v there.0 there.1 in
          lives-from (new_variable m v) (latched-from m set v kept) (sym (wave-free v there.0 there.1 there.2) ∙ wave-all v place.from within))
      | inr border ↦ (
          let parts = and_parts (is_known (latch_at m.circuit.aig v) || is_gate_in m.circuit.aig m.set v) (is_held m.circuit.aig m.held v || is_read m.circuit m.set v) border in
          elim (or_cases (is_held m.circuit.aig m.held v) (is_read m.circuit m.set v) parts.1) [
            | inl held ↦ (
                let both = and_parts (has m.held (v - first_latch m.circuit.aig)) (is_some (latch_at m.circuit.aig v)) held in
                let there = some-latch (latch_at m.circuit.aig v) both.1 in
                let place : LatchPlace m.circuit.aig v there.0 = latch_place m.circuit.aig v there.0 there.1 in
                let here : first_latch m.circuit.aig + (v - first_latch m.circuit.aig) ≡ v = omega (arith, place.from) in
                ap (λ (n : ℕ). r (new_variable m n)) (sym here)
                ∙ held-reached (v - first_latch m.circuit.aig) ((has_iff_contains m.held (v - first_latch m.circuit.aig)).0 both.0) (ap (is_latched m) here ∙ kept))
            | inr read ↦ lives-from (new_variable m v) (latched-from m set v kept) (read-lives v read)
          ])
    ]

    -- each latch and gate of the moved circuit
    pub moved-reached : (u : ℕ) → first_latch (moved_graph m) ≤ u → u < variables_end (moved_graph m) → r u ≡ true
    moved-reached u past within = elim (kind_of (moved_graph m) u within) [
      | is_constant same ↦ absurd (omega arith)
      | is_input i h same ↦ absurd (omega arith)
      | is_latch k latch there same ↦ (
          let from = latch_source m k latch there in
          let ranks : Ranks (is_latched m) (variables_end m.circuit.aig) k from.0 = from.1 in
          let here : u ≡ new_variable m from.0 = omega (arith, new_variable-latched m (closed-passable m set.closed) from.0 ranks.passes, moved-first_latch m, ranks.rank) in
          ap r here ∙ latch-reached from.0 ranks.below ranks.passes)
      | is_gate k gate there same ↦ elim (gate_source m set k gate there) [
        | from_outside v ranks at ↦ (
            let here : u ≡ new_variable m v = omega (arith, new_variable-outside m (closed-passable m set.closed) v ranks.passes, moved-first_gate m, ranks.rank) in
            let parts = outside_parts m v ranks.passes in
            ap r here ∙ outside-reached v ranks.passes ranks.below (leb-true (first_gate m.circuit.aig) v parts.0) parts.1)
        | from_member v j ranks place at ↦ (
            let here : u ≡ copy_variable m v = omega (arith, copy_variable-is m v, copies_start-is m, moved-first_gate m, ranks.rank, place) in
            ap r here ∙ copy-reached v ranks.passes ranks.below)
      ]
    ]

-- each latch and gate of a moved normalised circuit is reached from what it must hold and read
pub all_reached : (m : Move) → IsGraph m.circuit.aig → IsNetlist m.circuit → All (λ j. j < length m.circuit.aig.latches) m.held → IsClosedSet m.circuit.aig m.held m.set → IsNormalised m.held m.circuit
    → (r : ℕ → Bool) → HoldsReads (moved_graph m) (moved_props m) (moved_held m) r → (u : ℕ) → first_latch (moved_graph m) ≤ u → u < variables_end (moved_graph m) → r u ≡ true
all_reached m valid netlist in_range set normalised r holds u past within = moved-reached m valid netlist in_range set r holds normalised u past within
