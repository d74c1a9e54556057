-- A moved circuit has the streams of the circuit.
use Rattle.std.proofs.Common.{ℕ, ◌+◌, ◌-◌, ◌*◌, ◌<◌, ◌≡◌, inl, inr, suc, zero, map, Bool, true, false, ◌&&◌, cond, Option, Some, None, get_or, arith, ap, sym, ◌∙◌, subst, add-one}
use Rattle.std.specs.List.{All, range_with_len}
use Rattle.std.specs.List.Sorted.{IsStrictlyIncreasing}
use Rattle.std.proofs.lemmas.Bool.{cases_Bool}
use Rattle.std.proofs.lemmas.List.FromFn.{length-range_with_len, get_or-range_with_len}
use Rattle.aig_graph.proofs.FoldingLaws.{gate_at-first_gate, gate_at-is}
use Rattle.aig_graph.proofs.KindLaws.{GatePlace, LatchPlace, gate_place, is_constant, is_gate, is_input, is_latch, kind_of, latch_at-first_latch, latch_place}
use Rattle.aig_graph.proofs.SearchLaws.{has_iff_contains}
use Rattle.aig_graph.proofs.ValueLaws.{value_laws}
use Rattle.aig_graph.specs.Border.{is_read}
use Rattle.aig_graph.specs.Building.{gate_of}
use Rattle.aig_graph.specs.Circuits.{IsNetlist, Netlist}
use Rattle.aig_graph.specs.Closed.{IsClosedSet, IsLatchOrIn}
use Rattle.aig_graph.specs.Graph.{Graph, IsGateAt, IsGraph, first_gate, first_latch, free_before, free_latches, gate_at, is_free, latch_at, variable, variables_end, is_free_latch}
use Rattle.aig_graph.specs.Laws.{ValueLaws}
use Rattle.aig_graph.specs.Move.{Move}
use Rattle.aig_graph.specs.Streams.{SameStreams, chosen, property_literals}
use Rattle.aig_graph.specs.Value.{Choice, Inputs, signed, value}
use Rattle.aig_graph.specs.declared.graph.Gate.{Gate}
use Rattle.aig_graph.specs.declared.graph.Latch.{Latch}
use Rattle.aig_graph.specs.declared.properties.Props.{Props}
use Rattle.aig_graph.specs.declared.properties.Symbols.{Symbols}
use Rattle.rebuild.proofs.BorderLaws.{closed-passable, latched-cases, latched-latch, latched-member, member-gate, outside_where, new_variable-latched, new_variable-leaf, new_variable-outside, read-first, read-next, read-second}
use Rattle.aig_graph.proofs.FreeLaws.{free-count, free-count_all, is_free_at}
use Rattle.rebuild.proofs.FreeLaws.{moved-free, moved-free_at}
use Rattle.rebuild.proofs.MovedLaws.{copies_start-is, copy_in, copy_variable-is, latch_in, moved-first_gate, moved-first_latch, moved-inputs, gate_in}
use Rattle.rebuild.proofs.ReadLaws.{IsReadable, all-readable, moved-literals, moved-shape}
use Rattle.aig_graph.proofs.SignLaws.{value-gate_of, value_signed, value_signed_as}
use Rattle.aig_graph.proofs.StreamLaws.{opening-same}
use Rattle.rebuild.proofs.StartLaws.{opening-reset_to, value-gate, value-latch_later, value-latch_start, value-start_value}
use Rattle.rebuild.specs.Moved.{advanced, advanced_literal, copy_for, copy_variable, gate_between, gate_for, is_latched, is_outside, latch_for, latch_from, moved_graph, moved_literal, moved_of, moved_props, moved_symbols, new_variable, next_of}
use Rattle.rebuild.specs.Starting.{start_value}
use Rattle.aig_graph.proofs.PlacesLaws.{count-lt}
use Rattle.aig_graph.proofs.ListLaws.{map-map, map-same}
use Rattle.aig_graph.specs.Counting.{count_below}
use Rattle.aig_graph.specs.Marking.{has}

module _ (m : Move) (valid : IsGraph m.circuit.aig) (set : IsClosedSet m.circuit.aig m.held m.set) (moved : IsGraph (moved_graph m)) (x : Inputs) (f : Choice) where
  abbrev before : ℕ → ℕ → Bool
  before t lit = value m.circuit.aig x f t lit

  abbrev after : ℕ → ℕ → Bool
  after t lit = value (moved_graph m) x (chosen (range_with_len 0 (free_latches m.circuit.aig)) f) t lit

  before-laws : ValueLaws m.circuit.aig x f
  before-laws = value_laws m.circuit.aig valid x f

  after-laws : ValueLaws (moved_graph m) x (chosen (range_with_len 0 (free_latches m.circuit.aig)) f)
  after-laws = value_laws (moved_graph m) moved x (chosen (range_with_len 0 (free_latches m.circuit.aig)) f)

  -- each latch of the moved circuit has the value of what it holds
  abbrev SameLatches : ℕ → Type 0
  SameLatches t = (v : ℕ) → v < variables_end m.circuit.aig → is_latched m v ≡ true → after t (2 * new_variable m v) ≡ before t (2 * v)

  signed-same : (t lit : ℕ) → after t (2 * new_variable m (variable lit)) ≡ before t (2 * variable lit) → after t (moved_literal m lit) ≡ before t lit
  signed-same t lit same =
      value_signed_as (after t) (after-laws.negation t) lit (2 * new_variable m (variable lit))
      ∙ ap (signed lit) same ∙ sym (value_signed (before t) (before-laws.negation t) lit)

  -- so has what is read from outside
  new_variable-value : (t : ℕ) → SameLatches t → (n v : ℕ) → v < n → v < variables_end m.circuit.aig → is_read m.circuit m.set v ≡ true → after t (2 * new_variable m v) ≡ before t (2 * v)
  new_variable-value t latches zero v h within read = absurd (omega arith)
  new_variable-value t latches (suc n) v h within read = elim (kind_of m.circuit.aig v within) [
    | is_constant e ↦ (
        let new : 2 * new_variable m v ≡ 0 = omega (arith, new_variable-leaf m (closed-passable m set.closed) v (omega arith)) in
        let old : 2 * v ≡ 0 = omega arith in
        ap (after t) new ∙ after-laws.constant t ∙ sym (before-laws.constant t) ∙ ap (before t) (sym old))
    | is_input i less e ↦ (
        let new : 2 * new_variable m v ≡ 2 * (1 + i) = omega (arith, new_variable-leaf m (closed-passable m set.closed) v (omega arith)) in
        let old : 2 * v ≡ 2 * (1 + i) = omega arith in
        ap (after t) new ∙ after-laws.input t i (omega (arith, moved-inputs m)) ∙ sym (before-laws.input t i less) ∙ ap (before t) (sym old))
    | is_latch j latch there e ↦
        latches v within (latched-latch m v latch (ap (latch_at m.circuit.aig) e ∙ latch_at-first_latch m.circuit.aig j ∙ there) read)
    | is_gate k gate there e ↦ elim (cases_Bool (has m.set v)) [
      | inl member ↦ latches v within (latched-member m v gate (ap (gate_at m.circuit.aig) e ∙ gate_at-first_gate m.circuit.aig k ∙ there) member read)
      | inr other ↦ (
          let here : gate_at m.circuit.aig v ≡ Some gate = ap (gate_at m.circuit.aig) e ∙ gate_at-first_gate m.circuit.aig k ∙ there in
          let at : IsGateAt v gate = gate_at-is m.circuit.aig valid v gate here in
          let outer = outside_where m v (omega arith) other in
          let first : after t (moved_literal m gate.rhs0) ≡ before t gate.rhs0 =
          signed-same t gate.rhs0 (new_variable-value t latches n (variable gate.rhs0) (omega arith) (omega arith) (read-first m v gate here other)) in
          let second : after t (moved_literal m gate.rhs1) ≡ before t gate.rhs1 =
          signed-same t gate.rhs1 (new_variable-value t latches n (variable gate.rhs1) (omega arith) (omega arith) (read-second m v gate here other)) in
          let new_gate : Gate = gate_of (moved_literal m gate.rhs0) (moved_literal m gate.rhs1) in
          let same_gate : gate_for m v ≡ new_gate = ap (gate_between (moved_literal m)) here in
          let place : 2 * new_variable m v ≡ 2 * (first_gate (moved_graph m) + count_below (is_outside m) v) = omega (arith, new_variable-outside m (closed-passable m set.closed) v outer, moved-first_gate m) in
          ap (after t) place
          ∙ after-laws.gate t (count_below (is_outside m) v) new_gate (gate_in m set v within outer ∙ ap (λ (w : Gate). Some w) same_gate)
          ∙ value-gate_of (after t) (moved_literal m gate.rhs0) (moved_literal m gate.rhs1)
          ∙ ap (λ (b : Bool). b && after t (moved_literal m gate.rhs1)) first ∙ ap (λ (b : Bool). before t gate.rhs0 && b) second
          ∙ sym (value-gate m.circuit.aig valid x f t v gate here))
    ]
  ]

  moved_literal-value : (t : ℕ) → SameLatches t → (lit : ℕ) → IsReadable m lit → after t (moved_literal m lit) ≡ before t lit
  moved_literal-value t latches lit readable = signed-same t lit (new_variable-value t latches (suc (variable lit)) (variable lit) (omega arith) readable.within readable.read)

  next-value : (t : ℕ) → SameLatches t → (v : ℕ) (latch : Latch) → latch_at m.circuit.aig v ≡ Some latch → after t (moved_literal m latch.next) ≡ before (t + 1) (2 * v)
  next-value t latches v latch e =
      let place : LatchPlace m.circuit.aig v latch = latch_place m.circuit.aig v latch e in
      moved_literal-value t latches latch.next (record { read = read-next m (v - first_latch m.circuit.aig) latch place.there; within = valid.latches (v - first_latch m.circuit.aig) latch place.there })
      ∙ sym (value-latch_later m.circuit.aig valid x f t v latch e)

  -- what a copy reads has the value that its gate reads a step later, if the copies before it have
  -- theirs
  advanced-value : (t n : ℕ) → SameLatches t → ((w : ℕ) → w < n → has m.set w ≡ true → after t (2 * copy_variable m w) ≡ before (t + 1) (2 * w))
      → (w : ℕ) → w < n → IsLatchOrIn m.circuit.aig m.set w → after t (advanced m w) ≡ before (t + 1) (2 * w)
  unfolding advanced
  advanced-value t n latches copies w less source = elim (cases_Bool (has m.set w)) [
    | inl inside ↦ (
        let here : advanced m w ≡ 2 * copy_variable m w = ap (λ (b : Bool). cond b (2 * copy_variable m w) (moved_literal m (next_of (latch_at m.circuit.aig w)))) inside in
        ap (after t) here ∙ copies w less inside)
    | inr other ↦ elim source [
      | inl latch ↦ (
          let here : advanced m w ≡ moved_literal m latch.0.next =
          ap (λ (b : Bool). cond b (2 * copy_variable m w) (moved_literal m (next_of (latch_at m.circuit.aig w)))) other ∙ ap (λ (o : Option Latch). moved_literal m (next_of o)) latch.1 in
          ap (after t) here ∙ next-value t latches w latch.0 latch.1)
      | inr inside ↦ (let listed : has m.set w ≡ true = (has_iff_contains m.set w).1 inside in let clash : false ≡ true = sym other ∙ listed in absurd (cc))
    ]
  ]

  advanced_literal-value : (t n : ℕ) → SameLatches t → ((w : ℕ) → w < n → has m.set w ≡ true → after t (2 * copy_variable m w) ≡ before (t + 1) (2 * w))
      → (lit : ℕ) → variable lit < n → IsLatchOrIn m.circuit.aig m.set (variable lit) → after t (advanced_literal m lit) ≡ before (t + 1) lit
  advanced_literal-value t n latches copies lit less source =
      value_signed_as (after t) (after-laws.negation t) lit (advanced m (variable lit))
      ∙ ap (signed lit) (advanced-value t n latches copies (variable lit) less source) ∙ sym (value_signed (before (t + 1)) (before-laws.negation (t + 1)) lit)

  -- a copy has the value that its gate has a step later
  copy-value : (t : ℕ) → SameLatches t → (n v : ℕ) → v < n → has m.set v ≡ true → after t (2 * copy_variable m v) ≡ before (t + 1) (2 * v)
  copy-value t latches zero v h member = absurd (omega arith)
  copy-value t latches (suc n) v h member =
      let there = member-gate m (closed-passable m set.closed) v member in
      let gate : Gate = there.0 in
      let at : IsGateAt v gate = gate_at-is m.circuit.aig valid v gate there.1 in
      let within : GatePlace m.circuit.aig v gate = gate_place m.circuit.aig v gate there.1 in
      let sources = set.closed.fan_ins v gate ((has_iff_contains m.set v).0 member) there.1 in
      let first : after t (advanced_literal m gate.rhs0) ≡ before (t + 1) gate.rhs0 = advanced_literal-value t n latches (copy-value t latches n) gate.rhs0 (omega arith) sources.0 in
      let second : after t (advanced_literal m gate.rhs1) ≡ before (t + 1) gate.rhs1 = advanced_literal-value t n latches (copy-value t latches n) gate.rhs1 (omega arith) sources.1 in
      let new_gate : Gate = gate_of (advanced_literal m gate.rhs0) (advanced_literal m gate.rhs1) in
      let same_gate : copy_for m v ≡ new_gate = ap (gate_between (advanced_literal m)) there.1 in
      let rank : ℕ = count_below (is_outside m) (variables_end m.circuit.aig) + count_below (has m.set) v in
      let place : 2 * copy_variable m v ≡ 2 * (first_gate (moved_graph m) + rank) = omega (arith, copy_variable-is m v, copies_start-is m, moved-first_gate m) in
      ap (after t) place
      ∙ after-laws.gate t rank new_gate (copy_in m set v within.below member ∙ ap (λ (w : Gate). Some w) same_gate)
      ∙ value-gate_of (after t) (advanced_literal m gate.rhs0) (advanced_literal m gate.rhs1)
      ∙ ap (λ (b : Bool). b && after t (advanced_literal m gate.rhs1)) first ∙ ap (λ (b : Bool). before (t + 1) gate.rhs0 && b) second
      ∙ sym (value-gate m.circuit.aig valid x f (t + 1) v gate there.1)

  latch-place : (t v : ℕ) → is_latched m v ≡ true → after t (2 * new_variable m v) ≡ after t (2 * (first_latch (moved_graph m) + count_below (is_latched m) v))
  latch-place t v kept =
      let place : 2 * new_variable m v ≡ 2 * (first_latch (moved_graph m) + count_below (is_latched m) v) = omega (arith, new_variable-latched m (closed-passable m set.closed) v kept, moved-first_latch m) in
      ap (after t) place

  -- the choice of a free latch that stays
  same_choice : (v : ℕ) (latch : Latch) → latch_at m.circuit.aig v ≡ Some latch → is_free latch ≡ true
      → chosen (range_with_len 0 (free_latches m.circuit.aig)) f (free_before (moved_graph m) (count_below (is_latched m) v)) ≡ f (free_before m.circuit.aig (v - first_latch m.circuit.aig))
  same_choice v latch e free =
      let place : LatchPlace m.circuit.aig v latch = latch_place m.circuit.aig v latch e in
      let j : ℕ = v - first_latch m.circuit.aig in
      let here : first_latch m.circuit.aig + j ≡ v = omega arith in
      let same : free_before (moved_graph m) (count_below (is_latched m) v) ≡ free_before m.circuit.aig j =
      ap (λ (w : ℕ). free_before (moved_graph m) (count_below (is_latched m) w)) (sym here) ∙ moved-free_at m set j (omega arith) in
      let passes : is_free_at m.circuit.aig v ≡ true = ap (λ (o : Option Latch). is_free_latch o) e ∙ free in
      let counted : count_below (is_free_at m.circuit.aig) v ≡ free_before m.circuit.aig j = ap (count_below (is_free_at m.circuit.aig)) (sym here) ∙ free-count m.circuit.aig j (omega arith) in
      let below : free_before m.circuit.aig j < free_latches m.circuit.aig = omega (arith, count-lt (is_free_at m.circuit.aig) v (variables_end m.circuit.aig) (omega arith) passes, free-count_all m.circuit.aig) in
      let at : get_or (range_with_len 0 (free_latches m.circuit.aig)) (free_before m.circuit.aig j) 0 ≡ free_before m.circuit.aig j =
      get_or-range_with_len 0 (free_latches m.circuit.aig) (free_before m.circuit.aig j) 0 below ∙ omega arith in
      ap (chosen (range_with_len 0 (free_latches m.circuit.aig)) f) same ∙ ap f at

  same_latches-start : SameLatches 0
  same_latches-start v within kept = latch-place 0 v kept ∙ elim (latched-cases m v kept) [
    | inl old ↦ (
        let latch : Latch = record { next = moved_literal m old.0.next; reset = old.0.reset } in
        let same : latch_for m v ≡ latch = ap (latch_from m v) old.1 in
        after-laws.latch_at_start (count_below (is_latched m) v) latch (latch_in m v within kept ∙ ap (λ (w : Latch). Some w) same)
        ∙ opening-same old.0.reset old.0.next (chosen (range_with_len 0 (free_latches m.circuit.aig)) f (free_before (moved_graph m) (count_below (is_latched m) v))) (f (free_before m.circuit.aig (v - first_latch m.circuit.aig)))
        (same_choice v old.0 old.1)
        ∙ sym (value-latch_start m.circuit.aig valid x f v old.0 old.1))
    | inr new ↦ (
        let latch : Latch = latch_from m v None in
        let same : latch_for m v ≡ latch = ap (latch_from m v) new.0 in
        after-laws.latch_at_start (count_below (is_latched m) v) latch (latch_in m v within kept ∙ ap (λ (w : Latch). Some w) same)
        ∙ opening-reset_to (start_value m.circuit.aig v) (chosen (range_with_len 0 (free_latches m.circuit.aig)) f (free_before (moved_graph m) (count_below (is_latched m) v)))
        ∙ value-start_value m valid set.closed x f v new.1)
  ]

  same_latches-later : (t : ℕ) → SameLatches t → SameLatches (t + 1)
  same_latches-later t latches v within kept = latch-place (t + 1) v kept ∙ elim (latched-cases m v kept) [
    | inl old ↦ (
        let latch : Latch = record { next = moved_literal m old.0.next; reset = old.0.reset } in
        let same : latch_for m v ≡ latch = ap (latch_from m v) old.1 in
        after-laws.latch_later t (count_below (is_latched m) v) latch (latch_in m v within kept ∙ ap (λ (w : Latch). Some w) same)
        ∙ next-value t latches v old.0 old.1)
    | inr new ↦ (
        let latch : Latch = latch_from m v None in
        let same : latch_for m v ≡ latch = ap (latch_from m v) new.0 in
        after-laws.latch_later t (count_below (is_latched m) v) latch (latch_in m v within kept ∙ ap (λ (w : Latch). Some w) same)
        ∙ copy-value t latches (suc v) v (omega arith) new.1)
  ]

  same_latches : (t : ℕ) → SameLatches t
  same_latches zero = same_latches-start
  same_latches (suc t) = let P : ℕ → Type 0 = λ n. SameLatches n in subst P (add-one t) (same_latches-later t (same_latches t))

  moved-values : IsNetlist m.circuit → (t : ℕ) → map (after t) (property_literals (moved_props m)) ≡ map (before t) (property_literals m.circuit.props)
  moved-values netlist t =
      ap (map (after t)) (moved-literals m)
      ∙ map-map (after t) (moved_literal m) (property_literals m.circuit.props)
      ∙ map-same (λ lit. IsReadable m lit) (λ lit. after t (moved_literal m lit)) (before t) (λ lit readable. moved_literal-value t (same_latches t) lit readable) (property_literals m.circuit.props) (all-readable m netlist)

-- what has a latch after the move has its value at step 0
pub latched-start : (m : Move) → IsGraph m.circuit.aig → IsClosedSet m.circuit.aig m.held m.set → IsGraph (moved_graph m) → (x : Inputs) (f : Choice) (v : ℕ) → v < variables_end m.circuit.aig → is_latched m v ≡ true
    → value (moved_graph m) x (chosen (range_with_len 0 (free_latches m.circuit.aig)) f) 0 (2 * new_variable m v) ≡ value m.circuit.aig x f 0 (2 * v)
latched-start m valid set moved x f v within kept = same_latches-start m valid set moved x f v within kept

range-rising : (n : ℕ) → IsStrictlyIncreasing (range_with_len 0 n)
range-rising n k h =
    omega (arith, length-range_with_len 0 n, get_or-range_with_len 0 n k 0 (omega (arith, length-range_with_len 0 n)), get_or-range_with_len 0 n (k + 1) 0 (omega (arith, length-range_with_len 0 n)))

range-below : (n : ℕ) → All (λ place. place < n) (range_with_len 0 n)
range-below n k d h = omega (arith, length-range_with_len 0 n, get_or-range_with_len 0 n k d (omega (arith, length-range_with_len 0 n)))

-- every free latch stays at its place among the free ones, and the properties keep their values
pub same_streams : (m : Move) → IsGraph m.circuit.aig → IsNetlist m.circuit → IsClosedSet m.circuit.aig m.held m.set → IsGraph (moved_graph m)
    → SameStreams m.circuit (moved_of m) (range_with_len 0 (free_latches m.circuit.aig))
same_streams m valid netlist set moved = record {
  shape = moved-shape m;
  places = record {
    rising = range-rising (free_latches m.circuit.aig);
    below = range-below (free_latches m.circuit.aig);
    each = length-range_with_len 0 (free_latches m.circuit.aig) ∙ sym (moved-free m set);
  };
  values = λ x f t. moved-values m valid set moved x f netlist t;
}

-- moved, of a circuit that is put together of the moved parts
pub moved-whole : (m : Move) (aig : Graph) (props : Props) (symbols : Symbols) → aig ≡ moved_graph m → props ≡ moved_props m → symbols ≡ moved_symbols m
    → record { aig = aig; props = props; symbols = symbols } ≡ moved_of m
moved-whole m aig props symbols e1 e2 e3 =
    let by_aig : Graph → Netlist = λ x. record { aig = x; props = props; symbols = symbols } in
    let by_props : Props → Netlist = λ x. record { aig = moved_graph m; props = x; symbols = symbols } in
    let by_symbols : Symbols → Netlist = λ x. record { aig = moved_graph m; props = moved_props m; symbols = x } in
    ap by_aig e1 ∙ ap by_props e2 ∙ ap by_symbols e3
