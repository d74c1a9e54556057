-- What stands where in a moved graph.
use Rattle.std.proofs.Common.{ℕ, ◌+◌, ◌-◌, ◌*◌, ◌<◌, ◌≤◌, ◌≡◌, ◌⊎◌, inl, inr, suc, zero, List, [], ◌∷◌, ◌++◌, length, map, Bool, true, false, cond, Option, Some, slice_get, get_or, refl, arith, ap, sym, ◌∙◌, subst, length-append}
use Rattle.std.specs.List.{All}
use Rattle.std.proofs.lemmas.Bool.{cases_Bool, leb-true}
use Rattle.std.proofs.lemmas.Option.{slice_get_within}
use Rattle.std.proofs.lemmas.List.{length-map, get_or_default}
use Rattle.aig_graph.proofs.FoldingLaws.{gate_at-first_gate, gate_at-is}
use Rattle.aig_graph.proofs.KindLaws.{GatePlace, KindOf, LatchPlace, gate_place, is_constant, is_gate, is_input, is_latch, kind_of, latch_at-first_latch, latch_place}
use Rattle.aig_graph.proofs.SearchLaws.{has_iff_contains}
use Rattle.aig_graph.specs.Border.{is_read}
use Rattle.aig_graph.specs.Building.{gate_of}
use Rattle.aig_graph.specs.Closed.{IsClosedSet, IsLatchOrIn}
use Rattle.aig_graph.specs.Graph.{Graph, IsGateAt, IsGraph, first_gate, first_latch, gate_at, latch_at, variable, variables_end}
use Rattle.aig_graph.specs.Move.{Move}
use Rattle.aig_graph.specs.declared.graph.Gate.{Gate}
use Rattle.aig_graph.specs.declared.graph.Latch.{Latch}
use Rattle.aig_graph.specs.declared.literal.TheConstants.{MAX_VARIABLES}
use Rattle.rebuild.proofs.BorderLaws.{closed-passable, latched-cases, latched-latch, latched-member, member-gate, outside_parts, outside_where, new_variable-latched, new_variable-leaf, new_variable-outside, read-first, read-next, read-second}
use Rattle.aig_graph.proofs.SignLaws.{gate_of-below, gate_of-ordered, variable-signed_as, variable-signed_as_twice}
use Rattle.rebuild.proofs.MemberLaws.{members}
use Rattle.rebuild.specs.Moved.{advanced, advanced_literal, copies_start, copy_for, copy_variable, gate_between, gate_for, gates_start, is_latched, is_outside, latch_for, latch_from, moved_graph, moved_literal, new_variable, next_of}
use Rattle.aig_graph.proofs.ListLaws.{from_map, slice_get-map_some}
use Rattle.aig_graph.proofs.PlacesLaws.{Ranks, at_rank, count-lt, length-places, rank_at, slice_get-append_left, slice_get-append_right}
use Rattle.aig_graph.specs.Counting.{count_below, places}
use Rattle.aig_graph.specs.Marking.{has}

from_append : {A : Type 0} (xs ys : List A) (k : ℕ) (x : A) → slice_get (xs ++ ys) k ≡ Some x → (slice_get xs k ≡ Some x) ⊎ ((j : ℕ) × (k ≡ length xs + j) × (slice_get ys j ≡ Some x))
from_append [] ys k x e = inr (k, omega arith, e)
from_append (z ∷ zs) ys zero x e = inl e
from_append (z ∷ zs) ys (suc k) x e = elim (from_append zs ys k x e) [ inl h ↦ inl h | inr h ↦ inr (h.0, omega arith, h.2) ]

-- each member of a closed set is a variable of the graph
pub members-below : (g : Graph) (held s : List ℕ) → IsClosedSet g held s → All (λ v. v < variables_end g) s
members-below g held s set k d h =
    let v : ℕ = get_or s k d in
    let there = set.closed.passable v (k, h, get_or_default s k v d h) in
    let place : GatePlace g v there.0 = gate_place g v there.0 there.1 in
    place.below

module _ (m : Move) where
  -- a moved graph has the inputs of the graph
  pub moved-inputs : (moved_graph m).inputs ≡ m.circuit.aig.inputs
  unfolding moved_graph
  moved-inputs = refl

  -- a moved graph has as many latches as variables have one after the move
  pub length-moved_latches : length (moved_graph m).latches ≡ count_below (is_latched m) (variables_end m.circuit.aig)
  unfolding moved_graph
  length-moved_latches = length-map (places (is_latched m) (variables_end m.circuit.aig)) (latch_for m) ∙ length-places (is_latched m) (variables_end m.circuit.aig)

  -- the first latch of a moved graph stands where the graph's does
  pub moved-first_latch : first_latch (moved_graph m) ≡ first_latch m.circuit.aig
  moved-first_latch = ap (λ (n : ℕ). 1 + n) moved-inputs

  -- the first gate of a moved graph stands after its latches
  pub moved-first_gate : first_gate (moved_graph m) ≡ gates_start m
  unfolding gates_start
  moved-first_gate = omega (arith, moved-inputs, length-moved_latches)

  -- the copies begin after the gates outside the set
  pub copies_start-is : copies_start m ≡ gates_start m + count_below (is_outside m) (variables_end m.circuit.aig)
  unfolding copies_start
  copies_start-is = refl

  -- the gates outside the set begin after the latches
  pub gates_start-is : gates_start m ≡ first_latch m.circuit.aig + count_below (is_latched m) (variables_end m.circuit.aig)
  unfolding gates_start
  gates_start-is = refl

  -- a member's copy stands at its rank among the copies
  pub copy_variable-is : (v : ℕ) → copy_variable m v ≡ copies_start m + count_below (has m.set) v
  unfolding copy_variable
  copy_variable-is v = refl

  -- the latch of a variable stands at its rank among the moved graph's latches
  pub latch_in : (v : ℕ) → v < variables_end m.circuit.aig → is_latched m v ≡ true → slice_get (moved_graph m).latches (count_below (is_latched m) v) ≡ Some (latch_for m v)
  unfolding moved_graph
  latch_in v h kept = slice_get-map_some (latch_for m) (places (is_latched m) (variables_end m.circuit.aig)) (count_below (is_latched m) v) v (at_rank (is_latched m) (variables_end m.circuit.aig) v h kept)

  -- where each latch of the moved graph comes from
  pub latch_source : (k : ℕ) (latch : Latch) → slice_get (moved_graph m).latches k ≡ Some latch
      → (v : ℕ) × Ranks (is_latched m) (variables_end m.circuit.aig) k v × (latch ≡ latch_for m v)
  unfolding moved_graph
  latch_source k latch e =
      let from = from_map (latch_for m) (places (is_latched m) (variables_end m.circuit.aig)) k latch e in
      (from.0, rank_at (is_latched m) (variables_end m.circuit.aig) k from.0 from.1, from.2)

module _ (m : Move) (set : IsClosedSet m.circuit.aig m.held m.set) where
  gates-split : (moved_graph m).gates ≡ map (gate_for m) (places (is_outside m) (variables_end m.circuit.aig)) ++ map (copy_for m) (places (has m.set) (variables_end m.circuit.aig))
  unfolding moved_graph
  gates-split = ap (λ (vs : List ℕ). map (gate_for m) (places (is_outside m) (variables_end m.circuit.aig)) ++ map (copy_for m) vs) (sym (members m (closed-passable m set.closed) set.rising))

  -- a moved graph has the gates outside the set and a copy for each member
  pub length-moved_gates : length (moved_graph m).gates ≡ count_below (is_outside m) (variables_end m.circuit.aig) + count_below (has m.set) (variables_end m.circuit.aig)
  length-moved_gates = ap length gates-split ∙
      omega (
        arith,
        length-append (map (gate_for m) (places (is_outside m) (variables_end m.circuit.aig))) (map (copy_for m) (places (has m.set) (variables_end m.circuit.aig))),
        length-map (places (is_outside m) (variables_end m.circuit.aig)) (gate_for m),
        length-map (places (has m.set) (variables_end m.circuit.aig)) (copy_for m),
        length-places (is_outside m) (variables_end m.circuit.aig),
        length-places (has m.set) (variables_end m.circuit.aig),
      )

  -- the variables of a moved graph end after the copies
  pub moved-end : variables_end (moved_graph m) ≡ copies_start m + count_below (has m.set) (variables_end m.circuit.aig)
  moved-end = omega (arith, moved-first_gate, length-moved_gates, copies_start-is)

  -- a gate outside the set stands at its rank among the moved graph's gates
  pub gate_in : (v : ℕ) → v < variables_end m.circuit.aig → is_outside m v ≡ true → slice_get (moved_graph m).gates (count_below (is_outside m) v) ≡ Some (gate_for m v)
  gate_in v h outer = ap (λ (gates : List Gate). slice_get gates (count_below (is_outside m) v)) gates-split ∙
      slice_get-append_left (map (gate_for m) (places (is_outside m) (variables_end m.circuit.aig))) (map (copy_for m) (places (has m.set) (variables_end m.circuit.aig))) (count_below (is_outside m) v) (gate_for m v)
      (slice_get-map_some (gate_for m) (places (is_outside m) (variables_end m.circuit.aig)) (count_below (is_outside m) v) v (at_rank (is_outside m) (variables_end m.circuit.aig) v h outer))

  -- a member's copy stands at its rank after the gates outside the set
  pub copy_in : (v : ℕ) → v < variables_end m.circuit.aig → has m.set v ≡ true
      → slice_get (moved_graph m).gates (count_below (is_outside m) (variables_end m.circuit.aig) + count_below (has m.set) v) ≡ Some (copy_for m v)
  copy_in v h member =
      let outers = map (gate_for m) (places (is_outside m) (variables_end m.circuit.aig)) in
      let copies = map (copy_for m) (places (has m.set) (variables_end m.circuit.aig)) in
      let place : count_below (is_outside m) (variables_end m.circuit.aig) + count_below (has m.set) v ≡ length outers + count_below (has m.set) v =
      omega (arith, length-map (places (is_outside m) (variables_end m.circuit.aig)) (gate_for m), length-places (is_outside m) (variables_end m.circuit.aig)) in
      ap (λ (gates : List Gate). slice_get gates (count_below (is_outside m) (variables_end m.circuit.aig) + count_below (has m.set) v)) gates-split
      ∙ ap (λ (k : ℕ). slice_get (outers ++ copies) k) place ∙ slice_get-append_right outers copies (count_below (has m.set) v)
      ∙ slice_get-map_some (copy_for m) (places (has m.set) (variables_end m.circuit.aig)) (count_below (has m.set) v) v (at_rank (has m.set) (variables_end m.circuit.aig) v h member)

  -- and each gate
  pub data GateSource (k : ℕ) (gate : Gate) : Type 0 where
    from_outside : (v : ℕ) → Ranks (is_outside m) (variables_end m.circuit.aig) k v → gate ≡ gate_for m v → GateSource k gate
    from_member : (v j : ℕ) → Ranks (has m.set) (variables_end m.circuit.aig) j v → k ≡ count_below (is_outside m) (variables_end m.circuit.aig) + j → gate ≡ copy_for m v → GateSource k gate

  -- each gate of a moved graph is a gate outside the set or a member's copy
  pub gate_source : (k : ℕ) (gate : Gate) → slice_get (moved_graph m).gates k ≡ Some gate → GateSource k gate
  gate_source k gate e =
      let outers = map (gate_for m) (places (is_outside m) (variables_end m.circuit.aig)) in
      let copies = map (copy_for m) (places (has m.set) (variables_end m.circuit.aig)) in
      elim (from_append outers copies k gate (ap (λ (gates : List Gate). slice_get gates k) (sym gates-split) ∙ e)) [
        | inl there ↦ (
            let from = from_map (gate_for m) (places (is_outside m) (variables_end m.circuit.aig)) k gate there in
            from_outside from.0 (rank_at (is_outside m) (variables_end m.circuit.aig) k from.0 from.1) from.2)
        | inr there ↦ (
            let from = from_map (copy_for m) (places (has m.set) (variables_end m.circuit.aig)) there.0 gate there.2 in
            let place : k ≡ count_below (is_outside m) (variables_end m.circuit.aig) + there.0 =
            omega (arith, there.1, length-map (places (is_outside m) (variables_end m.circuit.aig)) (gate_for m), length-places (is_outside m) (variables_end m.circuit.aig)) in
            from_member from.0 there.0 (rank_at (has m.set) (variables_end m.circuit.aig) there.0 from.0 from.1) place from.2)
      ]

module _ (m : Move) (valid : IsGraph m.circuit.aig) (set : IsClosedSet m.circuit.aig m.held m.set) where
  -- what is read outside is_latched the order of the gates
  pub new_variable-below : (v bound : ℕ) → is_read m.circuit m.set v ≡ true → v < bound → v < variables_end m.circuit.aig
      → new_variable m v < gates_start m + count_below (is_outside m) bound
  new_variable-below v bound read less within = elim (kind_of m.circuit.aig v within) [
    | is_constant e ↦ rw (new_variable-leaf m (closed-passable m set.closed) v (omega arith)) (omega (arith, gates_start-is m))
    | is_input i h e ↦ rw (new_variable-leaf m (closed-passable m set.closed) v (omega arith)) (omega (arith, gates_start-is m))
    | is_latch j latch there e ↦
        latch_below v bound less within (latched-latch m v latch (ap (latch_at m.circuit.aig) e ∙ latch_at-first_latch m.circuit.aig j ∙ there) read)
    | is_gate k gate there e ↦ elim (cases_Bool (has m.set v)) [
      | inl member ↦ latch_below v bound less within (latched-member m v gate (ap (gate_at m.circuit.aig) e ∙ gate_at-first_gate m.circuit.aig k ∙ there) member read)
      | inr other ↦ (
          let outer : is_outside m v ≡ true = outside_where m v (omega arith) other in
          rw (new_variable-outside m (closed-passable m set.closed) v outer) (omega (arith, count-lt (is_outside m) v bound less outer)))
    ]
  ]
    where
      latch_below : (v bound : ℕ) → v < bound → v < variables_end m.circuit.aig → is_latched m v ≡ true → new_variable m v < gates_start m + count_below (is_outside m) bound
      latch_below v bound less within kept =
          rw (new_variable-latched m (closed-passable m set.closed) v kept) (omega (arith, gates_start-is m, count-lt (is_latched m) v (variables_end m.circuit.aig) within kept))

  -- what is read from outside is read at a variable before the copies
  pub new_variable-within : (v : ℕ) → is_read m.circuit m.set v ≡ true → v < variables_end m.circuit.aig → new_variable m v < copies_start m
  new_variable-within v read within = omega (arith, copies_start-is m, new_variable-below v (variables_end m.circuit.aig) read within within)

  -- a latch's next literal is read at a variable before the copies
  pub next-within : (j : ℕ) (latch : Latch) → slice_get m.circuit.aig.latches j ≡ Some latch → new_variable m (variable latch.next) < copies_start m
  next-within j latch there = new_variable-within (variable latch.next) (read-next m j latch there) (valid.latches j latch there)

  -- what a copy reads comes before it
  pub advanced-below : (w bound : ℕ) → IsLatchOrIn m.circuit.aig m.set w → w < bound → variable (advanced m w) < copies_start m + count_below (has m.set) bound
  unfolding advanced
  advanced-below w bound source less = elim (cases_Bool (has m.set w)) [
    | inl member ↦ (
        let here : advanced m w ≡ 2 * copy_variable m w = ap (λ (b : Bool). cond b (2 * copy_variable m w) (moved_literal m (next_of (latch_at m.circuit.aig w)))) member in
        omega (arith, here, copy_variable-is m w, count-lt (has m.set) w bound less member))
    | inr other ↦ (
        let here : advanced m w ≡ moved_literal m (next_of (latch_at m.circuit.aig w)) = ap (λ (b : Bool). cond b (2 * copy_variable m w) (moved_literal m (next_of (latch_at m.circuit.aig w)))) other in
        elim source [
          | inl latch ↦ (
              let next : next_of (latch_at m.circuit.aig w) ≡ latch.0.next = ap next_of latch.1 in
              let place : LatchPlace m.circuit.aig w latch.0 = latch_place m.circuit.aig w latch.0 latch.1 in
              let below : new_variable m (variable latch.0.next) < copies_start m = next-within (w - first_latch m.circuit.aig) latch.0 place.there in
              let same : variable (advanced m w) ≡ new_variable m (variable latch.0.next) = ap variable here ∙ variable-signed_as_twice (next_of (latch_at m.circuit.aig w)) (new_variable m (variable (next_of (latch_at m.circuit.aig w)))) ∙ ap (λ (n : ℕ). new_variable m (variable n)) next in
              omega arith)
          | inr member ↦ (let listed : has m.set w ≡ true = (has_iff_contains m.set w).1 member in let clash : false ≡ true = sym other ∙ listed in absurd (cc))
        ])
  ]

  IsGraph-gate : (v : ℕ) → is_outside m v ≡ true → v < variables_end m.circuit.aig → IsGateAt (gates_start m + count_below (is_outside m) v) (gate_for m v)
  IsGraph-gate v outer within =
      let parts = outside_parts m v outer in
      let after : first_gate m.circuit.aig ≤ v = leb-true (first_gate m.circuit.aig) v parts.0 in
      go v within parts.1 (kind_of m.circuit.aig v within) after
    where
      go : (v : ℕ) → v < variables_end m.circuit.aig → has m.set v ≡ false → KindOf m.circuit.aig v → first_gate m.circuit.aig ≤ v → IsGateAt (gates_start m + count_below (is_outside m) v) (gate_for m v)
      go v within other (is_constant e) after = absurd (omega arith)
      go v within other (is_input i h e) after = absurd (omega arith)
      go v within other (is_latch j latch there e) after = absurd (omega (arith, slice_get_within m.circuit.aig.latches j latch there))
      go v within other (is_gate k gate there e) after =
          let here : gate_at m.circuit.aig v ≡ Some gate = ap (gate_at m.circuit.aig) e ∙ gate_at-first_gate m.circuit.aig k ∙ there in
          let at : IsGateAt v gate = gate_at-is m.circuit.aig valid v gate here in
          let same : gate_for m v ≡ gate_of (moved_literal m gate.rhs0) (moved_literal m gate.rhs1) = ap (gate_between (moved_literal m)) here in
          let first : variable (moved_literal m gate.rhs0) < gates_start m + count_below (is_outside m) v =
          rw (variable-signed_as_twice gate.rhs0 (new_variable m (variable gate.rhs0))) (new_variable-below (variable gate.rhs0) v (read-first m v gate here other) (omega arith) (omega arith)) in
          let second : variable (moved_literal m gate.rhs1) < gates_start m + count_below (is_outside m) v =
          rw (variable-signed_as_twice gate.rhs1 (new_variable m (variable gate.rhs1))) (new_variable-below (variable gate.rhs1) v (read-second m v gate here other) (omega arith) (omega arith)) in
          let P : Gate → Type 0 = λ x. IsGateAt (gates_start m + count_below (is_outside m) v) x in
          subst P (sym same) (record {
            ordered = gate_of-ordered (moved_literal m gate.rhs0) (moved_literal m gate.rhs1);
            below = gate_of-below (gates_start m + count_below (is_outside m) v) (moved_literal m gate.rhs0) (moved_literal m gate.rhs1) first second;
          })

  IsGraph-copy : (v : ℕ) → has m.set v ≡ true → IsGateAt (copies_start m + count_below (has m.set) v) (copy_for m v)
  IsGraph-copy v member =
      let there = member-gate m (closed-passable m set.closed) v member in
      let gate : Gate = there.0 in
      let at : IsGateAt v gate = gate_at-is m.circuit.aig valid v gate there.1 in
      let sources = set.closed.fan_ins v gate ((has_iff_contains m.set v).0 member) there.1 in
      let same : copy_for m v ≡ gate_of (advanced_literal m gate.rhs0) (advanced_literal m gate.rhs1) = ap (gate_between (advanced_literal m)) there.1 in
      let first : variable (advanced_literal m gate.rhs0) < copies_start m + count_below (has m.set) v =
      rw (variable-signed_as gate.rhs0 (advanced m (variable gate.rhs0))) (advanced-below (variable gate.rhs0) v sources.0 (omega arith)) in
      let second : variable (advanced_literal m gate.rhs1) < copies_start m + count_below (has m.set) v =
      rw (variable-signed_as gate.rhs1 (advanced m (variable gate.rhs1))) (advanced-below (variable gate.rhs1) v sources.1 (omega arith)) in
      let P : Gate → Type 0 = λ x. IsGateAt (copies_start m + count_below (has m.set) v) x in
      subst P (sym same) (record {
        ordered = gate_of-ordered (advanced_literal m gate.rhs0) (advanced_literal m gate.rhs1);
        below = gate_of-below (copies_start m + count_below (has m.set) v) (advanced_literal m gate.rhs0) (advanced_literal m gate.rhs1) first second;
      })

  latch-within : (v : ℕ) → v < variables_end m.circuit.aig → is_latched m v ≡ true → variable (latch_for m v).next < variables_end (moved_graph m)
  latch-within v within kept = elim (latched-cases m v kept) [
    | inl old ↦ (
        let place : LatchPlace m.circuit.aig v old.0 = latch_place m.circuit.aig v old.0 old.1 in
        let same : (latch_for m v).next ≡ moved_literal m old.0.next = ap (λ (o : Option Latch). (latch_from m v o).next) old.1 in
        let to : variable (latch_for m v).next ≡ new_variable m (variable old.0.next) = ap variable same ∙ variable-signed_as_twice old.0.next (new_variable m (variable old.0.next)) in
        omega (arith, moved-end m set, next-within (v - first_latch m.circuit.aig) old.0 place.there))
    | inr new ↦ (
        let same : (latch_for m v).next ≡ 2 * copy_variable m v = ap (λ (o : Option Latch). (latch_from m v o).next) new.0 in
        omega (arith, moved-end m set, copy_variable-is m v, count-lt (has m.set) v (variables_end m.circuit.aig) within new.1))
  ]

  -- a moved graph within the limit of variables is a graph
  pub IsGraph-moved : variables_end (moved_graph m) ≤ MAX_VARIABLES → IsGraph (moved_graph m)
  IsGraph-moved room = record {
    small = room;
    latches = λ k latch e.
        let from = latch_source m k latch e in
        let P : Latch → Type 0 = λ x. variable x.next < variables_end (moved_graph m) in
        subst P (sym from.2) (latch-within from.0 from.1.below from.1.passes);
    gates = λ k gate e. elim (gate_source m set k gate e) [
      | from_outside v ranks same ↦ (
          let place : gates_start m + count_below (is_outside m) v ≡ first_gate (moved_graph m) + k = omega (arith, moved-first_gate m, ranks.rank) in
          let P : ℕ → Type 0 = λ n. IsGateAt n gate in
          let Q : Gate → Type 0 = λ x. IsGateAt (gates_start m + count_below (is_outside m) v) x in
          subst P place (subst Q (sym same) (IsGraph-gate v ranks.passes ranks.below)))
      | from_member v j ranks at same ↦ (
          let place : copies_start m + count_below (has m.set) v ≡ first_gate (moved_graph m) + k = omega (arith, moved-first_gate m, ranks.rank, copies_start-is m) in
          let P : ℕ → Type 0 = λ n. IsGateAt n gate in
          let Q : Gate → Type 0 = λ x. IsGateAt (copies_start m + count_below (has m.set) v) x in
          subst P place (subst Q (sym same) (IsGraph-copy v ranks.passes)))
    ];
  }
