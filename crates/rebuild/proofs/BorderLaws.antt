-- What is read from outside a closed set, and what holds it.
use Rattle.std.proofs.Common.{ℕ, ◌+◌, ◌-◌, ◌<◌, ◌≤◌, ◌≡◌, ◌⊎◌, inl, inr, suc, zero, List, [], ◌∷◌, Bool, true, false, ◌&&◌, ◌||◌, not, nat_le, nat_eq, Option, Some, None, is_some, slice_get, refl, arith, ap, sym, ◌∙◌}
use Rattle.std.specs.List.{list_any, enumerate_from}
use Rattle.std.proofs.lemmas.Bool.{cases_Bool, and_from, and_parts, and_left, and_right, or_left, or_right, or_from, le-leb, lt-leb, eq-eqb, false_from_ne_true, cond-true, cond-false, both_ways, leb-true, not-true}
use Rattle.std.proofs.lemmas.Option.{none-some, same_Some, slice_get_within, get_or_from_slice_get}
use Rattle.std.proofs.lemmas.List.Folds.{list_any_at}
use Rattle.aig_graph.proofs.ClosedBorderLaws.{is_gate_in-same}
use Rattle.aig_graph.proofs.KindLaws.{GatePlace, gate_place, latch_at-before, latch_at-gates}
use Rattle.aig_graph.proofs.SearchLaws.{has_iff_contains}
use Rattle.aig_graph.specs.Border.{in_border, is_gate_in, is_fan_in, is_read, is_read_outside, reads}
use Rattle.aig_graph.specs.Closed.{IsClosed, IsPassable, is_held, is_settled}
use Rattle.aig_graph.specs.Graph.{first_gate, first_latch, gate_at, is_free, is_known, latch_at, variable, is_free_latch}
use Rattle.aig_graph.specs.Move.{Move}
use Rattle.aig_graph.specs.Streams.{property_literals}
use Rattle.aig_graph.specs.declared.graph.Gate.{Gate}
use Rattle.aig_graph.specs.declared.graph.Latch.{Latch}
use Rattle.rebuild.specs.Members.{ArePassable}
use Rattle.rebuild.specs.Moved.{gates_start, is_latched, is_outside, new_variable}
use Rattle.aig_graph.specs.Counting.{count_below, numbered}
use Rattle.aig_graph.specs.Marking.{has}

any_at : {A : Type 0} (p : A → Bool) (xs : List A) (k : ℕ) (x : A) → slice_get xs k ≡ Some x → p x ≡ true → list_any p xs ≡ true
any_at p xs k x there passes = list_any_at p xs k x (slice_get_within xs k x there) (ap p (get_or_from_slice_get xs k x x there) ∙ passes)

abbrev placed : {A : Type 0} → ℕ → A → Option (ℕ × A)
placed m x = Some (m, x)

enumerated : {A : Type 0} (xs : List A) (n k : ℕ) (x : A) → slice_get xs k ≡ Some x → slice_get (enumerate_from n xs) k ≡ Some (n + k, x)
enumerated [] n k x e = absurd (none-some x e)
enumerated (y ∷ ys) n zero x e = let here : n ≡ n + 0 = omega arith in let same : y ≡ x = same_Some y x e in cc
enumerated {A} (y ∷ ys) n (suc k) x e =
    let place : n + 1 + k ≡ n + suc k = omega arith in
    enumerated ys (n + 1) k x e ∙ ap (λ (m : ℕ). placed m x) place

module _ (m : Move) where
  -- the variable of a latch's next literal is read from outside the set
  pub read-next : (j : ℕ) (latch : Latch) → slice_get m.circuit.aig.latches j ≡ Some latch → is_read m.circuit m.set (variable latch.next) ≡ true
  unfolding is_read_outside
  read-next j latch there =
      let v : ℕ = variable latch.next in
      let by_gates = list_any (λ (e : ℕ × Gate). not (has m.set e.0) && is_fan_in v e.1) (enumerate_from (first_gate m.circuit.aig) m.circuit.aig.gates) in
      let by_latches : list_any (λ (l : Latch). reads v l.next) m.circuit.aig.latches ≡ true = any_at (λ (l : Latch). reads v l.next) m.circuit.aig.latches j latch there (eq-eqb v v refl) in
      or_left (by_gates || list_any (λ (l : Latch). reads v l.next) m.circuit.aig.latches) (list_any (reads v) (property_literals m.circuit.props)) (or_right by_gates (list_any (λ (l : Latch). reads v l.next) m.circuit.aig.latches) by_latches)

  -- the variable of a property's literal is read from outside the set
  pub read-property : (k lit : ℕ) → slice_get (property_literals m.circuit.props) k ≡ Some lit → is_read m.circuit m.set (variable lit) ≡ true
  unfolding is_read_outside
  read-property k lit there =
      let v : ℕ = variable lit in
      let by_gates = list_any (λ (e : ℕ × Gate). not (has m.set e.0) && is_fan_in v e.1) (enumerate_from (first_gate m.circuit.aig) m.circuit.aig.gates) in
      let by_latches = list_any (λ (l : Latch). reads v l.next) m.circuit.aig.latches in
      or_right (by_gates || by_latches) (list_any (reads v) (property_literals m.circuit.props)) (any_at (reads v) (property_literals m.circuit.props) k lit there (eq-eqb v v refl))

  read_by_gate : (v w : ℕ) (gate : Gate) → gate_at m.circuit.aig v ≡ Some gate → has m.set v ≡ false → is_fan_in w gate ≡ true → is_read m.circuit m.set w ≡ true
  unfolding is_read_outside
  read_by_gate v w gate e other fan_in =
      let place : GatePlace m.circuit.aig v gate = gate_place m.circuit.aig v gate e in
      let here : first_gate m.circuit.aig + (v - first_gate m.circuit.aig) ≡ v = omega arith in
      let test = λ (e : ℕ × Gate). not (has m.set e.0) && is_fan_in w e.1 in
      let by_gates : list_any test (enumerate_from (first_gate m.circuit.aig) m.circuit.aig.gates) ≡ true =
      any_at test (enumerate_from (first_gate m.circuit.aig) m.circuit.aig.gates) (v - first_gate m.circuit.aig) (first_gate m.circuit.aig + (v - first_gate m.circuit.aig), gate)
      (enumerated m.circuit.aig.gates (first_gate m.circuit.aig) (v - first_gate m.circuit.aig) gate place.there)
      (and_from (not (has m.set (first_gate m.circuit.aig + (v - first_gate m.circuit.aig)))) (is_fan_in w gate) (ap (λ (n : ℕ). not (has m.set n)) here ∙ ap not other) fan_in) in
      let by_latches = list_any (λ (l : Latch). reads w l.next) m.circuit.aig.latches in
      or_left (list_any test (enumerate_from (first_gate m.circuit.aig) m.circuit.aig.gates) || by_latches) (list_any (reads w) (property_literals m.circuit.props)) (or_left (list_any test (enumerate_from (first_gate m.circuit.aig) m.circuit.aig.gates)) by_latches by_gates)

  -- the variable of the first fan-in of a gate that isn't in the set is read from outside
  pub read-first : (v : ℕ) (gate : Gate) → gate_at m.circuit.aig v ≡ Some gate → has m.set v ≡ false → is_read m.circuit m.set (variable gate.rhs0) ≡ true
  read-first v gate e other = read_by_gate v (variable gate.rhs0) gate e other (or_left (nat_eq (variable gate.rhs0) (variable gate.rhs0)) (reads (variable gate.rhs0) gate.rhs1) (eq-eqb (variable gate.rhs0) (variable gate.rhs0) refl))

  -- the variable of the second fan-in of a gate that isn't in the set is read from outside
  pub read-second : (v : ℕ) (gate : Gate) → gate_at m.circuit.aig v ≡ Some gate → has m.set v ≡ false → is_read m.circuit m.set (variable gate.rhs1) ≡ true
  read-second v gate e other = read_by_gate v (variable gate.rhs1) gate e other (or_right (reads (variable gate.rhs1) gate.rhs0) (nat_eq (variable gate.rhs1) (variable gate.rhs1)) (eq-eqb (variable gate.rhs1) (variable gate.rhs1) refl))

  -- a known latch or gate of the set that is read has a latch
  pub latched_where_read : (v : ℕ) → is_read m.circuit m.set v ≡ true → (is_known (latch_at m.circuit.aig v) || is_gate_in m.circuit.aig m.set v) ≡ true → is_latched m v ≡ true
  unfolding is_latched in_border
  latched_where_read v read held = or_right (is_free_latch (latch_at m.circuit.aig v)) (in_border m v) (and_from (is_known (latch_at m.circuit.aig v) || is_gate_in m.circuit.aig m.set v) (is_held m.circuit.aig m.held v || is_read m.circuit m.set v) held (or_right (is_held m.circuit.aig m.held v) (is_read m.circuit m.set v) read))

  free_or_known : (latch : Latch) → (is_free latch ≡ true) ⊎ (is_known (Some latch) ≡ true)
  free_or_known latch = elim (cases_Bool (is_free latch)) [ inl free ↦ inl free | inr other ↦ inr (ap not other) ]

  -- a free latch has a latch after the move
  pub latched_where_free : (v : ℕ) (latch : Latch) → latch_at m.circuit.aig v ≡ Some latch → is_free latch ≡ true → is_latched m v ≡ true
  unfolding is_latched
  latched_where_free v latch e free = or_left (is_free_latch (latch_at m.circuit.aig v)) (in_border m v) (ap is_free_latch e ∙ free)

  -- so has a latch that is read
  pub latched-latch : (v : ℕ) (latch : Latch) → latch_at m.circuit.aig v ≡ Some latch → is_read m.circuit m.set v ≡ true → is_latched m v ≡ true
  latched-latch v latch e read = elim (free_or_known latch) [
    | inl free ↦ latched_where_free v latch e free
    | inr known ↦ latched_where_read v read (or_left (is_known (latch_at m.circuit.aig v)) (is_gate_in m.circuit.aig m.set v) (ap is_known e ∙ known))
  ]

  -- and a gate of the set
  pub latched-member : (v : ℕ) (gate : Gate) → gate_at m.circuit.aig v ≡ Some gate → has m.set v ≡ true → is_read m.circuit m.set v ≡ true → is_latched m v ≡ true
  latched-member v gate here member read =
      latched_where_read v read (or_right (is_known (latch_at m.circuit.aig v)) (is_gate_in m.circuit.aig m.set v) (and_from (is_some (gate_at m.circuit.aig v)) (has m.set v) (ap is_some here) member))

  -- what is no latch and no member has none
  pub latched-other : (v : ℕ) → latch_at m.circuit.aig v ≡ None → has m.set v ≡ false → is_latched m v ≡ false
  unfolding is_latched in_border
  latched-other v no_latch other =
      or_from (is_free_latch (latch_at m.circuit.aig v)) (in_border m v) (ap is_free_latch no_latch)
      (and_left (is_known (latch_at m.circuit.aig v) || is_gate_in m.circuit.aig m.set v) (is_held m.circuit.aig m.held v || is_read m.circuit m.set v)
      (or_from (is_known (latch_at m.circuit.aig v)) (is_gate_in m.circuit.aig m.set v) (ap is_known no_latch) (and_right (is_some (gate_at m.circuit.aig v)) (has m.set v) other)))

  -- what has a latch is a latch or in the set
  pub latched-cases : (v : ℕ) → is_latched m v ≡ true → ((latch : Latch) × (latch_at m.circuit.aig v ≡ Some latch)) ⊎ ((latch_at m.circuit.aig v ≡ None) × (has m.set v ≡ true))
  latched-cases v kept = go (latch_at m.circuit.aig v) refl
    where
      go : (o : Option Latch) → latch_at m.circuit.aig v ≡ o → ((latch : Latch) × (latch_at m.circuit.aig v ≡ Some latch)) ⊎ ((latch_at m.circuit.aig v ≡ None) × (has m.set v ≡ true))
      go (Some latch) e = inl (latch, e)
      go None e = elim (cases_Bool (has m.set v)) [
        | inl member ↦ inr (e, member)
        | inr other ↦ absurd (both_ways (is_latched m v) (latched-other v e other) kept)
      ]

  -- a gate that has one is a member
  pub border-member : (v : ℕ) → first_gate m.circuit.aig ≤ v → is_latched m v ≡ true → has m.set v ≡ true
  border-member v after kept = elim (latched-cases v kept) [
    | inl old ↦ absurd (none-some old.0 (sym (latch_at-gates m.circuit.aig v after) ∙ old.1))
    | inr new ↦ new.1
  ]

  -- a gate that isn't in the set is outside
  pub outside_where : (v : ℕ) → first_gate m.circuit.aig ≤ v → has m.set v ≡ false → is_outside m v ≡ true
  unfolding is_outside
  outside_where v after other = and_from (nat_le (first_gate m.circuit.aig) v) (not (has m.set v)) (le-leb (first_gate m.circuit.aig) v after) (ap not other)

  -- what stands before the gates isn't a gate outside
  pub not_outside_before : (v : ℕ) → v < first_gate m.circuit.aig → is_outside m v ≡ false
  unfolding is_outside
  not_outside_before v before = and_left (nat_le (first_gate m.circuit.aig) v) (not (has m.set v)) (lt-leb (first_gate m.circuit.aig) v before)

  -- a member of the set isn't outside
  pub not_outside_member : (v : ℕ) → has m.set v ≡ true → is_outside m v ≡ false
  unfolding is_outside
  not_outside_member v member = and_right (nat_le (first_gate m.circuit.aig) v) (not (has m.set v)) (ap not member)

  -- a gate outside is a gate, and no member
  pub outside_parts : (v : ℕ) → is_outside m v ≡ true → (nat_le (first_gate m.circuit.aig) v ≡ true) × (has m.set v ≡ false)
  unfolding is_outside
  outside_parts v outer =
      let parts = and_parts (nat_le (first_gate m.circuit.aig) v) (not (has m.set v)) outer in
      (parts.0, not-true (has m.set v) parts.1)

-- what has a latch is read at its latch
pub new_variable-where_latched : (m : Move) (v : ℕ) → is_latched m v ≡ true → new_variable m v ≡ first_latch m.circuit.aig + count_below (is_latched m) v
unfolding new_variable numbered
new_variable-where_latched m v kept = cond-true (is_latched m v) _ _ kept

-- the members of a closed set are passable gates
pub closed-passable : (m : Move) → IsClosed m.circuit.aig m.held m.set → ArePassable m.circuit.aig m.held m.set
closed-passable m closed = λ v member.
    let pass : IsPassable m.circuit.aig m.held v = closed.passable v ((has_iff_contains m.set v).0 member) in
    and_from (is_some (gate_at m.circuit.aig v)) (is_settled m.circuit.aig m.held v) (ap is_some pass.1) pass.2

module _ (m : Move) (passable : ArePassable m.circuit.aig m.held m.set) where
  -- a member of the set is a gate
  pub member-gate : (v : ℕ) → has m.set v ≡ true → (gate : Gate) × (gate_at m.circuit.aig v ≡ Some gate)
  member-gate v member = go (gate_at m.circuit.aig v) (and_parts (is_some (gate_at m.circuit.aig v)) (is_settled m.circuit.aig m.held v) (passable v member)).0
    where
      go : (o : Option Gate) → is_some o ≡ true → (gate : Gate) × (o ≡ Some gate)
      go None h = absurd (cc)
      go (Some gate) h = (gate, refl)

  -- the gates of the set are its members
  pub gates-members : (v : ℕ) → is_gate_in m.circuit.aig m.set v ≡ has m.set v
  gates-members v = is_gate_in-same m.circuit.aig m.set (λ w member. (and_parts (is_some (gate_at m.circuit.aig w)) (is_settled m.circuit.aig m.held w) (passable w member)).0) v

  -- no member stands before the gates
  pub no-member-before : (v : ℕ) → v < first_gate m.circuit.aig → has m.set v ≡ false
  no-member-before v before = false_from_ne_true (has m.set v) (λ member.
      let there = member-gate v member in
      let place : GatePlace m.circuit.aig v there.0 = gate_place m.circuit.aig v there.0 there.1 in
      omega arith)

  -- the constant and the inputs stay where they are
  pub new_variable-leaf : (v : ℕ) → v < first_latch m.circuit.aig → new_variable m v ≡ v
  unfolding new_variable numbered
  new_variable-leaf v h =
      let unkept : is_latched m v ≡ false = latched-other m v (latch_at-before m.circuit.aig v h) (no-member-before v (omega arith)) in
      cond-false (is_latched m v) _ _ unkept ∙ cond-false (is_outside m v) _ _ (not_outside_before m v (omega arith))

  -- what has a latch is read at the variable of that latch
  pub new_variable-latched : (v : ℕ) → is_latched m v ≡ true → new_variable m v ≡ first_latch m.circuit.aig + count_below (is_latched m) v
  new_variable-latched v kept = new_variable-where_latched m v kept

  -- a gate outside is read at its new variable after the latches
  pub new_variable-outside : (v : ℕ) → is_outside m v ≡ true → new_variable m v ≡ gates_start m + count_below (is_outside m) v
  unfolding new_variable numbered
  new_variable-outside v outer =
      let parts = outside_parts m v outer in
      let unkept : is_latched m v ≡ false = latched-other m v (latch_at-gates m.circuit.aig v (leb v parts.0)) parts.1 in
      cond-false (is_latched m v) _ _ unkept ∙ cond-true (is_outside m v) _ _ outer
    where
      leb : (v : ℕ) → nat_le (first_gate m.circuit.aig) v ≡ true → first_gate m.circuit.aig ≤ v
      leb v h = leb-true (first_gate m.circuit.aig) v h
