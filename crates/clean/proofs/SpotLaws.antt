-- What is read in a moved circuit has a variable of its own.
use Rattle.std.proofs.Common.{ℕ, ◌+◌, ◌<◌, ◌≤◌, ◌≡◌, ◌⊎◌, inl, inr, Bool, true, arith, ap, ◌∙◌}
use Rattle.std.proofs.lemmas.Bool.{cases_Bool, cases_lt}
use Rattle.aig_graph.specs.declared.graph.Gate.{Gate}
use Rattle.aig_graph.specs.Border.{is_read}
use Rattle.aig_graph.specs.Building.{gate_of}
use Rattle.aig_graph.specs.Closed.{IsClosedSet}
use Rattle.aig_graph.specs.Graph.{variable, first_latch, variables_end, latch_at, gate_at}
use Rattle.aig_graph.specs.Move.{Move}
use Rattle.aig_graph.proofs.FoldingLaws.{gate_at-first_gate}
use Rattle.aig_graph.proofs.KindLaws.{is_constant, is_gate, is_input, is_latch, kind_of, latch_at-first_latch}
use Rattle.aig_graph.specs.Counting.{count_below}
use Rattle.aig_graph.specs.Marking.{has}
use Rattle.aig_graph.proofs.PlacesLaws.{count-lt}
use Rattle.rebuild.specs.Moved.{copies_start, gates_start, is_latched, is_outside, moved_literal, new_variable}
use Rattle.rebuild.proofs.BorderLaws.{closed-passable, latched-latch, latched-member, new_variable-latched, new_variable-leaf, new_variable-outside, outside_where}
use Rattle.rebuild.proofs.MovedLaws.{copies_start-is, gates_start-is}
use Rattle.clean.specs.Normalised.{IsPlain}

-- two numbers that pass and have one rank are one
pub same-rank : (p : ℕ → Bool) (v w : ℕ) → p v ≡ true → p w ≡ true → count_below p v ≡ count_below p w → v ≡ w
same-rank p v w pv pw same = elim (cases_lt v w) [
  | inl less ↦ absurd (omega (arith, same, count-lt p v w less pv))
  | inr more ↦ elim (cases_lt w v) [
    | inl less ↦ absurd (omega (arith, same, count-lt p w v less pw))
    | inr other ↦ omega arith
  ]
]

-- two pairs of literals make one gate only if they have equal members
pub pair-cases : (x y u v : ℕ) → gate_of x y ≡ gate_of u v → ((x ≡ u) × (y ≡ v)) ⊎ ((x ≡ v) × (y ≡ u))
pair-cases x y u v same =
    let high : (gate_of x y).rhs0 ≡ (gate_of u v).rhs0 = ap (λ (g : Gate). g.rhs0) same in
    let low : (gate_of x y).rhs1 ≡ (gate_of u v).rhs1 = ap (λ (g : Gate). g.rhs1) same in
    elim (cases_lt x y) [
      | inl one ↦ elim (cases_lt u v) [
        | inl two ↦ inl (omega (arith, high, low), omega (arith, high, low))
        | inr two ↦ inr (omega (arith, high, low), omega (arith, high, low))
      ]
      | inr one ↦ elim (cases_lt u v) [
        | inl two ↦ inr (omega (arith, high, low), omega (arith, high, low))
        | inr two ↦ inl (omega (arith, high, low), omega (arith, high, low))
      ]
    ]

gate-is : (a b : Gate) → a.rhs0 ≡ b.rhs0 → a.rhs1 ≡ b.rhs1 → a ≡ b
gate-is a b first second =
    let one : ℕ → Gate = λ n. record { rhs0 = n; rhs1 = a.rhs1 } in
    let two : ℕ → Gate = λ n. record { rhs0 = b.rhs0; rhs1 = n } in
    ap one first ∙ ap two second

-- f gives two gates one pair only if they are one
pub pair-one : (f : ℕ → ℕ) (a b : Gate) → a.rhs1 ≤ a.rhs0 → b.rhs1 ≤ b.rhs0
    → (f a.rhs0 ≡ f b.rhs0 → a.rhs0 ≡ b.rhs0) → (f a.rhs1 ≡ f b.rhs1 → a.rhs1 ≡ b.rhs1)
    → (f a.rhs0 ≡ f b.rhs1 → a.rhs0 ≡ b.rhs1) → (f a.rhs1 ≡ f b.rhs0 → a.rhs1 ≡ b.rhs0)
    → gate_of (f a.rhs0) (f a.rhs1) ≡ gate_of (f b.rhs0) (f b.rhs1) → a ≡ b
pair-one f a b ordered_a ordered_b one two cross other same = elim (pair-cases (f a.rhs0) (f a.rhs1) (f b.rhs0) (f b.rhs1) same) [
  | inl straight ↦ gate-is a b (one straight.0) (two straight.1)
  | inr crossed ↦ (
      let first : a.rhs0 ≡ b.rhs1 = cross crossed.0 in
      let second : a.rhs1 ≡ b.rhs0 = other crossed.1 in
      gate-is a b (omega (arith, first, second)) (omega (arith, first, second)))
]

-- the gate of literals of two variables, neither of which is the constant, is plain
pub plain-of : (x y : ℕ) → 0 < variable x → 0 < variable y → (variable x ≡ variable y → ⊥) → IsPlain (gate_of x y)
plain-of x y p q apart = elim (cases_lt x y) [
  | inl less ↦ elim (cases_lt (variable x) (variable y)) [
    | inl below ↦ record { constant = omega arith; apart = omega arith }
    | inr more ↦ absurd (apart (omega arith))
  ]
  | inr more ↦ elim (cases_lt (variable y) (variable x)) [
    | inl below ↦ record { constant = omega arith; apart = omega arith }
    | inr less ↦ absurd (apart (omega arith))
  ]
]

module _ (m : Move) (set : IsClosedSet m.circuit.aig m.held m.set) where
  -- where a variable of the circuit is read in the moved one
  pub data Spot (v : ℕ) : Type 0 where
    at_leaf : v < first_latch m.circuit.aig → new_variable m v ≡ v → Spot v
    at_latch : v < variables_end m.circuit.aig → is_latched m v ≡ true → new_variable m v ≡ first_latch m.circuit.aig + count_below (is_latched m) v → Spot v
    at_gate : v < variables_end m.circuit.aig → is_outside m v ≡ true → new_variable m v ≡ gates_start m + count_below (is_outside m) v → Spot v

  -- a variable that has a latch in the moved circuit is read there as that latch
  pub latched-spot : (v : ℕ) → v < variables_end m.circuit.aig → is_latched m v ≡ true → Spot v
  latched-spot v within kept = at_latch within kept (new_variable-latched m (closed-passable m set.closed) v kept)

  -- a variable that is read from outside the set is read in the moved circuit as itself, its latch
  -- or its gate
  pub read-spot : (v : ℕ) → v < variables_end m.circuit.aig → is_read m.circuit m.set v ≡ true → Spot v
  read-spot v within read = elim (kind_of m.circuit.aig v within) [
    | is_constant same ↦ at_leaf (omega arith) (new_variable-leaf m (closed-passable m set.closed) v (omega arith))
    | is_input i h same ↦ at_leaf (omega arith) (new_variable-leaf m (closed-passable m set.closed) v (omega arith))
    | is_latch j latch there same ↦
        latched-spot v within (latched-latch m v latch (ap (latch_at m.circuit.aig) same ∙ latch_at-first_latch m.circuit.aig j ∙ there) read)
    | is_gate k gate there same ↦ elim (cases_Bool (has m.set v)) [
      | inl member ↦ latched-spot v within (latched-member m v gate (ap (gate_at m.circuit.aig) same ∙ gate_at-first_gate m.circuit.aig k ∙ there) member read)
      | inr other ↦ (
          let outer : is_outside m v ≡ true = outside_where m v (omega arith) other in
          at_gate within outer (new_variable-outside m (closed-passable m set.closed) v outer))
    ]
  ]

  -- each variable has a spot of its own
  pub spot-one : (v w : ℕ) → Spot v → Spot w → new_variable m v ≡ new_variable m w → v ≡ w
  spot-one v w (at_leaf low here) (at_leaf low2 there) same = omega (arith, here, there, same)
  spot-one v w (at_leaf low here) (at_latch within2 kept2 there) same = absurd (omega (arith, here, there, same))
  spot-one v w (at_leaf low here) (at_gate within2 outer2 there) same = absurd (omega (arith, here, there, same, gates_start-is m))
  spot-one v w (at_latch within kept here) (at_leaf low2 there) same = absurd (omega (arith, here, there, same))
  spot-one v w (at_latch within kept here) (at_latch within2 kept2 there) same = same-rank (is_latched m) v w kept kept2 (omega (arith, here, there, same))
  spot-one v w (at_latch within kept here) (at_gate within2 outer2 there) same =
      absurd (omega (arith, here, there, same, gates_start-is m, count-lt (is_latched m) v (variables_end m.circuit.aig) within kept))
  spot-one v w (at_gate within outer here) (at_leaf low2 there) same = absurd (omega (arith, here, there, same, gates_start-is m))
  spot-one v w (at_gate within outer here) (at_latch within2 kept2 there) same =
      absurd (omega (arith, here, there, same, gates_start-is m, count-lt (is_latched m) w (variables_end m.circuit.aig) within2 kept2))
  spot-one v w (at_gate within outer here) (at_gate within2 outer2 there) same = same-rank (is_outside m) v w outer outer2 (omega (arith, here, there, same))

  -- only the constant is read as the constant
  pub spot-constant : (v : ℕ) → Spot v → 0 < v → 0 < new_variable m v
  spot-constant v (at_leaf low here) some = omega (arith, here)
  spot-constant v (at_latch within kept here) some = omega (arith, here)
  spot-constant v (at_gate within outer here) some = omega (arith, here, gates_start-is m)

  -- what is read in the place of a variable stands before the copies
  pub spot-below : (v : ℕ) → Spot v → new_variable m v < copies_start m
  spot-below v (at_leaf low here) = omega (arith, here, copies_start-is m, gates_start-is m)
  spot-below v (at_latch within kept here) = omega (arith, here, copies_start-is m, gates_start-is m, count-lt (is_latched m) v (variables_end m.circuit.aig) within kept)
  spot-below v (at_gate within outer here) = omega (arith, here, copies_start-is m, count-lt (is_outside m) v (variables_end m.circuit.aig) within outer)

  -- literals that are read as one literal of the moved circuit are one
  pub literal-one : (a b : ℕ) → Spot (variable a) → Spot (variable b) → moved_literal m a ≡ moved_literal m b → a ≡ b
  literal-one a b sa sb same =
      let vars : new_variable m (variable a) ≡ new_variable m (variable b) = omega (arith, same) in
      let one : variable a ≡ variable b = spot-one (variable a) (variable b) sa sb vars in
      omega (arith, same, vars, one)
