-- Which gates are passable, gate by gate.
use Rattle.std.proofs.Common.{◌≡◌, ℕ, ◌+◌, ◌-◌, ◌<◌, ◌≤◌, Bool, true, false, not, ◌&&◌, ◌||◌, nat_le, IsTrue, List, [], ◌∷◌, ◌++◌, length, get_or, Option, Some, None, is_some, arith, refl, ap, ap₂, sym, ◌∙◌, subst, inl, inr, ◌⊎◌}
use Rattle.std.proofs.Math.Bool.{or-false}
use Rattle.std.specs.Prelude.{◌↔◌}
use Rattle.std.proofs.lemmas.Bool.{cases_lt, and_right}
use Rattle.std.proofs.lemmas.Option.{none-some, slice_get-get_or}
use Rattle.std.proofs.lemmas.List.{get_or_past}
use Rattle.aig_graph.specs.Counting.{count_below}
use Rattle.aig_graph.specs.Tables.{table}
use Rattle.aig_graph.specs.Marking.{mark_at, AreAllMarks}
use Rattle.aig_graph.proofs.PlacesLaws.{length-places}
use Rattle.aig_graph.proofs.MarkingLaws.{AreAllMarks-table, mark_at-all}
use Rattle.aig_graph.proofs.TableLaws.{length-table, entry}
use Rattle.aig_graph.specs.declared.graph.Gate.{Gate}
use Rattle.aig_graph.specs.Graph.{Graph, IsGraph, IsGateAt, variable, first_latch, first_gate, variables_end, latches_and_gates, gate_at, is_known}
use Rattle.aig_graph.specs.Closed.{is_held, may_move, both, is_settled, IsPassable}
use Rattle.aig_graph.proofs.FoldingLaws.{gate_at-before, gate_at-first_gate, gate_at-is, fold_gates-leaf}
use Rattle.aig_graph.proofs.KindLaws.{latch_at-gates, GatePlace, gate_place}
use Rattle.aig_graph.proofs.ClosedLaws.{is_settled-gate}
use Rattle.frame_net.specs.Passable.{is_passable, passable_gates}

-- a test that holds is true
pub is_true : (b : Bool) → IsTrue b → b ≡ true
is_true true t = refl
is_true false t = absurd (cc)

-- there is a gate at a variable, or none
pub gate_cases : (g : Graph) (v : ℕ) → (gate_at g v ≡ None) ⊎ ((gate : Gate) × (gate_at g v ≡ Some gate))
gate_cases g v = cases (gate_at g v)
  where
    cases : (o : Option Gate) → (o ≡ None) ⊎ ((gate : Gate) × (o ≡ Some gate))
    cases None = inl refl
    cases (Some gate) = inr (gate, refl)

-- what is no gate isn't passable
pub passable-no_gate : (g : Graph) (held : List ℕ) (v : ℕ) → gate_at g v ≡ None → is_passable g held v ≡ false
unfolding is_passable
passable-no_gate g held v e = ap (λ (o : Option Gate). is_some o && is_settled g held v) e

-- a gate is passable if and only if it is settled
pub passable-at_gate : (g : Graph) (held : List ℕ) (v : ℕ) (gate : Gate) → gate_at g v ≡ Some gate → is_passable g held v ≡ is_settled g held v
unfolding is_passable
passable-at_gate g held v gate e = ap (λ (o : Option Gate). is_some o && is_settled g held v) e

-- nothing before the first gate is passable
pub passable-before : (g : Graph) (held : List ℕ) (v : ℕ) → v < first_gate g → is_passable g held v ≡ false
passable-before g held v h = passable-no_gate g held v (gate_at-before g v h)

-- nothing past the last gate is passable
pub passable-past : (g : Graph) (held : List ℕ) (v : ℕ) → variables_end g ≤ v → is_passable g held v ≡ false
passable-past g held v h = elim (gate_cases g v) [
  | inl none ↦ passable-no_gate g held v none
  | inr some ↦ absurd (omega (arith, h, (gate_place g v some.0 some.1).below))
]

-- a variable is passable by the test if and only if it is a passable gate
pub passable-means : (g : Graph) (held : List ℕ) (v : ℕ) → IsTrue (is_passable g held v) ↔ IsPassable g held v
passable-means g held v = elim (gate_cases g v) [
  | inl none ↦ (
    (λ t. absurd (no_true (is_passable g held v) (passable-no_gate g held v none) t)),
    (λ p. absurd (none-some p.0 (sym none ∙ p.1))),
  )
  | inr some ↦ (
    (λ t. (some.0, some.1, subst (λ (b : Bool). IsTrue b) (passable-at_gate g held v some.0 some.1) t)),
    (λ p. subst (λ (b : Bool). IsTrue b) (sym (passable-at_gate g held v some.0 some.1)) p.2),
  )
]
  where
    no_true : (b : Bool) → b ≡ false → IsTrue b → ⊥
    no_true true e t = absurd (cc)
    no_true false e t = absurd (cc)

-- what is no gate is settled if and only if it may move
pub settled-leaf : (g : Graph) (held : List ℕ) (v : ℕ) → gate_at g v ≡ None → is_settled g held v ≡ may_move g held v
unfolding is_settled
settled-leaf g held v e = fold_gates-leaf g (may_move g held) both v e

-- a settled variable is a passable gate or a latch that may move
pub settled-split : (g : Graph) (held : List ℕ) (v : ℕ) → is_settled g held v ≡ (is_passable g held v || may_move g held v)
settled-split g held v = elim (gate_cases g v) [
  | inl none ↦ settled-leaf g held v none ∙ ap (λ (b : Bool). b || may_move g held v) (sym (passable-no_gate g held v none))
  | inr some ↦ (
      let place : GatePlace g v some.0 = gate_place g v some.0 some.1 in
      let stays : may_move g held v ≡ false = ap (λ (o : Option _). not (is_held g held v) && is_known o) (latch_at-gates g v place.from) ∙ and_right (not (is_held g held v)) false refl in
      sym (ap₂ (λ (a b : Bool). a || b) (passable-at_gate g held v some.0 some.1) stays ∙ or-false (is_settled g held v)))
]

-- a table of the passable gates marks all of them
pub pass-marks : (g : Graph) (held : List ℕ) (n : ℕ) (marks : List Bool) → marks ≡ table (first_latch g) n (is_passable g held) → AreAllMarks (first_latch g) marks (is_passable g held)
pass-marks g held n marks filled = AreAllMarks-table (first_latch g) n marks (is_passable g held) filled (λ v h. passable-before g held v (omega (arith, h)))

-- a variable's mark says whether it is settled, with latches that may move
pub settled-marked : (g : Graph) (held : List ℕ) (n v : ℕ) (marks : List Bool) → marks ≡ table (first_latch g) n (is_passable g held) → v < first_latch g + n
    → (mark_at (first_latch g) marks v || may_move g held v) ≡ is_settled g held v
settled-marked g held n v marks filled h =
    let long : length marks ≡ n = ap length filled ∙ length-table (first_latch g) n (is_passable g held) in
    ap (λ (b : Bool). b || may_move g held v) (mark_at-all (first_latch g) marks (is_passable g held) v (pass-marks g held n marks filled) (omega (arith, long, h)))
    ∙ sym (settled-split g held v)

-- nothing is marked past the marks
pub mark_at-past : (first : ℕ) (marks : List Bool) (v : ℕ) → first + length marks ≤ v → mark_at first marks v ≡ false
unfolding mark_at
mark_at-past first marks v h = ap (λ (b : Bool). nat_le first v && b) (get_or_past marks (v - first) false (omega (arith, h))) ∙ and_right (nat_le first v) false refl

-- the next gate
pub passable-more : (g : Graph) (held : List ℕ) (k : ℕ) (gate : Gate) (marks : List Bool) (passes : Bool) → IsGraph g → k < length g.gates → gate ≡ get_or g.gates k gate
    → marks ≡ table (first_latch g) (length g.latches + k) (is_passable g held)
    → passes ≡ ((mark_at (first_latch g) marks (variable gate.rhs0) || may_move g held (variable gate.rhs0))
    && (mark_at (first_latch g) marks (variable gate.rhs1) || may_move g held (variable gate.rhs1)))
    → passes ≡ is_passable g held (first_latch g + (length g.latches + k))
passable-more g held k gate marks passes valid h there filled is =
    let at : gate_at g (first_gate g + k) ≡ Some gate = gate_at-first_gate g k ∙ (slice_get-get_or g.gates k gate h ∙ ap (λ (x : Gate). Some x) (sym there)) in
    let here : IsGateAt (first_gate g + k) gate = gate_at-is g valid (first_gate g + k) gate at in
    is
    ∙ ap₂ (λ (a b : Bool). a && b)
    (settled-marked g held (length g.latches + k) (variable gate.rhs0) marks filled (omega (arith, here.below)))
    (settled-marked g held (length g.latches + k) (variable gate.rhs1) marks filled (omega (arith, here.below, here.ordered)))
    ∙ sym (is_settled-gate g held valid (first_gate g + k) gate at)
    ∙ sym (passable-at_gate g held (first_gate g + k) gate at)
    ∙ ap (λ (v : ℕ). is_passable g held v) (omega arith)

-- the count of a table of passable gates is their number
pub pass_set-count : (g : Graph) (held : List ℕ) (marks : List Bool) (n : ℕ) → marks ≡ table (first_latch g) (latches_and_gates g) (is_passable g held)
    → n ≡ count_below (is_passable g held) (first_latch g + length marks) → n ≡ length (passable_gates g held)
pass_set-count g held marks n filled counted =
    let long : length marks ≡ latches_and_gates g = ap length filled ∙ length-table (first_latch g) (latches_and_gates g) (is_passable g held) in
    counted ∙ ap (λ (m : ℕ). count_below (is_passable g held) m) (omega (arith, long)) ∙ sym (length-places (is_passable g held) (variables_end g))

-- the mark of a variable in the table of passable gates says whether it is passable
pub has-passable : (g : Graph) (held : List ℕ) (first : ℕ) (marks : List Bool) (v : ℕ) → first ≡ first_latch g → marks ≡ table (first_latch g) (latches_and_gates g) (is_passable g held)
    → mark_at first marks v ≡ is_passable g held v
has-passable g held first marks v same filled =
    let long : length marks ≡ latches_and_gates g = ap length filled ∙ length-table (first_latch g) (latches_and_gates g) (is_passable g held) in
    ap (λ (n : ℕ). mark_at n marks v) same ∙ elim (cases_lt v (variables_end g)) [
      | inl lt ↦ mark_at-all (first_latch g) marks (is_passable g held) v (pass-marks g held (latches_and_gates g) marks filled) (omega (arith, lt, long))
      | inr ge ↦ mark_at-past (first_latch g) marks v (omega (arith, ge, long)) ∙ sym (passable-past g held v ge)
    ]

-- the loop's step: the marks with the next gate's
pub entry-sum : (g : Graph) (held : List ℕ) (k : ℕ) (gate : Gate) (gates : List Gate) (marks more read : List Bool) (passes : Bool) → IsGraph g → gates ≡ g.gates → k < length gates → gate ≡ get_or gates k gate
    → marks ≡ table (first_latch g) (length g.latches + k) (is_passable g held) → read ≡ marks → more ≡ marks ++ passes ∷ []
    → passes ≡ ((mark_at (first_latch g) read (variable gate.rhs0) || may_move g held (variable gate.rhs0))
    && (mark_at (first_latch g) read (variable gate.rhs1) || may_move g held (variable gate.rhs1)))
    → more ≡ table (first_latch g) (length g.latches + (k + 1)) (is_passable g held)
entry-sum g held k gate gates marks more read passes valid same h there filled is_read pushed is =
    entry (first_latch g) (length g.latches + k) (is_passable g held) marks more passes filled pushed
    (passable-more g held k gate read passes valid (omega (arith, h, ap (λ (xs : List Gate). length xs) same)) (there ∙ ap (λ (xs : List Gate). get_or xs k gate) same) (is_read ∙ filled) is)
    ∙ ap (λ (n : ℕ). table (first_latch g) n (is_passable g held)) (omega arith)
