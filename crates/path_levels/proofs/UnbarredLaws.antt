-- The passable gates of a bounded circuit are those that aren't barred. Arrivals rise along
-- fan-outs, so what a gate that isn't barred reads isn't barred either.
use Rattle.std.proofs.Common.{ℕ, ◌<◌, ◌≤◌, ◌≡◌, ◌∙◌, inl, inr, suc, zero, Bool, true, false, not, ◌&&◌, nat_lt, List, Option, Some, None, is_some, refl, sym, ap, ap₂, arith}
use Rattle.std.specs.Prelude.{max}
use Rattle.std.proofs.Math.Bool.{and_assoc, and-true}
use Rattle.std.proofs.lemmas.Bool.{cases_Bool, cases_lt, and_from, and_left, and_right, lt-ltb, le-ltb}
use Rattle.aig_graph.specs.declared.graph.Gate.{Gate}
use Rattle.aig_graph.specs.declared.graph.Latch.{Latch}
use Rattle.aig_graph.specs.Graph.{Graph, IsGraph, IsGateAt, variable, gate_at, is_known}
use Rattle.aig_graph.specs.Closed.{is_held, is_settled}
use Rattle.aig_graph.proofs.FoldingLaws.{gate_at-before, gate_at-is}
use Rattle.aig_graph.proofs.KindLaws.{latch_at-before}
use Rattle.aig_graph.proofs.ClosedLaws.{is_settled-gate}
use Rattle.frame_net.specs.Passable.{is_passable}
use Rattle.frame_net.proofs.PassableLaws.{passable-at_gate, passable-no_gate, gate_cases, settled-leaf}
use Rattle.path_levels.specs.Arrivals.{arrival}
use Rattle.path_levels.specs.Bounded.{is_barred, gate_left, graph_left}
use Rattle.path_levels.proofs.ArrivalLaws.{arrival-gate}
use Rattle.path_levels.proofs.BarringLaws.{gate_at-left, is_gate-left, graph-left}

module _ (bound : ℕ) (g : Graph) (held : List ℕ) where
  -- what arrives within the bound isn't barred
  pub unbarred-early : (v : ℕ) → arrival g v ≤ bound → is_barred bound g held v ≡ false
  unfolding is_barred
  unbarred-early v early = and_right (is_passable g held v) (nat_lt bound (arrival g v)) (le-ltb bound (arrival g v) early)

  -- what isn't passable isn't barred
  pub unbarred-other : (v : ℕ) → is_passable g held v ≡ false → is_barred bound g held v ≡ false
  unfolding is_barred
  unbarred-other v other = and_left (is_passable g held v) (nat_lt bound (arrival g v)) other

  -- a passable gate that isn't barred arrives within the bound
  pub early-unbarred : (v : ℕ) → is_passable g held v ≡ true → is_barred bound g held v ≡ false → arrival g v ≤ bound
  unfolding is_barred
  early-unbarred v passes free = elim (cases_lt bound (arrival g v)) [
    | inl late ↦ (
        let is : (is_passable g held v && nat_lt bound (arrival g v)) ≡ true = and_from (is_passable g held v) (nat_lt bound (arrival g v)) passes (lt-ltb bound (arrival g v) late) in
        let never : true ≡ false = sym is ∙ free in
        absurd (cc))
    | inr early ↦ early
  ]

-- the constant doesn't move
settled-constant : (g : Graph) (held : List ℕ) → is_settled g held 0 ≡ false
settled-constant g held =
    settled-leaf g held 0 (gate_at-before g 0 (omega arith))
    ∙ ap (λ (o : Option Latch). not (is_held g held 0) && is_known o) (latch_at-before g 0 (omega arith))
    ∙ and_right (not (is_held g held 0)) false refl

no-gate : (o : Option Gate) → is_some o ≡ false → o ≡ None
no-gate None e = refl
no-gate (Some gate) e = absurd (cc)

-- both fan-ins are settled and not barred if the gate is settled and isn't barred
four : (s0 n0 s1 n1 : Bool) → ((s0 && s1) ≡ true → (n0 ≡ true) × (n1 ≡ true)) → ((s0 && n0) && (s1 && n1)) ≡ (s0 && s1)
four false n0 s1 n1 rests = refl
four true n0 false n1 rests = and_right n0 false refl
four true n0 true n1 rests = let are = rests refl in and_from n0 n1 are.0 are.1

module _ (bound : ℕ) (g : Graph) (held : List ℕ) (valid : IsGraph g) where
  rests-early : (v : ℕ) (gate : Gate) → gate_at g v ≡ Some gate → is_barred bound g held v ≡ false → (is_settled g held (variable gate.rhs0) && is_settled g held (variable gate.rhs1)) ≡ true
      → (not (is_barred bound g held (variable gate.rhs0)) ≡ true) × (not (is_barred bound g held (variable gate.rhs1)) ≡ true)
  rests-early v gate e free both_settled =
      let passes : is_passable g held v ≡ true = passable-at_gate g held v gate e ∙ is_settled-gate g held valid v gate e ∙ both_settled in
      let early : arrival g v ≤ bound = early-unbarred bound g held v passes free in
      let rises : arrival g v ≡ suc (max (arrival g (variable gate.rhs0)) (arrival g (variable gate.rhs1))) = arrival-gate g valid v gate e in
      (ap not (unbarred-early bound g held (variable gate.rhs0) (omega (arith, early, rises))), ap not (unbarred-early bound g held (variable gate.rhs1) (omega (arith, early, rises))))

  settled-below : (n v : ℕ) → v < n → is_settled (graph_left (is_barred bound g held) g) held v ≡ (is_settled g held v && not (is_barred bound g held v))
  settled-below zero v h = absurd (omega arith)
  settled-below (suc n) v h =
      let test : ℕ → Bool = is_barred bound g held in
      let left : Graph = graph_left (is_barred bound g held) g in
      elim (gate_cases g v) [
        | inl none ↦ (
            settled-leaf left held v (no-gate (gate_at left v) (is_gate-left (is_barred bound g held) g v ∙ ap is_some none))
            ∙ sym (settled-leaf g held v none)
            ∙ sym (ap (λ (b : Bool). is_settled g held v && not b) (unbarred-other bound g held v (passable-no_gate g held v none)) ∙ and-true (is_settled g held v)))
        | inr some ↦ (
            let gate : Gate = some.0 in
            let at : gate_at left v ≡ Some (gate_left (is_barred bound g held v) gate) = gate_at-left (is_barred bound g held) g v gate some.1 in
            elim (cases_Bool (is_barred bound g held v)) [
              | inl barred ↦ (
                  let constant : gate_at left v ≡ Some (gate_left true gate) = at ∙ ap (λ (b : Bool). Some (gate_left b gate)) barred in
                  is_settled-gate left held (graph-left (is_barred bound g held) g valid) v (gate_left true gate) constant
                  ∙ and_left (is_settled left held 0) (is_settled left held 0) (settled-constant left held)
                  ∙ sym (and_right (is_settled g held v) (not (is_barred bound g held v)) (ap not barred)))
              | inr free ↦ (
                  let same : gate_at left v ≡ Some gate = at ∙ ap (λ (b : Bool). Some (gate_left b gate)) free in
                  let here : IsGateAt v gate = gate_at-is g valid v gate some.1 in
                  let w0 : ℕ = variable gate.rhs0 in
                  let w1 : ℕ = variable gate.rhs1 in
                  is_settled-gate left held (graph-left (is_barred bound g held) g valid) v gate same
                  ∙ ap₂ (λ (a b : Bool). a && b) (settled-below n w0 (omega (arith, here.below, h))) (settled-below n w1 (omega (arith, here.below, here.ordered, h)))
                  ∙ four (is_settled g held w0) (not (is_barred bound g held w0)) (is_settled g held w1) (not (is_barred bound g held w1)) (rests-early v gate some.1 free)
                  ∙ sym (is_settled-gate g held valid v gate some.1)
                  ∙ sym (ap (λ (b : Bool). is_settled g held v && not b) free ∙ and-true (is_settled g held v)))
            ])
      ]

  -- the passable gates of the bounded graph are those that aren't barred
  pub passable-left : (v : ℕ) → is_passable (graph_left (is_barred bound g held) g) held v ≡ (is_passable g held v && not (is_barred bound g held v))
  unfolding is_passable
  passable-left v =
      ap₂ (λ (a b : Bool). a && b) (is_gate-left (is_barred bound g held) g v) (settled-below (suc v) v (omega arith))
      ∙ sym (and_assoc (is_some (gate_at g v)) (is_settled g held v) (not (is_barred bound g held v)))
