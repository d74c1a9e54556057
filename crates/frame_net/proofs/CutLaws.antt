-- Cuts that no unbounded arc leaves are closed sets, and the other way round.
use Rattle.std.proofs.Common.{◌≡◌, ℕ, ◌<◌, ◌≤◌, ◌==◌, Bool, true, false, not, ◌&&◌, ◌||◌, cond, IsTrue, List, Option, Some, None, arith, refl, ap, ap₂, sym, ◌∙◌, subst, inl, inr}
use Rattle.std.specs.List.{Contains}
use Rattle.std.proofs.lemmas.Bool.{cases_lt, cases_Bool, cond-true, eq-eqb, or_left, or_right, or_parts, false_from_ne_true, and_parts, true≢false}
use Rattle.frame_net.specs.Flow.{IsCut, cut_value}
use Rattle.aig_graph.specs.Counting.{count_below}
use Rattle.aig_graph.specs.Marking.{has}
use Rattle.aig_graph.proofs.CountingLaws.{count-within}
use Rattle.aig_graph.specs.declared.graph.Gate.{Gate}
use Rattle.aig_graph.specs.declared.graph.Latch.{Latch}
use Rattle.aig_graph.specs.declared.properties.Props.{Props}
use Rattle.aig_graph.specs.Graph.{Graph, IsGraph, variable, first_gate, variables_end, latch_at, gate_at, is_known}
use Rattle.aig_graph.specs.Closed.{is_held, is_settled, IsLatchOrIn, IsClosed}
use Rattle.aig_graph.specs.Border.{is_fan_in, is_read_outside}
use Rattle.aig_graph.proofs.KindLaws.{latch_at-gates, GatePlace, gate_place}
use Rattle.aig_graph.proofs.ClosedLaws.{is_settled-gate}
use Rattle.aig_graph.proofs.SearchLaws.{has_iff_contains}
use Rattle.frame_net.specs.Passable.{is_passable}
use Rattle.frame_net.specs.FlowNet.{node_at}
use Rattle.frame_net.specs.FlowNet.Node.{sink, before, after}
use Rattle.frame_net.specs.Capacity.{has_node, node_variables, latch_count, unbounded, gate_reads, is_observed, capacity, latch_number, before_number, after_number, node_total}
use Rattle.frame_net.proofs.PassableLaws.{passable-before, passable-means, passable-at_gate, settled-split, is_true}
use Rattle.frame_net.proofs.NodeLaws.{has_node-latch, has_node-gate, rank-latch, rank-gate, rank-below, at-latch, at-before, at-after}
use Rattle.frame_net.proofs.ArcLaws.{cap-at}
use Rattle.frame_net.proofs.ReadLaws.{read-split}
use Rattle.frame_net.proofs.CutSumLaws.{crosses, crosses-latch, crosses-gate, cut-counted}

cond-pos : (t : Bool) (m : ℕ) → t ≡ true → cond t m 0 ≡ m
cond-pos t m e = cond-true t m 0 e

-- ---- a cut that no unbounded arc leaves

module _ (g : Graph) (props : Props) (held : List ℕ) (valid : IsGraph g) (side : ℕ → Bool) (cut : IsCut side)
    (no_great : (x y : ℕ) → x < node_total g held → y < node_total g held → side x ≡ true → side y ≡ false → capacity g props held x y < unbounded g held)
    (s : List ℕ) (gates : (v : ℕ) → has s v ≡ true → (is_passable g held v ≡ true) × (side (before_number g held v) ≡ true))
    (gates' : (v : ℕ) → is_passable g held v ≡ true → side (before_number g held v) ≡ true → has s v ≡ true) where
  passable-place : (v : ℕ) → is_passable g held v ≡ true → (gate : Gate) × (gate_at g v ≡ Some gate) × (first_gate g ≤ v) × (v < variables_end g) × (has_node g held v ≡ true)
  passable-place v p =
      let t = (passable-means g held v).0 (subst (λ (b : Bool). IsTrue b) (sym p) refl) in
      let place : GatePlace g v t.0 = gate_place g v t.0 t.1 in
      (t.0, t.1, place.from, place.below, has_node-gate g held v place.from ∙ p)

  -- a node after a variable that is read from outside isn't in the set
  outside-after : (x v : ℕ) → x < node_total g held → node_at (latch_count g held) (node_variables g held) x ≡ after v → (is_held g held v || is_read_outside g props (has s) v) ≡ true → side x ≡ false
  unfolding is_observed
  outside-after x v h at out = false_from_ne_true (side x) (λ inside. elim (cases_Bool (is_observed g props held v)) [
    | inl yes' ↦
        omega (
          arith,
          no_great x 1 h (omega arith) inside cut.without_sink,
          cap-at g props held valid x 1 (after v) sink at refl,
          cond-pos (is_observed g props held v) (unbounded g held) yes',
        )
    | inr no' ↦ by_gate inside no'
  ])
    where
      by_gate : side x ≡ true → is_observed g props held v ≡ false → ⊥
      by_gate inside no' =
          let parts = or_parts (is_held g held v) (is_read_outside g props (is_passable g held) v) no' in
          let read : is_read_outside g props (has s) v ≡ true = sym (ap (λ (b : Bool). b || is_read_outside g props (has s) v) parts.0) ∙ out in
          let w = read-split g props (has s) (is_passable g held) v read parts.1 in
          let p = passable-place w.0 w.3 in
          let off : side (before_number g held w.0) ≡ false = false_from_ne_true (side (before_number g held w.0)) (λ q. true≢false (sym (gates' w.0 w.3 q) ∙ w.2)) in
          omega (
            arith,
            no_great x (before_number g held w.0) h (omega (arith, rank-gate g held w.0 p.2, rank-below g held w.0 p.4 p.3)) inside off,
            cap-at g props held valid x (before_number g held w.0) (after v) (before w.0) at (at-before g held w.0 p.4 p.2 p.3),
            cond-pos (gate_reads v (gate_at g w.0)) (unbounded g held) w.1,
          )

  border-crosses : (v : ℕ) → v < variables_end g → ((is_known (latch_at g v) || has s v) && (is_held g held v || is_read_outside g props (has s) v)) ≡ true → crosses g held side v ≡ true
  border-crosses v h e =
      let parts = and_parts (is_known (latch_at g v) || has s v) (is_held g held v || is_read_outside g props (has s) v) e in
      elim (cases_lt v (first_gate g)) [
        | inl low ↦ (
            let no : has s v ≡ false = false_from_ne_true (has s v) (λ q. true≢false (sym (gates v q).0 ∙ passable-before g held v low)) in
            let node : has_node g held v ≡ true = has_node-latch g held v low ∙ (known (is_known (latch_at g v)) (has s v) parts.0 no) in
            crosses-latch g held side v node low
            ∙ ap (λ (b : Bool). not b) (outside-after (latch_number g held v) v (omega (arith, rank-latch g held v node low)) (at-latch g held v node low) parts.1))
        | inr high ↦ (
            let none : is_known (latch_at g v) ≡ false = ap (λ (o : Option Latch). is_known o) (latch_at-gates g v high) in
            let member : has s v ≡ true = sym (ap (λ (b : Bool). b || has s v) none) ∙ parts.0 in
            let inside = gates v member in
            let node : has_node g held v ≡ true = has_node-gate g held v high ∙ inside.0 in
            crosses-gate g held side v node high
            ∙ ap₂ (λ (a b : Bool). a && not b) inside.1
            (outside-after (after_number g held v) v (omega (arith, rank-gate g held v high, rank-below g held v node h)) (at-after g held v node high h) parts.1))
      ]
    where
      known : (a b : Bool) → (a || b) ≡ true → b ≡ false → a ≡ true
      known true b e q = refl
      known false true e q = absurd (true≢false q)
      known false false e q = e

  -- the border of the gates of a cut that no unbounded arc leaves has at most as many variables as
  -- the cut's value
  pub border-below : count_below (λ v. (is_known (latch_at g v) || has s v) && (is_held g held v || is_read_outside g props (has s) v)) (variables_end g)
      ≤ cut_value (node_total g held) (capacity g props held) side
  border-below = omega (
    arith,
    cut-counted g props held valid side cut no_great,
    count-within (λ v. (is_known (latch_at g v) || has s v) && (is_held g held v || is_read_outside g props (has s) v)) (crosses g held side) (variables_end g) border-crosses,
  )

  -- a gate's gate fan-ins are in the set with it
  fan_in-member : (v u : ℕ) (gate : Gate) → has s v ≡ true → gate_at g v ≡ Some gate → is_fan_in u gate ≡ true → is_settled g held u ≡ true → IsLatchOrIn g s u
  fan_in-member v u gate member there is_in settled = elim (cases_Bool (is_passable g held u)) [
    | inl passes ↦ (
        let p = passable-place u passes in
        let q = passable-place v (gates v member).0 in
        let on : side (before_number g held u) ≡ true = elim (cases_Bool (side (before_number g held u))) [
          | inl yes' ↦ yes'
          | inr no' ↦ absurd (omega (
            arith,
            no_great (before_number g held v) (before_number g held u) (omega (arith, rank-gate g held v q.2, rank-below g held v q.4 q.3)) (omega (arith, rank-gate g held u p.2, rank-below g held u p.4 p.3)) (gates v member).1 no',
            cap-at g props held valid (before_number g held v) (before_number g held u) (before v) (before u) (at-before g held v q.4 q.2 q.3) (at-before g held u p.4 p.2 p.3),
            cond-pos (gate_reads u (gate_at g v)) (unbounded g held) (ap (λ (o : Option Gate). gate_reads u o) there ∙ is_in),
          ))
        ] in
        inr ((has_iff_contains s u).0 (subst (λ (b : Bool). IsTrue b) (sym (gates' u passes on)) refl)))
    | inr not_gate ↦ inl (latch-there (latch_at g u) (moves (is_passable g held u) (is_held g held u) (is_known (latch_at g u)) not_gate (sym (settled-split g held u) ∙ settled)))
  ]
    where
      moves : (a h k : Bool) → a ≡ false → (a || (not h && k)) ≡ true → k ≡ true
      moves true h k e t = absurd (true≢false e)
      moves false true k e t = absurd (true≢false (sym t))
      moves false false k e t = t

      latch-there : (o : Option Latch) → is_known o ≡ true → (latch : Latch) × (o ≡ Some latch)
      latch-there None e = absurd (true≢false (sym e))
      latch-there (Some latch) e = (latch, refl)

  -- the gates of a cut that no unbounded arc leaves are a closed set
  pub closed : IsClosed g held s
  closed = record {
    passable = λ v member. (passable-means g held v).0 (subst (λ (b : Bool). IsTrue b) (sym (gates v (in-list v member)).0) refl);
    fan_ins = λ v gate member there.
        let p = passable-place v (gates v (in-list v member)).0 in
        let settled = and_parts (is_settled g held (variable gate.rhs0)) (is_settled g held (variable gate.rhs1))
        (sym (is_settled-gate g held valid v gate there) ∙ sym (passable-at_gate g held v gate there) ∙ (gates v (in-list v member)).0) in (
          fan_in-member v (variable gate.rhs0) gate (in-list v member) there (or_left (variable gate.rhs0 == variable gate.rhs0) (variable gate.rhs1 == variable gate.rhs0) (eq-eqb (variable gate.rhs0) (variable gate.rhs0) refl)) settled.0,
          fan_in-member v (variable gate.rhs1) gate (in-list v member) there (or_right (variable gate.rhs0 == variable gate.rhs1) (variable gate.rhs1 == variable gate.rhs1) (eq-eqb (variable gate.rhs1) (variable gate.rhs1) refl)) settled.1,
        );
  }
    where
      in-list : (v : ℕ) → Contains s v → has s v ≡ true
      in-list v member = is_true (has s v) ((has_iff_contains s v).1 member)
