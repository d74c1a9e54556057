-- A cut for each closed set.
use Rattle.std.proofs.Common.{◌≡◌, ℕ, suc, zero, ◌<◌, ◌==◌, Bool, true, false, not, ◌&&◌, ◌||◌, cond, IsTrue, List, Option, Some, None, arith, refl, ap, ap₂, sym, ◌∙◌, subst, inl, inr}
use Rattle.std.proofs.lemmas.Bool.{cases_lt, cases_Bool, or_cases, or_parts, eqb-true, and_parts, true≢false}
use Rattle.std.proofs.lemmas.Option.{none-some}
use Rattle.frame_net.specs.Flow.{IsCut, cut_value}
use Rattle.aig_graph.specs.Counting.{count_below}
use Rattle.aig_graph.specs.Marking.{has}
use Rattle.aig_graph.proofs.CountingLaws.{count_below-same}
use Rattle.aig_graph.specs.declared.graph.Gate.{Gate}
use Rattle.aig_graph.specs.declared.graph.Latch.{Latch}
use Rattle.aig_graph.specs.declared.properties.Props.{Props}
use Rattle.aig_graph.specs.Graph.{Graph, IsGraph, IsGateAt, variable, first_gate, variables_end, latch_at, gate_at, is_known}
use Rattle.aig_graph.specs.Closed.{is_held, may_move, is_settled, IsLatchOrIn, IsClosedSet}
use Rattle.aig_graph.specs.Border.{is_fan_in, is_read_outside}
use Rattle.aig_graph.proofs.ClosedBorderLaws.{closed-border_size}
use Rattle.aig_graph.proofs.FoldingLaws.{gate_at-is}
use Rattle.aig_graph.proofs.KindLaws.{latch_at-gates}
use Rattle.aig_graph.proofs.ClosedLaws.{is_settled-gate}
use Rattle.aig_graph.proofs.SearchLaws.{has_iff_contains}
use Rattle.frame_net.specs.Passable.{is_passable}
use Rattle.frame_net.specs.FlowNet.{Node, node_at}
use Rattle.frame_net.specs.FlowNet.Node.{source, sink, before, after}
use Rattle.frame_net.specs.Capacity.{has_node, node_variables, latch_count, unbounded, gate_reads, is_observed, arc_capacity, capacity, before_number, node_total}
use Rattle.frame_net.proofs.PassableLaws.{passable-before, passable-means, passable-at_gate, settled-split, gate_cases, is_true}
use Rattle.frame_net.proofs.NodeLaws.{has_node-latch, has_node-gate, rank-latch, rank-gate, rank-below, at-latch, at-before, at-after, View, view}
use Rattle.frame_net.proofs.NodeLaws.View.{the_source, the_sink, a_latch, a_before, an_after}
use Rattle.frame_net.proofs.ArcLaws.{cap-at}
use Rattle.frame_net.specs.Cuts.{ClosedSetsAreCuts}
use Rattle.frame_net.proofs.ReadLaws.{read-split, read-by_gate}
use Rattle.frame_net.proofs.CutSumLaws.{crosses, crosses-none, crosses-latch, crosses-gate, cut-counted}
use Rattle.frame_net.proofs.NetLaws.{gate-range, nodes, leaving-is, point-before, point-of-before}

-- a passable gate rests on some known latch
some-latch : (g : Graph) (held : List ℕ) → IsGraph g → (n v : ℕ) → v < n → is_passable g held v ≡ true → 0 < latch_count g held
some-latch g held valid zero v h p = absurd (omega (arith, h))
some-latch g held valid (suc n) v h p =
    let t = (passable-means g held v).0 (subst (λ (b : Bool). IsTrue b) (sym p) refl) in
    let u : ℕ = variable t.0.rhs0 in
    let here : IsGateAt v t.0 = gate_at-is g valid v t.0 t.1 in
    let settled = and_parts (is_settled g held (variable t.0.rhs0)) (is_settled g held (variable t.0.rhs1)) (sym (is_settled-gate g held valid v t.0 t.1) ∙ sym (passable-at_gate g held v t.0 t.1) ∙ p) in
    elim (or_cases (is_passable g held (variable t.0.rhs0)) (may_move g held (variable t.0.rhs0)) (sym (settled-split g held (variable t.0.rhs0)) ∙ settled.0)) [
      | inl passes ↦ some-latch g held valid n (variable t.0.rhs0) (omega (arith, here.below, h)) passes
      | inr moves ↦ known-counts g held (variable t.0.rhs0) (and_parts (not (is_held g held (variable t.0.rhs0))) (is_known (latch_at g (variable t.0.rhs0))) moves).1
    ]
  where
    known-counts : (g : Graph) (held : List ℕ) (u : ℕ) → is_known (latch_at g u) ≡ true → 0 < latch_count g held
    known-counts g held u known = elim (cases_lt u (first_gate g)) [
      | inl low ↦ omega (arith, rank-latch g held u (has_node-latch g held u low ∙ known) low)
      | inr high ↦ absurd (true≢false (sym known ∙ ap (λ (o : Option Latch). is_known o) (latch_at-gates g u high)))
    ]

known-latch : (g : Graph) (held : List ℕ) (u : ℕ) → is_known (latch_at g u) ≡ true → 0 < latch_count g held
known-latch g held u known = elim (cases_lt u (first_gate g)) [
  | inl low ↦ omega (arith, rank-latch g held u (has_node-latch g held u low ∙ known) low)
  | inr high ↦ absurd (true≢false (sym known ∙ ap (λ (o : Option Latch). is_known o) (latch_at-gates g u high)))
]

-- whether a variable is in the border of the set
abbrev pub at_border : Graph → Props → List ℕ → List ℕ → ℕ → Bool
at_border g props held s v = (is_known (latch_at g v) || has s v) && (is_held g held v || is_read_outside g props (has s) v)

abbrev pub side_of : Graph → Props → List ℕ → List ℕ → Node → Bool
side_of g props held s source = true
side_of g props held s sink = false
side_of g props held s (before v) = has s v
side_of g props held s (after v) = (is_known (latch_at g v) || has s v) && not (at_border g props held s v)

abbrev pub side_at : Graph → Props → List ℕ → List ℕ → ℕ → Bool
side_at g props held s n = side_of g props held s (node_at (latch_count g held) (node_variables g held) n)

-- the gates of nodes are passable
abbrev IsNodeOf : Graph → List ℕ → Node → Type 0
IsNodeOf g held source = Unit {0}
IsNodeOf g held sink = Unit {0}
IsNodeOf g held (before v) = is_passable g held v ≡ true
IsNodeOf g held (after v) = Unit {0}

node-of : (g : Graph) (held : List ℕ) (n : ℕ) → View g held n → IsNodeOf g held (node_at (latch_count g held) (node_variables g held) n)
node-of g held n (the_source e) = subst (λ (k : ℕ). IsNodeOf g held (node_at (latch_count g held) (node_variables g held) k)) (sym e) tt
node-of g held n (the_sink e) = subst (λ (k : ℕ). IsNodeOf g held (node_at (latch_count g held) (node_variables g held) k)) (sym e) tt
node-of g held n (a_latch v p h e) = subst (λ (x : Node). IsNodeOf g held x) (sym (ap (λ (k : ℕ). node_at (latch_count g held) (node_variables g held) k) e ∙ at-latch g held v p h)) tt
node-of g held n (a_before v p from below e) =
    subst (λ (x : Node). IsNodeOf g held x) (sym (ap (λ (k : ℕ). node_at (latch_count g held) (node_variables g held) k) e ∙ at-before g held v p from below)) (sym (has_node-gate g held v from) ∙ p)
node-of g held n (an_after v p from below e) = subst (λ (x : Node). IsNodeOf g held x) (sym (ap (λ (k : ℕ). node_at (latch_count g held) (node_variables g held) k) e ∙ at-after g held v p from below)) tt

module _ (g : Graph) (props : Props) (held : List ℕ) (valid : IsGraph g) (s : List ℕ) (set : IsClosedSet g held s) where
  member-passable : (v : ℕ) → has s v ≡ true → is_passable g held v ≡ true
  member-passable v m = is_true (is_passable g held v) ((passable-means g held v).1 (set.closed.passable v ((has_iff_contains s v).0 (subst (λ (b : Bool). IsTrue b) (sym m) refl))))

  at_most : (t : Bool) (m : ℕ) → 0 < m → (t ≡ true → ⊥) → cond t m 0 < m
  at_most true m h never = absurd (never refl)
  at_most false m h never = h

  one-or-none : (t : Bool) → (t ≡ true → 0 < latch_count g held) → cond {A = ℕ} t 1 0 < unbounded g held
  one-or-none true h = omega (arith, h refl)
  one-or-none false h = omega arith

  off-border : (v : ℕ) → ((is_known (latch_at g v) || has s v) && not (at_border g props held s v)) ≡ true → (is_held g held v ≡ false) × (is_read_outside g props (has s) v ≡ false)
  off-border v e = or_parts (is_held g held v) (is_read_outside g props (has s) v) (go (is_known (latch_at g v) || has s v) (is_held g held v || is_read_outside g props (has s) v) e)
    where
      go : (a b : Bool) → (a && not (a && b)) ≡ true → b ≡ false
      go true true e = absurd (true≢false (sym e))
      go true false e = refl
      go false b e = absurd (true≢false (sym e))

  stays : (v : ℕ) → is_held g held v ≡ false → is_read_outside g props (has s) v ≡ false → is_observed g props held v ≡ true → ⊥
  unfolding is_observed
  stays v h r l =
      let read : is_read_outside g props (is_passable g held) v ≡ true = sym (ap (λ (b : Bool). b || is_read_outside g props (is_passable g held) v) h) ∙ l in
      let w = read-split g props (is_passable g held) (has s) v read r in
      true≢false (sym (member-passable w.0 w.3) ∙ w.2)

  reads-member : (w v : ℕ) → has s w ≡ true → has s v ≡ false → is_passable g held v ≡ true → gate_reads v (gate_at g w) ≡ true → ⊥
  reads-member w v m out passes r = elim (gate_cases g w) [
    | inl none ↦ no (gate_at g w) none r
    | inr some ↦ (
        let fan_in : is_fan_in v some.0 ≡ true = sym (ap (λ (o : Option Gate). gate_reads v o) some.1) ∙ r in
        let ins = set.closed.fan_ins w some.0 ((has_iff_contains s w).0 (subst (λ (b : Bool). IsTrue b) (sym m) refl)) some.1 in
        elim (or_cases (variable some.0.rhs0 == v) (variable some.0.rhs1 == v) fan_in) [
          | inl a ↦ outside v out passes (subst (λ (u : ℕ). IsLatchOrIn g s u) (eqb-true (variable some.0.rhs0) v a) ins.0)
          | inr b ↦ outside v out passes (subst (λ (u : ℕ). IsLatchOrIn g s u) (eqb-true (variable some.0.rhs1) v b) ins.1)
        ])
  ]
    where
      no : (o : Option Gate) → o ≡ None → gate_reads v o ≡ true → ⊥
      no None e r = absurd (true≢false (sym r))
      no (Some gate) e r = none-some gate (sym e)

      outside : (v : ℕ) → has s v ≡ false → is_passable g held v ≡ true → IsLatchOrIn g s v → ⊥
      outside v out passes (inl latch) = none-some latch.0 (sym (latch_at-gates g v (gate-range g held v passes).0) ∙ latch.1)
      outside v out passes (inr member) = true≢false (sym (is_true (has s v) ((has_iff_contains s v).1 member)) ∙ out)

  arc-small : (a b : Node) → IsNodeOf g held a → IsNodeOf g held b → side_of g props held s a ≡ true → side_of g props held s b ≡ false → arc_capacity g props held a b < unbounded g held
  arc-small source (after v) ia ib x y = one-or-none (is_known (latch_at g v)) (λ k. known-latch g held v k)
  arc-small (before v) (after w) ia ib x y = one-or-none (v == w) (λ k. some-latch g held valid (suc v) v (omega arith) ia)
  arc-small (after v) (before w) ia ib x y =
      at_most (gate_reads v (gate_at g w)) (unbounded g held) (omega arith) (λ r. true≢false (sym (read-by_gate g props (has s) v w r y) ∙ (off-border v x).1))
  arc-small (before w) (before v) ia ib x y = at_most (gate_reads v (gate_at g w)) (unbounded g held) (omega arith) (λ r. reads-member w v x y ib r)
  arc-small (after v) sink ia ib x y = at_most (is_observed g props held v) (unbounded g held) (omega arith) (λ l. stays v (off-border v x).0 (off-border v x).1 l)
  arc-small source source ia ib x y = omega arith
  arc-small source sink ia ib x y = omega arith
  arc-small source (before v) ia ib x y = omega arith
  arc-small sink source ia ib x y = omega arith
  arc-small sink sink ia ib x y = omega arith
  arc-small sink (before v) ia ib x y = omega arith
  arc-small sink (after v) ia ib x y = omega arith
  arc-small (before v) source ia ib x y = omega arith
  arc-small (before v) sink ia ib x y = omega arith
  arc-small (after v) source ia ib x y = omega arith
  arc-small (after v) (after w) ia ib x y = omega arith

  -- no unbounded arc leaves the cut of a closed set
  pub side-small : (x y : ℕ) → x < node_total g held → y < node_total g held → side_at g props held s x ≡ true → side_at g props held s y ≡ false → capacity g props held x y < unbounded g held
  side-small x y h k a b =
      subst (λ (m : ℕ). m < unbounded g held)
      (sym (cap-at g props held valid x y (node_at (latch_count g held) (node_variables g held) x) (node_at (latch_count g held) (node_variables g held) y) refl refl))
      (arc-small (node_at (latch_count g held) (node_variables g held) x) (node_at (latch_count g held) (node_variables g held) y) (node-of g held x (view g held x h)) (node-of g held y (view g held y k)) a b)

  -- the variables that add to the cut of a closed set are those of its border
  pub crosses-border : (v : ℕ) → v < variables_end g → crosses g held (side_at g props held s) v ≡ at_border g props held s v
  crosses-border v h = elim (cases_lt v (first_gate g)) [
    | inl low ↦ (
        let out : has s v ≡ false = not_member v (passable-before g held v low) in
        elim (cases_Bool (has_node g held v)) [
          | inl node ↦ (
              let known : is_known (latch_at g v) ≡ true = sym (has_node-latch g held v low) ∙ node in
              crosses-latch g held (side_at g props held s) v node low
              ∙ ap (λ (x : Node). not (side_of g props held s x)) (at-latch g held v node low)
              ∙ latch-case (is_known (latch_at g v)) (has s v) (is_held g held v || is_read_outside g props (has s) v) known)
          | inr none ↦ crosses-none g held (side_at g props held s) v none
              ∙ sym (neither (is_known (latch_at g v)) (has s v) (is_held g held v || is_read_outside g props (has s) v) (sym (has_node-latch g held v low) ∙ none) out)
        ])
    | inr high ↦ (
        let unknown : is_known (latch_at g v) ≡ false = ap (λ (o : Option Latch). is_known o) (latch_at-gates g v high) in
        elim (cases_Bool (has_node g held v)) [
          | inl node ↦
              crosses-gate g held (side_at g props held s) v node high
              ∙ ap₂ (λ (x y : Node). side_of g props held s x && not (side_of g props held s y)) (at-before g held v node high h) (at-after g held v node high h)
              ∙ gate-case (is_known (latch_at g v)) (has s v) (is_held g held v || is_read_outside g props (has s) v) unknown
          | inr none ↦ crosses-none g held (side_at g props held s) v none
              ∙ sym (neither (is_known (latch_at g v)) (has s v) (is_held g held v || is_read_outside g props (has s) v) unknown (not_member v (sym (has_node-gate g held v high) ∙ none)))
        ])
  ]
    where
      not_member : (v : ℕ) → is_passable g held v ≡ false → has s v ≡ false
      not_member v e = elim (cases_Bool (has s v)) [ inl m ↦ absurd (true≢false (sym (member-passable v m) ∙ e)) | inr n ↦ n ]

      latch-case : (k m r : Bool) → k ≡ true → not ((k || m) && not ((k || m) && r)) ≡ ((k || m) && r)
      latch-case true m true e = refl
      latch-case true m false e = refl
      latch-case false m r e = absurd (true≢false (sym e))

      gate-case : (k m r : Bool) → k ≡ false → (m && not ((k || m) && not ((k || m) && r))) ≡ ((k || m) && r)
      gate-case false true true e = refl
      gate-case false true false e = refl
      gate-case false false r e = refl
      gate-case true m r e = absurd (true≢false e)

      neither : (k m r : Bool) → k ≡ false → m ≡ false → ((k || m) && r) ≡ false
      neither false false r p q = refl
      neither false true r p q = absurd (true≢false q)
      neither true m r p q = absurd (true≢false p)

  -- the cut of a closed set has the source and not the sink
  pub side-cut : IsCut (side_at g props held s)
  side-cut = record { with_source = refl; without_sink = refl }

  -- the cut of a closed set has as its value how many variables the set's border has
  pub side-counts : cut_value (node_total g held) (capacity g props held) (side_at g props held s) ≡ count_below (at_border g props held s) (variables_end g)
  side-counts =
      cut-counted g props held valid (side_at g props held s) side-cut side-small
      ∙ count_below-same (crosses g held (side_at g props held s)) (at_border g props held s) (variables_end g) crosses-border

-- in each circuit's network each closed set has a cut, whose value is the size of the set's border
pub closed_sets_are_cuts-law : ClosedSetsAreCuts
closed_sets_are_cuts-law c held net s is set = (
  side_at c.aig c.props held s,
  record {
    is_cut = side-cut c.aig c.props held is.valid s set;
    no_great = λ v w h k a b.
        omega (
          arith,
          is.is_net.capacities v w h k,
          side-small c.aig c.props held is.valid s set v w (omega (arith, h, nodes c held net is)) (omega (arith, k, nodes c held net is)) a b,
          is.is_net.latches,
        );
    gates = record {
      rising = set.rising;
      each = λ v. (
        (λ m.
            let passes : is_passable c.aig held v ≡ true = member-passable c.aig c.props held is.valid s set v m in
            let range = gate-range c.aig held v passes in
            let node : has_node c.aig held v ≡ true = has_node-gate c.aig held v range.0 ∙ passes in (
              before_number c.aig held v,
              (
                omega (arith, nodes c held net is, rank-gate c.aig held v range.0, rank-below c.aig held v node range.1),
                (ap (λ (x : Node). side_of c.aig c.props held s x) (at-before c.aig held v node range.0 range.1) ∙ m, point-of-before c held net is v node range.0 range.1),
              ),
            )),
        (λ t.
            let p = point-before c held net is t.0 v (view c.aig held t.0 (omega (arith, t.1.0, nodes c held net is))) t.1.1.1 in
            let range = gate-range c.aig held v p.0 in
            let node : has_node c.aig held v ≡ true = has_node-gate c.aig held v range.0 ∙ p.0 in
            sym (ap (λ (n : ℕ). side_at c.aig c.props held s n) p.1 ∙ ap (λ (x : Node). side_of c.aig c.props held s x) (at-before c.aig held v node range.0 range.1)) ∙ t.1.1.0),
      );
    };
    count = leaving-is c held net is (side_at c.aig c.props held s) ∙ side-counts c.aig c.props held is.valid s set ∙ sym (closed-border_size c held s set);
  },
)
