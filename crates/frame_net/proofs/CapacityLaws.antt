-- The capacities of a circuit's network are ones that rows can have.
use Rattle.std.proofs.Common.{◌≡◌, ℕ, suc, zero, ◌+◌, ◌-◌, ◌*◌, ◌≤◌, ◌==◌, ◌^◌, nat_lt, Bool, true, false, cond, List, [], length, arith, refl, ap, ap₂, sym, ◌∙◌, subst, inl, inr}
use Rattle.std.proofs.lemmas.Bool.{cases_Bool, cases_eq, cond-false}
use Rattle.std.proofs.lemmas.List.{length-map}
use Rattle.aig_graph.specs.Counting.{count_below, places}
use Rattle.aig_graph.proofs.PlacesLaws.{count-pass, count-fail, count-zero, length-places}
use Rattle.aig_graph.specs.declared.properties.Props.{Props}
use Rattle.aig_graph.specs.Graph.{Graph, IsGraph, variables_end, latch_at, gate_at, is_known}
use Rattle.frame_net.specs.declared.edges.Link.{Link}
use Rattle.frame_net.specs.FlowNet.{Node, node_at}
use Rattle.frame_net.specs.FlowNet.Node.{source, sink, before, after}
use Rattle.frame_net.specs.Edges.{adjacent, Edge, edges_below, AreLinks}
use Rattle.frame_net.specs.Capacity.{has_node, node_variables, latch_count, unbounded, gate_reads, is_observed, arc_capacity, capacity, latch_number, before_number, after_number, node_total}
use Rattle.frame_net.proofs.PassableLaws.{gate_cases}
use Rattle.frame_net.proofs.EdgeLaws.{add-places, length-add}
use Rattle.frame_net.proofs.RowsLaws.{AreCapacities}
use Rattle.frame_net.proofs.NodeLaws.{at-latch, at-before, at-after, latches-among, View, view}
use Rattle.frame_net.proofs.NodeLaws.View.{the_source, the_sink, a_latch, a_before, an_after}
use Rattle.frame_net.proofs.ArcLaws.{reads-below, cap-at, latch-links, after-links, before-links}
use Rattle.frame_net.proofs.LayoutLaws.{latches-bound, node-before, FanIns, fan_ins-facts, no-gate}

when : (t : Bool) (m n : ℕ) → m ≤ n → cond t m 0 ≤ n
when true m n h = h
when false m n h = omega arith

-- no arc has more than the unbounded capacity
pub arc-bound : (g : Graph) (props : Props) (held : List ℕ) (a b : Node) → arc_capacity g props held a b ≤ unbounded g held
arc-bound g props held source (after v) = when (is_known (latch_at g v)) 1 (unbounded g held) (omega arith)
arc-bound g props held (before v) (after w) = when (v == w) 1 (unbounded g held) (omega arith)
arc-bound g props held (after v) (before w) = when (gate_reads v (gate_at g w)) (unbounded g held) (unbounded g held) (omega arith)
arc-bound g props held (before w) (before v) = when (gate_reads v (gate_at g w)) (unbounded g held) (unbounded g held) (omega arith)
arc-bound g props held (after v) sink = when (is_observed g props held v) (unbounded g held) (unbounded g held) (omega arith)
arc-bound g props held source source = omega arith
arc-bound g props held source sink = omega arith
arc-bound g props held source (before v) = omega arith
arc-bound g props held sink source = omega arith
arc-bound g props held sink sink = omega arith
arc-bound g props held sink (before v) = omega arith
arc-bound g props held sink (after v) = omega arith
arc-bound g props held (before v) source = omega arith
arc-bound g props held (before v) sink = omega arith
arc-bound g props held (after v) source = omega arith
arc-bound g props held (after v) (after w) = omega arith

source-bound : (g : Graph) (props : Props) (held : List ℕ) (b : Node) → arc_capacity g props held source b ≤ 1
source-bound g props held (after v) = when (is_known (latch_at g v)) 1 1 (omega arith)
source-bound g props held source = omega arith
source-bound g props held sink = omega arith
source-bound g props held (before v) = omega arith

count-less : (p : ℕ → Bool) → p 0 ≡ false → (n : ℕ) → count_below p (suc n) ≤ n
count-less p e zero = omega (arith, count-fail p 0 e, count-zero p)
count-less p e (suc n) = elim (cases_Bool (p (suc n))) [
  | inl yes' ↦ omega (arith, count-pass p (suc n) yes', count-less p e n)
  | inr no' ↦ omega (arith, count-fail p (suc n) no', count-less p e n)
]

module _ (g : Graph) (props : Props) (held : List ℕ) (valid : IsGraph g) where
  -- no node has more than four lower neighbours
  few-lower : (v : ℕ) → 2 ≤ v → View g held v → length (places (adjacent (capacity g props held) v) v) ≤ 4
  few-lower v two (the_source e) = absurd (omega (arith, e, two))
  few-lower v two (the_sink e) = absurd (omega (arith, e, two))
  few-lower v two (a_latch u p h e) = subst (λ (n : ℕ). length (places (adjacent (capacity g props held) n) n) ≤ 4) (sym e) (short (latch_number g held u) _ (latch-links g props held valid u p h))
    where
      short : (v : ℕ) (links : List Link) → AreLinks (capacity g props held) v links → length (places (adjacent (capacity g props held) v) v) ≤ 4
      short v links l = omega (arith, l.few, ap (λ (xs : List ℕ). length xs) l.all.lows, length-map links (λ (x : Link). x.low))
  few-lower v two (a_before u p from below e) = subst (λ (n : ℕ). length (places (adjacent (capacity g props held) n) n) ≤ 4) (sym e) (elim (gate_cases g u) [
    | inl none ↦ absurd (no-gate g held u none from p)
    | inr some ↦ (
        let f : FanIns g held u some.0 = fan_ins-facts g held valid u some.0 some.1 from below p in
        short (before_number g held u) _ (before-links g props held valid u some.0 some.1 p from below f.has1 f.has0))
  ])
    where
      short : (v : ℕ) (links : List Link) → AreLinks (capacity g props held) v links → length (places (adjacent (capacity g props held) v) v) ≤ 4
      short v links l = omega (arith, l.few, ap (λ (xs : List ℕ). length xs) l.all.lows, length-map links (λ (x : Link). x.low))
  few-lower v two (an_after u p from below e) = subst (λ (n : ℕ). length (places (adjacent (capacity g props held) n) n) ≤ 4) (sym e) (short (after_number g held u) _ (after-links g props held valid u p from below))
    where
      short : (v : ℕ) (links : List Link) → AreLinks (capacity g props held) v links → length (places (adjacent (capacity g props held) v) v) ≤ 4
      short v links l = omega (arith, l.few, ap (λ (xs : List ℕ). length xs) l.all.lows, length-map links (λ (x : Link). x.low))

  -- the source and the sink have no arc
  pub no-edges : edges_below (capacity g props held) 2 ≡ []
  no-edges = cond-false (adjacent (capacity g props held) 1 0) _ _ apart
    where
      apart : adjacent (capacity g props held) 1 0 ≡ false
      apart = ap₂ (λ (x y : ℕ). nat_lt 0 (x + y)) (cap-at g props held valid 1 0 sink source refl refl) (cap-at g props held valid 0 1 source sink refl refl)

  -- the edges below a node are at most four for each node between the sink and it
  pub few-edges : (v : ℕ) → 2 ≤ v → v ≤ node_total g held → length (edges_below (capacity g props held) v) ≤ 4 * (v - 2)
  few-edges zero two h = absurd (omega (arith, two))
  few-edges (suc v) two h = elim (cases_eq v 1) [
    | inl one ↦ (
        let none : length (edges_below (capacity g props held) (suc v)) ≡ 0 = ap (λ (n : ℕ). length (edges_below (capacity g props held) (suc n))) one ∙ ap (λ (es : List Edge). length es) no-edges in
        omega (arith, none))
    | inr more ↦ (
        let before' : length (edges_below (capacity g props held) v) ≤ 4 * (v - 2) = few-edges v (omega (arith, two, more)) (omega (arith, h)) in
        let here : length (edges_below (capacity g props held) (suc v)) ≡ length (places (adjacent (capacity g props held) v) v) + length (edges_below (capacity g props held) v) =
        ap (λ (es : List Edge). length es) (sym (add-places (capacity g props held) v v (edges_below (capacity g props held) v))) ∙ length-add v (places (adjacent (capacity g props held) v) v) (edges_below (capacity g props held) v) in
        omega (arith, before', here, few-lower v (omega (arith, two, more)) (view g held v (omega (arith, h))), two, more))
  ]

  no-loop : (v : ℕ) → View g held v → capacity g props held v v ≡ 0
  no-loop v (the_source e) = subst (λ (n : ℕ). capacity g props held n n ≡ 0) (sym e) (cap-at g props held valid 0 0 source source refl refl)
  no-loop v (the_sink e) = subst (λ (n : ℕ). capacity g props held n n ≡ 0) (sym e) (cap-at g props held valid 1 1 sink sink refl refl)
  no-loop v (a_latch u p h e) = subst (λ (n : ℕ). capacity g props held n n ≡ 0) (sym e)
      (cap-at g props held valid (latch_number g held u) (latch_number g held u) (after u) (after u) (at-latch g held u p h) (at-latch g held u p h))
  no-loop v (a_before u p from below e) = subst (λ (n : ℕ). capacity g props held n n ≡ 0) (sym e)
      (cap-at g props held valid (before_number g held u) (before_number g held u) (before u) (before u) (at-before g held u p from below) (at-before g held u p from below)
      ∙ cond-false (gate_reads u (gate_at g u)) (unbounded g held) 0 (own u))
    where
      own : (u : ℕ) → gate_reads u (gate_at g u) ≡ false
      own u = elim (cases_Bool (gate_reads u (gate_at g u))) [ inl r ↦ absurd (omega (arith, reads-below g valid u u r)) | inr e ↦ e ]
  no-loop v (an_after u p from below e) = subst (λ (n : ℕ). capacity g props held n n ≡ 0) (sym e)
      (cap-at g props held valid (after_number g held u) (after_number g held u) (after u) (after u) (at-after g held u p from below) (at-after g held u p from below))

  -- no pair of nodes has more than the unbounded capacity
  pub cap-bound : (v w : ℕ) → capacity g props held v w ≤ unbounded g held
  cap-bound v w = subst (λ (n : ℕ). n ≤ unbounded g held)
      (sym (cap-at g props held valid v w (node_at (latch_count g held) (node_variables g held) v) (node_at (latch_count g held) (node_variables g held) w) refl refl))
      (arc-bound g props held (node_at (latch_count g held) (node_variables g held) v) (node_at (latch_count g held) (node_variables g held) w))

  -- a circuit's network has at most 2^29 nodes
  pub node_total-bound : node_total g held + 2 ≤ 2 ^ 29 + 2
  node_total-bound =
      let less : count_below (has_node g held) (suc (variables_end g - 1)) ≤ variables_end g - 1 = count-less (has_node g held) (node-before g held 0 (omega arith)) (variables_end g - 1) in
      let same : count_below (has_node g held) (suc (variables_end g - 1)) ≡ count_below (has_node g held) (variables_end g) = ap (λ (n : ℕ). count_below (has_node g held) n) (omega arith) in
      omega (arith, less, same, length-places (has_node g held) (variables_end g), latches-among g held, valid.small)

  -- the capacities of a circuit's network are ones that rows can have
  pub are-capacities : AreCapacities (node_total g held) (capacity g props held)
  are-capacities = record {
    two = omega arith;
    short = omega (arith, node_total-bound);
    few = omega (arith, few-edges (node_total g held) (omega arith) (omega arith), node_total-bound);
    no_loop = λ v h. no-loop v (view g held v h);
    fit = λ v w h k. omega (arith, cap-bound v w, cap-bound w v, latches-bound g held, valid.small);
    source = λ w h. subst (λ (n : ℕ). n ≤ 1) (sym (cap-at g props held valid 0 w source (node_at (latch_count g held) (node_variables g held) w) refl refl)) (source-bound g props held (node_at (latch_count g held) (node_variables g held) w));
  }
