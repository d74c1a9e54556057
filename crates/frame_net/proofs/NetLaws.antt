-- Laws of a network, as contracts see it.
use Rattle.std.proofs.Common.{◌≡◌, ℕ, ◌<◌, ◌≤◌, Bool, true, false, not, IsTrue, List, length, Some, arith, refl, ap, ap₂, sym, ◌∙◌, subst}
use Rattle.std.proofs.lemmas.Option.{none-some, same_Some}
use Rattle.frame_net.specs.Flow.{IsCut, cut_value}
use Rattle.frame_net.proofs.TheoryCutLaws.{between-same}
use Rattle.aig_graph.specs.Marking.{has}
use Rattle.aig_graph.specs.Graph.{Graph, first_gate, variables_end}
use Rattle.aig_graph.specs.Circuits.{Netlist}
use Rattle.aig_graph.specs.Closed.{IsClosedSet}
use Rattle.aig_graph.specs.Move.{move_of}
use Rattle.aig_graph.specs.Border.{border_size}
use Rattle.aig_graph.proofs.ClosedBorderLaws.{closed-border_size}
use Rattle.frame_net.specs.declared.net.Point.{Point}
use Rattle.frame_net.specs.Passable.{is_passable}
use Rattle.frame_net.specs.FlowNet.{FlowNet, Node, node_at, node_point, node_count, point_of, capacity_between}
use Rattle.frame_net.specs.Capacity.{has_node, node_variables, latch_count, unbounded, capacity, before_number, node_total}
use Rattle.frame_net.proofs.PassableLaws.{passable-means}
use Rattle.frame_net.proofs.NodeLaws.{has_node-gate, rank-gate, rank-below, at-latch, at-before, at-after, View, view}
use Rattle.frame_net.proofs.NodeLaws.View.{the_source, the_sink, a_latch, a_before, an_after}
use Rattle.frame_net.specs.Cuts.{NoUnboundedLeaves, AreGatesOf, IsNetworkOf, leaving, CutsAreClosed}
use Rattle.aig_graph.proofs.KindLaws.{GatePlace, gate_place}
use Rattle.frame_net.proofs.CutLaws.{closed, border-below}

-- a passable gate is a variable among the gates
pub gate-range : (g : Graph) (held : List ℕ) (v : ℕ) → is_passable g held v ≡ true → (first_gate g ≤ v) × (v < variables_end g)
gate-range g held v passes =
    let t = (passable-means g held v).0 (subst (λ (b : Bool). IsTrue b) (sym passes) refl) in
    let place : GatePlace g v t.0 = gate_place g v t.0 t.1 in
    (place.from, place.below)

module _ (c : Netlist) (held : List ℕ) (net : FlowNet) (is : IsNetworkOf c held net) where
  -- the network has as many nodes as the circuit gives it
  pub nodes : node_count net ≡ node_total c.aig held
  nodes = omega (arith, is.points.each, is.points.among, is.is_net.latches, ap (λ (xs : List ℕ). length xs) is.is_net.variables)

  -- a number stands in the network for the node that it stands for by the circuit
  pub node-is : (n : ℕ) → node_at net.latches net.variables n ≡ node_at (latch_count c.aig held) (node_variables c.aig held) n
  node-is n = ap₂ (λ (k : ℕ) (xs : List ℕ). node_at k xs n) is.is_net.latches is.is_net.variables

  -- what leaves a set of nodes in the network is the cut's value by the circuit's capacities
  pub leaving-is : (side : ℕ → Bool) → leaving net side ≡ cut_value (node_total c.aig held) (capacity c.aig c.props held) side
  leaving-is side =
      between-same (node_count net) side (λ w. not (side w)) (capacity_between net) (capacity c.aig c.props held) (λ v w h k. is.is_net.capacities v w h k)
      ∙ ap (λ (n : ℕ). cut_value n (capacity c.aig c.props held) side) nodes

  -- a node at the point before a variable is the node before it, and the variable is a passable
  -- gate
  pub point-before : (n v : ℕ) → View c.aig held n → point_of net n ≡ Some (record { var = v; behind = false }) → (is_passable c.aig held v ≡ true) × (n ≡ before_number c.aig held v)
  point-before n v (the_source e) p = absurd (none-some _ (sym (ap (λ (k : ℕ). point_of net k) e) ∙ p))
  point-before n v (the_sink e) p = absurd (none-some _ (sym (ap (λ (k : ℕ). point_of net k) e) ∙ p))
  point-before n v (a_latch u q low e) p = absurd (behind-not (same_Some _ _ (sym (ap (λ (x : Node). node_point x) (node-is n ∙ ap (λ (k : ℕ). node_at (latch_count c.aig held) (node_variables c.aig held) k) e ∙ at-latch c.aig held u q low)) ∙ p)))
    where
      behind-not : {a b : ℕ} → ◌≡◌ {A = Point} (record { var = a; behind = true }) (record { var = b; behind = false }) → ⊥
      behind-not e = true_not (ap (λ (x : Point). x.behind) e)
        where
          true_not : true ≡ false → ⊥
          true_not e = absurd (cc)
  point-before n v (a_before u q from below e) p =
      let same : u ≡ v = ap (λ (x : Point). x.var) (same_Some _ _ (sym (ap (λ (x : Node). node_point x) (node-is n ∙ ap (λ (k : ℕ). node_at (latch_count c.aig held) (node_variables c.aig held) k) e ∙ at-before c.aig held u q from below)) ∙ p)) in (
        ap (λ (w : ℕ). is_passable c.aig held w) (sym same) ∙ sym (has_node-gate c.aig held u from) ∙ q,
        e ∙ ap (λ (w : ℕ). before_number c.aig held w) same,
      )
  point-before n v (an_after u q from below e) p = absurd (behind-not (same_Some _ _ (sym (ap (λ (x : Node). node_point x) (node-is n ∙ ap (λ (k : ℕ). node_at (latch_count c.aig held) (node_variables c.aig held) k) e ∙ at-after c.aig held u q from below)) ∙ p)))
    where
      behind-not : {a b : ℕ} → ◌≡◌ {A = Point} (record { var = a; behind = true }) (record { var = b; behind = false }) → ⊥
      behind-not e = true_not (ap (λ (x : Point). x.behind) e)
        where
          true_not : true ≡ false → ⊥
          true_not e = absurd (cc)

  -- the node before a passable gate is at the point before the gate
  pub point-of-before : (v : ℕ) → has_node c.aig held v ≡ true → first_gate c.aig ≤ v → v < variables_end c.aig → point_of net (before_number c.aig held v) ≡ Some (record { var = v; behind = false })
  point-of-before v q from below = ap (λ (x : Node). node_point x) (node-is (before_number c.aig held v) ∙ at-before c.aig held v q from below)

  module _ (side : ℕ → Bool) (cut : IsCut side) (no_great : NoUnboundedLeaves net side) (s : List ℕ) (gates : AreGatesOf net side s) where
    no-unbounded : (x y : ℕ) → x < node_total c.aig held → y < node_total c.aig held → side x ≡ true → side y ≡ false → capacity c.aig c.props held x y < unbounded c.aig held
    no-unbounded x y h k a b =
        let inx : x < node_count net = omega (arith, h, nodes) in
        let iny : y < node_count net = omega (arith, k, nodes) in
        omega (arith, no_great x y inx iny a b, is.is_net.capacities x y inx iny, is.is_net.latches)

    members : (v : ℕ) → has s v ≡ true → (is_passable c.aig held v ≡ true) × (side (before_number c.aig held v) ≡ true)
    members v member =
        let t = (gates.each v).0 member in
        let p = point-before t.0 v (view c.aig held t.0 (omega (arith, t.1.0, nodes))) t.1.1.1 in
        (p.0, ap side (sym p.1) ∙ t.1.1.0)

    members' : (v : ℕ) → is_passable c.aig held v ≡ true → side (before_number c.aig held v) ≡ true → has s v ≡ true
    members' v passes on =
        let from : first_gate c.aig ≤ v = (gate-range c.aig held v passes).0 in
        let below : v < variables_end c.aig = (gate-range c.aig held v passes).1 in
        let node : has_node c.aig held v ≡ true = has_node-gate c.aig held v from ∙ passes in
        (gates.each v).1 (before_number c.aig held v, (omega (arith, nodes, rank-gate c.aig held v from, rank-below c.aig held v node below), (on, point-of-before v node from below)))

    closed-gates : IsClosedSet c.aig held s
    closed-gates = record { rising = gates.rising; closed = closed c.aig c.props held is.valid side cut no-unbounded s members members' }

    -- the gates of a cut that no unbounded arc leaves are a closed set, whose border is no larger
    -- than what leaves the cut
    pub cut-closed : IsClosedSet c.aig held s × (border_size (move_of c held s) ≤ leaving net side)
    cut-closed = (
      closed-gates,
      omega (arith, closed-border_size c held s closed-gates, border-below c.aig c.props held is.valid side cut no-unbounded s members members', leaving-is side),
    )

-- in each circuit's network the cuts that no unbounded arc leaves are closed sets
pub cuts_are_closed-law : CutsAreClosed
cuts_are_closed-law c held net side s is cut no_great gates = cut-closed c held net is side cut no_great s gates
