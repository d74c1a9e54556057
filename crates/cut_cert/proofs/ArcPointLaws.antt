-- What an arc with a capacity says of the points at its ends.
use Rattle.std.proofs.Common.{◌≡◌, ℕ, ◌<◌, ◌≤◌, ◌==◌, Bool, true, false, ◌&&◌, is_some, cond, List, [], Option, Some, None, arith, refl, ap, sym, ◌∙◌, subst, inl, inr}
use Rattle.std.proofs.lemmas.Bool.{cases_lt, eqb-true, and_from, or_left, and_parts, true≢false}
use Rattle.std.proofs.lemmas.Option.{none-some, same_Some}
use Rattle.aig_graph.specs.declared.graph.Latch.{Latch}
use Rattle.aig_graph.specs.declared.properties.Props.{Props}
use Rattle.aig_graph.specs.Graph.{Graph, first_gate, latch_at, gate_at, is_known}
use Rattle.aig_graph.specs.Circuits.{Netlist}
use Rattle.aig_graph.proofs.KindLaws.{latch_at-gates}
use Rattle.frame_net.specs.declared.net.Point.{Point}
use Rattle.frame_net.specs.Passable.{is_passable}
use Rattle.frame_net.specs.FlowNet.{FlowNet, Node, node_at, node_point, node_count, point_of, capacity_between}
use Rattle.frame_net.specs.FlowNet.Node.{source, sink, before, after}
use Rattle.frame_net.specs.Capacity.{node_variables, latch_count, unbounded, gate_reads, is_observed, arc_capacity, latch_number, before_number, after_number}
use Rattle.frame_net.proofs.NodeLaws.{has_node-gate, at-latch, at-before, at-after, View, view}
use Rattle.frame_net.proofs.NodeLaws.View.{the_source, the_sink, a_latch, a_before, an_after}
use Rattle.frame_net.proofs.ArcLaws.{cap-at}
use Rattle.frame_net.specs.Cuts.{IsNetworkOf}
use Rattle.frame_net.proofs.NetLaws.{nodes, node-is}
use Rattle.certificates.specs.Routes.{begins_at, may_step, goes_on}

abbrev pub point : ℕ → Bool → Point
point v behind = record { var = v; behind = behind }

positive : (t : Bool) (m : ℕ) → 0 < cond t m 0 → t ≡ true
positive true m h = refl
positive false m h = absurd (omega (arith, h))

at-most-one : (t : Bool) → cond {A = ℕ} t 1 0 ≤ 1
at-most-one true = omega arith
at-most-one false = omega arith

-- ---- by what the nodes stand for

-- the number of a node of a kind, and that only passable gates have a node before them
abbrev pub IsRight : Graph → List ℕ → ℕ → Node → Type 0
IsRight g held n source = n ≡ 0
IsRight g held n sink = n ≡ 1
IsRight g held n (before v) = (is_passable g held v ≡ true) × ((first_gate g ≤ v) × (n ≡ before_number g held v))
IsRight g held n (after v) = (v < first_gate g → n ≡ latch_number g held v) × (first_gate g ≤ v → n ≡ after_number g held v)

module _ (g : Graph) (props : Props) (held : List ℕ) where
  through : (v w : ℕ) → (v == w) ≡ true → is_passable g held v ≡ true → may_step g held (point v false) (point w true) ≡ true
  unfolding may_step
  through v w same pass = or_left ((v == w) && is_passable g held v) _ (and_from (v == w) (is_passable g held v) same pass)

  on : (v w : ℕ) → gate_reads v (gate_at g w) ≡ true → is_passable g held w ≡ true → may_step g held (point v true) (point w false) ≡ true
  unfolding may_step
  on v w reads pass = or_left (is_passable g held w && gate_reads v (gate_at g w)) _ (and_from (is_passable g held w) (gate_reads v (gate_at g w)) pass reads)

  is-gate : (v : ℕ) → is_passable g held v ≡ true → is_some (gate_at g v) ≡ true
  unfolding is_passable
  is-gate v pass = (and_parts (is_some (gate_at g v)) _ pass).0

  back : (w v : ℕ) → gate_reads v (gate_at g w) ≡ true → is_passable g held w ≡ true → is_some (gate_at g v) ≡ true → may_step g held (point w false) (point v false) ≡ true
  unfolding may_step
  back w v reads pass gate = and_from (is_passable g held w && is_some (gate_at g v)) (gate_reads v (gate_at g w)) (and_from (is_passable g held w) (is_some (gate_at g v)) pass gate) reads

  points : (p q r s : Point) → p ≡ r → q ≡ s → may_step g held p q ≡ true → may_step g held r s ≡ true
  points p q r s e f step = subst (λ (x : Point). may_step g held x s ≡ true) e (subst (λ (x : Point). may_step g held p x ≡ true) f step)

  -- between two nodes with points, an arc with a capacity is a step of a route
  pub may-step : (x y : ℕ) (a b : Node) (p q : Point) → 0 < arc_capacity g props held a b → IsRight g held x a → IsRight g held y b → node_point a ≡ Some p → node_point b ≡ Some q → may_step g held p q ≡ true
  may-step x y source b p q h r s e f = absurd (none-some p e)
  may-step x y sink b p q h r s e f = absurd (none-some p e)
  may-step x y (before v) source p q h r s e f = absurd (none-some q f)
  may-step x y (before v) sink p q h r s e f = absurd (none-some q f)
  may-step x y (after v) source p q h r s e f = absurd (none-some q f)
  may-step x y (after v) sink p q h r s e f = absurd (none-some q f)
  may-step x y (after v) (after w) p q h r s e f = absurd (omega (arith, h))
  may-step x y (before v) (after w) p q h r s e f = points (point v false) (point w true) p q (same_Some _ _ e) (same_Some _ _ f) (through v w (positive (v == w) 1 h) r.0)
  may-step x y (after v) (before w) p q h r s e f = points (point v true) (point w false) p q (same_Some _ _ e) (same_Some _ _ f) (on v w (positive (gate_reads v (gate_at g w)) (unbounded g held) h) s.0)
  may-step x y (before w) (before v) p q h r s e f =
      points (point w false) (point v false) p q (same_Some _ _ e) (same_Some _ _ f) (back w v (positive (gate_reads v (gate_at g w)) (unbounded g held) h) r.0 (is-gate v s.0))

  -- an arc with a capacity from the source leads to a point where a route may begin
  pub may-begin : (b : Node) (p : Point) → 0 < arc_capacity g props held source b → node_point b ≡ Some p → begins_at g p ≡ true
  may-begin source p h e = absurd (none-some p e)
  may-begin sink p h e = absurd (none-some p e)
  may-begin (before v) p h e = absurd (omega (arith, h))
  may-begin (after v) p h e = subst (λ (x : Point). begins_at g x ≡ true) (same_Some _ _ e) (positive (is_known (latch_at g v)) 1 h)

  -- an arc with a capacity to the sink comes from after a variable that leaves the frame
  pub may-end : (a : Node) → 0 < arc_capacity g props held a sink → (v : ℕ) × ((a ≡ after v) × (is_observed g props held v ≡ true))
  may-end source h = absurd (omega (arith, h))
  may-end sink h = absurd (omega (arith, h))
  may-end (before v) h = absurd (omega (arith, h))
  may-end (after v) h = (v, (refl, positive (is_observed g props held v) (unbounded g held) h))

  -- no arc from the sink has a capacity
  pub none-from-sink : (b : Node) → arc_capacity g props held sink b ≡ 0
  none-from-sink source = refl
  none-from-sink sink = refl
  none-from-sink (before v) = refl
  none-from-sink (after v) = refl

  -- one arc of capacity 1 goes to after a variable
  pub one-into : (a : Node) (v : ℕ) → arc_capacity g props held a (after v) ≤ 1
  one-into source v = at-most-one (is_known (latch_at g v))
  one-into sink v = omega arith
  one-into (before w) v = at-most-one (w == v)
  one-into (after w) v = omega arith

  not-both : (v w : ℕ) → 0 < cond {A = ℕ} (is_known (latch_at g v)) 1 0 → 0 < cond {A = ℕ} (w == v) 1 0 → first_gate g ≤ w → ⊥
  not-both v w known same from =
      let no-latch : latch_at g v ≡ None = latch_at-gates g v (subst (λ (x : ℕ). first_gate g ≤ x) (eqb-true w v (positive (w == v) 1 same)) from) in
      true≢false (sym (positive (is_known (latch_at g v)) 1 known) ∙ ap (λ (o : Option Latch). is_known o) no-latch)

  -- the arcs with a capacity to after a variable have one tail
  pub same-tail : (x y : ℕ) (a b : Node) (v : ℕ) → IsRight g held x a → IsRight g held y b → 0 < arc_capacity g props held a (after v) → 0 < arc_capacity g props held b (after v) → x ≡ y
  same-tail x y sink b v r s h l = absurd (omega (arith, h))
  same-tail x y (after w) b v r s h l = absurd (omega (arith, h))
  same-tail x y source sink v r s h l = absurd (omega (arith, l))
  same-tail x y source (after w) v r s h l = absurd (omega (arith, l))
  same-tail x y (before u) sink v r s h l = absurd (omega (arith, l))
  same-tail x y (before u) (after w) v r s h l = absurd (omega (arith, l))
  same-tail x y source source v r s h l = r ∙ sym s
  same-tail x y source (before w) v r s h l = absurd (not-both v w h l s.1.0)
  same-tail x y (before w) source v r s h l = absurd (not-both v w l h r.1.0)
  same-tail x y (before u) (before w) v r s h l =
      let same : u ≡ w = eqb-true u v (positive (u == v) 1 h) ∙ sym (eqb-true w v (positive (w == v) 1 l)) in
      r.1.1 ∙ ap (before_number g held) same ∙ sym s.1.1

  -- one node stands for after a variable
  pub same-after : (x y : ℕ) (v : ℕ) → IsRight g held x (after v) → IsRight g held y (after v) → x ≡ y
  same-after x y v r s = elim (cases_lt v (first_gate g)) [
    | inl latch ↦ r.0 latch ∙ sym (s.0 latch)
    | inr gate ↦ r.1 gate ∙ sym (s.1 gate)
  ]

  abbrev pub kind : ℕ → Node
  kind n = node_at (latch_count g held) (node_variables g held) n

  right : (n : ℕ) → View g held n → IsRight g held n (kind n)
  right n (the_source e) = subst (λ (m : ℕ). IsRight g held m (kind m)) (sym e) refl
  right n (the_sink e) = subst (λ (m : ℕ). IsRight g held m (kind m)) (sym e) refl
  right n (a_latch v has low e) = subst (IsRight g held n) (sym (ap kind e ∙ at-latch g held v has low)) ((λ l. e), (λ l. absurd (omega (arith, l, low))))
  right n (a_before v has from below e) = subst (IsRight g held n) (sym (ap kind e ∙ at-before g held v has from below)) (sym (has_node-gate g held v from) ∙ has, (from, e))
  right n (an_after v has from below e) = subst (IsRight g held n) (sym (ap kind e ∙ at-after g held v has from below)) ((λ l. absurd (omega (arith, l, from))), (λ l. e))

-- ---- by the numbers of the nodes

module _ (c : Netlist) (held : List ℕ) (net : FlowNet) (is : IsNetworkOf c held net) where
  abbrev node : ℕ → Node
  node n = kind c.aig c.props held n

  right-at : (n : ℕ) → n < node_count net → IsRight c.aig held n (node n)
  right-at n h = right c.aig c.props held n (view c.aig held n (omega (arith, h, nodes c held net is)))

  point-is : (n : ℕ) → point_of net n ≡ node_point (node n)
  point-is n = ap node_point (node-is c held net is n)

  -- the capacity between two nodes of the network is the arc's between what they stand for
  pub capacity-is : (x y : ℕ) → x < node_count net → y < node_count net → capacity_between net x y ≡ arc_capacity c.aig c.props held (node x) (node y)
  capacity-is x y h l = is.is_net.capacities x y h l ∙ cap-at c.aig c.props held is.valid x y (node x) (node y) refl refl

  some-arc : (x y : ℕ) → x < node_count net → y < node_count net → 0 < capacity_between net x y → 0 < arc_capacity c.aig c.props held (node x) (node y)
  some-arc x y h l some = subst (λ (m : ℕ). 0 < m) (capacity-is x y h l) some

  -- between nodes with points, a capacity in the network is a step of a route
  pub step-at : (x y : ℕ) (p q : Point) → x < node_count net → y < node_count net → 0 < capacity_between net x y → point_of net x ≡ Some p → point_of net y ≡ Some q → may_step c.aig held p q ≡ true
  step-at x y p q h l some e f = may-step c.aig c.props held x y (node x) (node y) p q (some-arc x y h l some) (right-at x h) (right-at y l) (sym (point-is x) ∙ e) (sym (point-is y) ∙ f)

  -- a capacity from the source in the network leads to a point where a route may begin
  pub begin-at : (y : ℕ) (p : Point) → y < node_count net → 0 < capacity_between net 0 y → point_of net y ≡ Some p → begins_at c.aig p ≡ true
  begin-at y p l some f = may-begin c.aig c.props held (node y) p (some-arc 0 y (omega (arith, l)) l some) (sym (point-is y) ∙ f)

  -- the tail of an arc to the sink is after what leaves the frame
  pub end-at : (x : ℕ) (p : Point) → x < node_count net → 1 < node_count net → 0 < capacity_between net x 1 → point_of net x ≡ Some p → goes_on c held p [] ≡ true
  unfolding goes_on
  end-at x p h l some e =
      let ends = may-end c.aig c.props held (node x) (some-arc x 1 h l some) in
      subst (λ (q : Point). (q.behind && is_observed c.aig c.props held q.var) ≡ true) (same_Some _ _ (sym (ap node_point ends.1.0) ∙ sym (point-is x) ∙ e)) ends.1.1

  -- a capacity to the sink in the network comes from an inner node
  pub end-inner : (x : ℕ) → x < node_count net → 1 < node_count net → 0 < capacity_between net x 1 → 1 < x
  end-inner x h l some =
      let ends = may-end c.aig c.props held (node x) (some-arc x 1 h l some) in
      elim (cases_lt 1 x) [
        | inl big ↦ big
        | inr low ↦ absurd (small x (omega (arith, low)) ends.0 ends.1.0)
      ]
    where
      small : (x : ℕ) → x < 2 → (v : ℕ) → node x ≡ after v → ⊥
      small x low v e = elim (cases_lt 0 x) [
        | inl pos ↦ (let one : x ≡ 1 = omega (arith, pos, low) in not-after (sym (ap node one) ∙ e))
        | inr zero ↦ (let none : x ≡ 0 = omega (arith, zero) in from-after (sym (ap node none) ∙ e))
      ]
        where
          not-after : sink ≡ after v → ⊥
          not-after q = absurd (cc)

          from-after : source ≡ after v → ⊥
          from-after q = absurd (cc)

  -- no capacity leads out of the sink in the network
  pub none-out-of-sink : (y : ℕ) → 1 < node_count net → y < node_count net → capacity_between net 1 y ≡ 0
  none-out-of-sink y h l = capacity-is 1 y h l ∙ none-from-sink c.aig c.props held (node y)

  -- what the node of a point after a variable stands for
  after-point : (a : Node) (v : ℕ) → node_point a ≡ Some (point v true) → a ≡ after v
  after-point source v e = absurd (none-some _ e)
  after-point sink v e = absurd (none-some _ e)
  after-point (before u) v e = absurd (not-behind (ap (λ (p : Point). p.behind) (same_Some _ _ e)))
    where
      not-behind : false ≡ true → ⊥
      not-behind q = absurd (cc)
  after-point (after u) v e = ap (λ (p : Point). after p.var) (same_Some _ _ e)

  node-behind : (y v : ℕ) → point_of net y ≡ Some (point v true) → node y ≡ after v
  node-behind y v e = after-point (node y) v (sym (point-is y) ∙ e)

  -- one node of the network has the point after a variable
  pub one-node : (x y v : ℕ) → x < node_count net → y < node_count net → point_of net x ≡ Some (point v true) → point_of net y ≡ Some (point v true) → x ≡ y
  one-node x y v h l e f =
      same-after c.aig c.props held x y v (subst (IsRight c.aig held x) (node-behind x v e) (right-at x h)) (subst (IsRight c.aig held y) (node-behind y v f) (right-at y l))

  -- a capacity to the point after a variable is at most 1
  pub one-arc : (x y v : ℕ) → x < node_count net → y < node_count net → point_of net y ≡ Some (point v true) → capacity_between net x y ≤ 1
  one-arc x y v h l e =
      subst (λ (m : ℕ). m ≤ 1) (sym (capacity-is x y h l ∙ ap (arc_capacity c.aig c.props held (node x)) (node-behind y v e))) (one-into c.aig c.props held (node x) v)

  -- capacities to the point after a variable have one tail
  pub one-tail : (x u y v : ℕ) → x < node_count net → u < node_count net → y < node_count net → point_of net y ≡ Some (point v true) → 0 < capacity_between net x y → 0 < capacity_between net u y → x ≡ u
  one-tail x u y v h k l e some other =
      let at = node-behind y v e in
      same-tail c.aig c.props held x u (node x) (node u) v (right-at x h) (right-at u k)
      (subst (λ (a : Node). 0 < arc_capacity c.aig c.props held (node x) a) at (some-arc x y h l some)) (subst (λ (a : Node). 0 < arc_capacity c.aig c.props held (node u) a) at (some-arc u y k l other))

  same-node : (x y : ℕ) (a b : Node) (p : Point) → IsRight c.aig held x a → IsRight c.aig held y b → node_point a ≡ Some p → node_point b ≡ Some p → x ≡ y
  same-node x y source b p r s e f = absurd (none-some p e)
  same-node x y sink b p r s e f = absurd (none-some p e)
  same-node x y (before v) source p r s e f = absurd (none-some p f)
  same-node x y (before v) sink p r s e f = absurd (none-some p f)
  same-node x y (after v) source p r s e f = absurd (none-some p f)
  same-node x y (after v) sink p r s e f = absurd (none-some p f)
  same-node x y (before v) (before w) p r s e f =
      let same : v ≡ w = ap (λ (q : Point). q.var) (same_Some _ _ (e ∙ sym f)) in
      r.1.1 ∙ ap (before_number c.aig held) same ∙ sym s.1.1
  same-node x y (before v) (after w) p r s e f = absurd (apart (ap (λ (q : Point). q.behind) (same_Some _ _ (e ∙ sym f))))
    where
      apart : false ≡ true → ⊥
      apart q = absurd (cc)
  same-node x y (after v) (before w) p r s e f = absurd (apart (ap (λ (q : Point). q.behind) (same_Some _ _ (e ∙ sym f))))
    where
      apart : true ≡ false → ⊥
      apart q = absurd (cc)
  same-node x y (after v) (after w) p r s e f =
      let same : w ≡ v = ap (λ (q : Point). q.var) (same_Some _ _ (f ∙ sym e)) in
      same-after c.aig c.props held x y v r (subst (λ (u : ℕ). IsRight c.aig held y (after u)) same s)

  -- no two nodes have one point
  pub one-point : (x y : ℕ) (p : Point) → x < node_count net → y < node_count net → point_of net x ≡ Some p → point_of net y ≡ Some p → x ≡ y
  one-point x y p h l e f = same-node x y (node x) (node y) p (right-at x h) (right-at y l) (sym (point-is x) ∙ e) (sym (point-is y) ∙ f)

  -- only the source and the sink have no point
  pub no-point : (x : ℕ) → point_of net x ≡ None → x < node_count net → x ≤ 1
  no-point x e h = small (node x) (sym (point-is x) ∙ e) (right-at x h)
    where
      small : (a : Node) → node_point a ≡ None → IsRight c.aig held x a → x ≤ 1
      small source q r = omega (arith, r)
      small sink q r = omega (arith, r)
      small (before v) q r = absurd (none-some _ (sym q))
      small (after v) q r = absurd (none-some _ (sym q))
