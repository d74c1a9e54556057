-- The nodes of a route's points.
use Rattle.std.proofs.Common.{◌≡◌, ℕ, ◌+◌, ◌<◌, ◌≤◌, ◌==◌, ◌&&◌, ◌||◌, nat_lt, not, cond, Bool, true, false, IsTrue, is_some, List, [], ◌∷◌, Option, Some, None, arith, refl, ap, ap₂, sym, ◌∙◌, subst, inl, inr}
use Rattle.std.specs.List.{AllByRecursion}
use Rattle.std.proofs.lemmas.Bool.{cases_lt, cases_Bool, cond-true, cond-false, lt-ltb, le-ltb, eqb-true, or_cases, or_right, or_left, not-true, and_parts}
use Rattle.aig_graph.specs.declared.graph.Gate.{Gate}
use Rattle.aig_graph.specs.declared.graph.Latch.{Latch}
use Rattle.aig_graph.specs.Graph.{Graph, IsGraph, variable, first_gate, variables_end, latch_at, gate_at, is_known}
use Rattle.aig_graph.specs.Circuits.{Netlist}
use Rattle.aig_graph.specs.Closed.{is_held, may_move, is_settled}
use Rattle.aig_graph.proofs.KindLaws.{latch_at-gates, gate_place, latch_place}
use Rattle.aig_graph.proofs.ClosedLaws.{is_settled-gate}
use Rattle.frame_net.specs.declared.net.Point.{Point}
use Rattle.frame_net.specs.Passable.{is_passable}
use Rattle.frame_net.specs.FlowNet.{FlowNet, Node, node_at, node_point, node_count, start, row_len, head, cap_at, point_of, capacity_between}
use Rattle.frame_net.specs.FlowNet.Node.{source, before, after}
use Rattle.frame_net.specs.Capacity.{has_node, node_variables, latch_count, unbounded, gate_reads, arc_capacity, latch_number, before_number, after_number, node_total}
use Rattle.frame_net.proofs.PassableLaws.{passable-means, passable-at_gate, settled-split}
use Rattle.frame_net.proofs.NodeLaws.{rank-latch, rank-gate, rank-below, latches-among, at-latch, at-before, at-after}
use Rattle.frame_net.specs.Cuts.{IsNetworkOf}
use Rattle.frame_net.proofs.NetLaws.{gate-range, nodes, node-is}
use Rattle.frame_net.proofs.SparseRowLaws.{sparse-none, find_head}
use Rattle.certificates.specs.Routes.{begins_at, passes, enters, returns_to, may_step, goes_on, is_route}
use Rattle.certificates.proofs.RouteLaws.{four_parts}
use Rattle.cut_cert.proofs.ArcPointLaws.{capacity-is}
use Rattle.cut_cert.specs.Steps.{HasArc, IsWay, AreWays}

-- a gate that a passable gate reads is passable
pub fan-in-passable : (g : Graph) (held : List ℕ) → IsGraph g → (w v : ℕ) → is_passable g held w ≡ true → gate_reads v (gate_at g w) ≡ true → is_some (gate_at g v) ≡ true → is_passable g held v ≡ true
fan-in-passable g held valid w v p reads gate =
    let t = (passable-means g held w).0 (subst (λ (b : Bool). IsTrue b) (sym p) refl) in
    let settled = and_parts (is_settled g held (variable t.0.rhs0)) (is_settled g held (variable t.0.rhs1)) (sym (is_settled-gate g held valid w t.0 t.1) ∙ sym (passable-at_gate g held w t.0 t.1) ∙ p) in
    elim (or_cases (variable t.0.rhs0 == v) (variable t.0.rhs1 == v) (sym (ap (λ (o : Option Gate). gate_reads v o) t.1) ∙ reads)) [
      | inl first ↦ passes-on (subst (λ (u : ℕ). is_settled g held u ≡ true) (eqb-true (variable t.0.rhs0) v first) settled.0)
      | inr second ↦ passes-on (subst (λ (u : ℕ). is_settled g held u ≡ true) (eqb-true (variable t.0.rhs1) v second) settled.1)
    ]
  where
    some-gate : (o : Option Gate) → is_some o ≡ true → (gate : Gate) × (o ≡ Some gate)
    some-gate None e = absurd (cc)
    some-gate (Some gate) e = (gate, refl)

    passes-on : is_settled g held v ≡ true → is_passable g held v ≡ true
    passes-on settled = elim (or_cases (is_passable g held v) (may_move g held v) (sym (settled-split g held v) ∙ settled)) [
      | inl passes ↦ passes
      | inr moves ↦ (
          let at = some-gate (gate_at g v) gate in
          let no-latch = latch_at-gates g v (gate_place g v at.0 at.1).from in
          let known : is_known (latch_at g v) ≡ true = (and_parts (not (is_held g held v)) (is_known (latch_at g v)) moves).1 in
          let clash : false ≡ true = sym (ap (λ (o : Option Latch). is_known o) no-latch) ∙ known in
          absurd (cc))
    ]

module _ (g : Graph) (held : List ℕ) where
  -- a point with a node: after a known latch or on either side of a passable gate
  pub record IsPlace (p : Point) : Type 0 where
    -- its variable has a node
    pub has : has_node g held p.var ≡ true
    -- a point before a variable is before a gate
    pub gate : p.behind ≡ false → first_gate g ≤ p.var
    -- its variable is one of the graph's
    pub below : p.var < variables_end g

  abbrev pub number : Point → ℕ
  number p = cond p.behind (cond (nat_lt p.var (first_gate g)) (latch_number g held p.var) (after_number g held p.var)) (before_number g held p.var)

  abbrev pub side : Point → Node
  side p = cond p.behind (after p.var) (before p.var)

  -- the number of a point after a latch is that of the node after it
  pub number-latch : (p : Point) → p.behind ≡ true → p.var < first_gate g → number p ≡ latch_number g held p.var
  number-latch p b low = cond-true p.behind _ _ b ∙ cond-true (nat_lt p.var (first_gate g)) _ _ (lt-ltb p.var (first_gate g) low)

  -- the number of a point after a gate is that of the node after it
  pub number-after : (p : Point) → p.behind ≡ true → first_gate g ≤ p.var → number p ≡ after_number g held p.var
  number-after p b high = cond-true p.behind _ _ b ∙ cond-false (nat_lt p.var (first_gate g)) _ _ (le-ltb p.var (first_gate g) high)

  -- the number of a point before a gate is that of the node before it
  pub number-before : (p : Point) → p.behind ≡ false → number p ≡ before_number g held p.var
  number-before p b = cond-false p.behind _ _ b

  abbrev kind : ℕ → Node
  kind n = node_at (latch_count g held) (node_variables g held) n

  -- the number of a point with a node stands for the point's side of its variable
  pub kind-is : (p : Point) → IsPlace p → kind (number p) ≡ side p
  kind-is p place = elim (cases_Bool p.behind) [
    | inr front ↦ ap kind (number-before p front) ∙ at-before g held p.var place.has (place.gate front) place.below ∙ sym (cond-false p.behind (after p.var) (before p.var) front)
    | inl back ↦ elim (cases_lt p.var (first_gate g)) [
      | inl low ↦ ap kind (number-latch p back low) ∙ at-latch g held p.var place.has low ∙ sym (cond-true p.behind (after p.var) (before p.var) back)
      | inr high ↦ ap kind (number-after p back high) ∙ at-after g held p.var place.has high place.below ∙ sym (cond-true p.behind (after p.var) (before p.var) back)
    ]
  ]

  side-point : (p : Point) → node_point (side p) ≡ Some p
  side-point p = elim (cases_Bool p.behind) [
    | inl back ↦ ap node_point (cond-true p.behind (after p.var) (before p.var) back) ∙ ap (λ (b : Bool). Some (record { var = p.var; behind = b })) (sym back)
    | inr front ↦ ap node_point (cond-false p.behind (after p.var) (before p.var) front) ∙ ap (λ (b : Bool). Some (record { var = p.var; behind = b })) (sym front)
  ]

  -- the number of a point with a node is below the number of nodes
  pub number-below : (p : Point) → IsPlace p → number p < node_total g held
  number-below p place = elim (cases_Bool p.behind) [
    | inr front ↦ omega (arith, number-before p front, rank-gate g held p.var (place.gate front), rank-below g held p.var place.has place.below)
    | inl back ↦ elim (cases_lt p.var (first_gate g)) [
      | inl low ↦ omega (arith, number-latch p back low, rank-latch g held p.var place.has low, latches-among g held)
      | inr high ↦ omega (arith, number-after p back high, rank-gate g held p.var high, rank-below g held p.var place.has place.below)
    ]
  ]

  -- the number of a point is that of an inner node
  pub number-inner : (p : Point) → 1 < number p
  number-inner p = elim (cases_Bool p.behind) [
    | inr front ↦ omega (arith, number-before p front)
    | inl back ↦ elim (cases_lt p.var (first_gate g)) [
      | inl low ↦ omega (arith, number-latch p back low)
      | inr high ↦ omega (arith, number-after p back high)
    ]
  ]

module _ (c : Netlist) (held : List ℕ) (net : FlowNet) (is : IsNetworkOf c held net) where
  -- the node of a point's number has that point
  pub point-of-number : (p : Point) → IsPlace c.aig held p → point_of net (number c.aig held p) ≡ Some p
  point-of-number p place = ap node_point (node-is c held net is (number c.aig held p) ∙ kind-is c.aig held p place) ∙ side-point c.aig held p

  -- the number of a point with a node is that of a node of the network
  pub number-in : (p : Point) → IsPlace c.aig held p → number c.aig held p < node_count net
  number-in p place = omega (arith, number-below c.aig held p place, nodes c held net is)

  -- a capacity is an arc
  pub leads : (x y : ℕ) → 0 < capacity_between net x y → HasArc net x y
  leads x y some = elim (find_head (row_len net x) (head net x) y) [
    | inl found ↦ (found.0, (found.1.0, found.1.1))
    | inr none ↦ absurd (omega (arith, some, sparse-none (row_len net x) (head net x) (λ k. cap_at net (start net x + k)) y none))
  ]

  known-place : (p : Point) → p.behind ≡ true → is_known (latch_at c.aig p.var) ≡ true → IsPlace c.aig held p
  unfolding has_node
  known-place p back known = record {
    has = or_left (is_known (latch_at c.aig p.var)) (is_passable c.aig held p.var) known;
    gate = λ front. (let clash : true ≡ false = sym back ∙ front in absurd (cc));
    below = known-below (latch_at c.aig p.var) refl known;
  }
    where
      known-below : (o : Option Latch) → latch_at c.aig p.var ≡ o → is_known o ≡ true → p.var < variables_end c.aig
      known-below None e k = absurd (cc)
      known-below (Some latch) e k = omega (arith, (latch_place c.aig p.var latch e).below)

  pass-place : (p : Point) → is_passable c.aig held p.var ≡ true → IsPlace c.aig held p
  unfolding has_node
  pass-place p pass = record {
    has = or_right (is_known (latch_at c.aig p.var)) (is_passable c.aig held p.var) pass;
    gate = λ front. (gate-range c.aig held p.var pass).0;
    below = (gate-range c.aig held p.var pass).1;
  }

  arc : Node → Node → ℕ
  arc a b = arc_capacity c.aig c.props held a b

  between-is : (p q : Point) → IsPlace c.aig held p → IsPlace c.aig held q → capacity_between net (number c.aig held p) (number c.aig held q) ≡ arc_capacity c.aig c.props held (side c.aig held p) (side c.aig held q)
  between-is p q a b =
      capacity-is c held net is (number c.aig held p) (number c.aig held q) (number-in p a) (number-in q b)
      ∙ ap₂ (λ (x y : Node). arc_capacity c.aig c.props held x y) (kind-is c.aig held p a) (kind-is c.aig held q b)

  -- a step leads to a node, over an arc with a capacity
  pub record StepsTo (p q : Point) : Type 0 where
    -- the point that is stepped to has a node
    pub place : IsPlace c.aig held q
    -- there is a capacity from the node of the one point to that of the other
    pub some : 0 < capacity_between net (number c.aig held p) (number c.aig held q)

  steps-to : (p q : Point) → IsPlace c.aig held p → IsPlace c.aig held q → 0 < arc_capacity c.aig c.props held (side c.aig held p) (side c.aig held q) → StepsTo p q
  steps-to p q a b some = record { place = b; some = subst (λ (m : ℕ). 0 < m) (sym (between-is p q a b)) some }

  -- a step of a route leads to a point with a node, over an arc with a capacity
  pub may-lead : (p q : Point) → IsPlace c.aig held p → may_step c.aig held p q ≡ true → StepsTo p q
  unfolding may_step
  may-lead p q at step = elim (or_cases (passes c.aig held p q) (enters c.aig held p q || returns_to c.aig held p q) step) [
    | inl through ↦ (
        let a = four_parts (not p.behind) q.behind (p.var == q.var) (is_passable c.aig held p.var) through in
        let same : p.var ≡ q.var = eqb-true p.var q.var a.2 in
        let front : p.behind ≡ false = not-true p.behind a.0 in
        let cap : arc_capacity c.aig c.props held (side c.aig held p) (side c.aig held q) ≡ 1 =
        ap₂ (λ (x y : Node). arc_capacity c.aig c.props held x y) (cond-false p.behind (after p.var) (before p.var) front) (cond-true q.behind (after q.var) (before q.var) a.1)
        ∙ cond-true {A = ℕ} (p.var == q.var) 1 0 a.2 in
        steps-to p q at (pass-place q (ap (is_passable c.aig held) (sym same) ∙ a.3)) (omega (arith, cap)))
    | inr other ↦ elim (or_cases (enters c.aig held p q) (returns_to c.aig held p q) other) [
      | inl on ↦ (
          let a = four_parts p.behind (not q.behind) (is_passable c.aig held q.var) (gate_reads p.var (gate_at c.aig q.var)) on in
          let cap : arc_capacity c.aig c.props held (side c.aig held p) (side c.aig held q) ≡ unbounded c.aig held =
          ap₂ (λ (x y : Node). arc_capacity c.aig c.props held x y) (cond-true p.behind (after p.var) (before p.var) a.0) (cond-false q.behind (after q.var) (before q.var) (not-true q.behind a.1))
          ∙ cond-true {A = ℕ} (gate_reads p.var (gate_at c.aig q.var)) (unbounded c.aig held) 0 a.3 in
          steps-to p q at (pass-place q a.2) (omega (arith, cap)))
      | inr back ↦ (
          let e = and_parts (not p.behind && not q.behind && is_passable c.aig held p.var && is_some (gate_at c.aig q.var)) (gate_reads q.var (gate_at c.aig p.var)) back in
          let a = four_parts (not p.behind) (not q.behind) (is_passable c.aig held p.var) (is_some (gate_at c.aig q.var)) e.0 in
          let cap : arc_capacity c.aig c.props held (side c.aig held p) (side c.aig held q) ≡ unbounded c.aig held =
          ap₂ (λ (x y : Node). arc_capacity c.aig c.props held x y) (cond-false p.behind (after p.var) (before p.var) (not-true p.behind a.0)) (cond-false q.behind (after q.var) (before q.var) (not-true q.behind a.1))
          ∙ cond-true {A = ℕ} (gate_reads q.var (gate_at c.aig p.var)) (unbounded c.aig held) 0 e.1 in
          steps-to p q at (pass-place q (fan-in-passable c.aig held is.valid p.var q.var a.2 e.1 a.3)) (omega (arith, cap)))
    ]
  ]

  -- ---- the walk of a route

  abbrev pub path : List Point → List ℕ
  path [] = []
  path (p ∷ rest) = number c.aig held p ∷ path rest

  goes-way : (p : Point) (rest : List Point) → IsPlace c.aig held p → goes_on c held p rest ≡ true → IsWay net (number c.aig held p) (path rest) rest
  unfolding goes_on
  goes-way p [] at g = tt
  goes-way p (q ∷ rest) at g =
      let parts = and_parts (may_step c.aig held p q) (goes_on c held q rest) g in
      let to = may-lead p q at parts.0 in
      (leads (number c.aig held p) (number c.aig held q) to.some, (point-of-number q to.place, goes-way q rest to.place parts.1))

  -- a route begins at a point with a node, to which the source has a capacity
  pub begin-some : (p : Point) → begins_at c.aig p ≡ true → IsPlace c.aig held p × (0 < capacity_between net 0 (number c.aig held p))
  begin-some p begins =
      let at = and_parts p.behind (is_known (latch_at c.aig p.var)) begins in
      let place = known-place p at.0 at.1 in
      let cap : capacity_between net 0 (number c.aig held p) ≡ 1 =
      capacity-is c held net is 0 (number c.aig held p) (omega (arith, number-in p place)) (number-in p place)
      ∙ ap (λ (y : Node). arc_capacity c.aig c.props held source y) (kind-is c.aig held p place ∙ cond-true p.behind (after p.var) (before p.var) at.0)
      ∙ cond-true {A = ℕ} (is_known (latch_at c.aig p.var)) 1 0 at.1 in
      (place, omega (arith, cap))

  -- the nodes of a route's points are a way from the source
  pub route-way : (route : List Point) → is_route c held route ≡ true → IsWay net 0 (path route) route
  route-way [] r = absurd (cc)
  route-way (p ∷ rest) r =
      let parts = and_parts (begins_at c.aig p) (goes_on c held p rest) r in
      let start = begin-some p parts.0 in
      (leads 0 (number c.aig held p) start.1, (point-of-number p start.0, goes-way p rest start.0 parts.1))

  abbrev pub paths : List (List Point) → List (List ℕ)
  paths [] = []
  paths (route ∷ routes) = path route ∷ paths routes

  -- the nodes of routes' points are their ways
  pub routes-ways : (routes : List (List Point)) → AllByRecursion (λ route. is_route c held route ≡ true) routes → AreWays net (paths routes) routes
  routes-ways [] all = tt
  routes-ways (route ∷ routes) all = (route-way route all.0, routes-ways routes all.1)
