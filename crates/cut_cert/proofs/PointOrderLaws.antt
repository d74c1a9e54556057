-- Points rise with the numbers of their nodes.
use Rattle.std.proofs.Common.{◌≡◌, ℕ, ◌+◌, ◌-◌, ◌*◌, ◌<◌, ◌≤◌, ◌==◌, nat_lt, Bool, true, false, not, ◌&&◌, Option, Some, None, List, ◌⊎◌, arith, refl, ap, ap₂, sym, ◌∙◌, inl, inr}
use Rattle.std.proofs.lemmas.Bool.{cases_lt, cases_Bool, cases_order, lt-ltb, eq-eqb, or_left, or_right, and_from}
use Rattle.aig_graph.proofs.PlacesLaws.{count-lt}
use Rattle.aig_graph.specs.Graph.{Graph, first_gate}
use Rattle.aig_graph.specs.Circuits.{Netlist}
use Rattle.frame_net.specs.declared.net.Point.{Point}
use Rattle.frame_net.specs.FlowNet.{FlowNet, point_of}
use Rattle.frame_net.specs.Capacity.{has_node, latch_count, rank}
use Rattle.frame_net.proofs.NodeLaws.{rank-latch, rank-gate, View, view}
use Rattle.frame_net.proofs.NodeLaws.View.{the_source, the_sink, a_latch, a_before, an_after}
use Rattle.frame_net.specs.Cuts.{IsNetworkOf}
use Rattle.frame_net.proofs.NetLaws.{nodes}
use Rattle.cut_cert.specs.Steps.{precedes, PointsRise}
use Rattle.cut_cert.proofs.RoutePointLaws.{IsPlace, number, number-latch, number-after, number-before, number-inner, point-of-number}

module _ (g : Graph) (held : List ℕ) where
  -- by what a number is bounded
  pub record AtLatch (p : Point) : Type 0 where
    -- the variable is before the gates
    pub low : p.var < first_gate g
    -- its number is two more than its rank
    pub is : number g held p ≡ 2 + rank g held p.var
    -- its rank is below the number of known latches
    pub few : rank g held p.var < latch_count g held

  pub record AtGate (p : Point) : Type 0 where
    -- the variable is a gate
    pub high : first_gate g ≤ p.var
    -- its number is at least that of the node before the gate
    pub least : 2 + latch_count g held + 2 * (rank g held p.var - latch_count g held) ≤ number g held p
    -- its number is at most that of the node after the gate
    pub most : number g held p ≤ 3 + latch_count g held + 2 * (rank g held p.var - latch_count g held)
    -- its rank is at least the number of known latches
    pub many : latch_count g held ≤ rank g held p.var

  range : (p : Point) → IsPlace g held p → AtLatch p ⊎ AtGate p
  range p place = elim (cases_lt p.var (first_gate g)) [
    | inl low ↦ elim (cases_Bool p.behind) [
      | inl back ↦ inl (record { low = low; is = number-latch g held p back low; few = rank-latch g held p.var place.has low })
      | inr front ↦ absurd (omega (arith, low, place.gate front))
    ]
    | inr high ↦ elim (cases_Bool p.behind) [
      | inl back ↦ inr (record { high = high; least = omega (arith, number-after g held p back high); most = omega (arith, number-after g held p back high); many = rank-gate g held p.var high })
      | inr front ↦ inr (record { high = high; least = omega (arith, number-before g held p front); most = omega (arith, number-before g held p front); many = rank-gate g held p.var high })
    ]
  ]

  mono : (p q : Point) → IsPlace g held p → IsPlace g held q → p.var < q.var → number g held p < number g held q
  mono p q a b lt =
      let ranks : rank g held p.var < rank g held q.var = count-lt (has_node g held) p.var q.var lt a.has in
      elim (range p a) [
        | inl pl ↦ elim (range q b) [
          | inl ql ↦ omega (arith, pl.is, ql.is, ranks)
          | inr qg ↦ omega (arith, pl.is, pl.few, qg.least)
        ]
        | inr pg ↦ elim (range q b) [
          | inl ql ↦ absurd (omega (arith, pg.high, ql.low, lt))
          | inr qg ↦ omega (arith, pg.most, qg.least, ranks, pg.many)
        ]
      ]

  -- points with nodes precede each other as their numbers do
  pub in-order : (p q : Point) → IsPlace g held p → IsPlace g held q → number g held p < number g held q → precedes (Some p) (Some q) ≡ true
  in-order p q a b less = elim (cases_order p.var q.var) [
    | inr other ↦ elim other [
      | inl lt ↦ or_left (nat_lt p.var q.var) _ (lt-ltb p.var q.var lt)
      | inr gt ↦ absurd (omega (arith, mono q p b a gt, less))
    ]
    | inl same ↦ elim (cases_Bool p.behind) [
      | inl pb ↦ elim (cases_Bool q.behind) [
        | inl qb ↦ absurd (omega (arith, less, ap₂ (λ v (x : Bool). number g held (record { var = v; behind = x })) same (pb ∙ sym qb)))
        | inr qf ↦ (
            let high : first_gate g ≤ p.var = omega (arith, same, b.gate qf) in
            absurd (omega (arith, less, number-after g held p pb high, number-before g held q qf, ap (rank g held) same)))
      ]
      | inr pf ↦ elim (cases_Bool q.behind) [
        | inl qb ↦ or_right (nat_lt p.var q.var) _ (and_from (p.var == q.var && not p.behind) q.behind (and_from (p.var == q.var) (not p.behind) (eq-eqb p.var q.var same) (ap not pf)) qb)
        | inr qf ↦ absurd (omega (arith, less, ap₂ (λ v (x : Bool). number g held (record { var = v; behind = x })) same (pf ∙ sym qf)))
      ]
    ]
  ]

  -- the point of an inner node
  pub record Inner (n : ℕ) : Type 0 where
    -- the node's point
    pub point : Point
    -- it is one with a node
    pub place : IsPlace g held point
    -- the node's number is the point's
    pub is : n ≡ number g held point

  inner : (n : ℕ) → View g held n → (n ≤ 1) ⊎ Inner n
  inner n (the_source e) = inl (omega (arith, e))
  inner n (the_sink e) = inl (omega (arith, e))
  inner n (a_latch v has low e) =
      let p : Point = record { var = v; behind = true } in
      inr (record { point = p; place = record { has = has; gate = λ front. (let clash : true ≡ false = front in absurd (cc)); below = omega (arith, low) }; is = e ∙ sym (number-latch g held p refl low) })
  inner n (a_before v has from below e) =
      let p : Point = record { var = v; behind = false } in
      inr (record { point = p; place = record { has = has; gate = λ front. from; below = below }; is = e ∙ sym (number-before g held p refl) })
  inner n (an_after v has from below e) =
      let p : Point = record { var = v; behind = true } in
      inr (record { point = p; place = record { has = has; gate = λ front. from; below = below }; is = e ∙ sym (number-after g held p refl from) })

  -- each node is the source, the sink, or one with a point
  pub inner-of : (n : ℕ) → View g held n → (n ≤ 1) ⊎ Inner n
  inner-of = inner

module _ (c : Netlist) (held : List ℕ) (net : FlowNet) (is : IsNetworkOf c held net) where
  -- the source and the sink have no point
  pub point-none : (x : ℕ) → x ≤ 1 → point_of net x ≡ None
  point-none x low = elim (cases_lt 0 x) [
    | inl pos ↦ (let one : x ≡ 1 = omega (arith, pos, low) in ap (point_of net) one)
    | inr none ↦ (let zero' : x ≡ 0 = omega (arith, none) in ap (point_of net) zero')
  ]

  -- an inner node has its point
  pub point-inner : (x : ℕ) (i : Inner c.aig held x) → point_of net x ≡ Some i.point
  point-inner x i = ap (point_of net) i.is ∙ point-of-number c held net is i.point i.place

  -- points rise with the numbers of their nodes
  pub points-rise : PointsRise net
  points-rise x y less below = elim (inner-of c.aig held x (view c.aig held x (omega (arith, less, below, nodes c held net is)))) [
    | inl low ↦ ap (λ (o : Option Point). precedes o (point_of net y)) (point-none x low)
    | inr i ↦ elim (inner-of c.aig held y (view c.aig held y (omega (arith, below, nodes c held net is)))) [
      | inl low ↦ absurd (omega (arith, less, low, i.is, big i.point))
      | inr j ↦ ap₂ precedes (point-inner x i) (point-inner y j) ∙ in-order c.aig held i.point j.point i.place j.place (omega (arith, less, i.is, j.is))
    ]
  ]
    where
      big : (p : Point) → 1 < number c.aig held p
      big p = number-inner c.aig held p
