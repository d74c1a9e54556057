-- Which nodes have an arc to a node, by what they stand for.
use Rattle.std.proofs.Common.{◌≡◌, ◌≢◌, ℕ, suc, ◌+◌, ◌-◌, ◌*◌, ◌<◌, ◌≤◌, ◌==◌, nat_lt, Bool, true, false, cond, List, [], ◌∷◌, ◌++◌, length, length-append, Option, Some, None, arith, refl, ap, ap₂, sym, ◌∙◌, subst, inl, inr, ◌⊎◌}
use Rattle.std.proofs.lemmas.Bool.{cases_lt, cases_Bool, cases_eq, or_left, or_right, cond-true, cond-false, lt-ltb, le-ltb, ne_eqb, eq-eqb, eqb-true, or_cases, false_from_ne_true}
use Rattle.std.proofs.lemmas.Option.{none-some}
use Rattle.aig_graph.proofs.PlacesLaws.{count-lt}
use Rattle.aig_graph.specs.declared.graph.Gate.{Gate}
use Rattle.aig_graph.specs.declared.graph.Latch.{Latch}
use Rattle.aig_graph.specs.declared.properties.Props.{Props}
use Rattle.aig_graph.specs.Graph.{Graph, IsGraph, IsGateAt, variable, first_gate, variables_end, latch_at, gate_at, is_known}
use Rattle.aig_graph.specs.Border.{is_fan_in}
use Rattle.aig_graph.proofs.FoldingLaws.{gate_at-is}
use Rattle.aig_graph.proofs.KindLaws.{latch_at-gates}
use Rattle.frame_net.specs.declared.edges.Link.{Link}
use Rattle.frame_net.specs.FlowNet.{Node, node_at}
use Rattle.frame_net.specs.FlowNet.Node.{source, sink, before, after}
use Rattle.frame_net.specs.Edges.{adjacent, link, AreLinksTo, AreLinks}
use Rattle.frame_net.specs.Links.{latch_links, after_links, fan_in_links, gate_links}
use Rattle.frame_net.specs.Capacity.{has_node, node_variables, latch_count, unbounded, gate_reads, is_observed, arc_capacity, capacity, rank, latch_number, before_number, after_number, node_total}
use Rattle.frame_net.proofs.PassableLaws.{gate_cases}
use Rattle.frame_net.proofs.NodeLaws.{has_node-latch, rank-latch, rank-gate, rank-below, at-latch, at-before, at-after, View, view}
use Rattle.frame_net.proofs.NodeLaws.View.{the_source, the_sink, a_latch, a_before, an_after}
use Rattle.frame_net.proofs.LinkLaws.{links-none, links-skip, links-push}

-- a gate reads variables before its own
pub reads-below : (g : Graph) → IsGraph g → (v w : ℕ) → gate_reads v (gate_at g w) ≡ true → v < w
reads-below g valid v w reads = elim (gate_cases g w) [
  | inl none ↦ absurd (no (gate_at g w) none reads)
  | inr some ↦ fan_in some.0 (gate_at-is g valid w some.0 some.1) (sym (ap (λ (o : Option Gate). gate_reads v o) some.1) ∙ reads)
]
  where
    no : (o : Option Gate) → o ≡ None → gate_reads v o ≡ true → ⊥
    no None e r = absurd (cc)
    no (Some gate) e r = none-some gate (sym e)

    fan_in : (gate : Gate) → IsGateAt w gate → is_fan_in v gate ≡ true → v < w
    fan_in gate here r = elim (or_cases (variable gate.rhs0 == v) (variable gate.rhs1 == v) r) [
      | inl a ↦ omega (arith, eqb-true (variable gate.rhs0) v a, here.below)
      | inr b ↦ omega (arith, eqb-true (variable gate.rhs1) v b, here.below, here.ordered)
    ]

no_reads : (g : Graph) → IsGraph g → (v w : ℕ) → w ≤ v → gate_reads v (gate_at g w) ≡ false
no_reads g valid v w h = false_from_ne_true _ (λ r. omega (arith, reads-below g valid v w r, h))

module _ (g : Graph) (props : Props) (held : List ℕ) (valid : IsGraph g) where
  -- the capacity between two numbers is the arc's between the nodes that they stand for
  pub cap-at : (v w : ℕ) (a b : Node) → node_at (latch_count g held) (node_variables g held) v ≡ a → node_at (latch_count g held) (node_variables g held) w ≡ b
      → capacity g props held v w ≡ arc_capacity g props held a b
  unfolding capacity
  cap-at v w a b p q = ap₂ (λ (x y : Node). arc_capacity g props held x y) p q

  -- two numbers are adjacent if the nodes that they stand for have an arc one way or the other
  pub adjacent-at : (v w : ℕ) (a b : Node) → node_at (latch_count g held) (node_variables g held) v ≡ a → node_at (latch_count g held) (node_variables g held) w ≡ b
      → adjacent (capacity g props held) v w ≡ nat_lt 0 (arc_capacity g props held a b + arc_capacity g props held b a)
  adjacent-at v w a b p q = ap₂ (λ (x y : ℕ). nat_lt 0 (x + y)) (cap-at v w a b p q) (cap-at w v b a q p)

  nothing : (x y : ℕ) → x ≡ 0 → y ≡ 0 → nat_lt 0 (x + y) ≡ false
  nothing x y p q = le-ltb 0 (x + y) (omega (arith, p, q))

  something : (x y : ℕ) → 0 < x + y → nat_lt 0 (x + y) ≡ true
  something x y h = lt-ltb 0 (x + y) h

  -- the sink, if the variable leaves the frame
  sink-step : (v u : ℕ) (links : List Link) → 1 < v → node_at (latch_count g held) (node_variables g held) v ≡ after u → AreLinksTo (capacity g props held) v 1 links
      → AreLinksTo (capacity g props held) v 2 (links ++ cond (is_observed g props held u) (link 1 0 (unbounded g held) ∷ []) [])
  sink-step v u links h at l = elim (cases_Bool (is_observed g props held u)) [
    | inl yes' ↦
        subst (λ (xs : List Link). AreLinksTo (capacity g props held) v 2 (links ++ xs)) (sym (cond-true (is_observed g props held u) _ _ yes'))
        (links-push (capacity g props held) v 1 links 0 (unbounded g held) h
        (adjacent-at v 1 (after u) sink at refl ∙ something _ _ (omega (arith, cond-true (is_observed g props held u) (unbounded g held) 0 yes')))
        (sym (cap-at 1 v sink (after u) refl at))
        (sym (cap-at v 1 (after u) sink at refl ∙ cond-true (is_observed g props held u) (unbounded g held) 0 yes'))
        l)
    | inr no' ↦
        subst (λ (xs : List Link). AreLinksTo (capacity g props held) v 2 xs) (sym (ap (λ (xs : List Link). links ++ xs) (cond-false (is_observed g props held u) _ _ no') ∙ append_nil links))
        (links-skip (capacity g props held) v 1 2 links (omega arith) (λ x from below. subst (λ (y : ℕ). adjacent (capacity g props held) v y ≡ false) (omega (arith, from, below))
        (adjacent-at v 1 (after u) sink at refl ∙ nothing _ _ (cond-false (is_observed g props held u) (unbounded g held) 0 no') refl)) l)
  ]
    where
      append_nil : (xs : List Link) → (xs ++ []) ≡ xs
      append_nil [] = refl
      append_nil (x ∷ xs) = ap (λ (ys : List Link). x ∷ ys) (append_nil xs)

  -- two nodes after variables have no arc
  both-after : (v w a b : ℕ) → node_at (latch_count g held) (node_variables g held) v ≡ after a → node_at (latch_count g held) (node_variables g held) w ≡ after b → adjacent (capacity g props held) v w ≡ false
  both-after v w a b p q = adjacent-at v w (after a) (after b) p q

  latch-rest : (u x : ℕ) → has_node g held u ≡ true → u < first_gate g → 2 ≤ x → x < latch_number g held u → View g held x → adjacent (capacity g props held) (latch_number g held u) x ≡ false
  latch-rest u x p h two below (the_source e) = absurd (omega (arith, e, two))
  latch-rest u x p h two below (the_sink e) = absurd (omega (arith, e, two))
  latch-rest u x p h two below (a_latch w q k e) = both-after (latch_number g held u) x u w (at-latch g held u p h) (ap (λ (n : ℕ). node_at (latch_count g held) (node_variables g held) n) e ∙ at-latch g held w q k)
  latch-rest u x p h two below (a_before w q from k e) = absurd (omega (arith, e, below, rank-latch g held u p h))
  latch-rest u x p h two below (an_after w q from k e) = absurd (omega (arith, e, below, rank-latch g held u p h))

  latch-total : (u : ℕ) → has_node g held u ≡ true → u < first_gate g → latch_number g held u < node_total g held
  latch-total u p h = omega (arith, rank-latch g held u p h)

  source-latch : (u : ℕ) → has_node g held u ≡ true → u < first_gate g → cond {A = ℕ} (is_known (latch_at g u)) 1 0 ≡ 1
  source-latch u p h = cond-true (is_known (latch_at g u)) 1 0 (sym (has_node-latch g held u h) ∙ p)

  -- the node after a known latch is linked to the source, and to the sink if the latch leaves the
  -- frame
  pub latch-links : (u : ℕ) → has_node g held u ≡ true → u < first_gate g → AreLinks (capacity g props held) (latch_number g held u) (latch_links (is_observed g props held u) (unbounded g held))
  latch-links u p h =
      let v : ℕ = latch_number g held u in
      let at : node_at (latch_count g held) (node_variables g held) (latch_number g held u) ≡ after u = at-latch g held u p h in
      let one : AreLinksTo (capacity g props held) (latch_number g held u) 1 (link 0 1 0 ∷ []) =
      links-push (capacity g props held) (latch_number g held u) 0 [] 1 0 (omega arith)
      (adjacent-at (latch_number g held u) 0 (after u) source at refl ∙ something _ _ (omega (arith, source-latch u p h)))
      (sym (cap-at 0 (latch_number g held u) source (after u) refl at ∙ source-latch u p h))
      (sym (cap-at (latch_number g held u) 0 (after u) source at refl))
      (links-none (capacity g props held) (latch_number g held u)) in
      record {
        all = links-skip (capacity g props held) (latch_number g held u) 2 (latch_number g held u) (latch_links (is_observed g props held u) (unbounded g held)) (omega arith)
            (λ x two below. latch-rest u x p h two below (view g held x (omega (arith, below, latch-total u p h))))
            (sink-step (latch_number g held u) u (link 0 1 0 ∷ []) (omega arith) at one);
        few = short (is_observed g props held u);
      }
    where
      short : (b : Bool) → length (latch_links b (unbounded g held)) ≤ 4
      short true = omega arith
      short false = omega arith

  -- ---- the node after a gate

  after-rest : (u x : ℕ) → has_node g held u ≡ true → first_gate g ≤ u → u < variables_end g → 2 ≤ x → x < before_number g held u → View g held x → adjacent (capacity g props held) (after_number g held u) x ≡ false
  after-rest u x p from h two below (the_source e) = absurd (omega (arith, e, two))
  after-rest u x p from h two below (the_sink e) = absurd (omega (arith, e, two))
  after-rest u x p from h two below (a_latch w q k e) = both-after (after_number g held u) x u w (at-after g held u p from h) (ap (λ (n : ℕ). node_at (latch_count g held) (node_variables g held) n) e ∙ at-latch g held w q k)
  after-rest u x p from h two below (a_before w q wfrom k e) =
      adjacent-at (after_number g held u) x (after u) (before w) (at-after g held u p from h) (ap (λ (n : ℕ). node_at (latch_count g held) (node_variables g held) n) e ∙ at-before g held w q wfrom k)
      ∙ nothing _ _
      (cond-false (gate_reads u (gate_at g w)) (unbounded g held) 0 (false_from_ne_true _ (λ r. omega (arith, e, below, rank-gate g held w wfrom, rank-gate g held u from, count-lt (has_node g held) u w (reads-below g valid u w r) p))))
      (cond-false (w == u) 1 0 (ne_eqb w u (λ same. omega (arith, e, below, ap (λ (n : ℕ). before_number g held n) same))))
  after-rest u x p from h two below (an_after w q wfrom k e) = both-after (after_number g held u) x u w (at-after g held u p from h) (ap (λ (n : ℕ). node_at (latch_count g held) (node_variables g held) n) e ∙ at-after g held w q wfrom k)

  gate-total : (u : ℕ) → has_node g held u ≡ true → first_gate g ≤ u → u < variables_end g → after_number g held u < node_total g held
  gate-total u p from h = omega (arith, rank-gate g held u from, rank-below g held u p h)

  -- the node after a passable gate is linked to the sink if the gate leaves the frame, and to the
  -- node before the gate
  pub after-links : (u : ℕ) → has_node g held u ≡ true → first_gate g ≤ u → u < variables_end g
      → AreLinks (capacity g props held) (after_number g held u) (after_links (is_observed g props held u) (unbounded g held) (before_number g held u))
  after-links u p from h =
      let at : node_at (latch_count g held) (node_variables g held) (after_number g held u) ≡ after u = at-after g held u p from h in
      let at_before : node_at (latch_count g held) (node_variables g held) (before_number g held u) ≡ before u = at-before g held u p from h in
      let gate : is_known (latch_at g u) ≡ false = ap (λ (o : Option Latch). is_known o) (latch_at-gates g u from) in
      let one : AreLinksTo (capacity g props held) (after_number g held u) 1 [] =
      links-skip (capacity g props held) (after_number g held u) 0 1 [] (omega arith)
      (λ x low below. subst (λ (y : ℕ). adjacent (capacity g props held) (after_number g held u) y ≡ false) (omega (arith, below))
      (adjacent-at (after_number g held u) 0 (after u) source at refl ∙ nothing _ _ refl (cond-false (is_known (latch_at g u)) 1 0 gate)))
      (links-none (capacity g props held) (after_number g held u)) in
      let two : AreLinksTo (capacity g props held) (after_number g held u) 2 (cond (is_observed g props held u) (link 1 0 (unbounded g held) ∷ []) []) =
      sink-step (after_number g held u) u [] (omega arith) at one in
      let three : AreLinksTo (capacity g props held) (after_number g held u) (before_number g held u) (cond (is_observed g props held u) (link 1 0 (unbounded g held) ∷ []) []) =
      links-skip (capacity g props held) (after_number g held u) 2 (before_number g held u) (cond (is_observed g props held u) (link 1 0 (unbounded g held) ∷ []) []) (omega arith)
      (λ x low below. after-rest u x p from h low below (view g held x (omega (arith, below, gate-total u p from h)))) two in
      let own : gate_reads u (gate_at g u) ≡ false = no_reads g valid u u (omega arith) in
      let into : arc_capacity g props held (before u) (after u) ≡ 1 = cond-true (u == u) 1 0 (eq-eqb u u refl) in
      let back : arc_capacity g props held (after u) (before u) ≡ 0 = cond-false (gate_reads u (gate_at g u)) (unbounded g held) 0 own in
      record {
        all = subst (λ (n : ℕ). AreLinksTo (capacity g props held) (after_number g held u) n (after_links (is_observed g props held u) (unbounded g held) (before_number g held u))) (omega arith)
            (links-push (capacity g props held) (after_number g held u) (before_number g held u) (cond (is_observed g props held u) (link 1 0 (unbounded g held) ∷ []) []) 1 0 (omega arith)
            (adjacent-at (after_number g held u) (before_number g held u) (after u) (before u) at at_before ∙ something _ _ (omega (arith, into)))
            (sym (cap-at (before_number g held u) (after_number g held u) (before u) (after u) at_before at ∙ into))
            (sym (cap-at (after_number g held u) (before_number g held u) (after u) (before u) at at_before ∙ back))
            three);
        few = short (is_observed g props held u);
      }
    where
      short : (b : Bool) → length (after_links b (unbounded g held) (before_number g held u)) ≤ 4
      short true = omega arith
      short false = omega arith

-- ---- the node before a gate

-- the first node of a variable, and the one past its last, by its number
abbrev pub first_of : ℕ → ℕ → ℕ
first_of base number = cond (nat_lt number base) number (2 * number - base)

abbrev pub end_of : ℕ → ℕ → ℕ
end_of base number = cond (nat_lt number base) (number + 1) (2 * number - base + 2)

-- the first node of a gate
abbrev pub base_of : Graph → List ℕ → ℕ
base_of g held = 2 + latch_count g held

first_of-low : (base number : ℕ) → number < base → first_of base number ≡ number
first_of-low base number h = cond-true (nat_lt number base) number (2 * number - base) (lt-ltb number base h)

first_of-high : (base number : ℕ) → base ≤ number → first_of base number ≡ 2 * number - base
first_of-high base number h = cond-false (nat_lt number base) number (2 * number - base) (le-ltb number base h)

end_of-low : (base number : ℕ) → number < base → end_of base number ≡ number + 1
end_of-low base number h = cond-true (nat_lt number base) (number + 1) (2 * number - base + 2) (lt-ltb number base h)

end_of-high : (base number : ℕ) → base ≤ number → end_of base number ≡ 2 * number - base + 2
end_of-high base number h = cond-false (nat_lt number base) (number + 1) (2 * number - base + 2) (le-ltb number base h)

-- the nodes of a variable end before those of a later one begin
pub in-order : (base m n : ℕ) → m < n → end_of base m ≤ first_of base n
in-order base m n h = elim (cases_lt m base) [
  | inl a ↦ elim (cases_lt n base) [
    | inl b ↦ omega (arith, end_of-low base m a, first_of-low base n b, h)
    | inr b ↦ omega (arith, end_of-low base m a, first_of-high base n b, a, b)
  ]
  | inr a ↦ omega (arith, end_of-high base m a, first_of-high base n (omega (arith, a, h)), a, h)
]

module _ (g : Graph) (props : Props) (held : List ℕ) (valid : IsGraph g) (w : ℕ) (gate : Gate) (there : gate_at g w ≡ Some gate) (p : has_node g held w ≡ true) (from : first_gate g ≤ w) (below : w < variables_end g) where
  at-w : node_at (latch_count g held) (node_variables g held) (before_number g held w) ≡ before w
  at-w = at-before g held w p from below

  reads-w : (u : ℕ) → gate_reads u (gate_at g w) ≡ is_fan_in u gate
  reads-w u = ap (λ (o : Option Gate). gate_reads u o) there

  -- an adjacent lower node is that of a fan-in
  rest-after : (u x : ℕ) → x < before_number g held w → node_at (latch_count g held) (node_variables g held) x ≡ after u → w ≢ u → is_fan_in u gate ≡ false → adjacent (capacity g props held) (before_number g held w) x ≡ false
  rest-after u x h at differ not_in =
      adjacent-at g props held valid (before_number g held w) x (before w) (after u) at-w at
      ∙ nothing g props held valid _ _ (cond-false (w == u) 1 0 (ne_eqb w u differ)) (cond-false (gate_reads u (gate_at g w)) (unbounded g held) 0 (reads-w u ∙ not_in))

  rest-before : (u x : ℕ) → has_node g held u ≡ true → first_gate g ≤ u → x < before_number g held w → x ≡ before_number g held u → node_at (latch_count g held) (node_variables g held) x ≡ before u → is_fan_in u gate ≡ false
      → adjacent (capacity g props held) (before_number g held w) x ≡ false
  rest-before u x q ufrom h e at not_in =
      adjacent-at g props held valid (before_number g held w) x (before w) (before u) at-w at
      ∙ nothing g props held valid _ _
      (cond-false (gate_reads u (gate_at g w)) (unbounded g held) 0 (reads-w u ∙ not_in))
      (cond-false (gate_reads w (gate_at g u)) (unbounded g held) 0 (false_from_ne_true _ (λ r. omega (arith, e, h, rank-gate g held w from, rank-gate g held u ufrom, count-lt (has_node g held) w u (reads-below g valid w u r) p))))

  rest : (x : ℕ) → x < before_number g held w → View g held x → ((u : ℕ) → has_node g held u ≡ true → first_of (base_of g held) (latch_number g held u) ≤ x → x < end_of (base_of g held) (latch_number g held u) → is_fan_in u gate ≡ false)
      → adjacent (capacity g props held) (before_number g held w) x ≡ false
  rest x h (the_source e) misses = subst (λ (y : ℕ). adjacent (capacity g props held) (before_number g held w) y ≡ false) (sym e) (adjacent-at g props held valid (before_number g held w) 0 (before w) source at-w refl)
  rest x h (the_sink e) misses = subst (λ (y : ℕ). adjacent (capacity g props held) (before_number g held w) y ≡ false) (sym e) (adjacent-at g props held valid (before_number g held w) 1 (before w) sink at-w refl)
  rest x h (a_latch u q k e) misses =
      rest-after u x h (ap (λ (n : ℕ). node_at (latch_count g held) (node_variables g held) n) e ∙ at-latch g held u q k) (λ same. omega (arith, same, k, from))
      (misses u q
      (omega (arith, first_of-low (base_of g held) (latch_number g held u) (omega (arith, rank-latch g held u q k)), e))
      (omega (arith, end_of-low (base_of g held) (latch_number g held u) (omega (arith, rank-latch g held u q k)), e)))
  rest x h (a_before u q ufrom k e) misses =
      rest-before u x q ufrom h e (ap (λ (n : ℕ). node_at (latch_count g held) (node_variables g held) n) e ∙ at-before g held u q ufrom k)
      (misses u q
      (omega (arith, first_of-high (base_of g held) (latch_number g held u) (omega (arith, rank-gate g held u ufrom)), e, rank-gate g held u ufrom))
      (omega (arith, end_of-high (base_of g held) (latch_number g held u) (omega (arith, rank-gate g held u ufrom)), e, rank-gate g held u ufrom)))
  rest x h (an_after u q ufrom k e) misses =
      rest-after u x h (ap (λ (n : ℕ). node_at (latch_count g held) (node_variables g held) n) e ∙ at-after g held u q ufrom k) (λ same. omega (arith, e, h, ap (λ (n : ℕ). rank g held n) same))
      (misses u q
      (omega (arith, first_of-high (base_of g held) (latch_number g held u) (omega (arith, rank-gate g held u ufrom)), e, rank-gate g held u ufrom))
      (omega (arith, end_of-high (base_of g held) (latch_number g held u) (omega (arith, rank-gate g held u ufrom)), e, rank-gate g held u ufrom)))

  before-total : before_number g held w < node_total g held
  before-total = omega (arith, rank-gate g held w from, rank-below g held w p below)

  -- the nodes of one fan-in
  fan_in-step : (u : ℕ) (links : List Link) → has_node g held u ≡ true → u < w → is_fan_in u gate ≡ true
      → AreLinksTo (capacity g props held) (before_number g held w) (first_of (base_of g held) (latch_number g held u)) links
      → AreLinksTo (capacity g props held) (before_number g held w) (end_of (base_of g held) (latch_number g held u)) (links ++ fan_in_links (base_of g held) (unbounded g held) (latch_number g held u))
  fan_in-step u links q before' is_in l = elim (cases_lt u (first_gate g)) [
    | inl low ↦ low-case u links q low is_in l
    | inr high ↦ high-case u links q high before' is_in l
  ]
    where
      reads' : (u : ℕ) → is_fan_in u gate ≡ true → cond {A = ℕ} (gate_reads u (gate_at g w)) (unbounded g held) 0 ≡ unbounded g held
      reads' u is_in = cond-true (gate_reads u (gate_at g w)) (unbounded g held) 0 (reads-w u ∙ is_in)

      low-case : (u : ℕ) (links : List Link) → has_node g held u ≡ true → u < first_gate g → is_fan_in u gate ≡ true
          → AreLinksTo (capacity g props held) (before_number g held w) (first_of (base_of g held) (latch_number g held u)) links
          → AreLinksTo (capacity g props held) (before_number g held w) (end_of (base_of g held) (latch_number g held u)) (links ++ fan_in_links (base_of g held) (unbounded g held) (latch_number g held u))
      low-case u links q low is_in l =
          let small : latch_number g held u < base_of g held = omega (arith, rank-latch g held u q low) in
          let at : node_at (latch_count g held) (node_variables g held) (latch_number g held u) ≡ after u = at-latch g held u q low in
          let none : arc_capacity g props held (before w) (after u) ≡ 0 = cond-false (w == u) 1 0 (ne_eqb w u (λ same. omega (arith, same, low, from))) in
          subst (λ (xs : List Link). AreLinksTo (capacity g props held) (before_number g held w) (end_of (base_of g held) (latch_number g held u)) (links ++ xs))
          (sym (cond-true (nat_lt (latch_number g held u) (base_of g held)) _ _ (lt-ltb (latch_number g held u) (base_of g held) small)))
          (subst (λ (n : ℕ). AreLinksTo (capacity g props held) (before_number g held w) n (links ++ link (latch_number g held u) (unbounded g held) 0 ∷ []))
          (omega (arith, end_of-low (base_of g held) (latch_number g held u) small))
          (links-push (capacity g props held) (before_number g held w) (latch_number g held u) links (unbounded g held) 0 (omega (arith, small))
          (adjacent-at g props held valid (before_number g held w) (latch_number g held u) (before w) (after u) at-w at ∙ something g props held valid _ _ (omega (arith, reads' u is_in)))
          (sym (cap-at g props held valid (latch_number g held u) (before_number g held w) (after u) (before w) at at-w ∙ reads' u is_in))
          (sym (cap-at g props held valid (before_number g held w) (latch_number g held u) (before w) (after u) at-w at ∙ none))
          (subst (λ (n : ℕ). AreLinksTo (capacity g props held) (before_number g held w) n links) (first_of-low (base_of g held) (latch_number g held u) small) l)))

      append_two : (xs : List Link) (y z : Link) → ((xs ++ y ∷ []) ++ z ∷ []) ≡ (xs ++ y ∷ z ∷ [])
      append_two [] y z = refl
      append_two (x ∷ xs) y z = ap (λ (ys : List Link). x ∷ ys) (append_two xs y z)

      high-case : (u : ℕ) (links : List Link) → has_node g held u ≡ true → first_gate g ≤ u → u < w → is_fan_in u gate ≡ true
          → AreLinksTo (capacity g props held) (before_number g held w) (first_of (base_of g held) (latch_number g held u)) links
          → AreLinksTo (capacity g props held) (before_number g held w) (end_of (base_of g held) (latch_number g held u)) (links ++ fan_in_links (base_of g held) (unbounded g held) (latch_number g held u))
      high-case u links q high before' is_in l =
          let large : base_of g held ≤ latch_number g held u = omega (arith, rank-gate g held u high) in
          let number : 2 * latch_number g held u - base_of g held ≡ before_number g held u = omega (arith, rank-gate g held u high) in
          let lower : rank g held u < rank g held w = count-lt (has_node g held) u w before' q in
          let at_before : node_at (latch_count g held) (node_variables g held) (before_number g held u) ≡ before u = at-before g held u q high (omega (arith, before', below)) in
          let at_after : node_at (latch_count g held) (node_variables g held) (after_number g held u) ≡ after u = at-after g held u q high (omega (arith, before', below)) in
          let none_back : arc_capacity g props held (before u) (before w) ≡ 0 = cond-false (gate_reads w (gate_at g u)) (unbounded g held) 0 (no_reads g valid w u (omega (arith, before'))) in
          let none_out : arc_capacity g props held (before w) (after u) ≡ 0 = cond-false (w == u) 1 0 (ne_eqb w u (λ same. omega (arith, same, before'))) in
          let one : AreLinksTo (capacity g props held) (before_number g held w) (suc (before_number g held u)) (links ++ link (before_number g held u) 0 (unbounded g held) ∷ []) =
          links-push (capacity g props held) (before_number g held w) (before_number g held u) links 0 (unbounded g held) (omega (arith, lower, rank-gate g held u high))
          (adjacent-at g props held valid (before_number g held w) (before_number g held u) (before w) (before u) at-w at_before ∙ something g props held valid _ _ (omega (arith, reads' u is_in)))
          (sym (cap-at g props held valid (before_number g held u) (before_number g held w) (before u) (before w) at_before at-w ∙ none_back))
          (sym (cap-at g props held valid (before_number g held w) (before_number g held u) (before w) (before u) at-w at_before ∙ reads' u is_in))
          (subst (λ (n : ℕ). AreLinksTo (capacity g props held) (before_number g held w) n links) (first_of-high (base_of g held) (latch_number g held u) large ∙ number) l) in
          let two : AreLinksTo (capacity g props held) (before_number g held w) (suc (after_number g held u)) ((links ++ link (before_number g held u) 0 (unbounded g held) ∷ []) ++ link (after_number g held u) (unbounded g held) 0 ∷ []) =
          links-push (capacity g props held) (before_number g held w) (after_number g held u) (links ++ link (before_number g held u) 0 (unbounded g held) ∷ []) (unbounded g held) 0 (omega (arith, lower, rank-gate g held u high))
          (adjacent-at g props held valid (before_number g held w) (after_number g held u) (before w) (after u) at-w at_after ∙ something g props held valid _ _ (omega (arith, reads' u is_in)))
          (sym (cap-at g props held valid (after_number g held u) (before_number g held w) (after u) (before w) at_after at-w ∙ reads' u is_in))
          (sym (cap-at g props held valid (before_number g held w) (after_number g held u) (before w) (after u) at-w at_after ∙ none_out))
          (subst (λ (n : ℕ). AreLinksTo (capacity g props held) (before_number g held w) n (links ++ link (before_number g held u) 0 (unbounded g held) ∷ [])) (omega arith) one) in
          let three : AreLinksTo (capacity g props held) (before_number g held w) (end_of (base_of g held) (latch_number g held u)) (links ++ link (before_number g held u) 0 (unbounded g held) ∷ link (after_number g held u) (unbounded g held) 0 ∷ []) =
          subst (λ (n : ℕ). AreLinksTo (capacity g props held) (before_number g held w) n (links ++ link (before_number g held u) 0 (unbounded g held) ∷ link (after_number g held u) (unbounded g held) 0 ∷ [])) (omega (arith, end_of-high (base_of g held) (latch_number g held u) large, number))
          (subst (λ (xs : List Link). AreLinksTo (capacity g props held) (before_number g held w) (suc (after_number g held u)) xs) (append_two links (link (before_number g held u) 0 (unbounded g held)) (link (after_number g held u) (unbounded g held) 0)) two) in
          subst (λ (xs : List Link). AreLinksTo (capacity g props held) (before_number g held w) (end_of (base_of g held) (latch_number g held u)) (links ++ xs))
          (sym (cond-false (nat_lt (latch_number g held u) (base_of g held)) _ _ (le-ltb (latch_number g held u) (base_of g held) large)))
          (subst (λ (m : ℕ). AreLinksTo (capacity g props held) (before_number g held w) (end_of (base_of g held) (latch_number g held u)) (links ++ link m 0 (unbounded g held) ∷ link (m + 1) (unbounded g held) 0 ∷ [])) (sym number)
          (subst (λ (m : ℕ). AreLinksTo (capacity g props held) (before_number g held w) (end_of (base_of g held) (latch_number g held u)) (links ++ link (before_number g held u) 0 (unbounded g held) ∷ link m (unbounded g held) 0 ∷ [])) (omega arith) three))

  -- no node of a fan-in from a up to b
  gap : (a b : ℕ) (links : List Link) → a ≤ b → b ≤ before_number g held w
      → ((u : ℕ) → has_node g held u ≡ true → is_fan_in u gate ≡ true → (b ≤ first_of (base_of g held) (latch_number g held u)) ⊎ (end_of (base_of g held) (latch_number g held u) ≤ a))
      → AreLinksTo (capacity g props held) (before_number g held w) a links → AreLinksTo (capacity g props held) (before_number g held w) b links
  gap a b links h last out l =
      links-skip (capacity g props held) (before_number g held w) a b links h
      (λ x low high. rest x (omega (arith, high, last)) (view g held x (omega (arith, high, last, before-total)))
      (λ u q start stop. false_from_ne_true (is_fan_in u gate) (λ is_in. elim (out u q is_in) [ inl early ↦ omega (arith, early, start, high) | inr late ↦ omega (arith, late, stop, low) ])))
      l

  first-w : first_of (base_of g held) (latch_number g held w) ≡ before_number g held w
  first-w = first_of-high (base_of g held) (latch_number g held w) (omega (arith, rank-gate g held w from)) ∙ omega (arith, rank-gate g held w from)

  short-fan_in : (number : ℕ) → length (fan_in_links (base_of g held) (unbounded g held) number) ≤ 2
  short-fan_in number = short (nat_lt number (base_of g held))
    where
      short : (b : Bool) → length (cond b (link number (unbounded g held) 0 ∷ []) (link (2 * number - base_of g held) 0 (unbounded g held) ∷ link (2 * number - base_of g held + 1) (unbounded g held) 0 ∷ [])) ≤ 2
      short true = omega arith
      short false = omega arith

  fan_ins : (u : ℕ) → is_fan_in u gate ≡ true → (u ≡ variable gate.rhs0) ⊎ (u ≡ variable gate.rhs1)
  fan_ins u h = elim (or_cases (variable gate.rhs0 == u) (variable gate.rhs1 == u) h) [
    | inl a ↦ inl (sym (eqb-true (variable gate.rhs0) u a))
    | inr b ↦ inr (sym (eqb-true (variable gate.rhs1) u b))
  ]

  first-in : is_fan_in (variable gate.rhs1) gate ≡ true
  first-in = or_right (variable gate.rhs0 == variable gate.rhs1) (variable gate.rhs1 == variable gate.rhs1) (eq-eqb (variable gate.rhs1) (variable gate.rhs1) refl)

  second-in : is_fan_in (variable gate.rhs0) gate ≡ true
  second-in = or_left (variable gate.rhs0 == variable gate.rhs0) (variable gate.rhs1 == variable gate.rhs0) (eq-eqb (variable gate.rhs0) (variable gate.rhs0) refl)

  gate-here : IsGateAt w gate
  gate-here = gate_at-is g valid w gate there

  -- the rest after the last fan-in
  close : (u : ℕ) (links : List Link) → has_node g held u ≡ true → u < w → ((x : ℕ) → has_node g held x ≡ true → is_fan_in x gate ≡ true → x ≤ u)
      → AreLinksTo (capacity g props held) (before_number g held w) (end_of (base_of g held) (latch_number g held u)) links → AreLinksTo (capacity g props held) (before_number g held w) (before_number g held w) links
  close u links q h last l =
      gap (end_of (base_of g held) (latch_number g held u)) (before_number g held w) links
      (omega (arith, in-order (base_of g held) (latch_number g held u) (latch_number g held w) (omega (arith, count-lt (has_node g held) u w h q)), first-w)) (omega arith)
      (λ x xq is_in. inr (elim (cases_eq x u) [
        | inl same ↦ subst (λ (y : ℕ). end_of (base_of g held) (latch_number g held y) ≤ end_of (base_of g held) (latch_number g held u)) (sym same) (omega arith)
        | inr other ↦ ends-rise (latch_number g held x) (latch_number g held u) (omega (arith, count-lt (has_node g held) x u (omega (arith, last x xq is_in, other)) xq))
      ])) l
    where
      ends-rise : (m n : ℕ) → m < n → end_of (base_of g held) m ≤ end_of (base_of g held) n
      ends-rise m n k = omega (arith, in-order (base_of g held) m n k, firsts n)
        where
          firsts : (n : ℕ) → first_of (base_of g held) n ≤ end_of (base_of g held) n
          firsts n = either (nat_lt n (base_of g held))
            where
              either : (b : Bool) → cond b n (2 * n - base_of g held) ≤ cond b (n + 1) (2 * n - base_of g held + 2)
              either true = omega arith
              either false = omega arith

  one-fan_in : has_node g held (variable gate.rhs1) ≡ true → variable gate.rhs1 ≡ variable gate.rhs0
      → AreLinksTo (capacity g props held) (before_number g held w) (before_number g held w) (fan_in_links (base_of g held) (unbounded g held) (latch_number g held (variable gate.rhs1)))
  one-fan_in q1 same =
      let u1 : ℕ = variable gate.rhs1 in
      let start : AreLinksTo (capacity g props held) (before_number g held w) (first_of (base_of g held) (latch_number g held (variable gate.rhs1))) [] =
      gap 0 (first_of (base_of g held) (latch_number g held (variable gate.rhs1))) [] (omega arith)
      (omega (arith, in-order (base_of g held) (latch_number g held (variable gate.rhs1)) (latch_number g held w) (omega (arith, count-lt (has_node g held) (variable gate.rhs1) w (omega (arith, gate-here.below, same)) q1)), first-w, firsts (latch_number g held (variable gate.rhs1))))
      (λ u q is_in. inl (elim (fan_ins u is_in) [
        | inl a ↦ subst (λ (y : ℕ). first_of (base_of g held) (latch_number g held (variable gate.rhs1)) ≤ first_of (base_of g held) (latch_number g held y)) (same ∙ sym a) (omega arith)
        | inr b ↦ subst (λ (y : ℕ). first_of (base_of g held) (latch_number g held (variable gate.rhs1)) ≤ first_of (base_of g held) (latch_number g held y)) (sym b) (omega arith)
      ]))
      (links-none (capacity g props held) (before_number g held w)) in
      close (variable gate.rhs1) (fan_in_links (base_of g held) (unbounded g held) (latch_number g held (variable gate.rhs1))) q1 (omega (arith, gate-here.below, same))
      (λ x xq is_in. elim (fan_ins x is_in) [ inl a ↦ omega (arith, a, same) | inr b ↦ omega (arith, b) ])
      (fan_in-step (variable gate.rhs1) [] q1 (omega (arith, gate-here.below, same)) first-in start)
    where
      firsts : (n : ℕ) → first_of (base_of g held) n ≤ end_of (base_of g held) n
      firsts n = either (nat_lt n (base_of g held))
        where
          either : (b : Bool) → cond b n (2 * n - base_of g held) ≤ cond b (n + 1) (2 * n - base_of g held + 2)
          either true = omega arith
          either false = omega arith

  two-fan_ins : has_node g held (variable gate.rhs1) ≡ true → has_node g held (variable gate.rhs0) ≡ true → variable gate.rhs1 < variable gate.rhs0
      → AreLinksTo (capacity g props held) (before_number g held w) (before_number g held w)
      (fan_in_links (base_of g held) (unbounded g held) (latch_number g held (variable gate.rhs1)) ++ fan_in_links (base_of g held) (unbounded g held) (latch_number g held (variable gate.rhs0)))
  two-fan_ins q1 q0 lower =
      let rank1 : rank g held (variable gate.rhs1) < rank g held (variable gate.rhs0) = count-lt (has_node g held) (variable gate.rhs1) (variable gate.rhs0) lower q1 in
      let rank0 : rank g held (variable gate.rhs0) < rank g held w = count-lt (has_node g held) (variable gate.rhs0) w gate-here.below q0 in
      let order1 = in-order (base_of g held) (latch_number g held (variable gate.rhs1)) (latch_number g held (variable gate.rhs0)) (omega (arith, rank1)) in
      let order0 = in-order (base_of g held) (latch_number g held (variable gate.rhs0)) (latch_number g held w) (omega (arith, rank0)) in
      let start : AreLinksTo (capacity g props held) (before_number g held w) (first_of (base_of g held) (latch_number g held (variable gate.rhs1))) [] =
      gap 0 (first_of (base_of g held) (latch_number g held (variable gate.rhs1))) [] (omega arith)
      (omega (arith, order1, order0, first-w, firsts (latch_number g held (variable gate.rhs1)), firsts (latch_number g held (variable gate.rhs0))))
      (λ u q is_in. inl (elim (fan_ins u is_in) [
        | inl a ↦ subst (λ (y : ℕ). first_of (base_of g held) (latch_number g held (variable gate.rhs1)) ≤ first_of (base_of g held) (latch_number g held y)) (sym a) (omega (arith, order1, firsts (latch_number g held (variable gate.rhs1))))
        | inr b ↦ subst (λ (y : ℕ). first_of (base_of g held) (latch_number g held (variable gate.rhs1)) ≤ first_of (base_of g held) (latch_number g held y)) (sym b) (omega arith)
      ]))
      (links-none (capacity g props held) (before_number g held w)) in
      let middle : AreLinksTo (capacity g props held) (before_number g held w) (first_of (base_of g held) (latch_number g held (variable gate.rhs0))) (fan_in_links (base_of g held) (unbounded g held) (latch_number g held (variable gate.rhs1))) =
      gap (end_of (base_of g held) (latch_number g held (variable gate.rhs1))) (first_of (base_of g held) (latch_number g held (variable gate.rhs0))) (fan_in_links (base_of g held) (unbounded g held) (latch_number g held (variable gate.rhs1)))
      order1 (omega (arith, order0, first-w, firsts (latch_number g held (variable gate.rhs0))))
      (λ u q is_in. elim (fan_ins u is_in) [
        | inl a ↦ inl (subst (λ (y : ℕ). first_of (base_of g held) (latch_number g held (variable gate.rhs0)) ≤ first_of (base_of g held) (latch_number g held y)) (sym a) (omega arith))
        | inr b ↦ inr (subst (λ (y : ℕ). end_of (base_of g held) (latch_number g held y) ≤ end_of (base_of g held) (latch_number g held (variable gate.rhs1))) (sym b) (omega arith))
      ])
      (fan_in-step (variable gate.rhs1) [] q1 (omega (arith, gate-here.below, lower)) first-in start) in
      close (variable gate.rhs0) (fan_in_links (base_of g held) (unbounded g held) (latch_number g held (variable gate.rhs1)) ++ fan_in_links (base_of g held) (unbounded g held) (latch_number g held (variable gate.rhs0))) q0 gate-here.below
      (λ x xq is_in. elim (fan_ins x is_in) [ inl a ↦ omega (arith, a) | inr b ↦ omega (arith, b, lower) ])
      (fan_in-step (variable gate.rhs0) (fan_in_links (base_of g held) (unbounded g held) (latch_number g held (variable gate.rhs1))) q0 gate-here.below second-in middle)
    where
      firsts : (n : ℕ) → first_of (base_of g held) n ≤ end_of (base_of g held) n
      firsts n = either (nat_lt n (base_of g held))
        where
          either : (b : Bool) → cond b n (2 * n - base_of g held) ≤ cond b (n + 1) (2 * n - base_of g held + 2)
          either true = omega arith
          either false = omega arith

  append-nothing : (xs : List Link) → (xs ++ []) ≡ xs
  append-nothing [] = refl
  append-nothing (x ∷ xs) = ap (λ (ys : List Link). x ∷ ys) (append-nothing xs)

  -- the node before a passable gate is linked to the nodes of its fan-ins
  pub before-links : has_node g held (variable gate.rhs1) ≡ true → has_node g held (variable gate.rhs0) ≡ true
      → AreLinks (capacity g props held) (before_number g held w) (gate_links (base_of g held) (unbounded g held) (latch_number g held (variable gate.rhs1)) (latch_number g held (variable gate.rhs0)))
  before-links q1 q0 = elim (cases_eq (latch_number g held (variable gate.rhs1)) (latch_number g held (variable gate.rhs0))) [
    | inl same ↦ (
        let vars : variable gate.rhs1 ≡ variable gate.rhs0 = elim (cases_eq (variable gate.rhs1) (variable gate.rhs0)) [
          | inl e ↦ e
          | inr ne ↦ absurd (omega (arith, same, count-lt (has_node g held) (variable gate.rhs1) (variable gate.rhs0) (omega (arith, ne, gate-here.ordered)) q1))
        ] in
        let list : gate_links (base_of g held) (unbounded g held) (latch_number g held (variable gate.rhs1)) (latch_number g held (variable gate.rhs0)) ≡ fan_in_links (base_of g held) (unbounded g held) (latch_number g held (variable gate.rhs1)) =
        ap (λ (xs : List Link). fan_in_links (base_of g held) (unbounded g held) (latch_number g held (variable gate.rhs1)) ++ xs) (cond-true _ _ _ (eq-eqb (latch_number g held (variable gate.rhs1)) (latch_number g held (variable gate.rhs0)) same))
        ∙ append-nothing (fan_in_links (base_of g held) (unbounded g held) (latch_number g held (variable gate.rhs1))) in
        subst (λ (xs : List Link). AreLinks (capacity g props held) (before_number g held w) xs) (sym list)
        (record { all = one-fan_in q1 vars; few = omega (arith, short-fan_in (latch_number g held (variable gate.rhs1))) }))
    | inr differ ↦ (
        let lower : variable gate.rhs1 < variable gate.rhs0 = elim (cases_eq (variable gate.rhs1) (variable gate.rhs0)) [
          | inl e ↦ absurd (differ (ap (λ (n : ℕ). latch_number g held n) e))
          | inr ne ↦ omega (arith, ne, gate-here.ordered)
        ] in
        let list : gate_links (base_of g held) (unbounded g held) (latch_number g held (variable gate.rhs1)) (latch_number g held (variable gate.rhs0))
        ≡ fan_in_links (base_of g held) (unbounded g held) (latch_number g held (variable gate.rhs1)) ++ fan_in_links (base_of g held) (unbounded g held) (latch_number g held (variable gate.rhs0)) =
        ap (λ (xs : List Link). fan_in_links (base_of g held) (unbounded g held) (latch_number g held (variable gate.rhs1)) ++ xs) (cond-false _ _ _ (ne_eqb (latch_number g held (variable gate.rhs1)) (latch_number g held (variable gate.rhs0)) differ)) in
        subst (λ (xs : List Link). AreLinks (capacity g props held) (before_number g held w) xs) (sym list)
        (record {
          all = two-fan_ins q1 q0 lower;
          few = omega (
            arith,
            short-fan_in (latch_number g held (variable gate.rhs1)),
            short-fan_in (latch_number g held (variable gate.rhs0)),
            length-append (fan_in_links (base_of g held) (unbounded g held) (latch_number g held (variable gate.rhs1))) (fan_in_links (base_of g held) (unbounded g held) (latch_number g held (variable gate.rhs0))),
          );
        }))
  ]
