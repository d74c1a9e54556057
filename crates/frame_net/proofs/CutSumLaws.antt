-- The capacity of a cut, variable by variable.
use Rattle.std.proofs.Common.{◌≡◌, ◌≢◌, ℕ, suc, zero, ◌+◌, ◌-◌, ◌*◌, ◌<◌, ◌≤◌, ◌==◌, nat_lt, Bool, true, false, not, ◌&&◌, cond, List, Option, arith, refl, ap, sym, ◌∙◌, subst, inl, inr}
use Rattle.std.proofs.lemmas.Bool.{cases_lt, cases_Bool, cases_eq, cond-true, cond-false, ne_eqb, eq-eqb, lt-ltb, le-ltb, true≢false}
use Rattle.frame_net.specs.Flow.{sum_below, IsCut, cut_value}
use Rattle.frame_net.proofs.SumLaws.{sum_below-add, sum_below-same, sum_below-zero}
use Rattle.frame_net.proofs.SparseRowLaws.{sum_one}
use Rattle.aig_graph.specs.Counting.{count_below}
use Rattle.aig_graph.proofs.PlacesLaws.{count-pass, count-fail, count-zero, length-places}
use Rattle.aig_graph.specs.declared.graph.Latch.{Latch}
use Rattle.aig_graph.specs.declared.properties.Props.{Props}
use Rattle.aig_graph.specs.Graph.{Graph, IsGraph, first_gate, variables_end, latch_at, gate_at, is_known}
use Rattle.aig_graph.proofs.KindLaws.{latch_at-gates}
use Rattle.frame_net.specs.FlowNet.{Node, node_at}
use Rattle.frame_net.specs.FlowNet.Node.{source, sink, before, after}
use Rattle.frame_net.specs.Capacity.{has_node, node_variables, latch_count, unbounded, gate_reads, is_observed, arc_capacity, capacity, rank, latch_number, before_number, after_number, node_total}
use Rattle.frame_net.proofs.NodeLaws.{has_node-latch, rank-latch, rank-gate, rank-below, at-latch, at-before, at-after, View, view}
use Rattle.frame_net.proofs.NodeLaws.View.{the_source, the_sink, a_latch, a_before, an_after}
use Rattle.frame_net.proofs.ArcLaws.{cap-at}

-- ---- a sum over nodes as a count over variables

-- the first node past those of the variables below v
abbrev first_free : Graph → List ℕ → ℕ → ℕ
first_free g held v = cond (nat_lt v (first_gate g)) (2 + rank g held v) (2 + latch_count g held + 2 * (rank g held v - latch_count g held))

free-low : (g : Graph) (held : List ℕ) (v : ℕ) → v < first_gate g → first_free g held v ≡ 2 + rank g held v
free-low g held v h = cond-true (nat_lt v (first_gate g)) _ _ (lt-ltb v (first_gate g) h)

free-high : (g : Graph) (held : List ℕ) (v : ℕ) → first_gate g ≤ v → first_free g held v ≡ 2 + latch_count g held + 2 * (rank g held v - latch_count g held)
free-high g held v h = cond-false (nat_lt v (first_gate g)) _ _ (le-ltb v (first_gate g) h)

-- what each node adds, by its variable
pub record Shares (g : Graph) (held : List ℕ) (share : ℕ → ℕ) (q : ℕ → Bool) : Type 0 where
  -- the source adds nothing
  pub at_source : share 0 ≡ 0
  -- the sink adds nothing
  pub at_sink : share 1 ≡ 0
  -- a variable without a node isn't counted
  pub none : (v : ℕ) → has_node g held v ≡ false → q v ≡ false
  -- the node after a known latch adds 1 if the latch is counted
  pub latch : (v : ℕ) → has_node g held v ≡ true → v < first_gate g → share (latch_number g held v) ≡ cond (q v) 1 0
  -- the node before a passable gate adds 1 if the gate is counted
  pub gate : (v : ℕ) → has_node g held v ≡ true → first_gate g ≤ v → v < variables_end g → share (before_number g held v) ≡ cond (q v) 1 0
  -- the node after a passable gate adds nothing
  pub past : (v : ℕ) → has_node g held v ≡ true → first_gate g ≤ v → v < variables_end g → share (after_number g held v) ≡ 0

count-step : (p : ℕ → Bool) (v : ℕ) → count_below p (suc v) ≡ count_below p v + cond (p v) 1 0
count-step p v = elim (cases_Bool (p v)) [
  | inl yes' ↦ count-pass p v yes' ∙ ap (λ (b : Bool). count_below p v + cond b 1 0) (sym yes')
  | inr no' ↦ omega (arith, count-fail p v no', cond-false {A = ℕ} (p v) 1 0 no')
]

sum-next : (f : ℕ → ℕ) (n m : ℕ) → m ≡ n + 1 → sum_below m f ≡ sum_below n f + f n
sum-next f n m h = let e : m ≡ suc n = omega (arith, h) in ap (λ (x : ℕ). sum_below x f) e

free-upto : (g : Graph) (held : List ℕ) (v : ℕ) → v ≤ first_gate g → first_free g held v ≡ 2 + rank g held v
free-upto g held v h = elim (cases_eq v (first_gate g)) [
  | inl same ↦ (
      let counted : rank g held v ≡ latch_count g held = ap (λ (n : ℕ). rank g held n) same in
      free-high g held v (omega (arith, same)) ∙ omega (arith, counted))
  | inr other ↦ free-low g held v (omega (arith, h, other))
]

module _ (g : Graph) (held : List ℕ) (share : ℕ → ℕ) (q : ℕ → Bool) (s : Shares g held share q) where
  step-latch : (v : ℕ) → has_node g held v ≡ true → v < first_gate g → sum_below (first_free g held v) share ≡ count_below q v → sum_below (first_free g held (suc v)) share ≡ count_below q (suc v)
  step-latch v p low before' =
      let here : first_free g held v ≡ latch_number g held v = free-upto g held v (omega (arith, low)) in
      let next : first_free g held (suc v) ≡ first_free g held v + 1 = free-upto g held (suc v) (omega (arith, low)) ∙ omega (arith, here, count-pass (has_node g held) v p) in
      let add : share (first_free g held v) ≡ cond (q v) 1 0 = ap share here ∙ s.latch v p low in
      sum-next share (first_free g held v) (first_free g held (suc v)) next ∙ omega (arith, before', add, count-step q v)

  step-gate : (v : ℕ) → has_node g held v ≡ true → first_gate g ≤ v → v < variables_end g → sum_below (first_free g held v) share ≡ count_below q v → sum_below (first_free g held (suc v)) share ≡ count_below q (suc v)
  step-gate v p from below before' =
      let here : first_free g held v ≡ before_number g held v = free-high g held v from in
      let next : first_free g held (suc v) ≡ after_number g held v + 1 = free-high g held (suc v) (omega (arith, from)) ∙ omega (arith, rank-gate g held v from, count-pass (has_node g held) v p) in
      let add : share (first_free g held v) ≡ cond (q v) 1 0 = ap share here ∙ s.gate v p from below in
      let one : sum_below (after_number g held v) share ≡ sum_below (first_free g held v) share + share (first_free g held v) = sum-next share (first_free g held v) (after_number g held v) (omega (arith, here)) in
      sum-next share (after_number g held v) (first_free g held (suc v)) next ∙ omega (arith, one, before', add, s.past v p from below, count-step q v)

  step-none : (v : ℕ) → has_node g held v ≡ false → sum_below (first_free g held v) share ≡ count_below q v → sum_below (first_free g held (suc v)) share ≡ count_below q (suc v)
  step-none v p before' =
      let same : first_free g held (suc v) ≡ first_free g held v = elim (cases_lt v (first_gate g)) [
        | inl low ↦ free-upto g held (suc v) (omega (arith, low)) ∙ ap (λ (n : ℕ). 2 + n) (count-fail (has_node g held) v p) ∙ sym (free-upto g held v (omega (arith, low)))
        | inr high ↦ free-high g held (suc v) (omega (arith, high)) ∙ ap (λ (n : ℕ). 2 + latch_count g held + 2 * (n - latch_count g held)) (count-fail (has_node g held) v p) ∙ sym (free-high g held v high)
      ] in
      ap (λ (n : ℕ). sum_below n share) same ∙ before' ∙ sym (count-fail q v (s.none v p))

  shares-to : (v : ℕ) → v ≤ variables_end g → sum_below (first_free g held v) share ≡ count_below q v
  shares-to zero h =
      let low : first_free g held 0 ≡ 2 = free-low g held 0 (omega arith) ∙ ap (λ (n : ℕ). 2 + n) (count-zero (has_node g held)) in
      ap (λ (n : ℕ). sum_below n share) low ∙ omega (arith, s.at_source, s.at_sink, count-zero q)
  shares-to (suc v) h = elim (cases_Bool (has_node g held v)) [
    | inl yes' ↦ elim (cases_lt v (first_gate g)) [
      | inl low ↦ step-latch v yes' low (shares-to v (omega (arith, h)))
      | inr high ↦ step-gate v yes' high (omega (arith, h)) (shares-to v (omega (arith, h)))
    ]
    | inr no' ↦ step-none v no' (shares-to v (omega (arith, h)))
  ]

  -- what all nodes add is how many variables are counted
  pub shares-all : sum_below (node_total g held) share ≡ count_below q (variables_end g)
  shares-all =
      let end' : first_free g held (variables_end g) ≡ node_total g held = free-high g held (variables_end g) (omega arith) ∙ omega (arith, length-places (has_node g held) (variables_end g)) in
      ap (λ (n : ℕ). sum_below n share) (sym end') ∙ shares-to (variables_end g) (omega arith)

-- ---- the arcs that leave a set of nodes

-- what a variable adds to the cut
pub crosses : Graph → List ℕ → (ℕ → Bool) → ℕ → Bool
crosses g held side v = has_node g held v && cond (nat_lt v (first_gate g)) (not (side (latch_number g held v))) (side (before_number g held v) && not (side (after_number g held v)))

-- a variable without a node adds nothing to the cut
pub crosses-none : (g : Graph) (held : List ℕ) (side : ℕ → Bool) (v : ℕ) → has_node g held v ≡ false → crosses g held side v ≡ false
unfolding crosses
crosses-none g held side v p = ap (λ (b : Bool). b && cond (nat_lt v (first_gate g)) (not (side (latch_number g held v))) (side (before_number g held v) && not (side (after_number g held v)))) p

-- a known latch adds to the cut if the node after it isn't in the set
pub crosses-latch : (g : Graph) (held : List ℕ) (side : ℕ → Bool) (v : ℕ) → has_node g held v ≡ true → v < first_gate g → crosses g held side v ≡ not (side (latch_number g held v))
unfolding crosses
crosses-latch g held side v p h =
    ap (λ (b : Bool). b && cond (nat_lt v (first_gate g)) (not (side (latch_number g held v))) (side (before_number g held v) && not (side (after_number g held v)))) p
    ∙ cond-true (nat_lt v (first_gate g)) _ _ (lt-ltb v (first_gate g) h)

-- a passable gate adds to the cut if the node before it is in the set and the one after it isn't
pub crosses-gate : (g : Graph) (held : List ℕ) (side : ℕ → Bool) (v : ℕ) → has_node g held v ≡ true → first_gate g ≤ v → crosses g held side v ≡ (side (before_number g held v) && not (side (after_number g held v)))
unfolding crosses
crosses-gate g held side v p h =
    ap (λ (b : Bool). b && cond (nat_lt v (first_gate g)) (not (side (latch_number g held v))) (side (before_number g held v) && not (side (after_number g held v)))) p
    ∙ cond-false (nat_lt v (first_gate g)) _ _ (le-ltb v (first_gate g) h)

zero-either : (t : Bool) (m : ℕ) → m ≡ 0 → cond t m 0 ≡ 0
zero-either true m e = e
zero-either false m e = refl

all_or_none : (t : Bool) (m : ℕ) → cond t m 0 < m → cond t m 0 ≡ 0
all_or_none true m h = absurd (omega (arith, h))
all_or_none false m h = refl

after-none : (g : Graph) (props : Props) (held : List ℕ) (u : ℕ) (b : Node) → arc_capacity g props held (after u) b < unbounded g held → arc_capacity g props held (after u) b ≡ 0
after-none g props held u source h = refl
after-none g props held u sink h = all_or_none (is_observed g props held u) (unbounded g held) h
after-none g props held u (before w) h = all_or_none (gate_reads u (gate_at g w)) (unbounded g held) h
after-none g props held u (after w) h = refl

module _ (g : Graph) (props : Props) (held : List ℕ) (valid : IsGraph g) (side : ℕ → Bool) (cut : IsCut side)
    (no_great : (x y : ℕ) → x < node_total g held → y < node_total g held → side x ≡ true → side y ≡ false → capacity g props held x y < unbounded g held) where
  term : ℕ → ℕ → ℕ
  term x y = cond (side x && not (side y)) (capacity g props held x y) 0

  row : ℕ → ℕ
  row x = sum_below (node_total g held) (λ y. cond (side x && not (side y)) (capacity g props held x y) 0)

  term-zero : (x y : ℕ) → (side x ≡ true → side y ≡ false → capacity g props held x y ≡ 0) → cond (side x && not (side y)) (capacity g props held x y) 0 ≡ 0
  term-zero x y h = go (side x) (side y) (capacity g props held x y) h
    where
      go : (a b : Bool) (m : ℕ) → (a ≡ true → b ≡ false → m ≡ 0) → cond (a && not b) m 0 ≡ 0
      go true true m h = refl
      go true false m h = h refl refl
      go false b m h = refl

  row-zero : (x : ℕ) → ((y : ℕ) → y < node_total g held → side x ≡ true → side y ≡ false → capacity g props held x y ≡ 0)
      → sum_below (node_total g held) (λ y. cond (side x && not (side y)) (capacity g props held x y) 0) ≡ 0
  row-zero x h = sum_below-same (node_total g held) (λ y. cond (side x && not (side y)) (capacity g props held x y) 0) (λ y. 0) (λ y k. term-zero x y (h y k)) ∙ sum_below-zero (node_total g held)

  after-row : (x u : ℕ) → x < node_total g held → node_at (latch_count g held) (node_variables g held) x ≡ after u → sum_below (node_total g held) (λ y. cond (side x && not (side y)) (capacity g props held x y) 0) ≡ 0
  after-row x u k at = row-zero x (λ y h a b.
      let is : capacity g props held x y ≡ arc_capacity g props held (after u) (node_at (latch_count g held) (node_variables g held) y) =
      cap-at g props held valid x y (after u) (node_at (latch_count g held) (node_variables g held) y) at refl in
      is ∙ after-none g props held u (node_at (latch_count g held) (node_variables g held) y) (subst (λ (m : ℕ). m < unbounded g held) is (no_great x y k h a b)))

  before-at : (u : ℕ) → has_node g held u ≡ true → first_gate g ≤ u → u < variables_end g → (y : ℕ) → y ≢ after_number g held u → capacity g props held (before_number g held u) y < unbounded g held → View g held y
      → capacity g props held (before_number g held u) y ≡ 0
  before-at u p from below y other h (the_source e) = subst (λ (n : ℕ). capacity g props held (before_number g held u) n ≡ 0) (sym e) (cap-at g props held valid (before_number g held u) 0 (before u) source (at-before g held u p from below) refl)
  before-at u p from below y other h (the_sink e) = subst (λ (n : ℕ). capacity g props held (before_number g held u) n ≡ 0) (sym e) (cap-at g props held valid (before_number g held u) 1 (before u) sink (at-before g held u p from below) refl)
  before-at u p from below y other h (a_latch w q k e) =
      cap-at g props held valid (before_number g held u) y (before u) (after w) (at-before g held u p from below) (ap (λ (n : ℕ). node_at (latch_count g held) (node_variables g held) n) e ∙ at-latch g held w q k)
      ∙ cond-false (u == w) 1 0 (ne_eqb u w (λ same. omega (arith, same, from, k)))
  before-at u p from below y other h (a_before w q wfrom k e) =
      let is : capacity g props held (before_number g held u) y ≡ cond (gate_reads w (gate_at g u)) (unbounded g held) 0 =
      cap-at g props held valid (before_number g held u) y (before u) (before w) (at-before g held u p from below) (ap (λ (n : ℕ). node_at (latch_count g held) (node_variables g held) n) e ∙ at-before g held w q wfrom k) in
      is ∙ all_or_none (gate_reads w (gate_at g u)) (unbounded g held) (subst (λ (m : ℕ). m < unbounded g held) is h)
  before-at u p from below y other h (an_after w q wfrom k e) =
      cap-at g props held valid (before_number g held u) y (before u) (after w) (at-before g held u p from below) (ap (λ (n : ℕ). node_at (latch_count g held) (node_variables g held) n) e ∙ at-after g held w q wfrom k)
      ∙ cond-false (u == w) 1 0 (ne_eqb u w (λ same. other (e ∙ ap (λ (n : ℕ). after_number g held n) (sym same))))

  gate-in : (u : ℕ) → has_node g held u ≡ true → first_gate g ≤ u → u < variables_end g → after_number g held u < node_total g held
  gate-in u p from below = omega (arith, rank-gate g held u from, rank-below g held u p below)

  before-row : (u : ℕ) → has_node g held u ≡ true → first_gate g ≤ u → u < variables_end g
      → sum_below (node_total g held) (λ y. cond (side (before_number g held u) && not (side y)) (capacity g props held (before_number g held u) y) 0)
      ≡ cond (side (before_number g held u) && not (side (after_number g held u))) 1 0
  before-row u p from below =
      sum_one (node_total g held) (after_number g held u) (λ y. cond (side (before_number g held u) && not (side y)) (capacity g props held (before_number g held u) y) 0) (gate-in u p from below)
      (λ y h other. term-zero (before_number g held u) y (λ a b.
      before-at u p from below y other (no_great (before_number g held u) y (omega (arith, gate-in u p from below)) h a b) (view g held y h)))
      ∙ ap (λ (m : ℕ). cond (side (before_number g held u) && not (side (after_number g held u))) m 0)
      (cap-at g props held valid (before_number g held u) (after_number g held u) (before u) (after u) (at-before g held u p from below) (at-after g held u p from below) ∙ cond-true (u == u) 1 0 (eq-eqb u u refl))

  -- what a node adds to the cut, if an arc from the source is told of its head
  pub share : ℕ → ℕ
  share x = cond (x == 0) 0 (sum_below (node_total g held) (λ y. cond (side x && not (side y)) (capacity g props held x y) 0)) + cond (side 0 && not (side x)) (capacity g props held 0 x) 0

  share-past : (x : ℕ) → 1 ≤ x → share x ≡ sum_below (node_total g held) (λ y. cond (side x && not (side y)) (capacity g props held x y) 0) + cond (side 0 && not (side x)) (capacity g props held 0 x) 0
  unfolding share
  share-past x h = ap (λ (b : Bool). cond b 0 (sum_below (node_total g held) (λ y. cond (side x && not (side y)) (capacity g props held x y) 0)) + cond (side 0 && not (side x)) (capacity g props held 0 x) 0) (ne_eqb x 0 (λ e. omega (arith, e, h)))

  from-source : (x : ℕ) → cond (side 0 && not (side x)) (capacity g props held 0 x) 0 ≡ cond (not (side x)) (capacity g props held 0 x) 0
  from-source x = ap (λ (b : Bool). cond (b && not (side x)) (capacity g props held 0 x) 0) cut.with_source

  to : (x : ℕ) (b : Node) → node_at (latch_count g held) (node_variables g held) x ≡ b → capacity g props held 0 x ≡ arc_capacity g props held source b
  to x b at = cap-at g props held valid 0 x source b refl at

  -- what nodes add to the cut are shares of what variables add to it
  pub are-shares : Shares g held share (crosses g held side)
  unfolding share
  are-shares = record {
    at_source =
        let none : cond (side 0 && not (side 0)) (capacity g props held 0 0) 0 ≡ 0 = zero-either (side 0 && not (side 0)) (capacity g props held 0 0) (to 0 source refl) in
        omega (arith, none);
    at_sink = omega (
      arith,
      share-past 1 (omega arith),
      row-zero 1 (λ y h a b. absurd (true≢false (sym a ∙ cut.without_sink))),
      zero-either (side 0 && not (side 1)) (capacity g props held 0 1) (to 1 sink refl),
    );
    none = λ v p. crosses-none g held side v p;
    latch = λ v p h.
        let at : node_at (latch_count g held) (node_variables g held) (latch_number g held v) ≡ after v = at-latch g held v p h in
        let inside : latch_number g held v < node_total g held = omega (arith, rank-latch g held v p h) in
        let cap' : capacity g props held 0 (latch_number g held v) ≡ 1 = to (latch_number g held v) (after v) at ∙ cond-true (is_known (latch_at g v)) 1 0 (sym (has_node-latch g held v h) ∙ p) in
        let last : cond (not (side (latch_number g held v))) (capacity g props held 0 (latch_number g held v)) 0 ≡ cond (crosses g held side v) 1 0 =
        ap (λ (m : ℕ). cond (not (side (latch_number g held v))) m 0) cap' ∙ ap (λ (b : Bool). cond b 1 0) (sym (crosses-latch g held side v p h)) in
        omega (arith, share-past (latch_number g held v) (omega arith), after-row (latch_number g held v) v inside at, from-source (latch_number g held v), last);
    gate = λ v p from below.
        let last : cond (side (before_number g held v) && not (side (after_number g held v))) 1 0 ≡ cond {A = ℕ} (crosses g held side v) 1 0 = ap (λ (b : Bool). cond {A = ℕ} b 1 0) (sym (crosses-gate g held side v p from)) in
        omega (
          arith,
          share-past (before_number g held v) (omega arith),
          before-row v p from below,
          zero-either (side 0 && not (side (before_number g held v))) (capacity g props held 0 (before_number g held v)) (to (before_number g held v) (before v) (at-before g held v p from below)),
          last,
        );
    past = λ v p from below.
        omega (
          arith,
          share-past (after_number g held v) (omega arith),
          after-row (after_number g held v) v (gate-in v p from below) (at-after g held v p from below),
          zero-either (side 0 && not (side (after_number g held v))) (capacity g props held 0 (after_number g held v))
              (to (after_number g held v) (after v) (at-after g held v p from below) ∙ cond-false (is_known (latch_at g v)) 1 0 (ap (λ (o : Option Latch). is_known o) (latch_at-gates g v from))),
        );
  }

  -- the rows of all nodes are the shares of all nodes
  pub cut-counted : cut_value (node_total g held) (capacity g props held) side ≡ count_below (crosses g held side) (variables_end g)
  unfolding share
  cut-counted = rows-shares ∙ shares-all g held share (crosses g held side) are-shares
    where
      either : (t : Bool) (m : ℕ) → m ≡ cond t 0 m + cond t m 0
      either true m = omega arith
      either false m = omega arith

      rows-shares : cut_value (node_total g held) (capacity g props held) side ≡ sum_below (node_total g held) share
      rows-shares =
          let r : ℕ → ℕ = λ x. sum_below (node_total g held) (λ y. cond (side x && not (side y)) (capacity g props held x y) 0) in
          let first : sum_below (node_total g held) (λ x. cond (x == 0) (r x) 0) ≡ r 0 =
          sum_one (node_total g held) 0 (λ x. cond (x == 0) (r x) 0) (omega arith) (λ x h other. cond-false (x == 0) (r x) 0 (ne_eqb x 0 other)) in
          let split : sum_below (node_total g held) r ≡ sum_below (node_total g held) (λ x. cond (x == 0) 0 (r x) + cond (x == 0) (r x) 0) =
          sum_below-same (node_total g held) r (λ x. cond (x == 0) 0 (r x) + cond (x == 0) (r x) 0) (λ x h. either (x == 0) (r x)) in
          omega (
            arith,
            first,
            split,
            sum_below-add (node_total g held) (λ x. cond (x == 0) 0 (r x)) (λ x. cond (x == 0) (r x) 0),
            sum_below-add (node_total g held) (λ x. cond (x == 0) 0 (r x)) (λ x. cond (side 0 && not (side x)) (capacity g props held 0 x) 0),
          )
