-- The gates of a set of nodes, in the order of the nodes, rise.
use Rattle.std.proofs.Common.{ℕ, zero, suc, ◌+◌, ◌<◌, ◌≤◌, ◌≡◌, ◌⊎◌, ◌==◌, ◌||◌, inl, inr, List, [], ◌∷◌, ◌++◌, length, Bool, true, false, if◌then◌else◌, Option, Some, None, slice_index, get_or, refl, arith, ap, ap₂, sym, ◌∙◌, subst}
use Rattle.std.specs.List.Sorted.{IsStrictlyIncreasing}
use Rattle.std.proofs.lemmas.Bool.{cases_lt, cases_eq, cond-true, cond-false, or_cases, or_left, or_right, eqb-true, eq-eqb}
use Rattle.std.proofs.lemmas.Option.{none-some, same_Some}
use Rattle.std.proofs.lemmas.List.{length_push, get_or_append_left, get_or_default}
use Rattle.std.proofs.lemmas.List.Folds.{list_any-append}
use Rattle.std.proofs.Math.Seq.{get_or-append_seam}
use Rattle.aig_graph.specs.Marking.{has}
use Rattle.aig_graph.proofs.PlacesLaws.{count-le}
use Rattle.aig_graph.specs.Circuits.{Netlist}
use Rattle.aig_graph.specs.Border.{IsGreatestLeast}
use Rattle.aig_graph.proofs.SearchLaws.{has_iff_contains}
use Rattle.frame_net.specs.declared.net.Point.{Point}
use Rattle.frame_net.specs.FlowNet.{FlowNet, node_count, point_of, capacity_between}
use Rattle.frame_net.specs.Flow.{IsSourceSide}
use Rattle.frame_net.proofs.TheoryCutLaws.{source_side_greatest}
use Rattle.pulse.specs.Values.{RunEnd}
use Rattle.pulse.specs.Conditions.{IsMaxPreflow, state_of}
use Rattle.frame_net.proofs.LeastCutLaws.{greatest_cut_is_greatest_set-law}
use Rattle.frame_net.specs.Capacity.{has_node}
use Rattle.frame_net.proofs.NodeLaws.{rank-gate, view}
use Rattle.frame_net.specs.Cuts.{AreGatesOf, IsNetworkOf}
use Rattle.frame_net.proofs.NetLaws.{gate-range, nodes, point-before}
use Rattle.frame_net.proofs.PassableLaws.{is_true}
use Rattle.cut_cert.specs.Gates.{gate_after, gate_of_node, and_gate, gates_of_nodes_below}

abbrev point : ℕ → Bool → Point
point v behind = record { var = v; behind = behind }

-- the point before a gate
abbrev pub before_gate : ℕ → Point
before_gate v = record { var = v; behind = false }

-- ---- one node

split-behind : (p : Point) (v : ℕ) (b : Bool) → p.behind ≡ b → (if b then None else Some p.var) ≡ Some v → p ≡ before_gate v
split-behind p v true e some = absurd (none-some v some)
split-behind p v false e some = ap₂ point (same_Some p.var v some) e

split : (b : Bool) (o : Option Point) (v : ℕ) → (if b then gate_after o else None) ≡ Some v → (b ≡ true) × (o ≡ Some (before_gate v))
split false o v e = absurd (none-some v e)
split true None v e = absurd (none-some v e)
split true (Some p) v e = (refl, ap (λ (q : Point). Some q) (split-behind p v p.behind refl e))

module _ (net : FlowNet) (side : ℕ → Bool) where
  -- a node outside of the set gives no gate
  pub gate-out : (m : ℕ) → side m ≡ false → gate_of_node net side m ≡ None
  unfolding gate_of_node
  gate-out m e = cond-false (side m) (gate_after (point_of net m)) None e

  -- a node of the set gives the gate before which its point lies, if there is one
  pub gate-in : (m : ℕ) → side m ≡ true → gate_of_node net side m ≡ gate_after (point_of net m)
  unfolding gate_of_node
  gate-in m e = cond-true (side m) (gate_after (point_of net m)) None e

  gate-means : (m v : ℕ) → gate_of_node net side m ≡ Some v → (side m ≡ true) × (point_of net m ≡ Some (before_gate v))
  unfolding gate_of_node
  gate-means m v e = split (side m) (point_of net m) v e

  gate-is : (m v : ℕ) → side m ≡ true → point_of net m ≡ Some (before_gate v) → gate_of_node net side m ≡ Some v
  gate-is m v on at = gate-in m on ∙ ap gate_after at

  -- ---- one more node

  -- below node 0 there is no gate
  pub gates-none : gates_of_nodes_below net side 0 ≡ []
  unfolding gates_of_nodes_below
  gates-none = refl

  gates-more : (m : ℕ) → gates_of_nodes_below net side (suc m) ≡ and_gate (gate_of_node net side m) (gates_of_nodes_below net side m)
  unfolding gates_of_nodes_below
  gates-more m = refl

  gates-skip : (m : ℕ) → gate_of_node net side m ≡ None → gates_of_nodes_below net side (suc m) ≡ gates_of_nodes_below net side m
  gates-skip m e = gates-more m ∙ ap (λ (o : Option ℕ). and_gate o (gates_of_nodes_below net side m)) e

  gates-take : (m v : ℕ) → gate_of_node net side m ≡ Some v → gates_of_nodes_below net side (suc m) ≡ gates_of_nodes_below net side m ++ v ∷ []
  gates-take m v e = gates-more m ∙ ap (λ (o : Option ℕ). and_gate o (gates_of_nodes_below net side m)) e

  -- a node of the set before a gate adds that gate
  pub step-take : (m v : ℕ) (before after : List ℕ) (o : Option ℕ) → o ≡ gate_of_node net side m → o ≡ Some v → before ≡ gates_of_nodes_below net side m → after ≡ before ++ v ∷ [] → after ≡ gates_of_nodes_below net side (m + 1)
  step-take m v before after o is some e step =
      let next : m + 1 ≡ suc m = omega arith in
      step ∙ ap (λ (xs : List ℕ). xs ++ v ∷ []) e ∙ sym (gates-take m v (sym is ∙ some)) ∙ ap (gates_of_nodes_below net side) (sym next)

  -- any other node adds none
  pub step-skip : (m : ℕ) (before after : List ℕ) (o : Option ℕ) → o ≡ gate_of_node net side m → o ≡ None → before ≡ gates_of_nodes_below net side m → after ≡ before → after ≡ gates_of_nodes_below net side (m + 1)
  step-skip m before after o is none e step =
      let next : m + 1 ≡ suc m = omega arith in
      step ∙ e ∙ sym (gates-skip m (sym is ∙ none)) ∙ ap (gates_of_nodes_below net side) (sym next)

  -- ---- members

  option-cases : (o : Option ℕ) → (o ≡ None) ⊎ ((v : ℕ) × (o ≡ Some v))
  option-cases None = inl refl
  option-cases (Some v) = inr (v, refl)

  -- a node of the set below m with the gate after it
  abbrev pub HasNode : ℕ → ℕ → Type 0
  HasNode m v = (x : ℕ) × ((x < m) × ((side x ≡ true) × (point_of net x ≡ Some (before_gate v))))

  has-push : (xs : List ℕ) (g v : ℕ) → has (xs ++ g ∷ []) v ≡ (has xs v || ((g == v) || false))
  has-push xs g v = list_any-append (λ w. w == v) xs (g ∷ [])

  or-none : (b : Bool) → (b || false) ≡ true → b ≡ true
  or-none true e = refl
  or-none false e = absurd (cc)

  no-member : (v : ℕ) → has (gates_of_nodes_below net side 0) v ≡ true → ⊥
  no-member v e =
      let clash : false ≡ true = sym (ap (λ (xs : List ℕ). has xs v) gates-none) ∙ e in
      absurd (cc)

  -- each of the gates has the node before it in the set
  pub member-node : (m v : ℕ) → has (gates_of_nodes_below net side m) v ≡ true → HasNode m v
  member-node zero v e = absurd (no-member v e)
  member-node (suc m) v e = elim (option-cases (gate_of_node net side m)) [
    | inl none ↦ (
        let rest = member-node m v (ap (λ (xs : List ℕ). has xs v) (sym (gates-skip m none)) ∙ e) in
        (rest.0, (omega (arith, rest.1.0), rest.1.1)))
    | inr some ↦ (
        let here : (has (gates_of_nodes_below net side m) v || ((some.0 == v) || false)) ≡ true =
        sym (ap (λ (xs : List ℕ). has xs v) (gates-take m some.0 some.1) ∙ has-push (gates_of_nodes_below net side m) some.0 v) ∙ e in
        elim (or_cases (has (gates_of_nodes_below net side m) v) ((some.0 == v) || false) here) [
          | inl before ↦ (let rest = member-node m v before in (rest.0, (omega (arith, rest.1.0), rest.1.1)))
          | inr last ↦ (
              let same : some.0 ≡ v = eqb-true some.0 v (or-none (some.0 == v) last) in
              (m, (omega arith, gate-means m v (some.1 ∙ ap (λ (u : ℕ). Some u) same))))
        ])
  ]

  -- each gate with the node before it in the set is among them
  pub node-member : (m v : ℕ) → HasNode m v → has (gates_of_nodes_below net side m) v ≡ true
  node-member zero v t = absurd (omega (arith, t.1.0))
  node-member (suc m) v t = elim (cases_eq t.0 m) [
    | inl same ↦ (
        let some : gate_of_node net side m ≡ Some v = ap (gate_of_node net side) (sym same) ∙ gate-is t.0 v t.1.1.0 t.1.1.1 in
        ap (λ (xs : List ℕ). has xs v) (gates-take m v some) ∙ has-push (gates_of_nodes_below net side m) v v
        ∙ or_right (has (gates_of_nodes_below net side m) v) ((v == v) || false) (or_left (v == v) false (eq-eqb v v refl)))
    | inr other ↦ (
        let rest : has (gates_of_nodes_below net side m) v ≡ true = node-member m v (t.0, (omega (arith, t.1.0, other), t.1.1)) in
        elim (option-cases (gate_of_node net side m)) [
          | inl none ↦ ap (λ (xs : List ℕ). has xs v) (gates-skip m none) ∙ rest
          | inr some ↦ ap (λ (xs : List ℕ). has xs v) (gates-take m some.0 some.1) ∙ has-push (gates_of_nodes_below net side m) some.0 v ∙ or_left (has (gates_of_nodes_below net side m) v) ((some.0 == v) || false) rest
        ])
  ]

-- ---- the gates rise

push-rising : (xs : List ℕ) (g : ℕ) → IsStrictlyIncreasing xs → ((k : ℕ) → k < length xs → slice_index xs k < g) → IsStrictlyIncreasing (xs ++ g ∷ [])
push-rising xs g rising below k h = elim (cases_lt (k + 1) (length xs)) [
  | inl less ↦ (
      let this : slice_index (xs ++ g ∷ []) k ≡ slice_index xs k = get_or_append_left xs (g ∷ []) 0 k (omega (arith, less)) in
      let next : slice_index (xs ++ g ∷ []) (k + 1) ≡ slice_index xs (k + 1) = get_or_append_left xs (g ∷ []) 0 (k + 1) less in
      omega (arith, this, next, rising k less))
  | inr past ↦ (
      let last : k + 1 ≡ length xs = omega (arith, past, h, length_push xs g) in
      let this : slice_index (xs ++ g ∷ []) k ≡ slice_index xs k = get_or_append_left xs (g ∷ []) 0 k (omega (arith, last)) in
      let next : slice_index (xs ++ g ∷ []) (k + 1) ≡ g = ap (slice_index (xs ++ g ∷ [])) last ∙ get_or-append_seam xs g [] 0 in
      omega (arith, this, next, below k (omega (arith, last))))
]

module _ (c : Netlist) (held : List ℕ) (net : FlowNet) (is : IsNetworkOf c held net) (side : ℕ → Bool) where
  -- nodes before gates stand in the order of the gates
  points-rise : (x y u v : ℕ) → x < node_count net → y < node_count net → x < y → point_of net x ≡ Some (before_gate u) → point_of net y ≡ Some (before_gate v) → u < v
  points-rise x y u v hx hy less at to =
      let p = point-before c held net is x u (view c.aig held x (omega (arith, hx, nodes c held net is))) at in
      let q = point-before c held net is y v (view c.aig held y (omega (arith, hy, nodes c held net is))) to in
      elim (cases_lt u v) [
        | inl lt ↦ lt
        | inr ge ↦ absurd (omega (
          arith,
          less,
          p.1,
          q.1,
          count-le (has_node c.aig held) v u ge,
          rank-gate c.aig held v (gate-range c.aig held v q.0).0,
          rank-gate c.aig held u (gate-range c.aig held u p.0).0,
        ))
      ]

  gates-rise : (m : ℕ) → m ≤ node_count net → IsStrictlyIncreasing (gates_of_nodes_below net side m)
  gates-rise zero h = subst IsStrictlyIncreasing (sym (gates-none net side)) (λ k l. absurd (omega (arith, l)))
  gates-rise (suc m) h = elim (option-cases net side (gate_of_node net side m)) [
    | inl none ↦ subst IsStrictlyIncreasing (sym (gates-skip net side m none)) (gates-rise m (omega (arith, h)))
    | inr some ↦ (
        let xs : List ℕ = gates_of_nodes_below net side m in
        let last = gate-means net side m some.0 some.1 in
        subst IsStrictlyIncreasing (sym (gates-take net side m some.0 some.1)) (push-rising xs some.0 (gates-rise m (omega (arith, h))) (λ k l.
        let v : ℕ = slice_index xs k in
        let member : has xs v ≡ true = is_true (has xs v) ((has_iff_contains xs v).1 (k, l, entry xs k l)) in
        let t = member-node net side m v member in
        points-rise t.0 m v some.0 (omega (arith, t.1.0, h)) (omega (arith, h)) t.1.0 t.1.1.1 last.1)))
  ]
    where
      entry : (xs : List ℕ) (k : ℕ) → k < length xs → get_or xs k (slice_index xs k) ≡ slice_index xs k
      entry xs k l = get_or_default xs k (slice_index xs k) 0 l

  -- the gates gathered node by node are those of the set of nodes
  pub are-gates : AreGatesOf net side (gates_of_nodes_below net side (node_count net))
  are-gates = record {
    rising = gates-rise (node_count net) (omega arith);
    each = λ v. (member-node net side (node_count net) v, node-member net side (node_count net) v);
  }

-- at a run's end, the gates of the nodes that can't reach the sink are the greatest least set
pub greatest-set : (c : Netlist) (held : List ℕ) (net : FlowNet) (m : RunEnd) (side : ℕ → Bool) → IsNetworkOf c held net → IsMaxPreflow net m → IsSourceSide (node_count net) (state_of net m.flow) side
    → IsGreatestLeast c held (gates_of_nodes_below net side (node_count net))
greatest-set c held net m side is end apart =
    greatest_cut_is_greatest_set-law c held net side (gates_of_nodes_below net side (node_count net)) is
    (source_side_greatest (node_count net) (capacity_between net) (state_of net m.flow) side (omega (arith, is.points.each)) end.preflow end.valid end.none_active apart)
    (are-gates c held net is side)
