-- What a greatest flow carries, and how much of it reaches the sink.
use Rattle.std.proofs.Common.{◌≡◌, ℕ, suc, zero, ◌+◌, ◌-◌, ◌<◌, ◌≤◌, ◌⊎◌, Bool, true, false, not, nat_lt, cond, List, length, slice_index, [], ◌==◌, ◌*◌, ◌&&◌, arith, refl, ap, sym, ◌∙◌, subst, inl, inr}
use Rattle.std.proofs.lemmas.Bool.{cases_lt, cases_Bool, false≢true, lt-ltb, le-ltb}
use Rattle.frame_net.specs.Flow.{State, sum_below, IsPreflow, IsValid, is_active, IsCut, cut_value, between}
use Rattle.frame_net.proofs.SumLaws.{sum_below-add, sum_below-same, sum_below-swap, sum_below-le_const}
use Rattle.frame_net.proofs.PushLaws.{is_active-true}
use Rattle.frame_net.proofs.TheoryCutLaws.{held_off, cut_identity, sum_of_ones, met_once, hits_once, sum_all_zero, cond_zero, one_term, sink-le-held}
use Rattle.frame_net.specs.Rows.{Rises}
use Rattle.frame_net.proofs.SparseRowLaws.{find_head, sparse-at, sparse-none}
use Rattle.aig_graph.specs.Circuits.{Netlist}
use Rattle.aig_graph.specs.Move.{move_of}
use Rattle.aig_graph.specs.Border.{border_size, IsLeast}
use Rattle.aig_graph.proofs.SetLaws.{empty-closed}
use Rattle.frame_net.specs.FlowNet.{FlowNet, IsFlowNet, node_count, start, row_len, head, mate, cap_at, capacity_between}
use Rattle.pulse_parts.specs.Parts.{pair}
use Rattle.frame_net.specs.Cuts.{IsNetworkOf, NoUnboundedLeaves, leaving}
use Rattle.frame_net.proofs.SetCutLaws.{closed_sets_are_cuts-law}
use Rattle.frame_net.proofs.NetLaws.{cuts_are_closed-law}
use Rattle.frame_net.proofs.LeastCutLaws.{empty-border, arc-counts}
use Rattle.cut_cert.specs.Gates.{gates_of_nodes_below}
use Rattle.cut_cert.proofs.GateLaws.{are-gates}
use Rattle.cut_cert.proofs.SinkWalkLaws.{pair-mate}
use Rattle.pulse.specs.Values.{RunEnd}
use Rattle.pulse.specs.Conditions.{IsMaxPreflow, state_of}
use Rattle.cut_cert.specs.Walks.{AreArcFlows, out_of, into, IsPreflowAt}
use Rattle.cut_cert.proofs.LoweringLaws.{here-zero}
use Rattle.cut_cert.proofs.ArcPointLaws.{none-out-of-sink}

-- ---- a cut at a label that no node has

-- a number is the label of some node, or of none
abbrev AllMet : (n m : ℕ) → (ℕ → ℕ) → Type 0
AllMet n m label = (j : ℕ) → j < m → (v : ℕ) × ((v < n) × (label v ≡ j))

abbrev NoneAt : (n m : ℕ) → (ℕ → ℕ) → Type 0
NoneAt n m label = (d : ℕ) × ((d < m) × ((v : ℕ) → v < n → label v ≡ d → ⊥))

met-or-not : (n m : ℕ) (label : ℕ → ℕ) → AllMet n m label ⊎ NoneAt n m label
met-or-not n zero label = inl (λ j l. absurd (omega (arith, l)))
met-or-not n (suc m) label = elim (met-or-not n m label) [
  | inr gap ↦ inr (gap.0, (omega (arith, gap.1.0), gap.1.1))
  | inl all ↦ elim (find_head n label m) [
    | inr none ↦ inr (m, (omega arith, none))
    | inl found ↦ inl (λ j l. elim (cases_lt j m) [
      | inl less ↦ all j less
      | inr last ↦ (found.0, (found.1.0, omega (arith, found.1.1, l, last)))
    ])
  ]
]

-- n nodes haven't n + 1 labels
gap : (n : ℕ) (label : ℕ → ℕ) → NoneAt n (suc n) label
gap n label = elim (met-or-not n (suc n) label) [
  | inr none ↦ none
  | inl all ↦ (
      let many : suc n ≤ sum_below (suc n) (λ j. sum_below n (λ w. cond (label w == j) 1 0)) =
      sum_of_ones (suc n) (λ j. sum_below n (λ w. cond (label w == j) 1 0)) (λ j lt. let m = all j lt in met_once n label m.0 j m.1.0 m.1.1) in
      let few : sum_below n (λ w. sum_below (suc n) (λ j. cond (label w == j) 1 0)) ≤ n * 1 =
      sum_below-le_const n 1 (λ w. sum_below (suc n) (λ j. cond (label w == j) 1 0)) (λ w k. hits_once (label w) (suc n)) in
      absurd (omega (arith, many, few, sum_below-swap (suc n) n (λ j w. cond (label w == j) 1 0))))
]

module _ (n : ℕ) (cap : ℕ → ℕ → ℕ) (s : State) (big : 1 < n) (p : IsPreflow n cap s) (ok : IsValid n s) (quiet : (v : ℕ) → v < n → is_active n s v ≡ false) where
  -- some label up to the number of nodes is no node's
  pub free : NoneAt n (suc n) s.label
  free = gap n s.label

  -- the nodes with a label above one that no node has
  abbrev pub above : ℕ → Bool
  above v = nat_lt free.0 (s.label v)

  abbrev level : ℕ
  level = free.0

  nobody : (v : ℕ) → v < n → s.label v ≡ level → ⊥
  nobody = free.1.1

  level-small : level < suc n
  level-small = free.1.0

  above-is : (v : ℕ) → above v ≡ nat_lt level (s.label v)
  above-is v = refl

  is-above : (v : ℕ) → level < s.label v → above v ≡ true
  is-above v h = above-is v ∙ lt-ltb level (s.label v) h

  not-above : (v : ℕ) → s.label v ≤ level → above v ≡ false
  not-above v h = above-is v ∙ le-ltb level (s.label v) h

  means-above : (v : ℕ) → above v ≡ true → level < s.label v
  means-above v e = elim (cases_lt level (s.label v)) [
    | inl less ↦ less
    | inr ge ↦ absurd (false≢true (sym (not-above v ge) ∙ e))
  ]

  means-below : (v : ℕ) → v < n → above v ≡ false → s.label v < level
  means-below v h e = elim (cases_lt level (s.label v)) [
    | inl less ↦ absurd (false≢true (sym e ∙ is-above v less))
    | inr ge ↦ elim (cases_lt (s.label v) level) [
      | inl less ↦ less
      | inr same ↦ absurd (nobody v h (omega (arith, ge, same)))
    ]
  ]

  -- the nodes with a label above a free one are a cut
  pub above-cut : IsCut above
  above-cut = record {
    with_source = is-above 0 (elim (cases_lt level n) [
      | inl less ↦ omega (arith, less, ok.source)
      | inr top ↦ absurd (nobody 0 (omega (arith, big)) (omega (arith, top, level-small, ok.source)))
    ]);
    without_sink = not-above 1 (omega (arith, ok.sink));
  }

  no-residual : between n above (λ w. not (above w)) s.res ≡ 0
  no-residual = sum_all_zero n (λ v. sum_below n (λ w. cond (above v && not (above w)) (s.res v w) 0))
      (λ v h. sum_all_zero n (λ w. cond (above v && not (above w)) (s.res v w) 0)
      (λ w k. cond_zero (above v) (above w) (s.res v w) (λ a b. elim (cases_lt 0 (s.res v w)) [
        | inr none ↦ omega (arith, none)
        | inl some ↦ absurd (omega (arith, ok.steps v w h k some, means-above v a, means-below w k b))
      ])))

  off-term : (v : ℕ) → v < n → (v ≡ 1 → ⊥) → cond (not (above v)) (s.excess v) 0 ≡ 0
  off-term v h other = elim (cases_Bool (above v)) [
    | inl on ↦ ap (λ (b : Bool). cond (not b) (s.excess v) 0) on
    | inr off ↦ elim (cases_lt 0 (s.excess v)) [
      | inr none ↦ ap (λ (b : Bool). cond (not b) (s.excess v) 0) off ∙ omega (arith, none)
      | inl some ↦ elim (cases_lt 1 v) [
        | inl inner ↦ absurd (false≢true (sym (quiet v h) ∙ is_active-true n s v inner some (omega (arith, means-below v h off, level-small))))
        | inr low ↦ (
            let none : v ≡ 0 = omega (arith, low, other) in
            absurd (false≢true (sym off ∙ ap above none ∙ above-cut.with_source)))
      ]
    ]
  ]

  -- what has reached the sink is at most the value of each cut
  pub excess-at-most : (side : ℕ → Bool) → IsCut side → s.excess 1 ≤ cut_value n cap side
  excess-at-most side cut = omega (arith, cut_identity n cap s side p cut.with_source, sink-le-held n s side big cut.without_sink)

  -- the value of the cut at a free label is at most what has reached the sink
  pub excess-at-least : cut_value n cap above ≤ s.excess 1
  excess-at-least =
      let all : held_off n s above ≤ cond (not (above 1)) (s.excess 1) 0 = one_term n (λ v. cond (not (above v)) (s.excess v) 0) off-term in
      omega (arith, cut_identity n cap s above p above-cut.with_source, no-residual, all, within (not (above 1)) (s.excess 1))
    where
      within : (b : Bool) (x : ℕ) → cond b x 0 ≤ x
      within true x = omega arith
      within false x = omega arith

-- the border of a least set has as many variables as units have reached the sink
module _ (c : Netlist) (held : List ℕ) (net : FlowNet) (is : IsNetworkOf c held net) (m : RunEnd) (end : IsMaxPreflow net m) where
  abbrev n : ℕ
  n = node_count net

  abbrev s : State
  s = state_of net m.flow

  two : 1 < n
  two = omega (arith, is.points.each)

  abbrev side : ℕ → Bool
  side = above n (capacity_between net) s two end.preflow end.valid end.none_active

  cut : IsCut side
  cut = above-cut n (capacity_between net) s two end.preflow end.valid end.none_active

  worth : leaving net side ≤ s.excess 1
  worth = excess-at-least n (capacity_between net) s two end.preflow end.valid end.none_active

  at-most : (other : ℕ → Bool) → IsCut other → s.excess 1 ≤ leaving net other
  at-most = excess-at-most n (capacity_between net) s two end.preflow end.valid end.none_active

  no-unbounded : NoUnboundedLeaves net side
  no-unbounded v w h k a b =
      let empty = closed_sets_are_cuts-law c held net [] is (empty-closed c.aig held) in
      omega (arith, arc-counts n (capacity_between net) side v w h k a b, worth, at-most empty.0 empty.1.is_cut, empty.1.count, empty-border c held, is.is_net.latches)

  -- the border of a least set has as many variables as units have reached the sink
  pub least-count : (gates : List ℕ) → IsLeast c held gates → border_size (move_of c held gates) ≡ s.excess 1
  least-count gates least =
      let found = cuts_are_closed-law c held net side (gates_of_nodes_below net side n) is cut no-unbounded (are-gates c held net is side) in
      let its = closed_sets_are_cuts-law c held net gates is least.closed in
      omega (arith, least.least (gates_of_nodes_below net side n) found.0, found.1, worth, at-most its.0 its.1.is_cut, its.1.count)

-- ---- what each arc carries

module _ (net : FlowNet) (ok : IsFlowNet net) (residuals xs : List ℕ) (carried : AreArcFlows net residuals xs) where
  arc-at : (v k : ℕ) → v < node_count net → k < row_len net v → start net v + k < length net.heads
  arc-at v k h l = omega (arith, h, l, ok.rows (v + 1) (node_count net) (omega (arith, h)) (omega arith), ok.last)

  rises : (v : ℕ) → v < node_count net → Rises (row_len net v) (head net v)
  rises v h = λ j k a b. ok.heads_rise v j k h a b

  pair-carried : (v w : ℕ) → v < node_count net → pair net xs v w ≡ capacity_between net v w - pair net residuals v w
  pair-carried v w h = elim (find_head (row_len net v) (head net v) w) [
    | inl found ↦ subst (λ (y : ℕ). pair net xs v y ≡ capacity_between net v y - pair net residuals v y) found.1.1 (omega (
      arith,
      sparse-at (row_len net v) (head net v) (λ k. slice_index xs (start net v + k)) found.0 (rises v h) found.1.0,
      sparse-at (row_len net v) (head net v) (λ k. cap_at net (start net v + k)) found.0 (rises v h) found.1.0,
      sparse-at (row_len net v) (head net v) (λ k. slice_index residuals (start net v + k)) found.0 (rises v h) found.1.0,
      carried.each (start net v + found.0) (arc-at v found.0 h found.1.0),
    ))
    | inr none ↦ omega (
      arith,
      sparse-none (row_len net v) (head net v) (λ k. slice_index xs (start net v + k)) w none,
      sparse-none (row_len net v) (head net v) (λ k. cap_at net (start net v + k)) w none,
      sparse-none (row_len net v) (head net v) (λ k. slice_index residuals (start net v + k)) w none,
    )
  ]

module _ (net : FlowNet) (ok : IsFlowNet net) (m : RunEnd) (end : IsMaxPreflow net m) (xs : List ℕ) (carried : AreArcFlows net m.flow.cells.residuals xs) where
  abbrev res : ℕ → ℕ → ℕ
  res = pair net m.flow.cells.residuals

  -- more comes in than goes out by the excess
  balance : (v : ℕ) → 0 < v → v < node_count net → out_of net xs v + slice_index m.flow.cells.excess v ≡ into net xs v
  balance v pos h = omega (
    arith,
    end.preflow.conserved v pos h,
    sum_below-add (node_count net) (pair net xs v) (res v),
    sum_below-add (node_count net) (capacity_between net v) (λ w. pair net xs w v),
    sum_below-same (node_count net) (λ w. pair net xs v w + res v w) (λ w. capacity_between net v w + pair net xs w v) (λ w l. omega (
      arith,
      pair-carried net ok m.flow.cells.residuals xs carried v w h,
      pair-carried net ok m.flow.cells.residuals xs carried w v l,
      end.preflow.paired v w h l,
    )),
  )

  -- what the arcs of a greatest flow carry is within capacities, and no inner node gives more than
  -- it gets
  pub holds-first : IsPreflowAt net xs 1
  holds-first = record {
    long = carried.long;
    within = λ v w h l. omega (arith, pair-carried net ok m.flow.cells.residuals xs carried v w h);
    kept = λ v big h. omega (arith, balance v (omega (arith, big)) h, here-zero v 1 (λ q. omega (arith, q, big)));
  }

  -- what the arcs carry into the sink is what has reached it
  pub reached-is : (c : Netlist) (held : List ℕ) → IsNetworkOf c held net → into net xs 1 ≡ slice_index m.flow.cells.excess 1
  reached-is c held is =
      let two : 1 < node_count net = omega (arith, ok.two) in
      let none : out_of net xs 1 ≡ 0 = sum_all_zero (node_count net) (pair net xs 1) (λ w l. omega (arith, pair-carried net ok m.flow.cells.residuals xs carried 1 w two, none-out-of-sink c held net is w two l)) in
      omega (arith, balance 1 (omega arith) two, none)

-- if no arc into a node carries anything, nothing comes in
pub nothing-comes : (net : FlowNet) (ok : IsFlowNet net) (xs : List ℕ) (w : ℕ) → w < node_count net → ((k : ℕ) → k < row_len net w → slice_index xs (mate net w k) ≡ 0) → into net xs w ≡ 0
nothing-comes net ok xs w h none = sum_all_zero (node_count net) (λ v. pair net xs v w) (λ v l. elim (cases_lt 0 (pair net xs v w)) [
  | inr zero' ↦ omega (arith, zero')
  | inl some ↦ (let arc = pair-mate net ok xs v w l h some in absurd (omega (arith, arc.1.1.1, none arc.0 arc.1.0)))
])
