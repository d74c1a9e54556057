-- The gates to which open arcs lead from the source are the smallest least set.
use Rattle.std.proofs.Common.{◌≡◌, ℕ, suc, zero, ◌+◌, ◌*◌, ◌<◌, ◌≤◌, ◌&&◌, nat_lt, not, Bool, true, false, List, [], length, slice_index_or, Some, None, Option, arith, refl, ap, sym, ◌∙◌, subst, inl, inr}
use Rattle.std.proofs.lemmas.Bool.{cases_lt, cases_Bool, lt-ltb, le-ltb, and_from, false_from_ne_true, not-true, and_parts}
use Rattle.aig_graph.specs.Circuits.{Netlist}
use Rattle.aig_graph.specs.Move.{move_of}
use Rattle.aig_graph.specs.Closed.{IsClosedSet}
use Rattle.aig_graph.specs.Border.{border_size, IsLeast, IsSmallestLeast}
use Rattle.aig_graph.proofs.SetLaws.{empty-closed}
use Rattle.frame_net.specs.Flow.{State, IsPreflow}
use Rattle.frame_net.specs.declared.net.Point.{Point}
use Rattle.frame_net.specs.FlowNet.{FlowNet, IsFlowNet, HasMate, node_count, start, row_len, head, mate, cap_at, point_of, capacity_between}
use Rattle.frame_net.specs.Capacity.{latch_count}
use Rattle.frame_net.specs.Cuts.{IsNetworkOf}
use Rattle.frame_net.proofs.SetCutLaws.{closed_sets_are_cuts-law}
use Rattle.frame_net.proofs.SparseRowLaws.{sparse-at}
use Rattle.cut_cert.specs.Gates.{gates_of_nodes_below}
use Rattle.cut_cert.proofs.GateLaws.{are-gates}
use Rattle.cut_cert.specs.Walks.{here}
use Rattle.cut_cert.specs.Shown.{AreLeastRoutes}
use Rattle.cut_cert.proofs.LoweringLaws.{here-one, here-zero}
use Rattle.cut_cert.proofs.ArcPointLaws.{one-arc}
use Rattle.cut_cert.specs.Cuts.{NoneLeaves, IsNearSide}
use Rattle.cut_cert.specs.Steps.{is_open, is_used, is_behind, all_steps, AreUsed, NoneOpen, IsOpenSide, HasArc}
use Rattle.cut_cert.proofs.NearSideLaws.{none_leaves-cut, near_side_is_smallest-law}
use Rattle.cut_cert.proofs.SmallestSetLaws.{smallest_cut_is_smallest_set-law}
use Rattle.cut_cert.proofs.OpenWalkLaws.{open-back, open-else}
use Rattle.cut_cert.proofs.WalkFlowLaws.{all_to_sink, sent, sent-preflow}
use Rattle.cut_cert.proofs.VisitLaws.{all-inner}
use Rattle.cut_cert.proofs.RoutePointLaws.{leads, paths, routes-ways}
use Rattle.cut_cert.proofs.PointOrderLaws.{points-rise}
use Rattle.cut_cert.proofs.CapacityLaws.{right, uses-few, uses-fit, ways-below, arc-kinds, long}

lt-true : (a b : ℕ) → nat_lt a b ≡ true → a < b
lt-true a b e = elim (cases_lt a b) [ inl less ↦ less | inr ge ↦ (let clash : false ≡ true = sym (le-ltb a b ge) ∙ e in absurd (cc)) ]

-- that there is no least set is refuted
least-there : (c : Netlist) (held : List ℕ) → ((r : List ℕ) → IsLeast c held r → ⊥) → ⊥
least-there c held none = go (border_size (move_of c held [])) [] (empty-closed c.aig held) (omega arith)
  where
    go : (k : ℕ) (s : List ℕ) → IsClosedSet c.aig held s → border_size (move_of c held s) ≤ k → ⊥
    go zero s set le = none s (record { closed = set; least = λ r other. omega (arith, le) })
    go (suc k) s set le = none s (record {
      closed = set;
      least = λ r other. elim (cases_lt (border_size (move_of c held r)) (border_size (move_of c held s))) [
        | inr ge ↦ ge
        | inl less ↦ absurd (go k r other (omega (arith, less, le)))
      ];
    })

module _ (c : Netlist) (held : List ℕ) (net : FlowNet) (is : IsNetworkOf c held net) (ok : IsFlowNet net) (routes : List (List Point)) (shown : AreLeastRoutes c held routes)
    (used : List Bool) (marks : AreUsed net routes used) (side : ℕ → Bool) (spread : IsOpenSide net used side) where
  abbrev n : ℕ
  n = node_count net

  two : 1 < n
  two = omega (arith, is.points.each)

  abbrev ways : List (List ℕ)
  ways = paths c held net is routes

  abbrev cap : ℕ → ℕ → ℕ
  cap = capacity_between net

  abbrev u : ℕ → ℕ → ℕ
  u x y = all_steps (all_to_sink ways) x y

  abbrev s : State
  s = sent n two cap ways

  preflow : IsPreflow n cap s
  preflow = sent-preflow n two cap ways (ways-below c held net is two routes (right c held net is routes shown)) (λ x y h l. uses-fit c held net is routes shown x y h l)

  used-is : (x k : ℕ) → x < n → k < row_len net x → (head net x k ≡ 1 → ⊥) → is_used net used x k ≡ nat_lt 0 (u x (head net x k))
  used-is x k h l other =
      marks.each (points-rise c held net is) ways (routes-ways c held net is routes (right c held net is routes shown)) x k h l
      ∙ ap (λ (m : ℕ). nat_lt 0 m) (sym (all-inner ways x (head net x k) other))

  cap-is : (x k : ℕ) → x < n → k < row_len net x → cap x (head net x k) ≡ cap_at net (start net x + k)
  cap-is x k h l = sparse-at (row_len net x) (head net x) (λ j. cap_at net (start net x + j)) k (λ i j a b. ok.heads_rise x i j h a b) l

  mate-used : (x k : ℕ) → x < n → k < row_len net x → (x ≡ 1 → ⊥) → slice_index_or used (mate net x k) false ≡ nat_lt 0 (u (head net x k) x)
  mate-used x k h l other =
      let m : HasMate net x k = ok.meets x k h l in
      let back : head net (head net x k) m.place ≡ x = m.back in
      ap (λ (a : ℕ). slice_index_or used a false) m.arc
      ∙ used-is (head net x k) m.place (ok.heads_in x k h l) m.inside (λ e. other (sym back ∙ e))
      ∙ ap (λ (y : ℕ). nat_lt 0 (u (head net x k) y)) back

  behind-inner : (y : ℕ) → is_behind (point_of net y) ≡ true → y ≡ 1 → ⊥
  behind-inner y e one =
      let clash : false ≡ true = sym (ap is_behind (ap (point_of net) one)) ∙ e in
      absurd (cc)

  -- an open arc has a residual
  open-res : (x k : ℕ) → x < n → k < row_len net x → (x ≡ 1 → ⊥) → is_open net used x k ≡ true → 0 < s.res x (head net x k)
  open-res x k h l other e =
      let y : ℕ = head net x k in
      let inside : y < n = ok.heads_in x k h l in
      let fit : u x y ≤ cap x y = uses-fit c held net is routes shown x y h inside in
      elim (cases_Bool (slice_index_or used (mate net x k) false)) [
        | inl back ↦ (let some : 0 < u y x = lt-true 0 (u y x) (sym (mate-used x k h l other) ∙ back) in omega (arith, some, fit))
        | inr off ↦ (
            let parts = and_parts (nat_lt 0 (cap_at net (start net x + k))) (not (is_behind (point_of net y) && is_used net used x k)) (sym (open-else net used x k off) ∙ e) in
            let room : 0 < cap x y = omega (arith, cap-is x k h l, lt-true 0 (cap_at net (start net x + k)) parts.0) in
            elim (arc-kinds c held net is x y h inside room) [
              | inr all ↦ omega (arith, all, uses-few c held net is routes shown x y)
              | inl to ↦ (
                  let behind : is_behind (point_of net y) ≡ true = ap is_behind to.1 in
                  let free : is_used net used x k ≡ false = sym (ap (λ (b : Bool). b && is_used net used x k) behind) ∙ not-true _ parts.1 in
                  let none : u x y ≤ 0 = unused (u x y) (sym (used-is x k h l (behind-inner y behind)) ∙ free) in
                  omega (arith, none, room))
            ])
      ]
    where
      unused : (m : ℕ) → nat_lt 0 m ≡ false → m ≤ 0
      unused m e = elim (cases_lt 0 m) [ inr none ↦ none | inl some ↦ (let clash : true ≡ false = sym (lt-ltb 0 m some) ∙ e in absurd (cc)) ]

  -- a pair with a residual has an open arc
  res-arc : (x k : ℕ) → x < n → k < row_len net x → (x ≡ 1 → ⊥) → 0 < s.res x (head net x k) → is_open net used x k ≡ true
  res-arc x k h l other some =
      let y : ℕ = head net x k in
      let inside : y < n = ok.heads_in x k h l in
      elim (cases_lt 0 (u y x)) [
        | inl back ↦ open-back net used x k (mate-used x k h l other ∙ lt-ltb 0 (u y x) back)
        | inr none ↦ (
            let room : 0 < cap_at net (start net x + k) = omega (arith, some, none, cap-is x k h l) in
            let free : (is_behind (point_of net y) && is_used net used x k) ≡ false = false_from_ne_true _ (λ e.
            let parts = and_parts (is_behind (point_of net y)) (is_used net used x k) e in
            let once : 0 < u x y = lt-true 0 (u x y) (sym (used-is x k h l (behind-inner y parts.0)) ∙ parts.1) in
            elim (arc-kinds c held net is x y h inside (omega (arith, room, cap-is x k h l))) [
              | inl to ↦ omega (arith, once, some, none, one-arc c held net is x y to.0 h inside to.1)
              | inr all ↦ omega (arith, some, none, all, behind-one y parts.0 x h inside, is.is_net.latches, latches-some x y)
            ]) in
            open-else net used x k (mate-used x k h l other ∙ le-ltb 0 (u y x) none) ∙ and_from (nat_lt 0 (cap_at net (start net x + k))) _ (lt-ltb 0 _ room) (ap not free))
      ]
    where
      behind-one : (y : ℕ) → is_behind (point_of net y) ≡ true → (x : ℕ) → x < n → y < n → cap x y ≤ 1
      behind-one y e x h l = by-point (point_of net y) refl e
        where
          by-point : (o : Option Point) → point_of net y ≡ o → is_behind o ≡ true → cap x y ≤ 1
          by-point None q e = absurd (cc)
          by-point (Some p) q e = one-arc c held net is x y p.var h l (q ∙ ap (λ (b : Bool). Some (record { var = p.var; behind = b })) e)

      latches-some : (x y : ℕ) → u x y ≤ latch_count c.aig held
      latches-some x y = uses-few c held net is routes shown x y

  arc-of : (x y : ℕ) → x < n → y < n → 0 < s.res x y → HasArc net x y
  arc-of x y h l some = elim (cases_lt 0 (cap x y)) [
    | inl room ↦ leads c held net is x y room
    | inr none ↦ (
        let back = leads c held net is y x (omega (arith, some, none, uses-fit c held net is routes shown y x l h)) in
        let m : HasMate net y back.0 = ok.meets y back.0 l back.1.0 in
        (m.place, (subst (λ (v : ℕ). m.place < row_len net v) back.1.1 m.inside, subst (λ (v : ℕ). head net v m.place ≡ y) back.1.1 m.back)))
  ]

  -- a set without the sink that no residual arc leaves is one that no open arc leaves
  none-open : (other : ℕ → Bool) → other 1 ≡ false → NoneLeaves n s other → NoneOpen net used other
  none-open other off none x k h l on e = none x (head net x k) h (ok.heads_in x k h l) on (open-res x k h l (λ one. (let clash : false ≡ true = sym off ∙ ap other (sym one) ∙ on in absurd (cc))) e)

  reached : s.excess 1 ≡ length routes
  reached =
      let one : here 1 1 ≡ 1 = here-one 1 1 refl in
      ap (λ (m : ℕ). length ways * m) one ∙ omega (arith, long c held net is routes)

  -- the sink isn't reached, since the cut of no least set lets it be
  no-sink : side 1 ≡ false
  no-sink = false_from_ne_true (side 1) (λ on. least-there c held (λ r least.
      let t = closed_sets_are_cuts-law c held net r is least.closed in
      let tight = none_leaves-cut n cap s t.0 two preflow t.1.is_cut (omega (arith, t.1.count, shown.count r least, reached)) in
      let there = spread.within t.0 t.1.is_cut.with_source (none-open t.0 t.1.is_cut.without_sink tight) 1 on in
      let clash : false ≡ true = sym t.1.is_cut.without_sink ∙ there in
      absurd (cc)))

  off-sink : (x : ℕ) → side x ≡ true → x ≡ 1 → ⊥
  off-sink x on one = let clash : false ≡ true = sym no-sink ∙ ap side (sym one) ∙ on in absurd (cc)

  near : IsNearSide n s side
  near = record {
    with_source = spread.with_source;
    none_leaves = λ x y h l on some.
        let arc = arc-of x y h l some in
        subst (λ (v : ℕ). side v ≡ true) arc.1.1 (spread.none_open x arc.0 h arc.1.0 on (res-arc x arc.0 h arc.1.0 (off-sink x on) (subst (λ (v : ℕ). 0 < s.res x v) (sym arc.1.1) some)));
    within = λ other source none v h on.
        let both : ℕ → Bool = λ w. other w && side w in
        (and_parts (other v) (side v) (spread.within both (and_from (other 0) (side 0) source spread.with_source)
        (λ x k hx l in' e.
        let parts = and_parts (other x) (side x) in' in
        and_from (other (head net x k)) (side (head net x k)) (none x (head net x k) hx (ok.heads_in x k hx l) parts.0 (open-res x k hx l (off-sink x parts.1) e)) (spread.none_open x k hx l parts.1 e)) v on)).0;
  }

  drained : (v : ℕ) → 1 < v → v < n → s.excess v ≡ 0
  drained v big h = ap (λ (m : ℕ). length ways * m) (here-zero v 1 (λ e. omega (arith, e, big))) ∙ omega arith

  -- the gates of the nodes to which open arcs lead from the source are the smallest least set
  pub near-set : IsSmallestLeast c held (gates_of_nodes_below net side n)
  near-set = smallest_cut_is_smallest_set-law c held net side (gates_of_nodes_below net side n) is (near_side_is_smallest-law n cap s side two preflow drained near no-sink) (are-gates c held net is side)
