-- No arc is used beyond its capacity.
use Rattle.std.proofs.Common.{◌≡◌, ℕ, suc, zero, ◌+◌, ◌<◌, ◌≤◌, ◌==◌, ◌&&◌, ◌⊎◌, nat_lt, cond, Bool, true, false, List, [], ◌∷◌, length, All, count_by, Some, arith, refl, ap, sym, ◌∙◌, subst, inl, inr}
use Rattle.std.specs.List.{AllByRecursion, IsDistinct}
use Rattle.std.proofs.lemmas.Bool.{cases_lt, cases_eq, cases_Bool, cond-true, cond-false, ne_eqb, eq-eqb, lt-ltb, and_from}
use Rattle.std.proofs.lemmas.Option.{same_Some, none-some}
use Rattle.aig_graph.specs.Counting.{count_below}
use Rattle.aig_graph.proofs.PlacesLaws.{count-zero, count-pass, count-fail}
use Rattle.aig_graph.proofs.ListLaws.{count_by-cons}
use Rattle.aig_graph.specs.Circuits.{Netlist}
use Rattle.aig_graph.proofs.SetLaws.{empty-closed}
use Rattle.frame_net.specs.declared.net.Point.{Point}
use Rattle.frame_net.specs.FlowNet.{FlowNet, Node, node_at, node_point, node_count, point_of, capacity_between}
use Rattle.frame_net.specs.FlowNet.Node.{source, sink, before, after}
use Rattle.frame_net.specs.Capacity.{unbounded, is_observed, gate_reads, node_variables, latch_count, arc_capacity}
use Rattle.aig_graph.specs.Graph.{gate_at}
use Rattle.frame_net.proofs.NodeLaws.{view}
use Rattle.frame_net.specs.Cuts.{IsNetworkOf}
use Rattle.frame_net.proofs.NetLaws.{nodes, node-is}
use Rattle.frame_net.proofs.LeastCutLaws.{empty-border}
use Rattle.certificates.specs.Routes.{is_route, passed, all_passed}
use Rattle.certificates.proofs.RouteLaws.{passed-behind, passed-before, border-of-routes}
use Rattle.certificates.proofs.ApartLaws.{count-le, count-none, count-distinct, count-append}
use Rattle.cut_cert.specs.Shown.{HasNoPointTwice, AreLeastRoutes}
use Rattle.cut_cert.proofs.LoweringLaws.{here-one, here-zero}
use Rattle.cut_cert.proofs.ArcPointLaws.{capacity-is}
use Rattle.cut_cert.specs.Steps.{all_steps}
use Rattle.cut_cert.proofs.WalkFlowLaws.{to_sink, all_to_sink, AreBelow, AllBelow}
use Rattle.cut_cert.proofs.VisitLaws.{times, all_times, all-times, all-inner, all-few}
use Rattle.cut_cert.proofs.RoutePointLaws.{IsPlace, number, number-in, number-inner, point-of-number, path, paths}
use Rattle.cut_cert.proofs.PointOrderLaws.{inner-of, point-none, point-inner}
use Rattle.cut_cert.proofs.StepLaws.{route-places, once-sink, all-some}

-- what holds of the element at each place holds of all by recursion
pub all-rec : {A : Type 0} (P : A → Type 0) (xs : List A) → All P xs → AllByRecursion P xs
all-rec P [] all = tt
all-rec P (x ∷ xs) all = (all 0 x (omega arith), all-rec P xs (λ k d h. all (suc k) d (omega (arith, h))))

-- ---- a number stands at most once in a list of numbers no two of which are equal

module _ (v : ℕ) where
  abbrev is_v : ℕ → Bool
  is_v u = v == u

  none-upto : (n : ℕ) → n ≤ v → count_below is_v n ≡ 0
  none-upto zero h = count-zero is_v
  none-upto (suc n) h = count-fail is_v n (ne_eqb v n (λ e. omega (arith, e, h))) ∙ none-upto n (omega (arith, h))

  guarded : (u : ℕ) → cond {A = ℕ} (v == u) 1 0 ≤ cond {A = ℕ} ((v == u) && nat_lt u (suc v)) 1 0 + cond {A = ℕ} false 1 0
  guarded u = elim (cases_eq v u) [
    | inl same ↦ omega (
      arith,
      cond-true {A = ℕ} (v == u) 1 0 (eq-eqb v u same),
      cond-true {A = ℕ} ((v == u) && nat_lt u (suc v)) 1 0 (and_from (v == u) (nat_lt u (suc v)) (eq-eqb v u same) (lt-ltb u (suc v) (omega (arith, same)))),
    )
    | inr other ↦ omega (arith, cond-false {A = ℕ} (v == u) 1 0 (ne_eqb v u other))
  ]

  -- a number stands at most once in a list of different ones
  pub at-most-once : (xs : List ℕ) → IsDistinct (λ a b. a == b) xs → count_by is_v xs ≤ 1
  at-most-once xs d =
      omega (
        arith,
        count-le is_v (λ u. is_v u && nat_lt u (suc v)) (λ u. false) guarded xs,
        count-none (λ u. false) (λ u. refl) xs,
        count-distinct is_v xs d (suc v),
        count-pass is_v v (eq-eqb v v refl),
        none-upto v (omega arith),
      )

positive : (t : Bool) (m : ℕ) → 0 < cond t m 0 → cond t m 0 ≡ m
positive true m h = refl
positive false m h = absurd (omega (arith, h))

module _ (c : Netlist) (held : List ℕ) (net : FlowNet) (is : IsNetworkOf c held net) where
  abbrev num : Point → ℕ
  num p = number c.aig held p

  abbrev way : List Point → List ℕ
  way route = path c held net is route

  times-passed : (q : Point) → IsPlace c.aig held q → q.behind ≡ true → (route : List Point) → AllByRecursion (λ p. IsPlace c.aig held p) route → times (num q) (way route) ≤ count_by (λ u. q.var == u) (passed route)
  times-passed q at back [] places = omega arith
  times-passed q at back (p ∷ rest) places =
      let ih = times-passed q at back rest places.1 in
      elim (cases_eq (num q) (num p)) [
        | inl same ↦ (
            let points : q ≡ p = same_Some _ _ (sym (point-of-number c held net is q at) ∙ ap (point_of net) same ∙ point-of-number c held net is p places.0) in
            let behind : p.behind ≡ true = sym (ap (λ (x : Point). x.behind) points) ∙ back in
            let var : q.var ≡ p.var = ap (λ (x : Point). x.var) points in
            omega (
              arith,
              ih,
              here-one (num q) (num p) same,
              ap (λ (xs : List ℕ). count_by (λ u. q.var == u) xs) (passed-behind p rest behind),
              count_by-cons (λ u. q.var == u) p.var (passed rest),
              cond-true {A = ℕ} (q.var == p.var) 1 0 (eq-eqb q.var p.var var),
            ))
        | inr other ↦ elim (cases_Bool p.behind) [
          | inl behind ↦ omega (
            arith,
            ih,
            here-zero (num q) (num p) other,
            ap (λ (xs : List ℕ). count_by (λ u. q.var == u) xs) (passed-behind p rest behind),
            count_by-cons (λ u. q.var == u) p.var (passed rest),
          )
          | inr front ↦ omega (arith, ih, here-zero (num q) (num p) other, ap (λ (xs : List ℕ). count_by (λ u. q.var == u) xs) (passed-before p rest front))
        ]
      ]

  abbrev pub AreRight : List (List Point) → Type 0
  AreRight routes = AllByRecursion (λ route. is_route c held route ≡ true) routes

  all-passed : (q : Point) → IsPlace c.aig held q → q.behind ≡ true → (routes : List (List Point)) → AreRight routes → all_times (num q) (paths c held net is routes) ≤ count_by (λ u. q.var == u) (all_passed routes)
  unfolding all_passed
  all-passed q at back [] right = omega arith
  all-passed q at back (route ∷ routes) right =
      omega (
        arith,
        count-append (λ u. q.var == u) (passed route) (all_passed routes),
        times-passed q at back route (route-places c held net is route right.0),
        all-passed q at back routes right.1,
      )

  few : (y : ℕ) (routes : List (List Point)) → AreRight routes → AllByRecursion HasNoPointTwice routes → AllByRecursion (λ ns. times y (to_sink ns) ≤ 1) (paths c held net is routes)
  few y [] right once = tt
  few y (route ∷ routes) right once = (once-sink c held net is y route right.0 once.0, few y routes right.1 once.1)

  -- there is a path for each route
  pub long : (routes : List (List Point)) → length (paths c held net is routes) ≡ length routes
  long [] = refl
  long (route ∷ routes) = ap (λ (m : ℕ). suc m) (long routes)

  abbrev kind : ℕ → Node
  kind n = node_at (latch_count c.aig held) (node_variables c.aig held) n

  big-arc : (a b : Node) → 0 < arc_capacity c.aig c.props held a b → ((v : ℕ) × (b ≡ after v)) ⊎ (arc_capacity c.aig c.props held a b ≡ unbounded c.aig held)
  big-arc a (after v) h = inl (v, refl)
  big-arc (after v) (before w) h = inr (positive (gate_reads v (gate_at c.aig w)) (unbounded c.aig held) h)
  big-arc (before w) (before v) h = inr (positive (gate_reads v (gate_at c.aig w)) (unbounded c.aig held) h)
  big-arc (after v) sink h = inr (positive (is_observed c.aig c.props held v) (unbounded c.aig held) h)
  big-arc source source h = absurd (omega (arith, h))
  big-arc source sink h = absurd (omega (arith, h))
  big-arc source (before w) h = absurd (omega (arith, h))
  big-arc sink source h = absurd (omega (arith, h))
  big-arc sink sink h = absurd (omega (arith, h))
  big-arc sink (before w) h = absurd (omega (arith, h))
  big-arc (before v) source h = absurd (omega (arith, h))
  big-arc (before v) sink h = absurd (omega (arith, h))
  big-arc (after v) source h = absurd (omega (arith, h))

  -- an arc to after a variable, or one of the unbounded capacity
  pub arc-kinds : (x y : ℕ) → x < node_count net → y < node_count net → 0 < capacity_between net x y → ((v : ℕ) × (point_of net y ≡ Some (record { var = v; behind = true }))) ⊎ (capacity_between net x y ≡ unbounded c.aig held)
  arc-kinds x y h l some =
      let cap = capacity-is c held net is x y h l in
      elim (big-arc (kind x) (kind y) (subst (λ (m : ℕ). 0 < m) cap some)) [
        | inl to ↦ inl (to.0, ap node_point (node-is c held net is y ∙ to.1))
        | inr all ↦ inr (cap ∙ all)
      ]

  module _ (routes : List (List Point)) (shown : AreLeastRoutes c held routes) where
    -- each route is one
    pub right : AreRight routes
    right = all-rec (λ route. is_route c held route ≡ true) routes shown.right

    abbrev pub uses : ℕ → ℕ → ℕ
    uses x y = all_steps (all_to_sink (paths c held net is routes)) x y

    -- no pair of nodes is used more often than there are known latches
    pub uses-few : (x y : ℕ) → uses x y ≤ latch_count c.aig held
    uses-few x y =
        omega (
          arith,
          all-few (paths c held net is routes) x y (few y routes right (all-rec HasNoPointTwice routes shown.once)),
          long routes,
          border-of-routes c held [] (empty-closed c.aig held) routes shown.right shown.apart,
          empty-border c held,
        )

    -- a pair of nodes to after a variable is used at most once
    pub uses-behind : (x y v : ℕ) → y < node_count net → point_of net y ≡ Some (record { var = v; behind = true }) → uses x y ≤ 1
    uses-behind x y v l e = elim (inner-of c.aig held y (view c.aig held y (omega (arith, l, nodes c held net is)))) [
      | inl low ↦ absurd (none-some _ (sym (point-none c held net is y low) ∙ e))
      | inr i ↦ (
          let point : i.point ≡ record { var = v; behind = true } = same_Some _ _ (sym (point-inner c held net is y i) ∙ e) in
          let back : i.point.behind ≡ true = ap (λ (p : Point). p.behind) point in
          let times-few : all_times y (paths c held net is routes) ≤ count_by (λ u. i.point.var == u) (all_passed routes) =
          subst (λ (u : ℕ). all_times u (paths c held net is routes) ≤ count_by (λ u. i.point.var == u) (all_passed routes)) (sym i.is) (all-passed i.point i.place back routes right) in
          omega (
            arith,
            all-inner (paths c held net is routes) x y (λ q. omega (arith, q, i.is, number-inner c.aig held i.point)),
            all-times (paths c held net is routes) x y,
            times-few,
            at-most-once i.point.var (all_passed routes) shown.apart,
          ))
    ]

    -- no pair of nodes is used beyond its capacity
    pub uses-fit : (x y : ℕ) → x < node_count net → y < node_count net → uses x y ≤ capacity_between net x y
    uses-fit x y h l = elim (cases_lt 0 (uses x y)) [
      | inr none ↦ omega (arith, none)
      | inl some ↦ (
          let cap : 0 < capacity_between net x y = all-some c held net is routes right x y some in
          elim (arc-kinds x y h l cap) [
            | inl behind ↦ omega (arith, cap, uses-behind x y behind.0 l behind.1)
            | inr all ↦ omega (arith, all, uses-few x y)
          ])
    ]

  places-below : (route : List Point) → AllByRecursion (λ p. IsPlace c.aig held p) route → AreBelow (node_count net) (way route)
  places-below [] places = tt
  places-below (p ∷ rest) places = (number-in c held net is p places.0, places-below rest places.1)

  -- the nodes of the routes' paths are nodes of the network
  pub ways-below : (two : 1 < node_count net) (routes : List (List Point)) → AreRight routes → AllBelow (node_count net) two (paths c held net is routes)
  ways-below two [] _ = tt
  ways-below two (route ∷ routes) all = (places-below route (route-places c held net is route all.0), ways-below two routes all.1)
