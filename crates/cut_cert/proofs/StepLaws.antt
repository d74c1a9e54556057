-- Steps of routes are over arcs with a capacity, and no arc is used beyond it.
use Rattle.std.proofs.Common.{◌≡◌, ℕ, ◌<◌, ◌≤◌, ◌==◌, cond, Bool, true, false, List, [], ◌∷◌, arith, refl, ap, sym, ◌∙◌, subst, inl, inr}
use Rattle.std.specs.List.{AllByRecursion}
use Rattle.std.proofs.lemmas.Bool.{cases_lt, cases_eq, cond-true, cond-false, ne_eqb, and_parts}
use Rattle.std.proofs.lemmas.Option.{same_Some}
use Rattle.aig_graph.specs.Circuits.{Netlist}
use Rattle.frame_net.specs.declared.net.Point.{Point}
use Rattle.frame_net.specs.FlowNet.{FlowNet, Node, point_of, capacity_between}
use Rattle.frame_net.specs.FlowNet.Node.{sink, before, after}
use Rattle.frame_net.specs.Capacity.{unbounded, is_observed, arc_capacity}
use Rattle.frame_net.specs.Cuts.{IsNetworkOf}
use Rattle.certificates.specs.Routes.{begins_at, may_step, goes_on, is_route}
use Rattle.cut_cert.specs.Walks.{here}
use Rattle.cut_cert.specs.Shown.{HasNoPointTwice}
use Rattle.cut_cert.proofs.LoweringLaws.{here-one, here-zero}
use Rattle.cut_cert.proofs.ArcPointLaws.{capacity-is}
use Rattle.cut_cert.specs.Steps.{steps_of, all_steps}
use Rattle.cut_cert.proofs.MarkLaws.{steps-next, steps-none, all-next, all-none}
use Rattle.cut_cert.proofs.WalkFlowLaws.{to_sink, all_to_sink}
use Rattle.cut_cert.proofs.VisitLaws.{times, times-sink}
use Rattle.cut_cert.proofs.RoutePointLaws.{IsPlace, number, kind-is, number-in, number-inner, point-of-number, may-lead, begin-some, path, paths}

spot-means : (a b x y : ℕ) → 0 < cond (x == a) (here y b) 0 → (x ≡ a) × (y ≡ b)
spot-means a b x y some = elim (cases_eq x a) [
  | inr other ↦ absurd (omega (arith, some, cond-false (x == a) (here y b) 0 (ne_eqb x a other)))
  | inl same ↦ elim (cases_eq y b) [
    | inl there ↦ (same, there)
    | inr off ↦ absurd (omega (arith, some, within (x == a) (here y b), here-zero y b off))
  ]
]
  where
    within : (b : Bool) (m : ℕ) → cond b m 0 ≤ m
    within true m = omega arith
    within false m = omega arith

module _ (c : Netlist) (held : List ℕ) (net : FlowNet) (is : IsNetworkOf c held net) where
  abbrev num : Point → ℕ
  num p = number c.aig held p

  abbrev way : List Point → List ℕ
  way route = path c held net is route

  last-some : (p : Point) → IsPlace c.aig held p → goes_on c held p [] ≡ true → 0 < capacity_between net (num p) 1
  unfolding goes_on
  last-some p at g =
      let parts = and_parts p.behind (is_observed c.aig c.props held p.var) g in
      let cap : capacity_between net (num p) 1 ≡ unbounded c.aig held =
      capacity-is c held net is (num p) 1 (number-in c held net is p at) (omega (arith, number-in c held net is p at, number-inner c.aig held p))
      ∙ ap (λ (x : Node). arc_capacity c.aig c.props held x sink) (kind-is c.aig held p at ∙ cond-true p.behind (after p.var) (before p.var) parts.0)
      ∙ cond-true {A = ℕ} (is_observed c.aig c.props held p.var) (unbounded c.aig held) 0 parts.1 in
      omega (arith, cap)

  step-parts : (p q : Point) (rest : List Point) → goes_on c held p (q ∷ rest) ≡ true → (may_step c.aig held p q ≡ true) × (goes_on c held q rest ≡ true)
  unfolding goes_on
  step-parts p q rest g = and_parts (may_step c.aig held p q) (goes_on c held q rest) g

  goes-some : (p : Point) (rest : List Point) → IsPlace c.aig held p → goes_on c held p rest ≡ true → (x y : ℕ) → 0 < steps_of (num p) (to_sink (way rest)) x y → 0 < capacity_between net x y
  goes-some p [] at g x y some =
      let is' = spot-means (num p) 1 x y (omega (arith, some, steps-next (num p) 1 [] x y, steps-none 1 x y)) in
      subst (λ (u : ℕ). 0 < capacity_between net u y) (sym is'.0) (subst (λ (u : ℕ). 0 < capacity_between net (num p) u) (sym is'.1) (last-some p at g))
  goes-some p (q ∷ rest) at g x y some =
      let parts = step-parts p q rest g in
      let to = may-lead c held net is p q at parts.0 in
      elim (cases_lt 0 (cond (x == num p) (here y (num q)) 0)) [
        | inl now ↦ (
            let is' = spot-means (num p) (num q) x y now in
            subst (λ (u : ℕ). 0 < capacity_between net u y) (sym is'.0) (subst (λ (u : ℕ). 0 < capacity_between net (num p) u) (sym is'.1) to.some))
        | inr none ↦ goes-some q rest to.place parts.1 x y (omega (arith, some, none, steps-next (num p) (num q) (to_sink (way rest)) x y))
      ]

  -- each step of a route, on to the sink, is over an arc with a capacity
  pub route-some : (route : List Point) → is_route c held route ≡ true → (x y : ℕ) → 0 < steps_of 0 (to_sink (way route)) x y → 0 < capacity_between net x y
  route-some [] r x y some = absurd (cc)
  route-some (p ∷ rest) r x y some =
      let parts = and_parts (begins_at c.aig p) (goes_on c held p rest) r in
      let start = begin-some c held net is p parts.0 in
      elim (cases_lt 0 (cond (x == 0) (here y (num p)) 0)) [
        | inl now ↦ (
            let is' = spot-means 0 (num p) x y now in
            subst (λ (u : ℕ). 0 < capacity_between net u y) (sym is'.0) (subst (λ (u : ℕ). 0 < capacity_between net 0 u) (sym is'.1) start.1))
        | inr none ↦ goes-some p rest start.0 parts.1 x y (omega (arith, some, none, steps-next 0 (num p) (to_sink (way rest)) x y))
      ]

  -- each step of the routes, on to the sink, is over an arc with a capacity
  pub all-some : (routes : List (List Point)) → AllByRecursion (λ route. is_route c held route ≡ true) routes → (x y : ℕ) → 0 < all_steps (all_to_sink (paths c held net is routes)) x y → 0 < capacity_between net x y
  all-some [] all x y some = absurd (omega (arith, some, all-none x y))
  all-some (route ∷ routes) all x y some = elim (cases_lt 0 (steps_of 0 (to_sink (way route)) x y)) [
    | inl now ↦ route-some route all.0 x y now
    | inr none ↦ all-some routes all.1 x y (omega (arith, some, none, all-next (to_sink (way route)) (all_to_sink (paths c held net is routes)) x y))
  ]

  -- ---- no node stands twice on a route

  abbrev pub ArePlaces : List Point → Type 0
  ArePlaces route = AllByRecursion (λ p. IsPlace c.aig held p) route

  goes-places : (p : Point) (rest : List Point) → IsPlace c.aig held p → goes_on c held p rest ≡ true → ArePlaces rest
  goes-places p [] at g = tt
  goes-places p (q ∷ rest) at g =
      let parts = step-parts p q rest g in
      let to = may-lead c held net is p q at parts.0 in
      (to.place, goes-places q rest to.place parts.1)

  -- each point of a route has a node
  pub route-places : (route : List Point) → is_route c held route ≡ true → ArePlaces route
  route-places [] r = tt
  route-places (p ∷ rest) r =
      let parts = and_parts (begins_at c.aig p) (goes_on c held p rest) r in
      let start = begin-some c held net is p parts.0 in
      (start.0, goes-places p rest start.0 parts.1)

  absent : (p : Point) (rest : List Point) → IsPlace c.aig held p → ArePlaces rest → AllByRecursion (λ q. p ≡ q → ⊥) rest → times (num p) (way rest) ≡ 0
  absent p [] at places off = refl
  absent p (q ∷ rest) at places off =
      let none : here (num p) (num q) ≡ 0 = here-zero (num p) (num q) (λ e. off.0 (same_Some _ _ (sym (point-of-number c held net is p at) ∙ ap (point_of net) e ∙ point-of-number c held net is q places.0))) in
      omega (arith, none, absent p rest at places.1 off.1)

  once : (y : ℕ) (route : List Point) → ArePlaces route → HasNoPointTwice route → times y (way route) ≤ 1
  once y [] places twice = omega arith
  once y (p ∷ rest) places twice = elim (cases_eq y (num p)) [
    | inl same ↦ (
        let one : here y (num p) ≡ 1 = here-one y (num p) same in
        let others : times y (way rest) ≡ 0 = ap (λ (u : ℕ). times u (way rest)) same ∙ absent p rest places.0 places.1 twice.0 in
        omega (arith, one, others))
    | inr other ↦ omega (arith, here-zero y (num p) other, once y rest places.1 twice.1)
  ]

  no-sink : (route : List Point) → times 1 (way route) ≡ 0
  no-sink [] = refl
  no-sink (p ∷ rest) =
      let none : here 1 (num p) ≡ 0 = here-zero 1 (num p) (λ e. omega (arith, e, number-inner c.aig held p)) in
      omega (arith, none, no-sink rest)

  -- a route without a point twice comes to each node at most once, the sink with it
  pub once-sink : (y : ℕ) (route : List Point) → is_route c held route ≡ true → HasNoPointTwice route → times y (to_sink (way route)) ≤ 1
  once-sink y route r twice = elim (cases_eq y 1) [
    | inl same ↦ (
        let none : times y (way route) ≡ 0 = ap (λ (u : ℕ). times u (way route)) same ∙ no-sink route in
        omega (arith, times-sink y (way route), none, here-one y 1 same))
    | inr other ↦ omega (arith, times-sink y (way route), here-zero y 1 other, once y route (route-places route r) twice)
  ]
