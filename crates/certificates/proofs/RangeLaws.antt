-- What routes pass are latches and gates.
use Rattle.std.proofs.Common.{◌≡◌, ℕ, suc, ◌<◌, ◌≤◌, true, List, [], ◌∷◌, All, arith, sym, subst, inl, inr}
use Rattle.std.proofs.lemmas.Bool.{cases_Bool, or_left, and_parts}
use Rattle.std.proofs.lemmas.List.Elements.{All-nil, All-cons, All-append}
use Rattle.aig_graph.specs.Graph.{Graph, first_latch, variables_end, latch_at, is_known}
use Rattle.aig_graph.specs.Circuits.{Netlist}
use Rattle.frame_net.specs.declared.net.Point.{Point}
use Rattle.certificates.specs.Routes.{is_on, begins_at, may_step, goes_on, is_route, passed, all_passed}
use Rattle.certificates.specs.Verdicts.{AreRoutes}
use Rattle.certificates.proofs.RouteLaws.{passed-behind, passed-before}
use Rattle.certificates.proofs.WalkLaws.{step-on, on-range}

abbrev pub IsIn : Graph → ℕ → Type 0
IsIn g v = (first_latch g ≤ v) × (v < variables_end g)

module _ (c : Netlist) (held : List ℕ) where
  one-more : (p : Point) (rest : List Point) → is_on c.aig p.var ≡ true → All (IsIn c.aig) (passed rest) → All (IsIn c.aig) (passed (p ∷ rest))
  one-more p rest on all = elim (cases_Bool p.behind) [
    | inl yes' ↦ subst (λ (vs : List ℕ). All (IsIn c.aig) vs) (sym (passed-behind p rest yes')) (All-cons (IsIn c.aig) p.var (passed rest) (on-range c.aig p.var on) all)
    | inr no' ↦ subst (λ (vs : List ℕ). All (IsIn c.aig) vs) (sym (passed-before p rest no')) all
  ]

  walk-in : (p : Point) (rest : List Point) → is_on c.aig p.var ≡ true → goes_on c held p rest ≡ true → All (IsIn c.aig) (passed (p ∷ rest))
  unfolding goes_on passed
  walk-in p [] on g = one-more p [] on (All-nil (IsIn c.aig))
  walk-in p (q ∷ rest) on g =
      let parts = and_parts (may_step c.aig held p q) (goes_on c held q rest) g in
      one-more p (q ∷ rest) on (walk-in q rest (step-on c.aig held p q parts.0) parts.1)

  route-in : (route : List Point) → is_route c held route ≡ true → All (IsIn c.aig) (passed route)
  unfolding passed
  route-in [] r = absurd (cc)
  route-in (p ∷ rest) r =
      let parts = and_parts (begins_at c.aig p) (goes_on c held p rest) r in
      let at = and_parts p.behind (is_known (latch_at c.aig p.var)) parts.0 in
      walk-in p rest (or_left (is_known (latch_at c.aig p.var)) _ at.1) parts.1

  -- each variable that a route passes is from the first latch on and below the variables' end
  pub routes-in : (routes : List (List Point)) → AreRoutes c held routes → All (IsIn c.aig) (all_passed routes)
  unfolding all_passed
  routes-in [] all = All-nil (IsIn c.aig)
  routes-in (route ∷ routes) all =
      All-append (IsIn c.aig) (passed route) (all_passed routes) (route-in route (all 0 [] (omega arith))) (routes-in routes (λ k d h. all (suc k) d (omega (arith, h))))
