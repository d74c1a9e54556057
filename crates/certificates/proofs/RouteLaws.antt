-- On each route there is a variable of each closed set's border.
use Rattle.std.proofs.Common.{◌≡◌, ℕ, suc, ◌+◌, ◌<◌, ◌≤◌, ◌==◌, Bool, true, false, not, ◌&&◌, ◌||◌, nat_lt, cond, IsTrue, is_some, List, [], ◌∷◌, length, Option, Some, None, arith, refl, ap, sym, ◌∙◌, subst, inl, inr}
use Rattle.std.specs.List.{count_by}
use Rattle.std.proofs.lemmas.Bool.{cases_Bool, cond-true, cond-false, eqb-true, lt-ltb, and_from, or_cases, or_left, or_right, and_parts, not-true, true≢false}
use Rattle.std.proofs.lemmas.Option.{none-some}
use Rattle.aig_graph.specs.Marking.{has}
use Rattle.aig_graph.proofs.ListLaws.{count_by-cons}
use Rattle.aig_graph.specs.declared.graph.Gate.{Gate}
use Rattle.aig_graph.specs.declared.graph.Latch.{Latch}
use Rattle.aig_graph.specs.Graph.{variable, variables_end, latch_at, gate_at, is_known}
use Rattle.aig_graph.specs.Circuits.{Netlist}
use Rattle.aig_graph.specs.Closed.{is_held, IsClosedSet, IsLatchOrIn}
use Rattle.aig_graph.specs.Move.{move_of}
use Rattle.aig_graph.specs.Border.{is_read, border_size, is_read_outside}
use Rattle.aig_graph.proofs.ClosedBorderLaws.{closed-border_size}
use Rattle.aig_graph.proofs.SearchLaws.{has_iff_contains}
use Rattle.aig_graph.proofs.KindLaws.{latch_at-gates, gate_place, latch_place}
use Rattle.frame_net.specs.declared.net.Point.{Point}
use Rattle.frame_net.specs.Passable.{is_passable}
use Rattle.frame_net.specs.Capacity.{gate_reads, is_observed}
use Rattle.frame_net.proofs.PassableLaws.{passable-means}
use Rattle.frame_net.proofs.ReadLaws.{read-split, read-by_gate}
use Rattle.frame_net.proofs.NetLaws.{gate-range}
use Rattle.certificates.specs.Routes.{begins_at, passes, enters, returns_to, may_step, goes_on, is_route, passed, all_passed}
use Rattle.certificates.specs.Verdicts.{AreRoutes, AreApart, LeastLaw, YesLaw}
use Rattle.certificates.proofs.ApartLaws.{count-le, count-none, count-distinct, count-append}

-- the parts of a conjunction of four
abbrev pub Four : (a b c d : Bool) → Type 0
Four a b c d = (a ≡ true) × (b ≡ true) × (c ≡ true) × (d ≡ true)

-- if a conjunction of four holds, each of the four does
pub four_parts : (a b c d : Bool) → (a && b && c && d) ≡ true → Four a b c d
four_parts a b c d e =
    let x = and_parts (a && b && c) d e in
    let y = and_parts (a && b) c x.0 in
    let z = and_parts a b y.0 in
    (z.0, z.1, y.1, x.1)

-- the variables of a route from a point on
pub passed-behind : (p : Point) (rest : List Point) → p.behind ≡ true → passed (p ∷ rest) ≡ p.var ∷ passed rest
unfolding passed
passed-behind p rest e = cond-true p.behind (p.var ∷ passed rest) (passed rest) e

-- from a point before its variable on, a route passes what the points after it pass
pub passed-before : (p : Point) (rest : List Point) → p.behind ≡ false → passed (p ∷ rest) ≡ passed rest
unfolding passed
passed-before p rest e = cond-false p.behind (p.var ∷ passed rest) (passed rest) e

module _ (c : Netlist) (held t : List ℕ) (set : IsClosedSet c.aig held t) where
  -- a known latch, or in the set
  holds : ℕ → Bool
  holds v = is_known (latch_at c.aig v) || has t v

  borders : ℕ → Bool
  borders v = holds v && (is_held c.aig held v || is_read c t v)

  -- the point lies on the side of the set
  is_inside : Point → Bool
  is_inside p = cond p.behind (holds p.var) (has t p.var)

  members-pass : (w : ℕ) → has t w ≡ true → is_passable c.aig held w ≡ true
  members-pass w member = true_from (is_passable c.aig held w) ((passable-means c.aig held w).1 (set.closed.passable w ((has_iff_contains t w).0 (subst (λ (b : Bool). IsTrue b) (sym member) refl))))
    where
      true_from : (b : Bool) → IsTrue b → b ≡ true
      true_from b e = e

  is_observed-borders : (v : ℕ) → holds v ≡ true → is_observed c.aig c.props held v ≡ true → borders v ≡ true
  unfolding is_observed borders
  is_observed-borders v h l = and_from (holds v) _ h (elim (or_cases (is_held c.aig held v) _ l) [
    | inl held' ↦ or_left (is_held c.aig held v) (is_read c t v) held'
    | inr read ↦ or_right (is_held c.aig held v) (is_read c t v) (read_too read)
  ])
    where
      read_too : is_read_outside c.aig c.props (is_passable c.aig held) v ≡ true → is_read_outside c.aig c.props (has t) v ≡ true
      read_too read = elim (cases_Bool (is_read_outside c.aig c.props (has t) v)) [
        | inl yes' ↦ yes'
        | inr no' ↦ (
            let q = read-split c.aig c.props (is_passable c.aig held) (has t) v read no' in
            absurd (true≢false (sym (members-pass q.0 q.3) ∙ q.2)))
      ]

  enters-borders : (v w : ℕ) → holds v ≡ true → gate_reads v (gate_at c.aig w) ≡ true → has t w ≡ false → borders v ≡ true
  unfolding borders
  enters-borders v w h reads out = and_from (holds v) _ h (or_right (is_held c.aig held v) (is_read c t v) (read-by_gate c.aig c.props (has t) v w reads out))

  passes-here : (p : Point) (rest : List Point) → p.behind ≡ true → borders p.var ≡ true → 1 ≤ count_by borders (passed (p ∷ rest))
  passes-here p rest e b = omega (arith, ap (λ (xs : List ℕ). count_by borders xs) (passed-behind p rest e), count_by-cons borders p.var (passed rest), cond-true {A = ℕ} (borders p.var) 1 0 b)

  passes-later : (p : Point) (rest : List Point) → 1 ≤ count_by borders (passed rest) → 1 ≤ count_by borders (passed (p ∷ rest))
  passes-later p rest h = elim (cases_Bool p.behind) [
    | inl yes' ↦ omega (arith, h, ap (λ (xs : List ℕ). count_by borders xs) (passed-behind p rest yes'), count_by-cons borders p.var (passed rest))
    | inr no' ↦ omega (arith, h, ap (λ (xs : List ℕ). count_by borders xs) (passed-before p rest no'))
  ]

  inside-behind : (p : Point) → p.behind ≡ true → is_inside p ≡ holds p.var
  unfolding is_inside
  inside-behind p e = cond-true p.behind (holds p.var) (has t p.var) e

  inside-before : (p : Point) → p.behind ≡ false → is_inside p ≡ has t p.var
  unfolding is_inside
  inside-before p e = cond-false p.behind (holds p.var) (has t p.var) e

  -- a gate that a member reads is a member
  fan-in-member : (v w : ℕ) → has t w ≡ true → is_some (gate_at c.aig v) ≡ true → gate_reads v (gate_at c.aig w) ≡ true → has t v ≡ true
  fan-in-member v w member some r =
      let at : (gate : Gate) × (gate_at c.aig w ≡ Some gate) = some_gate (gate_at c.aig w) (is_some_from (gate_at c.aig w) r) in
      let in_set = (has_iff_contains t w).0 (subst (λ (b : Bool). IsTrue b) (sym member) refl) in
      let both = set.closed.fan_ins w at.0 in_set at.1 in
      elim (or_cases (variable at.0.rhs0 == v) (variable at.0.rhs1 == v) (sym (ap (λ (o : Option Gate). gate_reads v o) at.1) ∙ r)) [
        | inl first ↦ member-of v some (subst (λ (u : ℕ). IsLatchOrIn c.aig t u) (eqb-true _ _ first) both.0)
        | inr second ↦ member-of v some (subst (λ (u : ℕ). IsLatchOrIn c.aig t u) (eqb-true _ _ second) both.1)
      ]
    where
      is_some_from : (o : Option Gate) → gate_reads v o ≡ true → is_some o ≡ true
      is_some_from None e = absurd (cc)
      is_some_from (Some gate) e = refl

      some_gate : (o : Option Gate) → is_some o ≡ true → (gate : Gate) × (o ≡ Some gate)
      some_gate None e = absurd (cc)
      some_gate (Some gate) e = (gate, refl)

      member-of : (v : ℕ) → is_some (gate_at c.aig v) ≡ true → IsLatchOrIn c.aig t v → has t v ≡ true
      member-of v some (inl latch) =
          let at = some_gate (gate_at c.aig v) some in
          absurd (none-some latch.0 (sym (latch_at-gates c.aig v (gate_place c.aig v at.0 at.1).from) ∙ latch.1))
      member-of v some (inr member) = (has_iff_contains t v).1 member

  walk : (p : Point) (rest : List Point) → is_inside p ≡ true → goes_on c held p rest ≡ true → 1 ≤ count_by borders (passed (p ∷ rest))
  unfolding goes_on may_step holds
  walk p [] inside g =
      let parts = and_parts p.behind (is_observed c.aig c.props held p.var) g in
      passes-here p [] parts.0 (is_observed-borders p.var (sym (inside-behind p parts.0) ∙ inside) parts.1)
  walk p (q ∷ rest) inside g =
      let parts = and_parts (may_step c.aig held p q) (goes_on c held q rest) g in
      elim (or_cases (passes c.aig held p q) (enters c.aig held p q || returns_to c.aig held p q) parts.0) [
        | inl through ↦ (
            let a = four_parts (not p.behind) q.behind (p.var == q.var) (is_passable c.aig held p.var) through in
            let member : has t p.var ≡ true = sym (inside-before p (not-true p.behind a.0)) ∙ inside in
            let next : is_inside q ≡ true = inside-behind q a.1 ∙ ap holds (sym (eqb-true p.var q.var a.2)) ∙ held-by p.var member in
            passes-later p (q ∷ rest) (walk q rest next parts.1))
        | inr other ↦ elim (or_cases (enters c.aig held p q) (returns_to c.aig held p q) other) [
          | inl on ↦ (
              let a = four_parts p.behind (not q.behind) (is_passable c.aig held q.var) (gate_reads p.var (gate_at c.aig q.var)) on in
              elim (cases_Bool (has t q.var)) [
                | inl member ↦ passes-later p (q ∷ rest) (walk q rest (inside-before q (not-true q.behind a.1) ∙ member) parts.1)
                | inr out ↦ passes-here p (q ∷ rest) a.0 (enters-borders p.var q.var (sym (inside-behind p a.0) ∙ inside) a.3 out)
              ])
          | inr back ↦ (
              let e = and_parts (not p.behind && not q.behind && is_passable c.aig held p.var && is_some (gate_at c.aig q.var)) (gate_reads q.var (gate_at c.aig p.var)) back in
              let a = four_parts (not p.behind) (not q.behind) (is_passable c.aig held p.var) (is_some (gate_at c.aig q.var)) e.0 in
              let member : has t p.var ≡ true = sym (inside-before p (not-true p.behind a.0)) ∙ inside in
              let next : is_inside q ≡ true = inside-before q (not-true q.behind a.1) ∙ fan-in-member q.var p.var member a.3 e.1 in
              passes-later p (q ∷ rest) (walk q rest next parts.1))
        ]
      ]
    where
      held-by : (v : ℕ) → has t v ≡ true → holds v ≡ true
      held-by v member = or_right (is_known (latch_at c.aig v)) (has t v) member

  route-borders : (route : List Point) → is_route c held route ≡ true → 1 ≤ count_by borders (passed route)
  unfolding holds
  route-borders [] r = absurd (cc)
  route-borders (p ∷ rest) r =
      let parts = and_parts (begins_at c.aig p) (goes_on c held p rest) r in
      let at = and_parts p.behind (is_known (latch_at c.aig p.var)) parts.0 in
      walk p rest (inside-behind p at.0 ∙ known p.var at.1) parts.1
    where
      known : (v : ℕ) → is_known (latch_at c.aig v) ≡ true → holds v ≡ true
      known v k = or_left (is_known (latch_at c.aig v)) (has t v) k

  routes-border : (routes : List (List Point)) → AreRoutes c held routes → length routes ≤ count_by borders (all_passed routes)
  unfolding all_passed
  routes-border [] all = omega arith
  routes-border (route ∷ routes) all =
      omega (arith, count-append borders (passed route) (all_passed routes), route-borders route (all 0 [] (omega arith)), routes-border routes (λ k d h. all (suc k) d (omega (arith, h))))

  borders-below : (v : ℕ) → borders v ≡ true → v < variables_end c.aig
  unfolding borders holds
  borders-below v b = elim (or_cases (is_known (latch_at c.aig v)) (has t v) (and_parts (is_known (latch_at c.aig v) || has t v) _ b).0) [
    | inl known ↦ known-below (latch_at c.aig v) refl known
    | inr member ↦ (gate-range c.aig held v (members-pass v member)).1
  ]
    where
      known-below : (o : Option Latch) → latch_at c.aig v ≡ o → is_known o ≡ true → v < variables_end c.aig
      known-below None e k = absurd (cc)
      known-below (Some latch) e k = omega (arith, (latch_place c.aig v latch e).below)

  -- so the border has at least as many variables as there are routes apart from one another
  pub border-of-routes : (routes : List (List Point)) → AreRoutes c held routes → AreApart routes → length routes ≤ border_size (move_of c held t)
  unfolding borders holds
  border-of-routes routes all apart =
      omega (
        arith,
        routes-border routes all,
        count-distinct borders (all_passed routes) apart (variables_end c.aig),
        closed-border_size c held t set,
        count-le borders (λ v. borders v && nat_lt v (variables_end c.aig)) (λ v. false) (λ v. in_range v (borders v) (borders-below v)) (all_passed routes),
        count-none (λ v. false) (λ v. refl) (all_passed routes),
      )
    where
      in_range : (v : ℕ) (b : Bool) → (b ≡ true → v < variables_end c.aig) → cond {A = ℕ} b 1 0 ≤ cond {A = ℕ} (b && nat_lt v (variables_end c.aig)) 1 0 + cond {A = ℕ} false 1 0
      in_range v true h = omega (arith, cond-true {A = ℕ} (true && nat_lt v (variables_end c.aig)) 1 0 (and_from true (nat_lt v (variables_end c.aig)) refl (lt-ltb v (variables_end c.aig) (h refl))))
      in_range v false h = omega arith

-- a closed set is least if as many routes, apart from one another, are right as its border has
-- variables
pub least-law : LeastLaw
least-law c held gates routes shows = record {
  closed = shows.closed;
  least = λ r set. omega (arith, shows.count, border-of-routes c held r set routes shows.right shows.apart);
}

-- a certificate that passes all tests has a least set, and the size of its border as its count
pub yes-law : YesLaw
yes-law c held cert yes' =
    let count : border_size (move_of c held cert.gates) ≡ length cert.routes = omega (arith, yes'.3.of_border, yes'.3.of_routes) in
    (least-law c held cert.gates cert.routes (record { closed = yes'.0; right = yes'.1; apart = yes'.2; count = count }), yes'.3.of_border)
