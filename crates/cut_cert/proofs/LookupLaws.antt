-- The order of the points in a row.
use Rattle.std.proofs.Common.{◌≡◌, ℕ, ◌+◌, ◌<◌, ◌≤◌, ◌==◌, nat_lt, Bool, true, false, not, ◌&&◌, Option, Some, None, arith, ap, sym, ◌∙◌, subst, inl, inr}
use Rattle.std.proofs.lemmas.Bool.{cases_lt, cases_order, le-ltb, or_cases, eqb-true, false≢true, and_parts}
use Rattle.frame_net.specs.declared.net.Point.{Point}
use Rattle.frame_net.specs.FlowNet.{FlowNet, IsFlowNet, node_count, row_len, head, point_of}
use Rattle.cut_cert.specs.Steps.{precedes, PointsRise}

lt-true : (a b : ℕ) → nat_lt a b ≡ true → a < b
lt-true a b e = elim (cases_lt a b) [ inl less ↦ less | inr ge ↦ absurd (false≢true (sym (le-ltb a b ge) ∙ e)) ]

never-both : (s b : Bool) → (s && not b && b) ≡ true → ⊥
never-both true true e = absurd (cc)
never-both true false e = absurd (cc)
never-both false b e = absurd (cc)

precedes-self : (p : Point) → precedes (Some p) (Some p) ≡ true → ⊥
precedes-self p e = elim (or_cases (nat_lt p.var p.var) (p.var == p.var && not p.behind && p.behind) e) [
  | inl less ↦ omega (arith, lt-true p.var p.var less)
  | inr same ↦ never-both (p.var == p.var) p.behind same
]

not-and : (b : Bool) → not b ≡ true → b ≡ true → ⊥
not-and true e f = absurd (cc)
not-and false e f = absurd (cc)

precedes-back : (o : Option Point) (p : Point) → precedes o (Some p) ≡ true → precedes (Some p) o ≡ true → ⊥
precedes-back None p e f = absurd (cc)
precedes-back (Some q) p e f = elim (or_cases (nat_lt q.var p.var) (q.var == p.var && not q.behind && p.behind) e) [
  | inl less ↦ elim (or_cases (nat_lt p.var q.var) (p.var == q.var && not p.behind && q.behind) f) [
    | inl more ↦ omega (arith, lt-true q.var p.var less, lt-true p.var q.var more)
    | inr same ↦ (let s = and_parts (p.var == q.var && not p.behind) q.behind same in omega (arith, lt-true q.var p.var less, eqb-true p.var q.var (and_parts (p.var == q.var) (not p.behind) s.0).0))
  ]
  | inr here ↦ elim (or_cases (nat_lt p.var q.var) (p.var == q.var && not p.behind && q.behind) f) [
    | inl more ↦ (let s = and_parts (q.var == p.var && not q.behind) p.behind here in omega (arith, lt-true p.var q.var more, eqb-true q.var p.var (and_parts (q.var == p.var) (not q.behind) s.0).0))
    | inr there ↦ (
        let s = and_parts (q.var == p.var && not q.behind) p.behind here in
        let t = and_parts (p.var == q.var && not p.behind) q.behind there in
        not-and q.behind (and_parts (q.var == p.var) (not q.behind) s.0).1 t.1)
  ]
]

module _ (net : FlowNet) (ok : IsFlowNet net) (rise : PointsRise net) (node : ℕ) (h : node < node_count net) (p : Point) (k : ℕ) (l : k < row_len net node) (at : point_of net (head net node k) ≡ Some p) where
  -- if a head's point precedes the one looked for, that one stands past it in the row
  pub before-target : (m : ℕ) → m < row_len net node → precedes (point_of net (head net node m)) (Some p) ≡ true → m + 1 ≤ k
  before-target m lm e = elim (cases_order m k) [
    | inl same ↦ absurd (precedes-self p (subst (λ (o : Option Point). precedes o (Some p) ≡ true) (ap (λ (j : ℕ). point_of net (head net node j)) same ∙ at) e))
    | inr other ↦ elim other [
      | inl lt ↦ omega (arith, lt)
      | inr gt ↦ (
          let up : precedes (point_of net (head net node k)) (point_of net (head net node m)) ≡ true = rise (head net node k) (head net node m) (ok.heads_rise node k m h gt lm) (ok.heads_in node m h lm) in
          absurd (precedes-back (point_of net (head net node m)) p e (subst (λ (o : Option Point). precedes o (point_of net (head net node m)) ≡ true) at up)))
    ]
  ]

  -- if a head's point doesn't precede the one looked for, that one stands there or before it
  pub not-before-target : (m : ℕ) → m < row_len net node → precedes (point_of net (head net node m)) (Some p) ≡ false → k ≤ m
  not-before-target m lm e = elim (cases_lt m k) [
    | inr ge ↦ ge
    | inl lt ↦ (
        let up : precedes (point_of net (head net node m)) (point_of net (head net node k)) ≡ true = rise (head net node m) (head net node k) (ok.heads_rise node m k h lt l) (ok.heads_in node k h l) in
        absurd (false≢true (sym e ∙ subst (λ (o : Option Point). precedes (point_of net (head net node m)) o ≡ true) at up)))
  ]
