use Rattle.std.proofs.Common.{◌≡◌, ◌-◌, arith, ap, sym, subst, refl, ℕ}
use Rattle.aig_graph.specs.Graph.{variable}
use Rattle.gate_sharing.specs.Equal.{Equal, IsRight}
use Rattle.gate_sharing.proofs.EqualLaws.{redirected}
use Rattle.gate_sharing.proofs.equalities.Equalities.redirect.Goals as goal

pub returns-then-place-len : goal.returns-then-place-len
returns-then-place-len c = λ values negated same right.
    let e : Equal = record { first = c.self.inside.first; substitutes = c.self.inside.substitutes.items } in
    let here : c.var-var.result - c.self.inside.first ≡ variable c.args.lit - c.self.inside.first = ap (λ (n : ℕ). n - c.self.inside.first) c.var-var.ensures.variable in
    redirected e c.args.lit c.args.to (c.var-var.result - c.self.inside.first) c.signed_as.result _ here (omega (arith, c.var-var.ensures.variable, c.if-var-self.false)) c.signed_as.ensures refl
    values negated same (subst (λ (f : Equal). IsRight f values) (sym c.self.view_is) right)
