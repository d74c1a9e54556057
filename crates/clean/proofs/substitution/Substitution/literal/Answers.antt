use Rattle.std.proofs.Common.{◌∙◌, ◌-◌, ◌<◌, ap, arith, length, ℕ, List}
use Rattle.cleaned_circuits.specs.Merged.{replaced}
use Rattle.clean.proofs.SubstitutionLaws.{long-is, replaced-low, replaced-from}
use Rattle.clean.proofs.substitution.Substitution.literal.Goals as goal

pub returns-then-var-self : goal.returns-then-var-self
returns-then-var-self c =
    replaced-low c.self.inside.first c.args.lit c.self.inside.literals.items (omega (arith, c.var-var.ensures.variable, c.if-var-self.true))
    ∙ ap (λ (xs : List ℕ). replaced xs c.args.lit) c.self.view_is

pub index-requires : goal.index-requires
index-requires c = omega (arith, c.requires, c.var-var.ensures.variable, c.if-var-self.false, long-is c.self.inside.first c.self.inside.literals.items c.args.self.now c.self.view_is)

pub returns : goal.returns
returns c =
    let first : ℕ = c.self.inside.first in
    let literals : List ℕ = c.self.inside.literals.items in
    let within : c.var-var.result - first < length literals =
    omega (arith, c.requires, c.var-var.ensures.variable, c.if-var-self.false, long-is first literals c.args.self.now c.self.view_is) in
    c.signed_as.ensures
    ∙ replaced-from first c.args.lit c.index.result.now c.var-var.result literals c.var-var.ensures.variable c.if-var-self.false c.index.ensures within
    ∙ ap (λ (xs : List ℕ). replaced xs c.args.lit) c.self.view_is
