use Rattle.std.proofs.Common.{◌∙◌, ◌++◌, ◌∷◌, [], ap, arith, ℕ, List}
use Rattle.clean.proofs.SubstitutionLaws.{long-is, from_first-push}
use Rattle.clean.proofs.substitution.Substitution.push.Goals as goal

pub invariant_of-self-2 : goal.invariant_of-self-2
invariant_of-self-2 c = omega (arith, c.requires, long-is c.self.inside.first c.self.inside.literals.items c.args.self.now c.self.view_is, c.in_ok-push.ensures.len)

pub returns : goal.returns
returns c =
    from_first-push c.self.inside.first c.self.inside.literals.items c.push.new.self.items c.args.lit c.in_ok-push.ensures.items
    ∙ ap (λ (xs : List ℕ). xs ++ c.args.lit ∷ []) c.self.view_is
