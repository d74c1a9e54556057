use Rattle.gate_sharing.proofs.equalities.Equalities.join.Goals as goal

pub returns : goal.returns
returns c = λ values negated same right. c.redirect.ensures values negated same (c.in_ok-cover.ensures values negated right)
