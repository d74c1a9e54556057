use Rattle.std.proofs.Common.{◌∙◌, ap}
use Rattle.clean.specs.Substitutions.{from_first}
use Rattle.clean.proofs.SubstitutionLaws.{from_first-nil}
use Rattle.clean.proofs.substitution.Substitution.renew.Goals as goal

pub returns : goal.returns
returns c = ap (from_first c.args.first) (c.reserve.ensures.items ∙ c.clear.ensures.items) ∙ from_first-nil c.args.first
