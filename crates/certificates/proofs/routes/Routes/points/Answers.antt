use Rattle.std.proofs.Common.{ap, sym, ◌∙◌}
use Rattle.certificates.specs.Routes.{passed, all_passed}
use Rattle.certificates.proofs.PartsLaws.{parts-passed}
use Rattle.certificates.proofs.routes.Routes.points.Goals as goal

pub returns : goal.returns
returns c = ap passed c.as_slice.ensures.value ∙ sym (parts-passed 0 c.self.inside.ends.items c.self.inside.points.items c.self.invariant) ∙ ap all_passed c.self.view_is
