use Rattle.std.proofs.Common.{List, ℕ, ap, ◌∙◌, refl}
use Rattle.certificates.specs.Parts.{parts}
use Rattle.certificates.proofs.PartsLaws.{parts-none, ends-none}
use Rattle.certificates.proofs.routes.Routes.with_room.Goals as goal

pub invariant_of-result : goal.invariant_of-result
invariant_of-result c = rw (c.in_ok-ends.ensures.items, c.in_ok-points.ensures.items) (ends-none 0 0 refl)

pub returns : goal.returns
returns c = ap (λ (ends : List ℕ). parts 0 ends c.in_ok-points.points.items) c.in_ok-ends.ensures.items ∙ parts-none 0 c.in_ok-points.points.items
