use Rattle.std.proofs.Common.{List, ℕ, ap, ◌∙◌, refl}
use Rattle.certificates.specs.Parts.{parts}
use Rattle.certificates.proofs.PartsLaws.{parts-none, ends-none}
use Rattle.certificates.proofs.routes.Routes.none.Goals as goal

pub invariant_of-result : goal.invariant_of-result
invariant_of-result c = rw (c.new.ensures.items, c.new-2.ensures.items) (ends-none 0 0 refl)

pub returns : goal.returns
returns c = ap (λ (ends : List ℕ). parts 0 ends c.new.result.items) c.new-2.ensures.items ∙ parts-none 0 c.new.result.items
