use Rattle.std.proofs.Common.{List, ℕ, arith, ap, length}
use Rattle.frame_net.specs.declared.net.Point.{Point}
use Rattle.certificates.proofs.PartsLaws.{parts-length}
use Rattle.certificates.proofs.routes.Routes.route.Goals as goal

pub route_at-requires-clause-number : goal.route_at-requires-clause-number
route_at-requires-clause-number c =
    omega (
      arith,
      c.requires,
      ap (λ (rs : List (List Point)). length rs) c.self.view_is,
      parts-length 0 c.self.inside.ends.items c.self.inside.points.items,
      ap (λ (ns : List ℕ). length ns) c.as_slice-2.ensures.value,
    )
