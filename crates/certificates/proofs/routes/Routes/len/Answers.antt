use Rattle.std.proofs.Common.{List, arith, ap, length}
use Rattle.frame_net.specs.declared.net.Point.{Point}
use Rattle.certificates.proofs.PartsLaws.{parts-length}
use Rattle.certificates.proofs.routes.Routes.len.Goals as goal

pub returns : goal.returns
returns c =
    omega (
      arith,
      c.len.ensures,
      c.self.inside.ends.ok.0,
      parts-length 0 c.self.inside.ends.items c.self.inside.points.items,
      ap (λ (rs : List (List Point)). length rs) c.self.view_is,
    )
