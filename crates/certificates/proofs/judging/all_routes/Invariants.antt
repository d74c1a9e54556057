use Rattle.std.proofs.Common.{◌≡◌, ◌<◌, ℕ, true, slice_index_or, List}
use Rattle.frame_net.specs.declared.net.Point.{Point}
use Rattle.certificates.specs.Routes.{is_route}
use Rattle.certificates.proofs.judging.all_routes.Given as goal

abbrev pub invariant-loop-number : goal.invariant-loop-number
invariant-loop-number l = (k : ℕ) (d : List Point) → k < l.number → is_route l.fn.circuit l.fn.keep (slice_index_or l.fn.routes k d) ≡ true
