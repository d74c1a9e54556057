use Rattle.std.proofs.Common.{◌≡◌, ◌<◌, ◌≤◌, ◌^◌, ◌++◌, drop, length, All}
use Rattle.std.specs.List.{sum}
use Rattle.ascii_file.specs.Meaning.{split_by}
use Rattle.ascii_file.proofs.parts.by_kind.justice.Given as goal

abbrev pub invariant-loop-size : goal.invariant-loop-size
invariant-loop-size l =
    (l.properties.items ++ split_by (drop l.size-index l.sizes) l.rest ≡ split_by l.sizes l.codes)
    × (sum (drop l.size-index l.sizes) ≤ length l.rest)
    × All (λ lit. lit < 2 ^ 29) l.rest
