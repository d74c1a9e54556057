use Rattle.std.proofs.Common.{◌≡◌, ℕ, ◌+◌, ◌-◌, length}
use Rattle.ascii_file.specs.parts.Places.{place_of}
use Rattle.ascii_file.proofs.parts.places.Places.extend_near.Given as goal

abbrev pub invariant-loop-self : goal.invariant-loop-self
invariant-loop-self l = (v : ℕ) → place_of l.self v ≡ place_of l.fn.self v

abbrev pub decreases-loop-self : goal.decreases-loop-self
decreases-loop-self l = l.variable + 1 - length l.self.near.items
