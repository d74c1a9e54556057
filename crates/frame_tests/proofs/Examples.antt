-- The ranges of five workers over twelve nodes, computed: each ends before the next one's border,
-- so nodes 6 and 7 have different workers.
use Rattle.std.proofs.Common.{◌≡◌, ℕ, List, [], ◌∷◌, refl}
use Rattle.pulse_parts.specs.Start.{border_of}

five_workers : border_of 12 5 0 ∷ border_of 12 5 1 ∷ border_of 12 5 2 ∷ border_of 12 5 3 ∷ border_of 12 5 4 ∷ border_of 12 5 5 ∷ []
    ≡ 0 ∷ 2 ∷ 4 ∷ 7 ∷ 9 ∷ 12 ∷ []
five_workers = refl
