-- Lists of points that stand one after another in one list, by the ends of each.
use Rattle.std.specs.Prelude.{ℕ, ◌-◌, ◌≤◌, ◌≡◌, List, [], ◌∷◌, take, drop}
use Rattle.frame_net.specs.declared.net.Point.{Point}

-- the lists, of which the first begins at a place
unfoldable pub parts : ℕ → List ℕ → List Point → List (List Point)
parts from [] points = []
parts from (end ∷ ends) points = take (end - from) (drop from points) ∷ parts end ends points

-- from a place on the ends don't fall, and the last of them is the end of all points
unfoldable pub AreEnds : ℕ → List ℕ → ℕ → Type 0
AreEnds from [] all = from ≡ all
AreEnds from (end ∷ ends) all = (from ≤ end) × AreEnds end ends all
