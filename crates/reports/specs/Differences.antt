-- The text of the first difference of two circuits.
use Rattle.std.specs.Prelude.{ℕ, List, [], ◌∷◌, ◌++◌, Option, Some, None, decimal, codes}
use Rattle.lane_sim.specs.declared.difference.Place.{Place}

-- the line of the first difference of two circuits
unfoldable pub place_text : Place → List ℕ
place_text p =
    codes "differ at sequence " ++ (decimal p.sequence ++ (codes ", step " ++ (decimal p.step ++ (codes ", place " ++ (decimal p.place ++ 10 ∷ [])))))

-- what is printed of the first difference of two circuits, or that there is none
unfoldable pub difference_text : Option Place → List ℕ
difference_text None = codes "same" ++ 10 ∷ []
difference_text (Some place) = place_text place

-- the text of circuits that can't be compared
abbrev pub shapes_text : List ℕ
shapes_text = codes "shapes differ" ++ 10 ∷ []
