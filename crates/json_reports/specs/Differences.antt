-- The first difference of two circuits, as an object.
use Rattle.std.specs.Prelude.{ℕ, List, Option, Some, None, codes}
use Rattle.lane_sim.specs.declared.difference.Place.{Place}
use Rattle.serde_json.specs.Data.{Data, null, string, object, member, no_members}
use Rattle.json_reports.specs.Members.{count}

abbrev pub place_data : Place → Data
place_data p = object (member (codes "place") (count p.place) (member (codes "sequence") (count p.sequence) (member (codes "step") (count p.step) no_members)))

-- the object of a comparison: the first difference of both, the result and the exit status
abbrev pub finding_data : List ℕ → Data → ℕ → Data
finding_data result difference status =
    object (member (codes "command") (string (codes "same"))
    (member (codes "difference") difference
    (member (codes "result") (string result)
    (member (codes "status") (count status) no_members))))

-- two circuits agree, or the first place at which they differ, or that they can't be compared
abbrev pub difference_data : Option Place → Data
difference_data None = finding_data (codes "Same") null 0
difference_data (Some place) = finding_data (codes "Differ") (place_data place) 5

-- of circuits that can't be compared
abbrev pub shapes_data : Data
shapes_data = finding_data (codes "ShapesDiffer") null 1
