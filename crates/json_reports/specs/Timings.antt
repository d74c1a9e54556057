-- How long the parts of a run took, as an object.
use Rattle.std.specs.Prelude.{codes}
use Rattle.serde_json.specs.Data.{Data, object, member, no_members}
use Rattle.json_reports.specs.Members.{count, array_of}
use Rattle.json_reports.specs.declared.times.FrameTimes.{FrameTimes}
use Rattle.json_reports.specs.declared.times.Times.{Times}

abbrev pub frame_times_data : FrameTimes → Data
frame_times_data t = object (member (codes "looking") (count t.looking) (member (codes "moving") (count t.moving) no_members))

-- the times of a run: reading, cleaning, each frame, writing
abbrev pub times_data : Times → Data
times_data t =
    object (member (codes "cleaning") (count t.cleaning)
    (member (codes "frames") (array_of frame_times_data t.frames)
    (member (codes "reading") (count t.reading)
    (member (codes "writing") (count t.writing) no_members))))
