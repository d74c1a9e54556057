-- A retimed circuit and its frames, as an object.
use Rattle.std.specs.Prelude.{ℕ, Bool, false, List, [], ◌∷◌, Option, Some, None, codes, if◌then◌else◌, is_some, option_map, unwrap_or}
use Rattle.std.specs.List.{flat_map}
use Rattle.certificate_files.specs.declared.file.CertPart.{CertPart}
use Rattle.certificates.specs.declared.merged.MergedLatch.{MergedLatch}
use Rattle.merged_circuits.specs.Counts.{counts_of}
use Rattle.merged_circuits.specs.declared.counts.MergeCounts.{MergeCounts}
use Rattle.reports.specs.declared.held_back.HeldBack.{HeldBack}
use Rattle.reports.specs.declared.remaining_counts.Remaining.{Remaining}
use Rattle.merging_rounds.specs.declared.rounds.Rounds.{Rounds}
use Rattle.retimed_circuits.specs.declared.report.FrameReport.{FrameReport}
use Rattle.serde_json.specs.Data.{Data, boolean, string, object, member, no_members}
use Rattle.json_reports.specs.Counts.{circuit_data, map_data, merge_data}
use Rattle.json_reports.specs.Members.{count, array_of, or_null}
use Rattle.json_reports.specs.Timings.{times_data}
use Rattle.json_reports.specs.declared.counts.MapCounts.{MapCounts}
use Rattle.json_reports.specs.declared.counts.ReadLevels.{ReadLevels}
use Rattle.json_reports.specs.declared.times.Times.{Times}

-- the known latches before and right after a frame, and the gates that they move over
abbrev pub frame_data : FrameReport → Data
frame_data f = object (member (codes "after") (count f.after) (member (codes "before") (count f.before) (member (codes "gates") (count f.moved) no_members)))

-- all latches of the circuit that was read, and its levels, if they were counted
abbrev pub before_data : ℕ → Option ℕ → Data
before_data latches levels = object (member (codes "latches") (count latches) (member (codes "levels") (or_null count levels) no_members))

-- The numbers of latches that stay and for what, and of passable gates. Also whether no set of
-- gates leaves fewer latches. Those that a gate on too long a path reads are counted under a bound
-- alone.
abbrev pub held_back_data : HeldBack → Bool → Data
held_back_data h is_least =
    object (member (codes "free") (count h.free)
    (member (codes "held") (count h.held)
    (member (codes "least") (boolean is_least)
    (member (codes "passable") (count h.passable)
    (member (codes "read_elsewhere") (count h.read_elsewhere)
    (member (codes "too_long") (or_null count h.too_long) no_members))))))

-- the number of sets that a network found, if that was measured with the times
abbrev pub networks_of : Option Times → Option ℕ
networks_of times = option_map (λ t. t.networks) times

-- the latches that a round merged
abbrev pub lines_in : CertPart → List MergedLatch
lines_in part = unwrap_or part.merged []

-- and those that all rounds did
abbrev pub merged_lines : List CertPart → List MergedLatch
merged_lines parts = flat_map lines_in parts

-- whether latches were to be merged, as the first round tells
abbrev pub are_merged : List CertPart → Bool
are_merged [] = false
are_merged (part ∷ parts) = is_some part.merged

-- the number of merged latches of all rounds, if latches were to be merged
abbrev pub merged_counts : List CertPart → Option MergeCounts
merged_counts parts = if are_merged parts then Some (counts_of (merged_lines parts)) else None

-- frames, counts before and after, the bound, free latches that stayed, what holds latches, the
-- map, merging and times
abbrev pub retiming_data : Rounds → ReadLevels → Remaining → Option Times → Option MapCounts → Data
retiming_data r levels left times mapped =
    object (member (codes "after") (circuit_data left.counts)
    (member (codes "before") (before_data r.read_latches levels.counted)
    (member (codes "bound") (or_null count levels.bound)
    (member (codes "command") (string (codes "retime"))
    (member (codes "frames") (array_of frame_data r.frames)
    (member (codes "free_kept") (array_of count r.kept_free)
    (member (codes "held_back") (held_back_data left.held_back left.is_least)
    (member (codes "map") (or_null map_data mapped)
    (member (codes "merged") (or_null merge_data (merged_counts r.parts))
    (member (codes "microseconds") (or_null times_data times)
    (member (codes "network") (or_null count (networks_of times))
    (member (codes "status") (count 0) no_members))))))))))))
