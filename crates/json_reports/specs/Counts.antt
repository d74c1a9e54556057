-- What a circuit has, as an object.
use Rattle.std.specs.Prelude.{codes, Option}
use Rattle.reports.specs.declared.statistics.Counts.{Counts}
use Rattle.reports.specs.declared.statistics.Statistics.{Statistics}
use Rattle.serde_json.specs.Data.{Data, string, object, member, no_members}
use Rattle.merged_circuits.specs.declared.counts.MergeCounts.{MergeCounts}
use Rattle.json_reports.specs.declared.counts.MapCounts.{MapCounts}
use Rattle.json_reports.specs.Members.{count, or_null}

-- how many there are of each kind, and the levels
abbrev pub circuit_data : Counts → Data
circuit_data c =
    object (member (codes "bad") (count c.bad)
    (member (codes "constraints") (count c.constraints)
    (member (codes "fairness") (count c.fairness)
    (member (codes "free") (count c.free)
    (member (codes "gates") (count c.gates)
    (member (codes "inputs") (count c.inputs)
    (member (codes "justice") (count c.justice)
    (member (codes "known") (count c.known)
    (member (codes "latches") (count c.latches)
    (member (codes "levels") (count c.levels)
    (member (codes "outputs") (count c.outputs) no_members)))))))))))

-- how many constraints and gates a map of states has
abbrev pub map_data : MapCounts → Data
map_data counts = object (member (codes "constraints") (count counts.constraints) (member (codes "gates") (count counts.gates) no_members))

-- how many latches are merged, and how many of these with a constant
abbrev pub merge_data : MergeCounts → Data
merge_data counts = object (member (codes "constant") (count counts.constant) (member (codes "latches") (count counts.merged) no_members))

-- what `stat` prints
abbrev pub statistics_data : Statistics → Option MergeCounts → Data
statistics_data s merged =
    object (member (codes "circuit") (circuit_data s.counts)
    (member (codes "command") (string (codes "stat"))
    (member (codes "merged") (or_null merge_data merged)
    (member (codes "passable") (count s.passable)
    (member (codes "status") (count 0) no_members)))))
