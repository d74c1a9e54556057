-- Why a command failed, as an object.
use Rattle.std.specs.Prelude.{codes}
use Rattle.serde_json.specs.Data.{Data, string, object, member, no_members}
use Rattle.json_reports.specs.Faults.{fault_data}
use Rattle.json_reports.specs.Members.{count, or_null}
use Rattle.json_reports.specs.declared.refusal.Refusal.{Refusal}

-- the fault of a command, with the path of the file, and the name that no latch has
abbrev pub refusal_data : Refusal → Data
refusal_data r =
    object (member (codes "command") (string r.command.now)
    (member (codes "fault") (fault_data r.fault)
    (member (codes "latch") (or_null (λ name. string name.now) r.latch)
    (member (codes "path") (or_null (λ path. string path.now) r.path)
    (member (codes "status") (count r.status) no_members)))))
