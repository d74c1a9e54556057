use Rattle.std.proofs.Common.{◌≡◌, take}
use Rattle.serde_json.specs.View.{members_view}
use Rattle.json_reports.specs.Members.{with_scalars}
use Rattle.json_reports.proofs.members.put_scalars.Given as goal

abbrev pub invariant-loop-scalar : goal.invariant-loop-scalar
invariant-loop-scalar l = members_view l.members.entries ≡ with_scalars (members_view l.fn.members.entries) (take l.scalar-index l.scalars)
