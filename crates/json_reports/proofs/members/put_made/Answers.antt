use Rattle.std.proofs.Common.{◌≡◌, IfOk, OnOk, Result, subst}
use Rattle.std.specs.declared.alloc.AllocError.{AllocError}
use Rattle.serde_json.specs.Data.{Data, put}
use Rattle.serde_json.specs.View.{members_view, view}
use Rattle.serde_json.specs.declared.value.Value.{Value}
use Rattle.json_reports.proofs.members.put_made.Goals as goal

pub returns-in-Ok : goal.returns-in-Ok
returns-in-Ok c = λ d made.
    subst (λ (e : Data). OnOk c.put.result (members_view c.put.new.map.entries ≡ put c.args.name.now e (members_view c.args.members.now.entries)))
    (subst (λ (r : Result Value AllocError). IfOk r (λ v. view v ≡ d)) c.in-Ok.is made) c.put.ensures.ok
