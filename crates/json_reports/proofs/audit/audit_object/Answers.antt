use Rattle.std.proofs.Common.{◌≡◌, ◌∙◌, ap, rules}
use Rattle.serde_json.specs.Data.{no_members, object}
use Rattle.serde_json.specs.View.{members_view}
use Rattle.serde_json.proofs.Views.{view-Object}
use Rattle.reports.specs.Audits.{last_end}
use Rattle.json_reports.proofs.MergedLaws.{merged-in}
use Rattle.json_reports.proofs.audit.audit_object.Goals as goal

pub returns : goal.returns
returns c =
    let none : members_view c.new-members.result.entries ≡ no_members = search rules in
    let end = c.last_end-end.ensures ∙ ap last_end c.as_slice.ensures in
    view-Object _ ∙ ap object ((rw end at c.in_ok-put_merged.ensures) ∙ merged-in c.args.parts.now c.args.judgement.now c.args.status _ (c.in_ok-put_audit.ensures none))
