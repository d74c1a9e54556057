use Rattle.std.proofs.Common.{sym, ap, ◌∙◌, Some, None}
use Rattle.std.proofs.lemmas.Bool.{cond-true, cond-false}
use Rattle.std.proofs.lemmas.Str.{is_utf8-from_IsUtf8, IsUtf8-from_is_utf8}
use Rattle.std.specs.Str.{is_utf8}
use Rattle.circuit_files.proofs.ListLaws.{false_where_not}
use Rattle.command_endings.proofs.name_files.name_of.Goals as goal

pub returns-in-Ok : goal.returns-in-Ok
returns-in-Ok c =
    ap Some c.in-Ok.ensures.cases.0 ∙ sym (cond-true (is_utf8 c.args.line.now) (Some c.args.line.now) None (is_utf8-from_IsUtf8 c.args.line.now c.in-Ok.ensures.cases.1))

pub returns-in-Err : goal.returns-in-Err
returns-in-Err c =
    sym (cond-false (is_utf8 c.args.line.now) (Some c.args.line.now) None
    (false_where_not (is_utf8 c.args.line.now) (λ yes. c.in-Err.ensures.cases.0 (IsUtf8-from_is_utf8 c.args.line.now yes))))
