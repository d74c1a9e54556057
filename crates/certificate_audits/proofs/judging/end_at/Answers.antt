use Rattle.std.proofs.Common.{◌∙◌, refl, sym, subst}
use Rattle.aig_graph.proofs.HoldingLaws.{empty-none}
use Rattle.certificate_audits.specs.declared.judging.Finding.{Finding}
use Rattle.certificate_audits.specs.Findings.{IsFinding}
use Rattle.certificate_audits.proofs.AuditLaws.{not-empty}
use Rattle.certificate_audits.proofs.judging.end_at.Goals as goal

pub returns-in-Objected : goal.returns-in-Objected
returns-in-Objected c =
    let P : Finding → Type 0 = IsFinding c.args.bound c.args.stage.now.keep c.args.stage.now.circuit c.args.block.now in
    (refl, subst P c.in-Objected.is c.in_ok-objection.ensures)

pub returns-in-Fewer : goal.returns-in-Fewer
returns-in-Fewer c =
    let P : Finding → Type 0 = IsFinding c.args.bound c.args.stage.now.keep c.args.stage.now.circuit c.args.block.now in
    (refl, subst P c.in-Fewer.is c.in_ok-objection.ensures, empty-none c.args.rest.now (sym c.is_empty.ensures ∙ c.if-is_empty.true))

pub returns-in-NotFewer : goal.returns-in-NotFewer
returns-in-NotFewer c =
    let P : Finding → Type 0 = IsFinding c.args.bound c.args.stage.now.keep c.args.stage.now.circuit c.args.block.now in
    (refl, subst P c.in-NotFewer.is c.in_ok-objection.ensures, empty-none c.args.rest.now (sym c.if-is_empty-2.ensures))

pub returns-in-NotFewer-2 : goal.returns-in-NotFewer-2
returns-in-NotFewer-2 c =
    let P : Finding → Type 0 = IsFinding c.args.bound c.args.stage.now.keep c.args.stage.now.circuit c.args.block.now in
    (refl, subst P c.in-NotFewer-2.is c.in_ok-objection.ensures, not-empty c.args.rest.now (sym c.if-is_empty-2.ensures))
