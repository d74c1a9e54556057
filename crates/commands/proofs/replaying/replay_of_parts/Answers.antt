use Rattle.std.proofs.Common.{◌≡◌, ◌∷◌, ◌∙◌, IfOk, List, subst, sym}
use Rattle.std.proofs.lemmas.List.{take_rest}
use Rattle.certificate_files.specs.declared.file.CertPart.{CertPart}
use Rattle.certificate_audits.specs.Parts.{ReplaysParts}
use Rattle.certificate_audits.specs.declared.outcome.Audit.{Audit}
use Rattle.commands.proofs.AuditLaws.{file_replayed, no_part_replayed, some_part}
use Rattle.commands.proofs.replaying.replay_of_parts.Goals as goal

pub returns-then-is_empty : goal.returns-then-is_empty
returns-then-is_empty c =
    no_part_replayed c.args.most c.args.merge c.args.keep.now c.args.circuit.now c.args.parts.now c.new.result.items (sym c.is_empty.ensures ∙ c.if-is_empty.true) c.new.ensures.items

pub returns : goal.returns
returns c =
    let parts = c.args.parts.now in
    let first = c.in_ok-first.first in
    let Q : List CertPart → Type 0 =
    λ rest. IfOk c.replay_others.result (λ all. (others : List Audit) × (all.audits.items ≡ first.audit ∷ others) × ReplaysParts c.args.most first.last rest others all.last) in
    file_replayed c.args.most c.args.merge c.args.keep.now c.args.circuit.now parts c.index-parts-0.result first c.replay_others.result (some_part parts (sym c.is_empty.ensures ∙ c.if-is_empty.false))
    c.index-parts-0.is c.in_ok-first.ensures.replay (subst Q (take_rest parts 1) c.replay_others.ensures)
