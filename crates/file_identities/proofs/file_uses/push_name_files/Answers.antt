use Rattle.std.proofs.Common.{◌++◌, ◌∷◌, [], ◌∙◌, map, ap}
use Rattle.file_identities.specs.FileUses.{name_file}
use Rattle.file_identities.specs.declared.file_use.FileUse.{FileUse}
use Rattle.file_identities.specs.declared.identity.Asked.{Asked}
use Rattle.file_identities.proofs.AskingLaws.{asked-all, asked-next}
use Rattle.file_identities.proofs.file_uses.push_name_files.Goals as goal

pub loop-source-preserved : goal.loop-source-preserved
loop-source-preserved g c =
    asked-next name_file _ c.args.names.now c.loop-source.source-index _ _ _ c.loop-source-test.true c.loop-source.invariant
    (c.in_ok-push.ensures ∙ ap (λ (file : FileUse). map (λ (asked : Asked). asked.file) c.loop-source.files.items ++ file ∷ []) c.reading.ensures)

pub returns : goal.returns
returns g c = asked-all name_file _ c.args.names.now c.loop-source.source-index _ c.loop-source-test.false c.loop-source.invariant
