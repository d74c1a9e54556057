use Rattle.std.proofs.Common.{◌∙◌}
use Rattle.std.proofs.lemmas.List.{take_all}
use Rattle.command_endings.specs.declared.name_files.NameFile.{NameFile}
use Rattle.command_endings.proofs.PushLaws.{pushed-item}
use Rattle.command_endings.proofs.name_files.read_name_files.Goals as goal

pub loop-source-preserved : goal.loop-source-preserved
loop-source-preserved g c =
    pushed-item (λ (file : NameFile). file.source) c.args.sources.now c.loop-source.source-index _ c.loop-source.files.items c.push.new.self.items c.in_ok-file.file
    c.loop-source-test.true c.loop-source.invariant c.in_ok-file.ensures.source c.in-Ok.ensures.items

pub returns : goal.returns
returns g c = c.loop-source.invariant ∙ take_all c.loop-source.source-index c.args.sources.now c.loop-source-test.false
