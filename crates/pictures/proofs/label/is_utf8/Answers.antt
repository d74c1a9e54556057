use Rattle.std.proofs.Common.{◌∙◌}
use Rattle.pictures.proofs.LabelLaws.{utf8_test}
use Rattle.pictures.proofs.label.is_utf8.Goals as goal

pub returns : goal.returns
returns c = c.is_ok.ensures.value ∙ utf8_test _ _ _ c.args.bytes.now c.from_utf8.ensures.cases
