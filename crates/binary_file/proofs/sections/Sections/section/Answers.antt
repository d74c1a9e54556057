use Rattle.std.proofs.Common.{◌∙◌}
use Rattle.binary_file.proofs.ContentsLaws.{section_is}
use Rattle.binary_file.proofs.sections.Sections.section.Goals as goal

pub returns-clause-next : goal.returns-clause-next
returns-clause-next c h raw is = c.first_with_room.ensures ∙ section_is c.args.self.now h raw is
