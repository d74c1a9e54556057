use Rattle.std.proofs.Common.{refl}
use Rattle.ascii_file.specs.Items.{begins_comment}
use Rattle.ascii_file.specs.parts.Symbols.{text_of, position_with}
use Rattle.ascii_file.proofs.parts.symbols.SymbolLine.text.Goals as goal

pub returns-in-Nothing : goal.returns-in-Nothing
unfolding text_of begins_comment
returns-in-Nothing c = rw c.in-Nothing.is refl

pub returns-in-Position : goal.returns-in-Position
unfolding position_with
returns-in-Position c = rw c.in-Position.is refl
