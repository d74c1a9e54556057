use Rattle.std.proofs.Common.{sym}
use Rattle.ascii_file.proofs.SymbolLaws.{after_letter, no_letter}
use Rattle.ascii_file.proofs.parts.begun.after_nothing.Goals as goal

pub returns-in-Some : goal.returns-in-Some
returns-in-Some c rest = after_letter c.args.byte c.in-Some.kind rest (sym c.in-Some.ensures)

pub returns-in-None : goal.returns-in-None
returns-in-None c rest = no_letter c.args.byte rest (sym c.in-None.ensures)
