use Rattle.std.proofs.Common.{sym}
use Rattle.std.proofs.lemmas.List.{take_rest}
use Rattle.file_words.proofs.CutLaws.{cuts_at, no_mark}
use Rattle.file_words.proofs.cutting.cut.Goals as goal

pub returns-in-Some : goal.returns-in-Some
returns-in-Some c = rw take_rest (cuts_at c.args.mark c.args.bytes.now c.in-Some.end (sym c.in-Some.ensures)).1

pub returns-in-None : goal.returns-in-None
returns-in-None c = no_mark c.args.mark c.args.bytes.now (sym c.in-None.ensures)
