use Rattle.std.proofs.Common.{ℕ, List, sym, ◌∙◌, subst}
use Rattle.std.specs.Prelude.{codes}
use Rattle.counted_io.specs.Buffered.{Puts}
use Rattle.counted_io.proofs.BufferedLaws.{puts-then}
use Rattle.fretime.proofs.ExplainingLaws.{file_part-empty, file_part-some}
use Rattle.fretime.proofs.explaining.put_some_file.Goals as goal

pub returns-then-is_empty : goal.returns-then-is_empty
returns-then-is_empty g c =
    subst (λ (text : List ℕ). Puts g.W.CountedWrite.output c.args.out.now c.put.new.self text)
    (file_part-empty c.args.file.now (sym c.is_empty.ensures ∙ c.if-is_empty.true)) c.put.ensures

pub returns-else-is_empty : goal.returns-else-is_empty
returns-else-is_empty g c =
    subst (λ (text : List ℕ). Puts g.W.CountedWrite.output c.args.out.now c.put_byte.new.self text)
    (file_part-some c.args.file.now (sym c.is_empty.ensures ∙ c.if-is_empty.false))
    (puts-then {xs = codes "A smallest file that has it:\n\n"} c.put-else-is_empty.ensures (puts-then c.put_lines.ensures c.put_byte.ensures))
