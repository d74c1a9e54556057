use Rattle.std.proofs.Common.{subst}
use Rattle.counted_io.specs.Output.{Writes}
use Rattle.file_words.specs.declared.spelling.Spelling.{Spelling}
use Rattle.aig_binary.specs.Spellings.{text_in}
use Rattle.frames.proofs.bytes.write_answer.Goals as goal

pub returns : goal.returns
returns g c =
    let P : Spelling → Type 0 = λ spelling. Writes (g.W.CountedWrite.output c.args.writer.now) (g.W.CountedWrite.output c.write.new.writer) c.write.result (text_in spelling c.args.rounds.now.circuit) in
    subst P c.unwrap_or-spelling.ensures c.write.ensures
