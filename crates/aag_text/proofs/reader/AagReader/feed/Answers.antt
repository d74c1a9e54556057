use Rattle.std.proofs.Common.{◌++◌, IsOk}
use Rattle.ascii_file.specs.Pieces.{fed}
use Rattle.aag_text.specs.Readers.{HasReadBytes}
use Rattle.aag_text.proofs.ReaderLaws.{reads_ok, follows_more}
use Rattle.aag_text.proofs.reader.AagReader.feed.Goals as goal

pub returns-in_default-clause-fed : goal.returns-in_default-clause-fed
returns-in_default-clause-fed c bytes holds =
    let whole = bytes ++ c.args.piece.now in
    let new = c.take-answer.new.self in
    follows_more (HasReadBytes new whole) (IsOk (fed whole)) c.take-answer.result (fed whole) (reads_ok new.phase new.taken whole) (c.take-answer.ensures.reads bytes holds)
