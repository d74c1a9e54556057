use Rattle.std.proofs.Common.{◌++◌}
use Rattle.std.proofs.lemmas.Result.{err_from_is_err_and}
use Rattle.aag_text.proofs.BeginningLaws.{failed_reads}
use Rattle.aag_text.proofs.read.read_rest.Goals as goal

pub returns-in_err-feed : goal.returns-in_err-feed
returns-in_err-feed c before holds =
    let p = err_from_is_err_and c.from_residual.result c.from_residual.ensures.1 in
    rw (p.1, p.2) (failed_reads c.in_err-feed.field-0.0 (before ++ c.args.bytes.now) (c.in_err-feed.ensures.fed before holds))

pub returns : goal.returns
returns c before holds = c.finish.ensures.gives (before ++ c.args.bytes.now) (c.in_ok-feed.ensures.holds before holds)
