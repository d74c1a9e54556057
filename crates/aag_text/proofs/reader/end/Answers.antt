use Rattle.std.proofs.Common.{subst}
use Rattle.std.proofs.lemmas.Result.{err_from_is_err_and}
use Rattle.aag_text.specs.declared.reader.Phase.{Phase}
use Rattle.aag_text.specs.Readers.{PhaseHolds}
use Rattle.aag_text.proofs.BeginningLaws.{first_fails, first_closes, failed_reads}
use Rattle.aag_text.proofs.reader.end.Goals as goal

pub returns-in_err-header-in-Header-clause-gives : goal.returns-in_err-header-in-Header-clause-gives
returns-in_err-header-in-Header-clause-gives c bytes holds =
    let p = err_from_is_err_and c.from_residual.result c.from_residual.ensures.1 in
    let is = subst (λ (phase : Phase). PhaseHolds phase c.args.len bytes) c.in-Header.is holds in
    rw (p.1, p.2) (first_fails c.in-Header.line bytes is.0 _ c.in_err-header-in-Header.ensures.value)

pub returns-in_ok-header-in-Header-clause-gives : goal.returns-in_ok-header-in-Header-clause-gives
returns-in_ok-header-in-Header-clause-gives c bytes holds =
    let is = subst (λ (phase : Phase). PhaseHolds phase c.args.len bytes) c.in-Header.is holds in
    first_closes c.in-Header.line bytes is.0 (λ circuit. circuit) c.close.result c.in_ok-header-in-Header.header c.new.result c.args.len c.in_ok-header-in-Header.ensures.value is.1
    c.new.ensures.header c.new.ensures.raw c.new.ensures.stands c.close.ensures

pub returns-in-Failed-clause-gives : goal.returns-in-Failed-clause-gives
returns-in-Failed-clause-gives c bytes holds = failed_reads c.in-Failed.fault bytes (subst (λ (phase : Phase). PhaseHolds phase c.args.len bytes) c.in-Failed.is holds)
