use Rattle.std.proofs.Common.{◌≡◌, ◌++◌, length, Option, Ok, sym, subst, arith, length-append}
use Rattle.std.proofs.lemmas.Result.{err_from_is_err_and}
use Rattle.aag_text.specs.declared.reader.AagReader.{AagReader}
use Rattle.aag_text.specs.declared.reader.Phase.{Phase}
use Rattle.aag_text.specs.declared.items.Items.{Items}
use Rattle.aag_text.specs.Beginning.{BeginsItems}
use Rattle.aag_text.specs.Readers.{PhaseHolds, HasReadBytes}
use Rattle.aag_text.proofs.FeedingLaws.{fails_stays}
use Rattle.aag_text.proofs.reader.AagReader.take.Goals as goal

pub returns-in-Failed-clause-reads : goal.returns-in-Failed-clause-reads
returns-in-Failed-clause-reads c bytes holds =
    fails_stays c.in-Failed.fault bytes c.args.piece.now (subst (λ (phase : Phase). PhaseHolds phase c.args.self.now.taken bytes) c.in-Failed.is holds)

pub returns-in-Some-clause-reads : goal.returns-in-Some-clause-reads
returns-in-Some-clause-reads c bytes holds =
    let piece = c.args.piece.now in
    let before = subst (λ (phase : Phase). PhaseHolds phase c.args.self.now.taken bytes) c.in-Header.is holds in
    let whole : length (bytes ++ piece) ≡ c.in_ok-taken-in-Header.taken = omega (arith, before.1, c.in_ok-taken-in-Header.ensures, length-append bytes piece) in
    subst (λ (reader : AagReader). HasReadBytes reader (bytes ++ piece)) (sym c.enter.ensures)
    (subst (λ (begun : Option Items). BeginsItems c.begin.new.line (bytes ++ piece) (Ok begun)) c.in-Some.is (c.in_ok-begun-in-Header.ensures bytes before.0 whole), sym whole)

pub begin-requires : goal.begin-requires
begin-requires c = omega (arith, c.in_ok-taken-in-Header.ensures)

pub feed-requires : goal.feed-requires
feed-requires c = omega (arith, c.in_ok-taken-in-Items.ensures)

pub returns-in_default-clause-reads : goal.returns-in_default-clause-reads
returns-in_default-clause-reads c bytes holds =
    let piece = c.args.piece.now in
    let before = subst (λ (phase : Phase). PhaseHolds phase c.args.self.now.taken bytes) c.in-Header.is holds in
    let whole : length (bytes ++ piece) ≡ c.in_ok-taken-in-Header.taken = omega (arith, before.1, c.in_ok-taken-in-Header.ensures, length-append bytes piece) in
    (subst (λ (begun : Option Items). BeginsItems c.begin.new.line (bytes ++ piece) (Ok begun)) c.in_default.is (c.in_ok-begun-in-Header.ensures bytes before.0 whole), sym whole)

pub returns-in_ok-feed-in-Items-clause-reads : goal.returns-in_ok-feed-in-Items-clause-reads
returns-in_ok-feed-in-Items-clause-reads c bytes holds =
    let piece = c.args.piece.now in
    let before = subst (λ (phase : Phase). PhaseHolds phase c.args.self.now.taken bytes) c.in-Items.is holds in
    let whole : length (bytes ++ piece) ≡ c.in_ok-taken-in-Items.taken = omega (arith, before.1, c.in_ok-taken-in-Items.ensures, length-append bytes piece) in
    (c.in_ok-feed-in-Items.ensures bytes before.0 whole, sym whole)

pub returns-in_err-begun-in-Header-clause-reads : goal.returns-in_err-begun-in-Header-clause-reads
returns-in_err-begun-in-Header-clause-reads c =
    let p = err_from_is_err_and c.from_residual-in_err-begun-in-Header.result c.from_residual-in_err-begun-in-Header.ensures.1 in
    rw (p.1, p.2) (λ bytes holds.
    let before = subst (λ (phase : Phase). PhaseHolds phase c.args.self.now.taken bytes) c.in-Header.is holds in
    c.in_err-begun-in-Header.ensures bytes before.0 (omega (arith, before.1, c.in_ok-taken-in-Header.ensures, length-append bytes c.args.piece.now)))

pub returns-in_err-feed-in-Items-clause-reads : goal.returns-in_err-feed-in-Items-clause-reads
returns-in_err-feed-in-Items-clause-reads c =
    let p = err_from_is_err_and c.from_residual-in_err-feed-in-Items.result c.from_residual-in_err-feed-in-Items.ensures.1 in
    rw (p.1, p.2) (λ bytes holds.
    let before = subst (λ (phase : Phase). PhaseHolds phase c.args.self.now.taken bytes) c.in-Items.is holds in
    c.in_err-feed-in-Items.ensures bytes before.0 (omega (arith, before.1, c.in_ok-taken-in-Items.ensures, length-append bytes c.args.piece.now)))
