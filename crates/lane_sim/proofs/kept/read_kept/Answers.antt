use Rattle.std.proofs.Common.{◌≡◌, ◌∙◌, [], Ok, Result, List, ℕ, ap, arith, inr, length, ne_eqb, subst, sym}
use Rattle.std.specs.Result.{IfOk}
use Rattle.std.proofs.lemmas.Bool.{eq-eqb, cond-true, cond-false}
use Rattle.std.proofs.lemmas.Result.{err_from_is_err_and}
use Rattle.file_words.specs.Answering.{◌>>=◌}
use Rattle.file_words.specs.Lines.{lines}
use Rattle.file_words.proofs.ReadingLaws.{line_fails, line_taken, no_lines}
use Rattle.lane_sim.specs.Kept.{ArePlaces, counted, read_place}
use Rattle.lane_sim.specs.declared.fault.StimError.{StimError}
use Rattle.lane_sim.proofs.KeptLaws.{count_fails, lines_placed, no_places}
use Rattle.lane_sim.proofs.kept.read_kept.Goals as goal

pub returns-in_err-take_place-clause-reads : goal.returns-in_err-take_place-clause-reads
returns-in_err-take_place-clause-reads c =
    let p = err_from_is_err_and c.from_residual.result c.from_residual.ensures.1 in
    let line = c.in-Some.ensures.line in
    rw (p.1, p.2) (count_fails c.args.count (length c.args.bytes.now) _ _ (line_fails (read_place c.args.free) _ _ _ _ _ _ _ _ line.1 line.0 c.loop-line.invariant c.in_err-take_place.ensures))

pub loop-line-preserved : goal.loop-line-preserved
loop-line-preserved c =
    let line = c.in-Some.ensures.line in
    c.loop-line.invariant ∙ line_taken (read_place c.args.free) _ _ _ _ _ _ _ _ c.in-Some.ensures.within line.1 line.0 c.in-Some.ensures.end c.in_ok-take_place.ensures

pub returns-then-len-count-clause-reads : goal.returns-then-len-count-clause-reads
returns-then-len-count-clause-reads c =
    let all = c.loop-line.invariant ∙ no_lines (read_place c.args.free) _ _ _ c.in_default.ensures.line in
    let end : ℕ = length c.args.bytes.now in
    inr (ap (λ (r : Result (List ℕ) StimError). r >>= counted c.args.count end) all
    ∙ cond-false _ _ _ (ne_eqb (length c.loop-line.kept.items) c.args.count (λ same. absurd (omega (arith, same, c.if-len-count.true, c.len.ensures)))))

pub returns-clause-reads : goal.returns-clause-reads
returns-clause-reads c =
    let all = c.loop-line.invariant ∙ no_lines (read_place c.args.free) _ _ _ c.in_default.ensures.line in
    let end : ℕ = length c.args.bytes.now in
    ap (λ (r : Result (List ℕ) StimError). r >>= counted c.args.count end) all
    ∙ cond-true _ _ _ (eq-eqb (length c.loop-line.kept.items) c.args.count (omega (arith, c.if-len-count.false, c.len.ensures))) ∙ ap Ok (sym c.from_vec.ensures)

pub returns-clause-places : goal.returns-clause-places
returns-clause-places c =
    let all = c.loop-line.invariant ∙ no_lines (read_place c.args.free) _ _ _ c.in_default.ensures.line in
    let are = subst (λ (r : Result (List ℕ) StimError). IfOk r (ArePlaces c.args.free)) all (lines_placed c.args.free 0 [] (lines c.args.bytes.now) (no_places c.args.free)) in
    let same : length c.from_vec.result ≡ length c.loop-line.kept.items = ap length c.from_vec.ensures in
    (subst (ArePlaces c.args.free) (sym c.from_vec.ensures) are, omega (arith, same, c.if-len-count.false, c.len.ensures))
