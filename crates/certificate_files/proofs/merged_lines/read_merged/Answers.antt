use Rattle.std.proofs.Common.{ℕ, List, ◌+◌, ◌-◌, ◌≡◌, suc, arith, sym, ap, ◌∙◌}
use Rattle.std.proofs.lemmas.Result.{err_from_is_err_and}
use Rattle.file_words.proofs.AnsweringLaws.{Fails-same}
use Rattle.certificates.specs.declared.merged.MergedLatch.{MergedLatch}
use Rattle.certificate_files.specs.Files.{merging}
use Rattle.certificate_files.specs.Steps.{read_rest}
use Rattle.certificate_files.proofs.merged_lines.read_merged.Goals as goal

pub returns-in_err-latch-clause-reads : goal.returns-in_err-latch-clause-reads
returns-in_err-latch-clause-reads c choice parts =
    let p = err_from_is_err_and c.from_residual.result c.from_residual.ensures.1 in
    let lines = c.loop.lines in
    let left = c.args.count - (c.loop.counter + 1) in
    let one_more : c.args.count - c.loop.counter ≡ suc left = omega (arith, c.loop-test.true) in
    let same = c.loop.invariant.reads choice parts ∙ ap (λ (n : ℕ). read_rest lines.end lines.rest.now (merging choice parts c.loop.merged.items n)) one_more in
    rw (p.1, p.2) (Fails-same _ _ _ (sym same) (c.in_err-latch.ensures.reads choice parts c.loop.merged.items left))

pub returns-clause-reads : goal.returns-clause-reads
returns-clause-reads c choice parts =
    let lines = c.loop.lines in
    let none_left : c.args.count - c.loop.counter ≡ 0 = omega (arith, c.loop-test.false) in
    c.loop.invariant.reads choice parts ∙ ap (λ (n : ℕ). read_rest lines.end lines.rest.now (merging choice parts c.loop.merged.items n)) none_left
    ∙ ap (λ (ms : List MergedLatch). read_rest lines.end lines.rest.now (merging choice parts ms 0)) (sym c.from_vec.ensures)
