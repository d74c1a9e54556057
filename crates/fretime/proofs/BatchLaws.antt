-- One more file of a batch.
use Rattle.std.proofs.Common.{ℕ, false, ◌+◌, ◌<◌, ◌≡◌, List, [], ◌∷◌, ◌++◌, length, map, take, fold, get_or, refl, sym, ap, ◌∙◌, subst, arith, append_assoc, append-nil}
use Rattle.std.proofs.lemmas.List.{take_more, length-take-le, length-map}
use Rattle.counted_io.specs.Line.{numbered_lines}
use Rattle.counted_io.specs.Output.{Output, WritesAll}
use Rattle.counted_io.proofs.OutputLaws.{all-then}
use Rattle.reports.specs.Batches.{job_line, job_lines}
use Rattle.reports.specs.declared.batch.JobReport.{JobReport}
use Rattle.circuit_files.specs.declared.outcome.Outcome.{Outcome}
use Rattle.fretime.specs.declared.answers.Answer.{Answer}
use Rattle.fretime.specs.Answers.{report_at}
use Rattle.fretime.specs.Batches.{Printed, after}

lines_more : (first : ℕ) (files : List JobReport) (r : JobReport)
    → numbered_lines job_line first (files ++ r ∷ []) ≡ numbered_lines job_line first files ++ job_line (first + length files) r
lines_more first [] r = let here : first ≡ first + 0 = omega arith in append-nil (job_line first r) ∙ ap (λ (n : ℕ). job_line n r) here
lines_more first (x ∷ xs) r =
    let there : first + 1 + length xs ≡ first + length (x ∷ xs) = omega arith in
    ap (λ (text : List ℕ). job_line first x ++ text) (lines_more (first + 1) xs r ∙ ap (λ (n : ℕ). numbered_lines job_line (first + 1) xs ++ job_line n r) there)
    ∙ sym (append_assoc (job_line first x) (numbered_lines job_line (first + 1) xs) (job_line (first + length (x ∷ xs)) r))

ends_more : (ended : Outcome) (files : List JobReport) (r : JobReport) → fold after ended (files ++ r ∷ []) ≡ after (fold after ended files) r
ends_more ended [] r = refl
ends_more ended (x ∷ xs) r = ends_more (after ended x) xs r

reports_more : (answers : List Answer) (a : Answer) → map report_at (answers ++ a ∷ []) ≡ map report_at answers ++ report_at a ∷ []
reports_more [] a = refl
reports_more (x ∷ xs) a = ap (λ rs. report_at x ∷ rs) (reports_more xs a)

one_more_file : (files : List JobReport) (ended : Outcome) (r : JobReport) (old mid new : Output)
    → Printed false files ended old mid → WritesAll mid new (job_line (1 + length files) r) → Printed false (files ++ r ∷ []) (after ended r) old new
one_more_file files ended r old mid new p line = record {
  prints = subst (λ (text : List ℕ). WritesAll old new text) (sym (lines_more 1 files r)) (all-then old mid new (job_lines files) (job_line (1 + length files) r) p.prints line);
  ends = ap (λ e. after e r) p.ends ∙ sym (ends_more _ files r);
}

-- the file whose number is k, from 0
pub file_done : (answers : List Answer) (k : ℕ) (a : Answer) (ended then : Outcome) (r : JobReport) (old mid new : Output)
    → k < length answers → a ≡ get_or answers k a → r ≡ report_at a → then ≡ after ended r
    → Printed false (map report_at (take k answers)) ended old mid → WritesAll mid new (job_line (1 + k) r) → Printed false (map report_at (take (k + 1) answers)) then old new
file_done answers k a ended then r old mid new within there is next p line =
    let long : length (map report_at (take k answers)) ≡ k = length-map (take k answers) report_at ∙ length-take-le k answers (omega arith) in
    let more : map report_at (take k answers) ++ r ∷ [] ≡ map report_at (take (k + 1) answers) =
    ap (λ (x : JobReport). map report_at (take k answers) ++ x ∷ []) is ∙ sym (reports_more (take k answers) a)
    ∙ ap (map report_at) (sym (take_more answers k a within ∙ ap (λ (y : Answer). take k answers ++ y ∷ []) (sym there))) in
    subst (λ (e : Outcome). Printed false (map report_at (take (k + 1) answers)) e old new) (sym next)
    (subst (λ (files : List JobReport). Printed false files (after ended r) old new) more
    (one_more_file (map report_at (take k answers)) ended r old mid new p (subst (λ (n : ℕ). WritesAll mid new (job_line (1 + n) r)) (sym long) line)))
