use Rattle.std.proofs.Common.{◌≡◌, ◌∙◌, inr, sym, subst, List, ℕ, Option, Some, None, MatchOption, Bor}
use Rattle.ascii_file.specs.parts.Rows.{row_of}
use Rattle.binary_file.proofs.TakingLaws.{given_takes, header_within}
use Rattle.binary_file.proofs.LineLaws.{line_latch, line_safety, line_size, line_liveness, line_refused, no_lines}
use Rattle.binary_file.proofs.sections.Sections.take_numbers.Goals as goal

-- what the numbers of a line are, by what was handed over
abbrev AreOf : List ℕ → Option (Bor (List ℕ)) → Type 0
AreOf line numbers = MatchOption numbers (row_of line ≡ None) (λ ns. row_of line ≡ Some ns.now)

pub returns-in_default : goal.returns-in_default
returns-in_default c h raw line is lines numbers = inr (line_refused h raw c.args.at line lines (subst (AreOf line) c.in_default.is numbers))

pub returns-in-Latches : goal.returns-in-Latches
returns-in-Latches c h raw line is lines numbers =
    given_takes h _ _ _ _ c.take_latch.ensures
    (line_latch c.args.self.now h raw c.args.at line is (header_within _ _ h raw c.self.view_is is c.self.invariant.within) c.in-Some.numbers.now (sym c.in-Latches.ensures.here)
    (subst (AreOf line) c.in-Some.is numbers))

pub returns-in-Safety : goal.returns-in-Safety
returns-in-Safety c h raw line is lines numbers =
    given_takes h _ _ _ _ c.take_safety.ensures
    (line_safety c.args.self.now h raw c.args.at line is (header_within _ _ h raw c.self.view_is is c.self.invariant.within) c.in-Some.numbers.now (sym c.in-Safety.ensures.here)
    (subst (AreOf line) c.in-Some.is numbers))

pub returns-in-Sizes : goal.returns-in-Sizes
returns-in-Sizes c h raw line is lines numbers =
    given_takes h _ _ _ _ c.take_size.ensures
    (line_size c.args.self.now h raw c.args.at line is (header_within _ _ h raw c.self.view_is is c.self.invariant.within) c.in-Some.numbers.now (sym c.in-Sizes.ensures.here)
    (subst (AreOf line) c.in-Some.is numbers))

pub returns-in-Liveness : goal.returns-in-Liveness
returns-in-Liveness c h raw line is lines numbers =
    given_takes h _ _ _ _ c.take_liveness.ensures
    (line_liveness c.args.self.now h raw c.args.at line is (header_within _ _ h raw c.self.view_is is c.self.invariant.within) c.in-Some.numbers.now (sym c.in-Liveness.ensures.here)
    (subst (AreOf line) c.in-Some.is numbers))

pub returns-in_default-section : goal.returns-in_default-section
returns-in_default-section c h raw line is lines numbers =
    let next = c.section.ensures.next h raw is in
    inr (no_lines h raw c.args.at line (λ e. c.in_default-section.not-Latches (next ∙ e)) (λ e. c.in_default-section.not-Safety (next ∙ e)) (λ e. c.in_default-section.not-Sizes (next ∙ e))
    (λ e. c.in_default-section.not-Liveness (next ∙ e)) lines)
