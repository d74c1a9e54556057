use Rattle.std.proofs.Common.{ℕ, List, ◌<◌, ◌≤◌, ◌++◌, ◌∙◌, inr, length, ap, sym, subst, arith}
use Rattle.aig_binary.specs.Spellings.{spelling_of}
use Rattle.aig_binary.proofs.LetterLaws.{short_whole, three_many, by_letters}
use Rattle.aig_binary.proofs.AnswerLaws.{fed_short, fed_neither}
use Rattle.aig_binary.proofs.begin.begin.Goals as goal

pub returns-then-len-lt-LETTERS-clause-fed : goal.returns-then-len-lt-LETTERS-clause-fed
returns-then-len-lt-LETTERS-clause-fed c =
    let all = c.args.begun.now ++ c.args.piece.now in
    let whole = short_whole all (subst (λ (l : List ℕ). length l < 3) c.first_letters-letters.ensures (omega (arith, c.len.ensures.value, c.if-len-lt-LETTERS.true))) in
    fed_short all whole.1

pub returns-in-None-clause-fed : goal.returns-in-None-clause-fed
returns-in-None-clause-fed c =
    let all = c.args.begun.now ++ c.args.piece.now in
    inr (fed_neither all (sym (by_letters all) ∙ sym (ap spelling_of (c.as_slice.ensures.value ∙ c.first_letters-letters.ensures)) ∙ sym c.spelling.ensures ∙ c.in-None.is)
    (three_many all (subst (λ (l : List ℕ). 3 ≤ length l) c.first_letters-letters.ensures (omega (arith, c.len.ensures.value, c.if-len-lt-LETTERS.false)))))
