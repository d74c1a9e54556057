use Rattle.std.proofs.Common.{ℕ, List, ◌≤◌, ◌++◌, ◌∙◌, length, take, ap, sym, subst}
use Rattle.aig_binary.proofs.LetterLaws.{three_at_most, taken_twice}
use Rattle.aig_binary.proofs.letters.first_letters.Goals as goal

pub append-requires-2 : goal.append-requires-2
append-requires-2 c = subst (λ (l : List ℕ). length l ≤ 3) (sym c.append.ensures) (three_at_most (c.new-letters.result.items ++ c.args.begun.now))

pub returns : goal.returns
returns c =
    c.append-2.ensures ∙ ap (λ (l : List ℕ). take 3 (l ++ c.args.piece.now)) c.append.ensures ∙ taken_twice (c.new-letters.result.items ++ c.args.begun.now) c.args.piece.now
    ∙ ap (λ (l : List ℕ). take 3 (l ++ c.args.begun.now ++ c.args.piece.now)) c.new-letters.ensures
