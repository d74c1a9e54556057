use Rattle.std.proofs.Common.{arith, ap, ◌∙◌, ◌++◌, ◌∷◌, ℕ, List, decimal, length}
use Rattle.std.proofs.lemmas.List.{drop_all}
use Rattle.counted_io.specs.Line.{line}
use Rattle.certificate_files.proofs.filling.fill_gate.Goals as goal

pub returns-clause-text : goal.returns-clause-text
unfolding line
returns-clause-text c =
    let none = drop_all (length c.args.line.now) c.args.line.now (omega arith) in
    let last = c.fill_byte-end.ensures.text ∙ ap (λ (xs : List ℕ). 10 ∷ xs) none in
    let digits = c.fill_number-digits_at.ensures.text ∙ ap (λ (xs : List ℕ). decimal c.args.gate ++ xs) last in
    let spaced = c.fill_byte-space_at.ensures.text ∙ ap (λ (xs : List ℕ). 32 ∷ xs) digits in
    c.fill_byte.ensures.text ∙ ap (λ (xs : List ℕ). 103 ∷ xs) spaced
