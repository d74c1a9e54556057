-- A number, digit by digit.
use Rattle.std.proofs.Common.{ℕ, ◌+◌, ◌-◌, ◌*◌, ◌<◌, ◌≡◌, length, List, [], ◌∷◌, take, arith, ap, sym, ◌∙◌, get_or}
use Rattle.std.proofs.lemmas.List.{take_more}
use Rattle.std.proofs.lemmas.List.Sums.{fold-append}
use Rattle.file_words.specs.Lines.{digits_value}
use Rattle.file_words.specs.Numbers.{clamped}

abbrev step : ℕ → ℕ → ℕ
step value digit = 10 * value + (digit - 48)

-- one more digit
pub value_more : (digits : List ℕ) (i digit number : ℕ) → i < length digits → digit ≡ get_or digits i 0
    → number ≡ clamped (digits_value (take i digits)) → clamped (10 * number + (digit - 48)) ≡ clamped (digits_value (take (i + 1) digits))
value_more digits i digit number within here is =
    let value = digits_value (take i digits) in
    let cut : clamped (10 * number + (digit - 48)) ≡ clamped (step value digit) = omega (arith, is) in
    let next : digits_value (take (i + 1) digits) ≡ step value digit =
    ap digits_value (take_more digits i 0 within) ∙ fold-append step 0 (take i digits) (get_or digits i 0 ∷ []) ∙ ap (step value) (sym here) in
    cut ∙ ap clamped (sym next)
