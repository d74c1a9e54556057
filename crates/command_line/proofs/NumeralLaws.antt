-- That reading a text as a number gives what the text is a numeral of.
use Rattle.std.proofs.Common.{ℕ, ◌≡◌, ◌<◌, ◌^◌, ◌∙◌, Bool, true, false, List, [], ◌∷◌, length, nat_lt, refl, sym}
use Rattle.std.specs.Prelude.{Result, Ok, Err}
use Rattle.std.specs.Bool.{Decides}
use Rattle.std.specs.Result.{result_unwrap_or}
use Rattle.std.specs.Char.{digit_value}
use Rattle.std.specs.Str.Parse.{AllDigits, IsNumeral, ParsesUnsigned, digits_value, without_leading_plus}
use Rattle.std.proofs.lemmas.Bool.{cond-true, cond-false}
use Rattle.std.proofs.lemmas.Bool.Decides.{Decides-and, Decides-ltb}
use Rattle.command_line.specs.Asking.{are_digits, is_numeral, number_of}

digits_decided : (ds : List ℕ) → Decides (are_digits ds) (AllDigits 10 ds)
digits_decided [] = (λ _. tt, λ _. refl)
digits_decided (c ∷ cs) = Decides-and (nat_lt (digit_value c) 10) (are_digits cs) (Decides-ltb (digit_value c) 10) (digits_decided cs)

numeral_decided : (ds : List ℕ) → Decides (is_numeral ds) (IsNumeral 10 ds × (digits_value 10 ds < 2 ^ 32))
numeral_decided ds =
    Decides-and _ _ (Decides-and (nat_lt 0 (length ds)) (are_digits ds) (Decides-ltb 0 (length ds)) (digits_decided ds))
    (Decides-ltb (digits_value 10 ds) (2 ^ 32))

refuted : (b : Bool) (P : Type 0) → Decides b P → ¬ P → b ≡ false
refuted true P d n = absurd (n (d.0 refl))
refuted false P d n = refl

-- the number that is read, or 0 where none is
pub number_read : {E : Type 0} (text : List ℕ) (r : Result ℕ E) → ParsesUnsigned 32 10 text r → result_unwrap_or r 0 ≡ number_of text
unfolding number_of
number_read text (Ok n) parsed = parsed.1 ∙ sym (cond-true _ _ _ ((numeral_decided (without_leading_plus text)).1 parsed.0))
number_read text (Err e) parsed = sym (cond-false _ _ _ (refuted _ _ (numeral_decided (without_leading_plus text)) parsed))
