use Rattle.std.proofs.Common.{◌≡◌, true, take}
use Rattle.std.specs.Char.{is_ascii_digit}
use Rattle.std.specs.List.{list_all}
use Rattle.file_words.specs.Lines.{digits_value}
use Rattle.file_words.specs.Numbers.{clamped}
use Rattle.file_words.proofs.numbers.number.Given as goal

abbrev pub invariant-loop-digit : goal.invariant-loop-digit
invariant-loop-digit l = (list_all is_ascii_digit (take l.digit-index l.digits) ≡ true) × (l.number ≡ clamped (digits_value (take l.digit-index l.digits)))
