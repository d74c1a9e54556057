use Rattle.std.proofs.Common.{ℕ, ◌+◌, ◌-◌, ◌*◌, ◌∷◌, Some, None, Option, sym, ap, ◌∙◌}
use Rattle.ascii_file.specs.parts.Rows.{clamped, read_on}
use Rattle.ascii_file.specs.parts.Open.{ended}
use Rattle.ascii_file.proofs.RowLaws.{at_space, at_digit, at_other, stays_none}
use Rattle.ascii_file.proofs.parts.numbers.NumberLine.take_byte.Goals as goal

pub returns-then-byte-eq32 : goal.returns-then-byte-eq32
returns-then-byte-eq32 c rest =
    let old = c.args.self.now in
    ap (λ (n : Option ℕ). ended c.end_number.new.self (read_on clamped n rest)) c.end_number.ensures.number ∙ c.end_number.ensures.ended (read_on clamped None rest)
    ∙ ap (ended old) (sym (at_space old.number rest) ∙ ap (λ (b : ℕ). read_on clamped old.number (b ∷ rest)) (sym c.if-byte-eq32.true))

pub returns-then-is_ascii_digit : goal.returns-then-is_ascii_digit
returns-then-is_ascii_digit c rest =
    let old = c.args.self.now in
    ap (λ (n : ℕ). ended old (read_on clamped (Some n) rest)) (c.with_digit.ensures ∙ ap (λ (n : ℕ). clamped (10 * n + (c.args.byte - 48))) c.unwrap_or.ensures)
    ∙ ap (ended old) (sym (at_digit old.number c.args.byte rest c.if-byte-eq32.false (sym c.is_ascii_digit.ensures.value ∙ c.if-is_ascii_digit.true)))

pub returns-else-is_ascii_digit : goal.returns-else-is_ascii_digit
returns-else-is_ascii_digit c rest =
    let old = c.args.self.now in
    sym (ap (ended old) (at_other old.number c.args.byte rest c.if-byte-eq32.false (sym c.is_ascii_digit.ensures.value ∙ c.if-is_ascii_digit.false)) ∙ stays_none old.is_spelt)
