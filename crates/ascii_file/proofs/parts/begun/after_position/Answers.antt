use Rattle.std.proofs.Common.{ℕ, ◌+◌, ◌-◌, ◌*◌, Some, sym, ap, ◌∙◌}
use Rattle.ascii_file.specs.parts.Rows.{clamped}
use Rattle.ascii_file.specs.parts.Symbols.{position_with}
use Rattle.ascii_file.proofs.SymbolLaws.{at_space, at_digit, at_other}
use Rattle.ascii_file.proofs.parts.begun.after_position.Goals as goal

pub returns-then-byte-eq32 : goal.returns-then-byte-eq32
returns-then-byte-eq32 c rest = c.named.ensures rest ∙ at_space c.args.kind c.args.number c.args.byte rest c.if-byte-eq32.true

pub returns-then-is_ascii_digit : goal.returns-then-is_ascii_digit
returns-then-is_ascii_digit c rest =
    ap (λ (n : ℕ). position_with c.args.kind (Some n) rest) (c.with_digit.ensures ∙ ap (λ (n : ℕ). clamped (10 * n + (c.args.byte - 48))) c.unwrap_or.ensures)
    ∙ at_digit c.args.kind c.args.number c.args.byte rest c.if-byte-eq32.false (sym c.is_ascii_digit.ensures.value ∙ c.if-is_ascii_digit.true)

pub returns : goal.returns
returns c rest = at_other c.args.kind c.args.number c.args.byte rest c.if-byte-eq32.false (sym c.is_ascii_digit.ensures.value ∙ c.if-is_ascii_digit.false)
