use Rattle.std.proofs.Common.{[], Some, None, Bool, cond, take, sym, ap, ◌∙◌, arith}
use Rattle.std.proofs.lemmas.List.{length-take}
use Rattle.ascii_file.specs.parts.Rows.{finished}
use Rattle.ascii_file.specs.parts.Open.{ended}
use Rattle.ascii_file.proofs.RowLaws.{at_end, all_numbers}
use Rattle.ascii_file.proofs.parts.numbers.NumberLine.numbers.Goals as goal

pub returns-then-self : goal.returns-then-self
returns-then-self c =
    let new = c.end_number.new.self in
    ap (ended c.args.self.now) (at_end c.args.self.now.number) ∙ sym (c.end_number.ensures.ended (Some []))
    ∙ ap (λ (b : Bool). cond b (finished (take new.len new.numbers) (Some [])) None) c.if-self.true
    ∙ all_numbers (take new.len new.numbers) (omega (arith, length-take new.len new.numbers, new.short))

pub returns-else-self : goal.returns-else-self
returns-else-self c =
    let new = c.end_number.new.self in
    ap (ended c.args.self.now) (at_end c.args.self.now.number) ∙ sym (c.end_number.ensures.ended (Some []))
    ∙ ap (λ (b : Bool). cond b (finished (take new.len new.numbers) (Some [])) None) c.if-self.false
