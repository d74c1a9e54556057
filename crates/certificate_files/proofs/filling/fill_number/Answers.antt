use Rattle.std.proofs.Common.{rules, arith, decimal, length, ◌≤◌}
use Rattle.std.proofs.lemmas.Fmt.{length-decimal-le}
use Rattle.certificate_files.proofs.filling.fill_number.Goals as goal

pub write_digits-requires : goal.write_digits-requires
write_digits-requires c = search (rules, length-decimal-le 10)

pub returns-clause-most : goal.returns-clause-most
returns-clause-most c =
    let short : length (decimal c.from.result) ≤ 10 = search (rules, length-decimal-le 10) in
    omega (arith, c.write_digits.ensures.start, short)
