use Rattle.std.proofs.Common.{◌<◌, length, nat_eq, sym, arith}
use Rattle.std.proofs.lemmas.List.Quantifiers.{position-Some}
use Rattle.circuit_files.proofs.pages.showing.line_length.Goals as goal

-- a newline stands before the end
pub returns-in-Some-clause-within : goal.returns-in-Some-clause-within
returns-in-Some-clause-within c =
    let before : c.in-Some.end < length c.args.bytes.now = (position-Some (λ b. nat_eq b 10) c.args.bytes.now c.in-Some.end 0 (sym c.in-Some.ensures)).0 in
    omega (arith, before)
