use Rattle.std.proofs.Common.{ℕ, List, Option, None, cond, nat_eq, drop, ap}
use Rattle.std.specs.List.{starts_with}
use Rattle.ascii_file.specs.parts.Header.{header_row}
use Rattle.ascii_file.proofs.parts.header_line.HeaderLine.new.Goals as goal

pub returns : goal.returns
unfolding header_row
returns c rest = ap (λ (o : Option (List ℕ)). cond (starts_with nat_eq rest c.args.letters) o None) (c.new.ensures (drop 4 rest))
