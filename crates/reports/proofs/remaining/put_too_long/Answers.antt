use Rattle.std.proofs.Common.{ℕ, Option, subst, sym}
use Rattle.std.specs.Prelude.{codes}
use Rattle.counted_io.specs.Buffered.{Puts}
use Rattle.counted_io.proofs.BufferedLaws.{puts-then}
use Rattle.reports.specs.Remaining.{too_long_text}
use Rattle.reports.proofs.remaining.put_too_long.Goals as goal

pub returns-in-Some : goal.returns-in-Some
returns-in-Some g c =
    let text = rw c.from.ensures at (puts-then {xs = codes ", read by a gate on too long a path "} c.put.ensures c.put_number.ensures) in
    subst (λ (o : Option ℕ). Puts g.W.CountedWrite.output c.args.out.now c.put_number.new.self (too_long_text o)) (sym c.in-Some.is) text
