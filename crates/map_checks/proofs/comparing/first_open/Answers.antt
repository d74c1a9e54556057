use Rattle.std.proofs.Common.{◌∙◌, arith, ap}
use Rattle.std.proofs.lemmas.List.{get_or_default}
use Rattle.gate_sharing.specs.Copies.{copy_of}
use Rattle.map_checks.proofs.comparing.first_open.Goals as goal

pub returns : goal.returns
returns c = λ k d less. ap (copy_of c.args.copied.now) (get_or_default c.args.lits.now k d 0 less) ∙ c.loop-place.invariant k (omega (arith, c.loop-place-test.false, less))
