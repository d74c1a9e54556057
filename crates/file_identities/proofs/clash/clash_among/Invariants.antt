use Rattle.std.proofs.Common.{◌≡◌, drop}
use Rattle.file_identities.specs.Clashes.{clash_among}
use Rattle.file_identities.proofs.clash.clash_among.Given as goal

abbrev pub invariant-loop-other : goal.invariant-loop-other
invariant-loop-other l = clash_among l.first (drop l.other-index l.others) ≡ clash_among l.first l.others
