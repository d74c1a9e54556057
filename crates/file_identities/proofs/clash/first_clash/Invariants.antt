use Rattle.std.proofs.Common.{◌≡◌, drop}
use Rattle.file_identities.specs.Clashes.{first_clash}
use Rattle.file_identities.proofs.clash.first_clash.Given as goal

abbrev pub invariant-loop-k : goal.invariant-loop-k
invariant-loop-k l = first_clash (drop l.k l.written) l.read ≡ first_clash l.written l.read
