use Rattle.std.proofs.Common.{ℕ, ◌<◌, List, All, subst}
use Rattle.binary_file.proofs.DeltaLaws.{is_delta-ended}
use Rattle.binary_file.proofs.deltas.decode.DeltaReader.push.Goals as goal

pub returns-then-byte-lt128-clause-form : goal.returns-then-byte-lt128-clause-form
returns-then-byte-lt128-clause-form c = λ low. is_delta-ended c.args.self.now c.args.byte (subst (λ (l : List ℕ). All (λ byte. 127 < byte) l) c.self.view_is c.self.invariant) low
