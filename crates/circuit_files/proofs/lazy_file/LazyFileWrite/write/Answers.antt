use Rattle.std.proofs.Common.{Some, ap, sym, subst, take, ◌∙◌}
use mathlib.Core.Logic.{∥∥₁_map}
use Rattle.std.specs.Io.KnownBytes.{WriteAppends}
use Rattle.circuit_files.specs.WrittenFiles.{HasGrown, HasTaken}
use Rattle.circuit_files.proofs.FileLaws.{grown, just_made, stays, there_is}
use Rattle.circuit_files.proofs.lazy_file.LazyFileWrite.write.Goals.{in-Some, in-None+in_ok-file-in-None}
use Rattle.circuit_files.proofs.lazy_file.LazyFileWrite.write.Goals as goal

pub invariant_of-self-in-Ok : goal.invariant_of-self-in-Ok
invariant_of-self-in-Ok g c =
    let old = c.args.self.now in
    let path = old.path.now in
    let contents = g.R.Output.Write.contents in
    let made = g.R.OutputFiles.is_made in
    let before : ∥ HasGrown contents made path old.given.bytes c.match-take.file ∥₁ =
    elim c.match-take.branch [
      | in-Some w ↦ ∥∥₁_map old.taken (λ t. there_is contents made path old.given.bytes old.file c.match-take.file (sym c.take.ensures.value ∙ w.in-Some.is ∙ ap (λ f. Some f) (sym w.file-is)) t)
      | in-None+in_ok-file-in-None w ↦
          ∥∥₁_map old.taken (λ t.
          just_made contents made path old.given.bytes c.match-take.file (subst (HasTaken contents made path old.given.bytes) (sym c.take.ensures.value ∙ w.in-None.is) t)
          (subst (λ f. made f path) (sym w.file-is) w.in_ok-file-in-None.ensures))
    ] in
    record {
      taken = ∥∥₁_map before (grown contents made path old.given.bytes (take c.in-Ok.count c.args.bytes.now) c.then-self.result.bytes c.match-take.file c.write-written.new.self c.then-self.ensures
          (subst (λ r. WriteAppends (contents c.match-take.file) (contents c.write-written.new.self) r c.args.bytes.now) c.in-Ok.is c.write-written.ensures.bytes));
    }

pub invariant_of-self-in_default : goal.invariant_of-self-in_default
invariant_of-self-in_default g c =
    let old = c.args.self.now in
    let path = old.path.now in
    let contents = g.R.Output.Write.contents in
    let made = g.R.OutputFiles.is_made in
    let before : ∥ HasGrown contents made path old.given.bytes c.match-take.file ∥₁ =
    elim c.match-take.branch [
      | in-Some w ↦ ∥∥₁_map old.taken (λ t. there_is contents made path old.given.bytes old.file c.match-take.file (sym c.take.ensures.value ∙ w.in-Some.is ∙ ap (λ f. Some f) (sym w.file-is)) t)
      | in-None+in_ok-file-in-None w ↦
          ∥∥₁_map old.taken (λ t.
          just_made contents made path old.given.bytes c.match-take.file (subst (HasTaken contents made path old.given.bytes) (sym c.take.ensures.value ∙ w.in-None.is) t)
          (subst (λ f. made f path) (sym w.file-is) w.in_ok-file-in-None.ensures))
    ] in
    record {
      taken = ∥∥₁_map before (stays contents made path old.given.bytes c.match-take.file c.write-written.new.self
          (subst (λ r. WriteAppends (contents c.match-take.file) (contents c.write-written.new.self) r c.args.bytes.now) c.in_default.is c.write-written.ensures.bytes));
    }
