use Rattle.std.proofs.Common.{◌≡◌, ◌+◌, ◌++◌, ◌∙◌, None, length, length-append, ap, sym, subst, arith}
use Rattle.binary_file.specs.declared.stage.Stage.{Stage}
use Rattle.binary_file.specs.declared.reader.AigReader.{AigReader}
use Rattle.binary_file.specs.Holding.{HasBeenFed}
use Rattle.binary_file.specs.Stages.{HoldsStage, failure}
use Rattle.binary_file.proofs.ReaderLaws.{open_holds, open_reads, was_sound, failed_isnt_sound}
use Rattle.binary_file.proofs.reader.AigReader.feed.Goals as goal

pub returns-in-Ok-clause-held : goal.returns-in-Ok-clause-held
returns-in-Ok-clause-held c = λ bytes held.
    let piece = c.args.piece.now in
    let was = c.replace-stage.ensures.value in
    let place : failure c.replace-stage.result ≡ None → length bytes + length piece ≡ c.in-Some.end = λ sound. omega (arith, held.count (ap failure (sym was) ∙ sound), c.in-Some.ensures) in
    let held_open = c.in-Ok.ensures.held bytes (subst (λ (s : Stage). HoldsStage s bytes) (sym was) held.stage) place in
    let sound = was_sound (failure c.replace-stage.result) c.in-Ok.stage c.in-Ok.ensures.stays in (
      subst (λ (reader : AigReader). HasBeenFed reader (bytes ++ piece)) (sym c.enter-in-Ok.ensures)
          (record { count = λ still. omega (arith, length-append bytes piece, place sound); stage = open_holds c.in-Ok.stage (bytes ++ piece) held_open }),
      open_reads c.in-Ok.stage (bytes ++ piece) held_open,
    )

pub returns-in-Err-clause-held : goal.returns-in-Err-clause-held
returns-in-Err-clause-held c = λ bytes held.
    let piece = c.args.piece.now in
    let was = c.replace-stage.ensures.value in
    let place : failure c.replace-stage.result ≡ None → length bytes + length piece ≡ c.in-Some.end = λ sound. omega (arith, held.count (ap failure (sym was) ∙ sound), c.in-Some.ensures) in
    let fails = c.in-Err.ensures.held bytes (subst (λ (s : Stage). HoldsStage s bytes) (sym was) held.stage) place in
    (subst (λ (reader : AigReader). HasBeenFed reader (bytes ++ piece)) (sym c.enter-in-Err.ensures) (record { count = failed_isnt_sound c.in-Err.fault; stage = fails }), fails)
