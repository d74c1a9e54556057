use Rattle.std.proofs.Common.{◌+◌, ◌≡◌, List, arith, get_or, subst}
use Rattle.std.proofs.lemmas.List.{take_rest}
use Rattle.command_endings.specs.declared.progress.laps.Lap.{Lap}
use Rattle.command_endings.specs.declared.progress.laps.Part.TheVariants.{Reading}
use Rattle.command_endings.specs.progress.Laps.{look_of}
use Rattle.command_endings.proofs.LapLaws.{frame-more, frames-end}
use Rattle.command_endings.proofs.progress.laps.frames_in.Goals as goal

pub loop-k-preserved : goal.loop-k-preserved
loop-k-preserved c =
    let laps = c.args.laps.now in
    let k = c.loop-k.k in
    let none : Lap = record { part = Reading; microseconds = 0 } in
    frame-more laps k none c.loop-k-test.true c.loop-k.frames.items c.add.new.frames.items c.look_of.result c.loop-k.invariant c.in_ok-add.ensures
    (subst (λ (rest : List Lap). c.look_of.result ≡ look_of (get_or laps k none) rest) (take_rest laps (k + 1)) c.look_of.ensures)

pub returns : goal.returns
returns c = frames-end c.loop-k.frames.items c.args.laps.now c.loop-k.k (omega (arith, c.loop-k-test.false)) c.loop-k.invariant
