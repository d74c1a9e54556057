use Rattle.std.proofs.Common.{◌≡◌, ◌<◌, ◌≤◌, ◌∙◌, Some, ap, arith}
use Rattle.retimed_circuits.specs.Frames.{moved_over}
use Rattle.path_levels.specs.Levels.{levels}
use Rattle.certificate_audits.proofs.judging.judge_move.Goals as goal

pub moved_over-requires-clause-saves : goal.moved_over-requires-clause-saves
moved_over-requires-clause-saves c = (Some c.args.most, c.requires.saves)

pub returns-in-Ok : goal.returns-in-Ok
returns-in-Ok c =
    let stage = c.args.stage.now in
    let counted : c.in-Ok.high ≡ levels (moved_over stage.keep stage.circuit c.args.block.now.gates) = c.in-Ok.ensures ∙ ap levels c.in_ok-after.ensures.circuit in
    let short : levels (moved_over stage.keep stage.circuit c.args.block.now.gates) ≤ c.args.most = omega (arith, counted, c.if-high-most.true) in
    record { saves = c.requires.saves; keeps = short }

pub returns-in-Ok-2 : goal.returns-in-Ok-2
returns-in-Ok-2 c =
    let stage = c.args.stage.now in
    let counted : c.in-Ok.high ≡ levels (moved_over stage.keep stage.circuit c.args.block.now.gates) = c.in-Ok.ensures ∙ ap levels c.in_ok-after.ensures.circuit in
    let long : c.args.most < levels (moved_over stage.keep stage.circuit c.args.block.now.gates) = omega (arith, counted, c.if-high-most.false) in
    record { saves = c.requires.saves; longer = long }
