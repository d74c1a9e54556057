use Rattle.std.proofs.Common.{ℕ, List, subst}
use Rattle.commands.specs.Replaying.{IsReplayFor}
use Rattle.commands.proofs.verification.replayed.Goals as goal

pub replay_of-replay-requires : goal.replay_of-replay-requires
replay_of-replay-requires c = c.in-Ok.ensures.in_range

pub returns-in-Ok-replay : goal.returns-in-Ok-replay
returns-in-Ok-replay c =
    let task = c.args.task.now in
    subst (λ (held : List ℕ). IsReplayFor task.options.bound task.options.merge held c.args.circuit.now c.args.file.now c.in-Ok-replay.replay) c.in-Ok.ensures.held c.in-Ok-replay.ensures
