use Rattle.std.proofs.lemmas.Result.{IfOk-weaker}
use Rattle.certificate_audits.specs.Replays.{IsGuessedReplay, IsReplay}
use Rattle.certificate_audits.proofs.merged.replay_guessed.Goals as goal

pub merged_start-requires : goal.merged_start-requires
merged_start-requires c = record { in_range = c.requires }

pub replay_of-requires : goal.replay_of-requires
replay_of-requires c = c.in_ok-start.ensures.in_range

pub returns : goal.returns
returns c =
    let held = c.args.keep.now in
    let start = c.in_ok-start.start in
    IfOk-weaker c.replay_of.result (IsReplay c.args.bound start.keep start.circuit c.args.blocks.now) (IsGuessedReplay c.args.bound held c.args.circuit.now c.args.blocks.now)
    (λ replay is. record { lines = start.merged; is = record { start = start.circuit; kept = start.kept_free; start_held = start.keep; merges = c.in_ok-start.ensures.merges; of_start = is } }) c.replay_of.ensures
