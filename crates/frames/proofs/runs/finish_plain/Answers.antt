use Rattle.merging_rounds.proofs.SeenLaws.{ended-rounds}
use Rattle.frames.proofs.runs.finish_plain.Goals as goal

pub finish_rounds-requires-after_bounds : goal.finish_rounds-requires-after_bounds
finish_rounds-requires-after_bounds g c κs within = c.requires

pub returns : goal.returns
returns g c = λ d begun.
    ended-rounds _ g.V.FrameWatcher.was_notified c.args.options.now d c.in_ok-end.end c.args.watcher.now c.finish_rounds.new.watcher (c.in_ok-end.ensures d begun)
