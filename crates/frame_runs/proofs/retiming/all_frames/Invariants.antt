use Rattle.std.proofs.Common.{ℕ, List, Option, ◌≡◌}
use Rattle.aig_graph.specs.Circuits.{Netlist}
use Rattle.frame_runs.specs.Certified.{AreCollected}
use Rattle.frame_runs.specs.Stages.{Notifies, frame_stages}
use Rattle.frame_runs.specs.Merging.{ReadCircuit}
use Rattle.frame_runs.specs.Following.{IsFollowed}
use Rattle.frame_runs.proofs.retiming.all_frames.Given as goal

-- The first circuit is the cleaning of whatever circuit d, and c was read. The watcher has been
-- notified of each frame, and the bound stays.
abbrev pub invariant-loop : goal.invariant-loop
invariant-loop g l =
    let start = l.fn.start in
    ((c d : Netlist) (read : Option ReadCircuit) (held before : List ℕ) → IsFollowed g.F.RunFollower.has_come l.options c d read held before 0 start
    → IsFollowed g.F.RunFollower.has_come l.options c d read held before l.counter l.run × AreCollected l.options start.bound held d l.counter l.records)
    × Notifies g.V.FrameWatcher.was_notified l.fn.watcher l.watcher (frame_stages 0 l.run.retimed.frames)
    × (l.run.bound ≡ start.bound)
