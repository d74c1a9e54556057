use Rattle.std.proofs.Common.{[], ◌∷◌, ◌∙◌}
use Rattle.std.proofs.lemmas.Result.{IfOk-weaker}
use Rattle.aig_graph.specs.Laws.{all_free}
use Rattle.merging_rounds.proofs.StageLaws.{notified-all}
use Rattle.merging_rounds.proofs.running.finish_rounds.Goals as goal

pub finish-requires-after_bounds : goal.finish-requires-after_bounds
finish-requires-after_bounds g c κs within = let is = c.requires in (is.0, all_free is.0.aig, is.0, is.1.starts)

pub rounds_after-requires-after_bounds : goal.rounds_after-requires-after_bounds
rounds_after-requires-after_bounds g c κs within =
    let is = c.requires in
    let read = is.0 in
    let run = c.in_ok-run.run' in
    let begun = is.1.starts in (
      read,
      run.retimed ∷ [],
      c.in_ok-first.ensures read (record {
        graph = is.1.graph;
        netlist = is.1.netlist;
        bound_is = c.in_ok-run.ensures.bound ∙ begun.bound_is;
        followed = c.in_ok-run.ensures.retimed read (all_free read.aig) read begun;
      }),
    )

pub returns : goal.returns
returns g c =
    let run = c.in_ok-run.run' in
    IfOk-weaker c.rounds_after.result _ _ (λ end more. λ read is.
    let begun = is.starts in
    let all = more read (run.retimed ∷ []) (c.in_ok-first.ensures read (record {
      graph = is.graph;
      netlist = is.netlist;
      bound_is = c.in_ok-run.ensures.bound ∙ begun.bound_is;
      followed = c.in_ok-run.ensures.retimed read (all_free read.aig) read begun;
    })) in
    record {
      runs = run.retimed ∷ all.1.more;
      followed = all.1.followed;
      nothing = all.0;
      notified = notified-all g.V.FrameWatcher.was_notified c.args.watcher.now c.finish.new.watcher c.rounds_after.new.watcher c.args.options.now.max_frames run.retimed all.1.more all.0
          c.in_ok-run.ensures.notified all.1.notified;
    }) c.rounds_after.ensures
