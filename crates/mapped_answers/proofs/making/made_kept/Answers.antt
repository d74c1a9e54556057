use Rattle.std.proofs.Common.{List, ℕ, [], sym, subst}
use Rattle.std.proofs.lemmas.List.FromFn.{length-range_with_len}
use Rattle.aig_graph.specs.Graph.{free_latches}
use Rattle.aig_graph.specs.Laws.{all_free}
use Rattle.merging_rounds.specs.Following.{AreRoundsSeen}
use Rattle.merging_rounds.specs.declared.rounds.Rounds.{Rounds}
use Rattle.merging_rounds.proofs.SeenLaws.{ended-rounds}
use Rattle.mapped_answers.proofs.making.made_kept.Goals as goal

pub begin-requires-clause-there : goal.begin-requires-clause-there
begin-requires-clause-there g c =
    let d = c.args.circuit.now in (d, all_free d.aig, record { places = length-range_with_len 0 (free_latches d.aig); come = c.in_ok-identity.ensures })

pub begin-requires-clause-keep : goal.begin-requires-clause-keep
begin-requires-clause-keep g c = c.requires

pub finish_rounds-requires-after_bounds : goal.finish_rounds-requires-after_bounds
finish_rounds-requires-after_bounds g c κs within =
    let d = c.args.circuit.now in (
      d,
      record {
        graph = c.known.ensures.graph;
        netlist = c.known.ensures.netlist;
        starts = c.in_ok-begun.ensures d (all_free d.aig) (record { places = length-range_with_len 0 (free_latches d.aig); come = c.in_ok-identity.ensures });
      },
    )

pub with_map-requires : goal.with_map-requires
with_map-requires g c =
    let d = c.args.circuit.now in
    (c.in_ok-end.ensures d (record {
      graph = c.known.ensures.graph;
      netlist = c.known.ensures.netlist;
      starts = c.in_ok-begun.ensures d (all_free d.aig) (record { places = length-range_with_len 0 (free_latches d.aig); come = c.in_ok-identity.ensures });
    })).followed.come

pub returns-clause-mapped : goal.returns-clause-mapped
returns-clause-mapped g c = c.in_ok-made.ensures.mapped

pub returns-clause-seen : goal.returns-clause-seen
returns-clause-seen g c =
    let d = c.args.circuit.now in
    let options = c.args.options.now in
    let was_notified = g.V.FrameWatcher.was_notified in
    let end = c.in_ok-end.end in
    let same = c.in_ok-made.ensures.same in
    let ends = c.in_ok-end.ensures d (record {
      graph = c.known.ensures.graph;
      netlist = c.known.ensures.netlist;
      starts = c.in_ok-begun.ensures d (all_free d.aig) (record { places = length-range_with_len 0 (free_latches d.aig); come = c.in_ok-identity.ensures });
    }) in
    let seen = ended-rounds _ was_notified options d end c.args.watcher.now c.finish_rounds.new.watcher ends in
    let P : Rounds → List ℕ → Type 0 = λ r now. AreRoundsSeen was_notified [] [] options d r now c.args.watcher.now c.finish_rounds.new.watcher in
    subst (λ (r : Rounds). P r c.in_ok-made.made.keep) (sym same.0) (subst (P end.retimed) (sym same.1) seen)
