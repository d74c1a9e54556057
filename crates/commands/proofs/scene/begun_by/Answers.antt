use Rattle.std.proofs.lemmas.List.FromFn.{length-range_with_len}
use Rattle.aig_graph.specs.Graph.{free_latches}
use Rattle.aig_graph.specs.Laws.{all_free}
use Rattle.commands.proofs.scene.begun_by.Goals as goal

pub begin-requires-clause-there : goal.begin-requires-clause-there
begin-requires-clause-there c =
    let d = c.args.circuit.now in (d, all_free d.aig, record { places = length-range_with_len 0 (free_latches d.aig); come = tt })

pub begin-requires-clause-keep : goal.begin-requires-clause-keep
begin-requires-clause-keep c = c.in_ok-keep.ensures.keep

pub returns : goal.returns
returns c =
    let d = c.args.circuit.now in c.in_ok-begun.ensures d (all_free d.aig) (record { places = length-range_with_len 0 (free_latches d.aig); come = tt })
