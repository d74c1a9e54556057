use Rattle.std.proofs.Common.{◌∙◌, ap, List, ℕ}
use Rattle.std.proofs.lemmas.Result.{on_ok_weaker}
use Rattle.aig_graph.specs.Graph.{first_gate}
use Rattle.aig_graph.specs.Tables.{table}
use Rattle.cleaned_circuits.specs.Latches.{leaf_substitute}
use Rattle.clean.proofs.substitutes.put_leaves.Goals as goal

pub returns : goal.returns
returns c =
    on_ok_weaker c.fill_leaves-done.result
    (λ same. same ∙ ap (λ (xs : List ℕ). table 0 (first_gate c.args.aig.now) (leaf_substitute c.args.aig.now xs)) c.in_ok-marks.ensures.positions) c.fill_leaves-done.ensures
