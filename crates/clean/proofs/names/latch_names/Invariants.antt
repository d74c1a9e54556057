use Rattle.std.proofs.Common.{◌≡◌, ◌+◌, map, filter, take}
use Rattle.aig_graph.specs.Graph.{first_latch}
use Rattle.cleaned_circuits.specs.Trimmed.{new_name}
use Rattle.clean.specs.Sweep.{is_marked}
use Rattle.clean.proofs.names.latch_names.Given as goal

abbrev pub invariant-loop-name : goal.invariant-loop-name
invariant-loop-name l =
    l.copies.items ≡ map (new_name l.trim.aig.now (is_marked l.trim.reached.now))
    (filter (λ name. is_marked l.trim.reached.now (first_latch l.trim.aig.now + name.position)) (take l.name-index l.names))
