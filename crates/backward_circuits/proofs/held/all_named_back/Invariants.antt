use Rattle.std.proofs.Common.{ℕ, ◌<◌, get_or}
use Rattle.std.specs.List.{Contains}
use Rattle.aig_graph.specs.declared.properties.Symbol.{Symbol}
use Rattle.backward_circuits.specs.MovedBack.{IsNamedBack}
use Rattle.backward_circuits.proofs.held.all_named_back.Given as goal

abbrev pub invariant-loop-name : goal.invariant-loop-name
invariant-loop-name l = (j : ℕ) (d : Symbol) → j < l.name-index → Contains l.keep (get_or l.names j d).position → IsNamedBack l.after l.map (get_or l.names j d)
