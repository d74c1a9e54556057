use Rattle.std.proofs.Common.{ℕ, ◌≡◌, List, bytes_eq, take}
use Rattle.std.specs.HashSet.{contains_by}
use Rattle.std.specs.List.{list_any}
use Rattle.aig_graph.specs.Tables.{table}
use Rattle.reports.specs.waves.Names.{apart}
use Rattle.reports.proofs.waves.names.told_apart.Given as goal

abbrev pub invariant-loop-k : goal.invariant-loop-k
invariant-loop-k l = record {
  told : l.told.items ≡ table 0 l.k (apart l.names);
  found : (q : List ℕ) → contains_by (λ k. bytes_eq q k.now) l.found ≡ list_any (bytes_eq q) (take l.k l.names);
}
