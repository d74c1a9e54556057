use Rattle.std.proofs.Common.{◌≡◌, ◌≤◌, vec_capacity}
use Rattle.aig_graph.specs.Tables.{table}
use Rattle.aig_graph.specs.Graph.{first_latch, latches_and_gates}
use Rattle.pictures.specs.Looks.{look_with}
use Rattle.pictures.proofs.view.looks_with.Given as goal

abbrev pub invariant-loop-k : goal.invariant-loop-k
invariant-loop-k l = record { room : latches_and_gates l.aig ≤ vec_capacity l.looks; filled : l.looks.items ≡ table (first_latch l.aig) l.k (look_with l.aig l.keep l.pass l.set l.read) }
