use Rattle.std.proofs.Common.{◌≡◌, ◌+◌, nat_lt, cond, slice_index}
use Rattle.frame_net.specs.Flow.{least_below}
use Rattle.frame_net.proofs.rows.relabel.Given as goal

abbrev pub invariant-loop-k : goal.invariant-loop-k
invariant-loop-k l = l.least ≡ least_below l.k (λ j. cond (nat_lt 0 (slice_index l.row j)) (slice_index l.labels (slice_index l.heads j) + 1) l.nodes) l.nodes
