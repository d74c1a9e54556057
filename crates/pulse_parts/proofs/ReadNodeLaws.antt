-- What a read computes at one node is what the definition says of it.
use Rattle.std.proofs.Common.{◌≡◌, ℕ, ◌+◌, ◌<◌, ◌==◌, ◌&&◌, nat_lt, cond, List, length, slice_index, arith, refl, ap, ◌∙◌}
use Rattle.frame_net.proofs.SumLaws.{sum_below-same}
use Rattle.frame_net.specs.FlowNet.{FlowNet, node_count, row_len, head}
use Rattle.frame_net.specs.Rows.{node_admissible, IsRowOfPushes}
use Rattle.pulse_parts.specs.Reading.{arc_admissible, arc_push}

-- the row that was written is the row of arc pushes
pub pushes_of_row : (net : FlowNet) (v nodes excess : ℕ) (hs rs ls row : List ℕ)
    → nodes ≡ node_count net
    → ((k : ℕ) → k < row_len net v → slice_index hs k ≡ head net v k)
    → length row ≡ row_len net v
    → IsRowOfPushes (node_admissible (nat_lt 1 v && nat_lt 0 excess && nat_lt (slice_index ls v) nodes) hs rs ls (slice_index ls v)) excess row
    → (k : ℕ) → k < row_len net v → slice_index row k ≡ arc_push net ls v (slice_index rs) excess k
pushes_of_row net v nodes excess hs rs ls row en he len h k l =
    omega (arith, h k (omega (arith, len)), room_same k l, sum_below-same k (node_admissible (nat_lt 1 v && nat_lt 0 excess && nat_lt (slice_index ls v) nodes) hs rs ls (slice_index ls v)) (arc_admissible net ls v (slice_index rs) excess) (λ j lt. room_same j (omega arith)))
  where
    room_same : (j : ℕ) → j < row_len net v → node_admissible (nat_lt 1 v && nat_lt 0 excess && nat_lt (slice_index ls v) nodes) hs rs ls (slice_index ls v) j ≡ arc_admissible net ls v (slice_index rs) excess j
    room_same j lt = rw (en, he j lt) refl

-- two rows that agree are read alike
pub push_rows : (net : FlowNet) (labels : List ℕ) (v e d : ℕ) (r q : ℕ → ℕ) → ((k : ℕ) → k < row_len net v → r k ≡ q k) → e ≡ d
    → (k : ℕ) → k < row_len net v → arc_push net labels v r e k ≡ arc_push net labels v q d k
push_rows net labels v e d r q h g k l =
    ap (λ (x : ℕ). arc_push net labels v r x k) g
    ∙ omega (arith, room_same k l, sum_below-same k (arc_admissible net labels v r d) (arc_admissible net labels v q d) (λ j lt. room_same j (omega arith)))
  where
    room_same : (j : ℕ) → j < row_len net v → arc_admissible net labels v r d j ≡ arc_admissible net labels v q d j
    room_same j lt = ap (λ (x : ℕ). cond (nat_lt 1 v && nat_lt 0 d && nat_lt (slice_index labels v) (node_count net) && (slice_index labels (head net v j) + 1 == slice_index labels v)) x 0) (h j lt)
