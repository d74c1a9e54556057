-- What a delivery computes at one node is what the definition says of it.
use Rattle.std.proofs.Common.{◌≡◌, ℕ, ◌+◌, ◌<◌, ◌&&◌, nat_lt, cond, List, length, slice_index, ap, ◌∙◌}
use Rattle.std.proofs.lemmas.Bool.{lt-ltb}
use Rattle.frame_net.specs.Flow.{sum_below, least_below}
use Rattle.frame_net.proofs.SumLaws.{sum_below-same}
use Rattle.frame_net.proofs.OrderLaws.{least_below-same}
use Rattle.frame_net.specs.FlowNet.{FlowNet, node_count, row_len, head}
use Rattle.pulse_parts.specs.Delivering.{own, row_outflow, delivered_res, delivered_label}

-- the least over the heads of the row that was read
pub lift_same : (net : FlowNet) (v nodes r : ℕ) (hs row labels : List ℕ) → nodes ≡ node_count net → length hs ≡ row_len net v
    → ((k : ℕ) → k < row_len net v → slice_index hs k ≡ head net v k)
    → r ≡ least_below (length hs) (λ k. cond (nat_lt 0 (slice_index row k)) (slice_index labels (slice_index hs k) + 1) nodes) nodes
    → r ≡ least_below (row_len net v) (λ k. cond (nat_lt 0 (slice_index row k)) (slice_index labels (head net v k) + 1) (node_count net)) (node_count net)
lift_same net v nodes r hs row labels en el eh e =
    e ∙ (ap (λ (x : ℕ). least_below x (λ k. cond (nat_lt 0 (slice_index row k)) (slice_index labels (slice_index hs k) + 1) nodes) nodes) el
    ∙ (ap (λ (n : ℕ). least_below (row_len net v) (λ k. cond (nat_lt 0 (slice_index row k)) (slice_index labels (slice_index hs k) + 1) n) n) en
    ∙ least_below-same (row_len net v) (λ k. cond (nat_lt 0 (slice_index row k)) (slice_index labels (slice_index hs k) + 1) (node_count net))
    (λ k. cond (nat_lt 0 (slice_index row k)) (slice_index labels (head net v k) + 1) (node_count net)) (node_count net)
    (λ k l. ap (λ (h : ℕ). cond (nat_lt 0 (slice_index row k)) (slice_index labels h + 1) (node_count net)) (eh k l))))

-- if all four tests pass, the choice is the first
pub choice_first : (v e l n outflow x r : ℕ) → 1 < v → 0 < e → l < n → outflow < e → r ≡ x → r ≡ cond (nat_lt 1 v && nat_lt 0 e && nat_lt l n && nat_lt outflow e) x l
choice_first v e l n outflow x r a b c d h = rw (lt-ltb 1 v a, lt-ltb 0 e b, lt-ltb l n c, lt-ltb outflow e d) h

-- the pushes of a row that was read sum to what the node sends
pub sent_same : (net : FlowNet) (xs : List ℕ) (v len : ℕ) (ys : List ℕ) → len ≡ row_len net v → ((k : ℕ) → k < row_len net v → slice_index ys k ≡ own net xs v k)
    → sum_below len (slice_index ys) ≡ row_outflow net xs v
sent_same net xs v len ys e h = ap (λ (x : ℕ). sum_below x (slice_index ys)) e ∙ sum_below-same (row_len net v) (slice_index ys) (own net xs v) h

-- the label by the row after delivery
pub label_same : (net : FlowNet) (labels xs : List ℕ) (v e outflow r : ℕ) (row new : List ℕ) → outflow ≡ row_outflow net xs v
    → ((k : ℕ) → k < row_len net v → slice_index new k ≡ delivered_res net xs v (slice_index row) k)
    → r ≡ cond (nat_lt 1 v && nat_lt 0 e && nat_lt (slice_index labels v) (node_count net) && nat_lt outflow e)
    (least_below (row_len net v) (λ k. cond (nat_lt 0 (slice_index new k)) (slice_index labels (head net v k) + 1) (node_count net)) (node_count net)) (slice_index labels v)
    → r ≡ delivered_label net labels xs v (slice_index row) e
label_same net labels xs v e outflow r row new es er h =
    h ∙ (ap (λ (x : ℕ). cond (nat_lt 1 v && nat_lt 0 e && nat_lt (slice_index labels v) (node_count net) && nat_lt x e)
    (least_below (row_len net v) (λ k. cond (nat_lt 0 (slice_index new k)) (slice_index labels (head net v k) + 1) (node_count net)) (node_count net)) (slice_index labels v)) es
    ∙ ap (λ (y : ℕ). cond (nat_lt 1 v && nat_lt 0 e && nat_lt (slice_index labels v) (node_count net) && nat_lt (row_outflow net xs v) e) y (slice_index labels v))
    (least_below-same (row_len net v) (λ k. cond (nat_lt 0 (slice_index new k)) (slice_index labels (head net v k) + 1) (node_count net))
    (λ k. cond (nat_lt 0 (delivered_res net xs v (slice_index row) k)) (slice_index labels (head net v k) + 1) (node_count net)) (node_count net)
    (λ k l. ap (λ (x : ℕ). cond (nat_lt 0 x) (slice_index labels (head net v k) + 1) (node_count net)) (er k l))))
