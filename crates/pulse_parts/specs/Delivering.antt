use Rattle.std.specs.Prelude.{◌≡◌, ℕ, ◌+◌, ◌-◌, ◌<◌, ◌≤◌, ◌^◌, nat_lt, cond, ◌&&◌, Bool, List, length, slice_index, slice_index_or, ◌⊎◌}
use Rattle.frame_net.specs.Flow.{sum_below, least_below, State, push}
use Rattle.frame_net.specs.FlowNet.{FlowNet, node_count, start, row_len, head, mate}
use Rattle.pulse_parts.specs.Parts.{Cells, Within, part_cells, pair}
use Rattle.pulse_parts.specs.declared.parts.FlowPart.{FlowPart}

-- the push over the k-th arc of v's row, and the one over its mate
abbrev pub own : FlowNet → List ℕ → ℕ → ℕ → ℕ
own net pushes v k = slice_index pushes (start net v + k)

abbrev pub back : FlowNet → List ℕ → ℕ → ℕ → ℕ
back net pushes v k = slice_index pushes (mate net v k)

abbrev pub row_outflow : FlowNet → List ℕ → ℕ → ℕ
row_outflow net pushes v = sum_below (row_len net v) (own net pushes v)

abbrev pub row_inflow : FlowNet → List ℕ → ℕ → ℕ
row_inflow net pushes v = sum_below (row_len net v) (back net pushes v)

-- whether v was active, by its excess and its label, and keeps some of its excess
abbrev pub keeps_excess : FlowNet → List ℕ → ℕ → ℕ → ℕ → Bool
keeps_excess net labels v excess outflow =
    nat_lt 1 v && nat_lt 0 excess && nat_lt (slice_index labels v) (node_count net) && nat_lt outflow excess

-- the least label of a head that a residual of v's row leads to plus one, or the number of nodes if
-- there is none
abbrev pub label_ahead : FlowNet → List ℕ → ℕ → (ℕ → ℕ) → ℕ
label_ahead net labels v row =
    least_below (row_len net v) (λ k. cond (nat_lt 0 (row k)) (slice_index labels (head net v k) + 1) (node_count net)) (node_count net)

-- the new label of v by its excess before delivery, what it sends, and its residuals after
abbrev pub label_after : FlowNet → List ℕ → ℕ → ℕ → ℕ → (ℕ → ℕ) → ℕ
label_after net labels v excess outflow row =
    cond (keeps_excess net labels v excess outflow) (label_ahead net labels v row) (slice_index labels v)

-- what Deliver makes of v's residuals `row`, its excess and its label
abbrev pub delivered_res : FlowNet → List ℕ → ℕ → (ℕ → ℕ) → ℕ → ℕ
delivered_res net pushes v row k = (row k + back net pushes v k) - own net pushes v k

abbrev pub delivered_excess : FlowNet → List ℕ → ℕ → ℕ → ℕ
delivered_excess net pushes v excess = (excess + row_inflow net pushes v) - row_outflow net pushes v

abbrev pub delivered_relabel : FlowNet → List ℕ → List ℕ → ℕ → (ℕ → ℕ) → ℕ
delivered_relabel net labels pushes v row = label_ahead net labels v (delivered_res net pushes v row)

abbrev pub delivered_label : FlowNet → List ℕ → List ℕ → ℕ → (ℕ → ℕ) → ℕ → ℕ
delivered_label net labels pushes v row excess =
    label_after net labels v excess (row_outflow net pushes v) (delivered_res net pushes v row)

-- what Deliver of v needs, so that no number leaves its type
pub record NodeSafe (net : FlowNet) (pushes : List ℕ) (v : ℕ) (row : ℕ → ℕ) (excess : ℕ) : Type 0 where
  pub owns : (k : ℕ) → k < row_len net v → own net pushes v k ≤ row k
  pub residuals_fit : (k : ℕ) → k < row_len net v → delivered_res net pushes v row k < 2 ^ 32
  pub sends : row_outflow net pushes v ≤ excess
  pub excess_fits : delivered_excess net pushes v excess < 2 ^ 32

-- the row, the excess and the next label of node v are those after its delivery
pub record NodeDelivered (net : FlowNet) (labels pushes : List ℕ) (v i s : ℕ) (old new : Cells) : Type 0 where
  pub row : (k : ℕ) → k < row_len net v → slice_index new.residuals (s + k) ≡ delivered_res net pushes v (λ j. slice_index old.residuals (s + j)) k
  pub excess : slice_index new.excess i ≡ delivered_excess net pushes v (slice_index old.excess i)
  pub next : slice_index new.next i ≡ delivered_label net labels pushes v (λ j. slice_index old.residuals (s + j)) (slice_index old.excess i)

-- the row, the excess and the next label of node v are those of before
pub record NodeKept (net : FlowNet) (v i s : ℕ) (old new : Cells) : Type 0 where
  pub row : (k : ℕ) → k < row_len net v → slice_index new.residuals (s + k) ≡ slice_index old.residuals (s + k)
  pub excess : slice_index new.excess i ≡ slice_index old.excess i
  pub next : slice_index new.next i ≡ slice_index old.next i

-- both have as many residuals, excesses and next labels
pub record SameSizes (old new : Cells) : Type 0 where
  pub residuals : length new.residuals ≡ length old.residuals
  pub excess : length new.excess ≡ length old.excess
  pub next : length new.next ≡ length old.next

-- the nodes from low up to high are delivered, the others are as they were
pub record RangeDelivered (net : FlowNet) (labels pushes : List ℕ) (base first low high : ℕ) (old new : Cells) : Type 0 where
  pub sizes : SameSizes old new
  pub done : (v i s : ℕ) → Within net base first old v i s → low ≤ v → v < high → NodeDelivered net labels pushes v i s old new
  pub kept : (v i s : ℕ) → Within net base first old v i s → (v < low) ⊎ (high ≤ v) → NodeKept net v i s old new

-- every node from low up to high can be delivered
abbrev pub RangeSafe : FlowNet → List ℕ → ℕ → ℕ → ℕ → ℕ → Cells → Type 0
RangeSafe net pushes base first low high c = (v i s : ℕ) → Within net base first c v i s → low ≤ v → v < high
    → NodeSafe net pushes v (λ j. slice_index c.residuals (s + j)) (slice_index c.excess i)

-- every node of a part from low up to high can be delivered
abbrev pub PartSafe : FlowNet → List ℕ → ℕ → ℕ → FlowPart → Type 0
PartSafe net pushes low high q = RangeSafe net pushes q.base q.first low high (part_cells q)

-- nothing of a part has changed but its cells
abbrev pub KeepsLists : FlowPart → FlowPart → Type 0
KeepsLists old new = new ≡ record old { residuals = new.residuals; excess = new.excess; next = new.next }

-- the part of the flow after Deliver of its nodes from `first` up to `end`
pub record PartDelivered (net : FlowNet) (labels pushes : List ℕ) (first end : ℕ) (old new : FlowPart) : Type 0 where
  pub same_worker : new.worker ≡ old.worker
  pub same_first : new.first ≡ old.first
  pub same_end : new.end ≡ old.end
  pub same_base : new.base ≡ old.base
  pub given : RangeDelivered net labels pushes old.base old.first first end (part_cells old) (part_cells new)

-- what delivery leaves of each part's nodes in a range
abbrev pub PartsDelivered : FlowNet → List ℕ → List ℕ → ℕ → ℕ → List FlowPart → List FlowPart → Type 0
PartsDelivered net labels pushes first end olds news = (i : ℕ) (d : FlowPart) → i < length olds → PartDelivered net labels pushes first end (slice_index_or olds i d) (slice_index_or news i d)

-- every part can be delivered from `first` up to `end`
abbrev pub PartsSafe : FlowNet → List ℕ → ℕ → ℕ → List FlowPart → Type 0
PartsSafe net pushes first end qs = (i : ℕ) (d : FlowPart) → i < length qs → PartSafe net pushes first end (slice_index_or qs i d)

-- the rows hold what each node pushes
pub record HoldPushes (net : FlowNet) (s : State) (xs : List ℕ) : Type 0 where
  pub each : (v w : ℕ) → v < node_count net → pair net xs v w ≡ push (node_count net) s v w
