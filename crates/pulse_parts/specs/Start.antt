use Rattle.std.specs.Prelude.{◌≡◌, ℕ, ◌+◌, ◌*◌, ◌/◌, ◌<◌, ◌==◌, nat_lt, cond, List, [], ◌∷◌, length, slice_index, slice_index_or}
use Rattle.frame_net.specs.Flow.{sum_below}
use Rattle.frame_net.specs.FlowNet.{FlowNet, node_count, start, row_len, head, cap_at, IsFlowNet, IsStartable}
use Rattle.pulse_parts.specs.declared.parts.FlowPart.{FlowPart}
use Rattle.pulse_parts.specs.declared.parts.PushPart.{PushPart}
use Rattle.pulse_parts.specs.Parts.{Cells, FlowPartFits, IsParted, AreFlowParts, Agree, IsSound, pair, pairs, cells_of}
use Rattle.frame_net.specs.Laws.{started}
use Rattle.pulse_parts.specs.Delivering.{back}

-- the residual of an arc at the start: none out of the source, all of both ways into it
abbrev pub start_res : FlowNet → ℕ → ℕ
start_res net arc = cond (nat_lt arc (start net 1)) 0
    (cond (slice_index net.heads arc == 0) (cap_at net arc + cap_at net (slice_index net.mates arc)) (cap_at net arc))

-- a node's excess at the start: the capacity of the arc to it from the source
abbrev pub start_excess : FlowNet → ℕ → ℕ
start_excess net v = cond (v == 0) 0 (sum_below (row_len net v) (λ k. cond (head net v k == 0) (back net net.caps v k) 0))

-- a part with these residuals, by arc, and this excess, by node
pub record PartHolds (net : FlowNet) (res exc : ℕ → ℕ) (q : FlowPart) : Type 0 where
  pub fit : FlowPartFits net q
  pub residuals : (i : ℕ) → i < length q.residuals.items → slice_index q.residuals.items i ≡ res (q.base + i)
  pub excess : (i : ℕ) → i < length q.excess.items → slice_index q.excess.items i ≡ exc (q.first + i)

-- the first node of a worker's range
abbrev pub border_of : ℕ → ℕ → ℕ → ℕ
border_of nodes workers worker = worker * nodes / workers

-- the share of worker k: its number, and its range
pub record IsShare {P : Type 0} (worker first end : P → ℕ) (nodes workers k : ℕ) (p : P) : Type 0 where
  pub number : worker p ≡ k
  pub from : first p ≡ border_of nodes workers k
  pub to : end p ≡ border_of nodes workers (k + 1)

-- the parts are the shares of the workers from k on, in their order
abbrev pub AreShares : {P : Type 0} → (P → ℕ) → (P → ℕ) → (P → ℕ) → ℕ → ℕ → ℕ → List P → Type 0
AreShares worker first end nodes workers k [] = Unit {0}
AreShares worker first end nodes workers k (p ∷ ps) = IsShare worker first end nodes workers k p × AreShares worker first end nodes workers (k + 1) ps

-- the i-th part of a flow has number i and worker i's nodes: from its border up to the next one's
abbrev pub AreFlowShares : ℕ → ℕ → List FlowPart → Type 0
AreFlowShares nodes workers qs = AreShares (λ q. q.worker) (λ q. q.first) (λ q. q.end) nodes workers 0 qs

-- so has the i-th part of the pushes
abbrev pub ArePushShares : ℕ → ℕ → List PushPart → Type 0
ArePushShares nodes workers ps = AreShares (λ p. p.worker) (λ p. p.first) (λ p. p.end) nodes workers 0 ps

-- the i-th part is worker i's
abbrev pub FlowNumbered : List FlowPart → Type 0
FlowNumbered qs = (i : ℕ) (d : FlowPart) → i < length qs → (slice_index_or qs i d).worker ≡ i

-- the i-th part of the pushes has number i
abbrev pub PushesNumbered : List PushPart → Type 0
PushesNumbered ps = (i : ℕ) (e : PushPart) → i < length ps → (slice_index_or ps i e).worker ≡ i

-- the parts hold the nodes below m, end to end, with these residuals and this excess
abbrev pub PartsHold : FlowNet → (ℕ → ℕ) → (ℕ → ℕ) → ℕ → List FlowPart → Type 0
PartsHold net res exc m qs = IsParted (PartHolds net res exc) (λ q. q.first) (λ q. q.end) m 0 qs

-- labels at the start: the number of nodes at the source, else 0
abbrev pub LabelsStart : FlowNet → List ℕ → Type 0
LabelsStart net labels = (v : ℕ) → v < node_count net → slice_index labels v ≡ cond (v == 0) (node_count net) 0

-- parts with the start's residuals and excess are the start of the flow, and a sound state
abbrev pub StartLaw : Type 0
StartLaw = (net : FlowNet) (labels : List ℕ) (qs : List FlowPart) → IsFlowNet net → IsStartable net → PartsHold net (start_res net) (start_excess net) (node_count net) qs → LabelsStart net labels
    → AreFlowParts net 0 qs × (Agree (node_count net) (started (node_count net) (pair net net.caps)) (pairs net (cells_of qs) labels) × IsSound net (pairs net (cells_of qs) labels))

-- parts with the residuals and excess of others are one state with them, whatever their ranges
abbrev pub PartingLaw : Type 0
PartingLaw = (net : FlowNet) (labels : List ℕ) (c : Cells) (qs : List FlowPart) → IsFlowNet net → PartsHold net (slice_index c.residuals) (slice_index c.excess) (node_count net) qs
    → AreFlowParts net 0 qs × Agree (node_count net) (pairs net c labels) (pairs net (cells_of qs) labels)
