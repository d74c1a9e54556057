-- A flow network by rows of arcs.
use Rattle.std.specs.Prelude.{◌≡◌, ℕ, ◌+◌, ◌-◌, ◌*◌, ◌/◌, ◌%◌, ◌<◌, ◌≤◌, ◌==◌, ◌^◌, nat_lt, true, false, List, length, slice_index, Option, Some, None, if◌then◌else◌}
use Rattle.frame_net.specs.Flow.{sum_below}
use Rattle.frame_net.specs.Rows.{sparse}
use Rattle.frame_net.specs.declared.net.Point.{Point}

-- Node 0 is the source, node 1 the sink. The arcs with tail v are those from starts v on, up to
-- starts (v + 1). `variables` are those of the `latches` known latches, and then those of the
-- passable gates.
pub record FlowNet : Type 0 where
  pub starts : List ℕ
  pub heads : List ℕ
  pub mates : List ℕ
  pub caps : List ℕ
  pub latches : ℕ
  pub variables : List ℕ

-- the number of nodes
abbrev pub node_count : FlowNet → ℕ
node_count net = length net.starts - 1

-- the first arc of the tail
abbrev pub start : FlowNet → ℕ → ℕ
start net v = slice_index net.starts v

-- how many arcs the tail has
abbrev pub row_len : FlowNet → ℕ → ℕ
row_len net v = start net (v + 1) - start net v

-- the head and the mate of the k-th arc with tail v
abbrev pub head : FlowNet → ℕ → ℕ → ℕ
head net v k = slice_index net.heads (start net v + k)

-- the mate of the k-th arc of tail v
abbrev pub mate : FlowNet → ℕ → ℕ → ℕ
mate net v k = slice_index net.mates (start net v + k)

-- the capacity of an arc
abbrev pub cap_at : FlowNet → ℕ → ℕ
cap_at net arc = slice_index net.caps arc

-- the capacity of the arc from v to w, or 0 if there is none
abbrev pub capacity_between : FlowNet → ℕ → ℕ → ℕ
capacity_between net v w = sparse (row_len net v) (head net v) (λ k. cap_at net (start net v + k)) w

-- the mate of v's k-th arc stands in the row of that arc's head, and its head is v
pub record HasMate (net : FlowNet) (v k : ℕ) : Type 0 where
  pub place : ℕ
  pub inside : place < row_len net (head net v k)
  pub arc : mate net v k ≡ start net (head net v k) + place
  pub back : head net (head net v k) place ≡ v

-- rows stand end to end with rising heads; each arc has a mate that leads back; their capacities
-- together fit a word
pub record IsFlowNet (net : FlowNet) : Type 0 where
  pub two : 2 < length net.starts
  pub short : length net.starts < 2 ^ 31
  pub first : start net 0 ≡ 0
  pub last : start net (node_count net) ≡ length net.heads
  pub same_mates : length net.mates ≡ length net.heads
  pub same_caps : length net.caps ≡ length net.heads
  pub rows : (u v : ℕ) → u ≤ v → v ≤ node_count net → start net u ≤ start net v
  pub heads_in : (v k : ℕ) → v < node_count net → k < row_len net v → head net v k < node_count net
  pub heads_rise : (v j k : ℕ) → v < node_count net → j < k → k < row_len net v → head net v j < head net v k
  pub meets : (v k : ℕ) → v < node_count net → k < row_len net v → HasMate net v k
  pub caps_fit : (v k : ℕ) → v < node_count net → k < row_len net v → cap_at net (start net v + k) + cap_at net (mate net v k) < 2 ^ 32

-- what the start of a flow needs besides
pub record IsStartable (net : FlowNet) : Type 0 where
  pub few_arcs : length net.heads < 2 ^ 32
  pub mates_in : (arc : ℕ) → arc < length net.heads → slice_index net.mates arc < length net.heads
  pub both_fit : (arc : ℕ) → arc < length net.heads → cap_at net arc + cap_at net (slice_index net.mates arc) < 2 ^ 32
  pub no_loop : (k : ℕ) → k < row_len net 0 → 0 < head net 0 k
  pub source_fits : sum_below (row_len net 0) (λ k. cap_at net (start net 0 + k)) < 2 ^ 32

-- a node after each known latch, and one before and one after each passable gate
pub record HasPoints (net : FlowNet) : Type 0 where
  pub among : net.latches ≤ length net.variables
  pub each : node_count net ≡ 2 + net.latches + 2 * (length net.variables - net.latches)

-- what a node stands for: the source, the sink, or a side of a variable
pub data Node : Type 0 where
  source sink : Node
  before after : ℕ → Node

-- the node with a number, by the number of latches and the variables
abbrev pub node_at : ℕ → List ℕ → ℕ → Node
node_at latches variables v =
    if v == 0 then source
    else (if v == 1 then sink
    else (if nat_lt (v - 2) latches then after (slice_index variables (v - 2))
    else (if (v - 2 - latches) % 2 == 0 then before (slice_index variables (latches + (v - 2 - latches) / 2))
    else after (slice_index variables (latches + (v - 2 - latches) / 2)))))

-- the source and the sink have no point
abbrev pub node_point : Node → Option Point
node_point source = None
node_point sink = None
node_point (before v) = Some (record { var = v; behind = false })
node_point (after v) = Some (record { var = v; behind = true })

-- the variable of a node and its side of it; the source and the sink have none
abbrev pub point_of : FlowNet → ℕ → Option Point
point_of net v = node_point (node_at net.latches net.variables v)
