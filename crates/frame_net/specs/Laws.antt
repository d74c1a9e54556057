use Rattle.std.specs.Prelude.{◌≡◌, ℕ, ◌+◌, ◌<◌, ◌≤◌, ◌==◌, cond, Bool, true, false}
use Rattle.frame_net.specs.Flow.{State, IsPreflow, IsValid, pulse, is_active, potential, IsCut, IsSourceSide, cut_value, sum_below, next_excess, next_label, has_excess_left, inflow, Walk}

-- a pulse keeps a preflow with valid labels
abbrev pub PulseKeepsPreflow : Type 0
PulseKeepsPreflow = (n : ℕ) (cap : ℕ → ℕ → ℕ) (s : State) → 1 < n → IsPreflow n cap s → IsValid n s
    → IsPreflow n cap (pulse n s) × IsValid n (pulse n s)

-- no label falls, and that of a node that keeps some excess rises
abbrev pub PulseRaisesLabels : Type 0
PulseRaisesLabels = (n : ℕ) (s : State) → IsValid n s → (v : ℕ) → v < n → (s.label v ≤ next_label n s v) × (has_excess_left n s v ≡ true → s.label v < next_label n s v)

-- if some node is active after the pulse, the potential has fallen
abbrev pub PulseLowersPotential : Type 0
PulseLowersPotential = (n : ℕ) (s : State) → IsValid n s → (w : ℕ) → w < n → is_active n (pulse n s) w ≡ true
    → potential n (pulse n s) < potential n s

-- At the end of a run the nodes that can't reach the sink are a cut of least value. Every such cut
-- lies in it.
pub record IsGreatestLeastCut (n : ℕ) (cap : ℕ → ℕ → ℕ) (side : ℕ → Bool) : Type 0 where
  pub is_cut : IsCut side
  pub least : (other : ℕ → Bool) → IsCut other → cut_value n cap side ≤ cut_value n cap other
  pub greatest : (other : ℕ → Bool) → IsCut other → cut_value n cap other ≤ cut_value n cap side → (v : ℕ) → v < n → other v ≡ true → side v ≡ true

-- if no node is active, the nodes that can't reach the sink are the greatest least cut
abbrev pub SourceSideIsGreatest : Type 0
SourceSideIsGreatest = (n : ℕ) (cap : ℕ → ℕ → ℕ) (s : State) (side : ℕ → Bool) → 1 < n → IsPreflow n cap s → IsValid n s
    → ((v : ℕ) → v < n → is_active n s v ≡ false) → IsSourceSide n s side → IsGreatestLeastCut n cap side

-- the excess of all nodes together stays, and none goes back to the source
abbrev pub TotalIsKept : Type 0
TotalIsKept = (n : ℕ) (s : State) → IsValid n s → (sum_below n (next_excess n s) ≡ sum_below n s.excess) × (inflow n s 0 ≡ 0)

-- d holds the residual distances to the sink, with n for those of n or more
pub record IsDistance (n : ℕ) (s : State) (d : ℕ → ℕ) : Type 0 where
  pub small : (v : ℕ) → v < n → d v ≤ n
  pub walk : (v : ℕ) → v < n → d v < n → Walk n s (d v) v
  pub least : (v k : ℕ) → v < n → Walk n s k v → d v ≤ k

-- exact labels are valid, no label falls, and the potential doesn't rise
abbrev pub ExactLabelsServe : Type 0
ExactLabelsServe = (n : ℕ) (s : State) (d : ℕ → ℕ) → 1 < n → IsValid n s → IsDistance n s d
    → (IsValid n (record s { label = d })) × ((v : ℕ) → v < n → s.label v ≤ d v) × (potential n (record s { label = d }) ≤ potential n s)

-- the start: every arc out of the source is full, the source has label n, every other node 0
abbrev pub started : ℕ → (ℕ → ℕ → ℕ) → State
started n cap = record {
  res = λ v w. cond (v == 0) 0 (cond (w == 0) (cap v w + cap w v) (cap v w));
  excess = λ v. cond (v == 0) 0 (cap 0 v);
  label = λ v. cond (v == 0) n 0;
}

-- the start is a preflow with valid labels
abbrev pub StartIsSound : Type 0
StartIsSound = (n : ℕ) (cap : ℕ → ℕ → ℕ) → 1 < n → cap 0 0 ≡ 0 → IsPreflow n cap (started n cap) × IsValid n (started n cap)
