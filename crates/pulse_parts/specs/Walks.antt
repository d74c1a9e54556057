-- What the walk backward from the sink keeps.
use Rattle.std.specs.Prelude.{◌≡◌, ℕ, ◌+◌, ◌<◌, ◌≤◌, ◌⊎◌, nat_lt, cond}
use Rattle.frame_net.specs.Flow.{State, Walk, sum_below}

-- a node at a place of the queue from `place` up to `count`
pub record Waits (q : ℕ → ℕ) (place count v : ℕ) : Type 0 where
  pub at : ℕ
  pub from : place ≤ at
  pub before : at < count
  pub there : q at ≡ v

-- every node with a residual to w has a label at most one more than w's
abbrev pub IsRead : ℕ → State → (ℕ → ℕ) → ℕ → Type 0
IsRead n s d w = (v : ℕ) → v < n → 0 < s.res v w → d v ≤ d w + 1

-- labels d, a queue q of `count` nodes, and the place of the first that isn't read. A node without
-- a label has n.
pub record Sweeps (n : ℕ) (s : State) (d q : ℕ → ℕ) (count place : ℕ) : Type 0 where
  pub within : place ≤ count
  pub small : (v : ℕ) → v < n → d v ≤ n
  pub sink : d 1 ≡ 0
  -- as many nodes have a label as are queued
  pub counted : sum_below n (λ v. cond (nat_lt (d v) n) 1 0) ≡ count
  -- a queued node's label is at most its place
  pub nodes : (i : ℕ) → i < count → q i < n
  pub labels : (i : ℕ) → i < count → d (q i) ≤ i
  pub rising : (i j : ℕ) → i ≤ j → j < count → d (q i) ≤ d (q j)
  pub near : (v : ℕ) → v < n → d v < n → place < count → d v ≤ d (q place) + 1
  pub walks : (v : ℕ) → v < n → d v < n → Walk n s (d v) v
  pub pending : (v : ℕ) → v < n → d v < n → Waits q place count v ⊎ IsRead n s d v
