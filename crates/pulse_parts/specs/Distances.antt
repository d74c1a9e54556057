-- Residual distances to the sink, computed.
use Rattle.std.specs.Prelude.{◌≡◌, ◌==◌, ℕ, ◌<◌, zero, suc, ◌&&◌, nat_lt, cond, Bool}
use Rattle.frame_net.specs.Flow.{State, least_below}
use Rattle.frame_net.specs.Laws.{IsDistance}
use Rattle.pulse_parts.specs.Runs.{any_below}

-- whether some walk of k residual arcs leads from v to the sink
abbrev pub reaches_in : ℕ → State → ℕ → ℕ → Bool
reaches_in n s zero v = v == 1
reaches_in n s (suc k) v = any_below n (λ w. nat_lt 0 (s.res v w) && reaches_in n s k w)

-- the least number of residual arcs from v to the sink, or n if none leads there
abbrev pub distance : ℕ → State → ℕ → ℕ
distance n s v = least_below n (λ k. cond (reaches_in n s k v) k n) n

-- the state with the distances as labels
abbrev pub exact : ℕ → State → State
exact n s = record s { label = distance n s }

-- the computed distances are the residual distances to the sink, and no others are
abbrev pub DistanceLaw : Type 0
DistanceLaw = (n : ℕ) (s : State) → IsDistance n s (distance n s) × ((d : ℕ → ℕ) → IsDistance n s d → (v : ℕ) → v < n → d v ≡ distance n s v)
