-- Runs whose labels become exact after every N-th pulse.
use Rattle.std.specs.Prelude.{◌≡◌, ◌==◌, ℕ, zero, suc, ◌*◌, ◌%◌, ◌<◌, ◌≤◌, ◌&&◌, true, false, if◌then◌else◌}
use Rattle.frame_net.specs.Flow.{State, pulse, is_active}
use Rattle.frame_net.specs.FlowNet.{FlowNet, node_count}
use Rattle.pulse_parts.specs.Parts.{Agree, IsSound}
use Rattle.pulse_parts.specs.Runs.{any_active}
use Rattle.pulse_parts.specs.Distances.{exact}

-- what the state after the k-th pulse becomes: after every n-th pulse that leaves a node active the
-- labels become exact
unfoldable pub after_pulse : ℕ → ℕ → State → State
after_pulse n k s = if k % n == 0 && any_active n s then exact n s else s

-- the state of a run after k pulses
abbrev pub run_state : ℕ → ℕ → State → State
run_state n zero s = s
run_state n (suc k) s = after_pulse n (suc k) (pulse n (run_state n k s))

-- the end of a run of k pulses: the first state without an active node
pub record IsRun (net : FlowNet) (k : ℕ) (s t : State) : Type 0 where
  pub state : Agree (node_count net) (run_state (node_count net) k s) t
  pub sound : IsSound net t
  pub ended : (v : ℕ) → v < node_count net → is_active (node_count net) t v ≡ false
  pub not_before : (j : ℕ) → j < k → any_active (node_count net) (run_state (node_count net) j s) ≡ true
  pub bounded : k ≤ 2 * (node_count net * node_count net)
