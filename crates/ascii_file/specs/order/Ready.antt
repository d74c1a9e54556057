-- The gates that may follow, in a heap.
use Rattle.std.specs.Prelude.{ℕ, ◌+◌, ◌≡◌, nat_eq, ◌&&◌, Bool, true, false, List, length, count_by, slice_get, if◌then◌else◌}
use Rattle.std.specs.List.{slice_index_or}
use Rattle.std.specs.Ordering.{nat_cmp}
use Rattle.std.specs.BinaryHeap.{IsHeap}
use Rattle.std.specs.declared.cmp.Reverse.{Reverse}
use Rattle.ascii_file.specs.declared.order.reads.Reads.{Reads}
use Rattle.ascii_file.specs.declared.order.reads.Side.{Side}
use Rattle.ascii_file.specs.order.Order.{has_gate, are_met, may_follow}
use Rattle.ascii_file.specs.order.Cycles.{is_gate}
use Rattle.ascii_file.specs.order.Readers.{read_by}

abbrev pub number : Bool → ℕ
number b = if b then 1 else 0

-- how often a heap has g
unfoldable pub times_in_heap : ℕ → List (Reverse ℕ) → ℕ
times_in_heap g ready = count_by (λ x. nat_eq g x.0) ready

-- the first number of the file on top
abbrev pub IsReadyHeap : List (Reverse ℕ) → Type 0
IsReadyHeap ready = IsHeap (λ x y. nat_cmp y.0 x.0) ready

-- each number that passes came in once more
pub record Gains (test : ℕ → Bool) (old new : List (Reverse ℕ)) : Type 0 where
  pub each : (g : ℕ) → times_in_heap g new ≡ times_in_heap g old + number (test g)

abbrev pub mark_of : List Bool → ℕ → Bool
mark_of marks g = slice_index_or marks g false

-- whether a gate reads p by this fan-in, and the fan-ins of the gate are all marked
unfoldable pub is_released : List Reads → Side → List Bool → ℕ → ℕ → Bool
is_released gates side marks p g = is_gate (read_by side gates g) p && are_met (mark_of marks) (slice_get gates g)

-- the marks are of those placed, whose fan-ins are all placed, and the heap has each gate that may
-- follow, once
pub record IsState (gates : List Reads) (placed : List ℕ) (marks : List Bool) (ready : List (Reverse ℕ)) : Type 0 where
  pub as_many : length marks ≡ length gates
  pub marked : (g : ℕ) → mark_of marks g ≡ has_gate placed g
  pub closed : (g : ℕ) → has_gate placed g ≡ true → are_met (has_gate placed) (slice_get gates g) ≡ true
  pub heap : IsReadyHeap ready
  pub each : (g : ℕ) → times_in_heap g ready ≡ number (may_follow gates placed g)
