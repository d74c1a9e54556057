-- What a walk over the copies gathers.
use Rattle.std.specs.Prelude.{ℕ, ◌<◌, ◌≡◌, ◌&&◌, nat_le, nat_lt, Bool, true, false, List, Some, None, slice_get, is_some}
use Rattle.std.specs.Map.{lookup}
use Rattle.aig_graph.specs.declared.graph.Gate.{Gate}
use Rattle.aig_graph.specs.Graph.{variable}
use Rattle.aig_graph.specs.Marking.{mark_at}
use Rattle.cleaned_circuits.specs.Merged.{same_fan_ins}
use Rattle.clean.specs.Normalised.{IsPlain}

-- whether a gate is plain
abbrev pub is_plain : Gate → Bool
is_plain gate = nat_le 2 gate.rhs1 && nat_lt (variable gate.rhs1) (variable gate.rhs0)

-- the gate is a low one of the first n copies
pub record IsLowCopy (copies : List Gate) (start n : ℕ) (gate : Gate) : Type 0 where
  pub place : ℕ
  pub before : place < n
  pub there : slice_get copies place ≡ Some gate
  pub low : variable gate.rhs1 < start

-- Among the first n of these copies the low ones read a variable below start. They are plain, and
-- each is the only one of its pair; their pairs are gathered.
pub record AreGathered (copies : List Gate) (start n : ℕ) (pairs : List (Gate × ℕ)) : Type 0 where
  pub plain : (k : ℕ) (gate : Gate) → k < n → slice_get copies k ≡ Some gate → variable gate.rhs1 < start → IsPlain gate
  pub found : (k : ℕ) (gate : Gate) → k < n → slice_get copies k ≡ Some gate → variable gate.rhs1 < start → lookup (same_fan_ins gate) pairs ≡ None → ⊥
  pub apart : (i k : ℕ) (gate : Gate) → i < k → k < n → slice_get copies i ≡ Some gate → slice_get copies k ≡ Some gate → variable gate.rhs1 < start → ⊥
  pub from : (gate : Gate) (w : ℕ) → lookup (same_fan_ins gate) pairs ≡ Some w → IsLowCopy copies start n gate

-- a low copy that isn't plain, or two of one pair
pub data IsSpoilt (copies : List Gate) (start : ℕ) : Type 0 where
  by_gate : (k : ℕ) (gate : Gate) → slice_get copies k ≡ Some gate → variable gate.rhs1 < start → is_plain gate ≡ false → IsSpoilt copies start
  by_pair : (i k : ℕ) (gate : Gate) → i < k → slice_get copies i ≡ Some gate → slice_get copies k ≡ Some gate → variable gate.rhs1 < start → IsSpoilt copies start

-- none of the first n gates has one of the pairs
abbrev pub AreNew : List Gate → List (Gate × ℕ) → ℕ → Type 0
AreNew gates pairs n = (k : ℕ) (gate : Gate) → k < n → slice_get gates k ≡ Some gate → lookup (same_fan_ins gate) pairs ≡ None

-- one of the gates has one of the pairs
pub record IsShared (gates : List Gate) (pairs : List (Gate × ℕ)) : Type 0 where
  pub place : ℕ
  pub gate : Gate
  pub there : slice_get gates place ≡ Some gate
  pub found : is_some (lookup (same_fan_ins gate) pairs) ≡ true

-- each pair is that of a gate whose second variable is marked
abbrev pub AreMarked : List (Gate × ℕ) → List Bool → Type 0
AreMarked pairs marks = (gate : Gate) (w : ℕ) → lookup (same_fan_ins gate) pairs ≡ Some w → mark_at 0 marks (variable gate.rhs1) ≡ true
