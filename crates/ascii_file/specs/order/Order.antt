-- The order in which the gates of a file stand.
use Rattle.std.specs.Prelude.{ℕ, ◌<◌, ◌≤◌, ◌≡◌, nat_eq, ◌&&◌, ◌++◌, Bool, true, false, not, List, [], ◌∷◌, length, take, All, slice_get, Option, Some, None, IfSome, if◌then◌else◌, zero, suc}
use Rattle.std.specs.List.{list_any}
use Rattle.std.specs.Option.{option_or, option_and_then}
use Rattle.ascii_file.specs.declared.order.reads.Reads.{Reads}

-- whether the gate at file place g is one of these
abbrev pub has_gate : List ℕ → ℕ → Bool
has_gate placed g = list_any (nat_eq g) placed

-- whether a fan-in is no gate, or one that passes
abbrev pub is_met : (ℕ → Bool) → Option ℕ → Bool
is_met passes None = true
is_met passes (Some g) = passes g

-- whether there is a gate and its fan-ins are all met
abbrev pub are_met : (ℕ → Bool) → Option Reads → Bool
are_met passes None = false
are_met passes (Some reads) = is_met passes reads.first && is_met passes reads.second

-- whether the gate at file place g isn't placed, and the gates that it reads all are
unfoldable pub may_follow : List Reads → List ℕ → ℕ → Bool
may_follow gates placed g = are_met (has_gate placed) (slice_get gates g) && not (has_gate placed g)

-- the first in the file of the gates that may follow
pub record IsNextGate (gates : List Reads) (placed : List ℕ) (g : ℕ) : Type 0 where
  pub follows : may_follow gates placed g ≡ true
  pub first : (h : ℕ) → may_follow gates placed h ≡ true → g ≤ h

-- as many gates as in the file, each of which is the next one after those before it
pub record IsOrder (gates : List Reads) (order : List ℕ) : Type 0 where
  pub as_many : length order ≡ length gates
  pub each : (k g : ℕ) → slice_get order k ≡ Some g → IsNextGate gates (take k order) g

-- the first number below n that passes
unfoldable pub first_below : (ℕ → Bool) → ℕ → Option ℕ
first_below p zero = None
first_below p (suc n) = option_or (first_below p n) (if p n then Some n else None)

-- those placed, and n more after them, each the next one; none if there is no next one
unfoldable pub order_from : List Reads → List ℕ → ℕ → Option (List ℕ)
order_from gates placed zero = Some placed
order_from gates placed (suc more) =
    option_and_then (λ g. order_from gates (placed ++ g ∷ []) more) (first_below (may_follow gates placed) (length gates))

-- the file places of the gates in order, if there is an order
abbrev pub ordered : List Reads → Option (List ℕ)
ordered gates = order_from gates [] (length gates)

-- a gate that reads only gates at places below n
pub record ReadsBelow (n : ℕ) (reads : Reads) : Type 0 where
  pub first : IfSome reads.first (λ g. g < n)
  pub second : IfSome reads.second (λ g. g < n)

-- each gate reads only gates of the file
abbrev pub AreReadsInFile : List Reads → Type 0
AreReadsInFile gates = All (ReadsBelow (length gates)) gates

-- each gate reads only gates that stand before it
abbrev pub IsInOrder : List Reads → Type 0
IsInOrder gates = (g : ℕ) (reads : Reads) → slice_get gates g ≡ Some reads → ReadsBelow g reads
