-- What a witness circuit reads, by what it shares and what it has of its own.
use Rattle.std.specs.Prelude.{ℕ, ◌+◌, Bool, false, true, List, take, slice_get, Option, Some, None}
use Rattle.std.specs.List.{count_by}

-- a place that is shared with none
abbrev pub is_own : Option ℕ → Bool
is_own None = true
is_own (Some place) = false

-- how many there are of the witness's own
abbrev pub own_count : List (Option ℕ) → ℕ
own_count places = count_by is_own places

-- the number of one of the witness's own, if they are numbered from n on
abbrev pub own_at : ℕ → List (Option ℕ) → ℕ → ℕ
own_at n places k = n + own_count (take k places)

abbrev pub joined_at : (ℕ → Bool) → (ℕ → Bool) → ℕ → Option (Option ℕ) → Bool
joined_at shared own k None = false
joined_at shared own k (Some None) = own k
joined_at shared own k (Some (Some place)) = shared place

-- what is shared has the one value, what is the witness's own the other
abbrev pub joined : List (Option ℕ) → (ℕ → Bool) → (ℕ → Bool) → ℕ → Bool
joined places shared own = λ k. joined_at shared own k (slice_get places k)
