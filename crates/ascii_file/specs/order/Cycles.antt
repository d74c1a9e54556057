-- Gates that read each other in turn.
use Rattle.std.specs.Prelude.{ℕ, ◌≡◌, ◌==◌, ◌||◌, Bool, true, false, List, [], ◌∷◌, slice_get, Option, Some, None}
use Rattle.ascii_file.specs.declared.order.reads.Reads.{Reads}

abbrev pub is_gate : Option ℕ → ℕ → Bool
is_gate None h = false
is_gate (Some g) h = g == h

abbrev pub does_read : Option Reads → ℕ → Bool
does_read None h = false
does_read (Some reads) h = is_gate reads.first h || is_gate reads.second h

-- the gate at file place g reads that at h
abbrev pub ReadsGate : List Reads → ℕ → ℕ → Type 0
ReadsGate gates g h = does_read (slice_get gates g) h ≡ true

-- of the gates g and rest each reads the next one, and the last reads the end
abbrev pub LeadsTo : List Reads → ℕ → List ℕ → ℕ → Type 0
LeadsTo gates g [] end = ReadsGate gates g end
LeadsTo gates g (h ∷ rest) end = ReadsGate gates g h × LeadsTo gates h rest end

-- there are gates of which each reads the next, and the last the first
abbrev pub HasCycle : List Reads → Type 0
HasCycle gates = (g : ℕ) × (rest : List ℕ) × LeadsTo gates g rest g
