-- The kept gates as linked lists, one for each variable that is a larger fan-in.
use Rattle.std.specs.Prelude.{ℕ, ◌+◌, ◌-◌, ◌*◌, ◌++◌, ◌<◌, ◌≤◌, ◌^◌, ◌≡◌, nat_eq, nat_lt, zero, suc, List, [], ◌∷◌, length, get_or, slice_set, Option, Some, None, if◌then◌else◌}
use Rattle.std.specs.Map.{lookup}
use Rattle.aig_graph.specs.declared.graph.Gate.{Gate}
use Rattle.aig_graph.specs.Graph.{variable}
use Rattle.cleaned_circuits.specs.Merged.{same_fan_ins}

-- The variables of entries begin with own; each entry has a gate, and others may follow. Links are
-- by entry 0 if its gate isn't kept, else the link to the one before it. Lists are by variable,
-- from the first latch on, the link to the last gate. Others stand in the hash table.
pub record Kept : Type 0 where
  pub first : ℕ
  pub own : ℕ
  pub gates : List Gate
  pub before : List ℕ
  pub lists : List ℕ
  pub rest : List (Gate × ℕ)

abbrev pub no_gate : Gate
no_gate = record { rhs0 = 0; rhs1 = 0 }

-- of the first n entries the kept gates, each with the literal of its entry
unfoldable pub kept_pairs : List Gate → List ℕ → ℕ → ℕ → List (Gate × ℕ)
kept_pairs gates before own zero = []
kept_pairs gates before own (suc n) =
    if nat_lt 0 (get_or before n 0) then kept_pairs gates before own n ++ (get_or gates n no_gate, 2 * (own + n)) ∷ [] else kept_pairs gates before own n

-- the kept gates, each with its literal
abbrev pub pairs : Kept → List (Gate × ℕ)
pairs k = kept_pairs k.gates k.before k.own (length k.before)

-- the variable of the next entry
abbrev pub next_variable : Kept → ℕ
next_variable k = k.own + length k.before

-- the link to the last gate of a variable's list
unfoldable pub last_of : Kept → ℕ → ℕ
last_of k v = if nat_lt v k.first then 0 else get_or k.lists (v - k.first) 0

-- the first of two answers that there is
abbrev pub or_else : Option ℕ → Option ℕ → Option ℕ
or_else None second = second
or_else (Some n) second = Some n

-- the literal of a gate on the list that a link begins, which leads to one of the first n entries
unfoldable pub on_list : List Gate → List ℕ → ℕ → Gate → ℕ → ℕ → Option ℕ
on_list gates before own gate zero link = None
on_list gates before own gate (suc n) link =
    if nat_eq link (suc (suc n)) then (if same_fan_ins gate (get_or gates n no_gate) then Some (2 * (own + n)) else on_list gates before own gate n (get_or before n 0))
    else on_list gates before own gate n link

-- the literal of a gate on the list of its larger fan-in
abbrev pub listed : Kept → Gate → Option ℕ
listed k gate = on_list k.gates k.before k.own gate (length k.before) (last_of k (variable gate.rhs0))

-- links lead back, and each kept gate is on its list or in the hash table
pub record AreKept (k : Kept) : Type 0 where
  pub few : k.own + length k.before ≤ 2 ^ 28
  pub room : length k.before ≤ length k.gates
  pub last : (place : ℕ) → get_or k.lists place 0 ≤ length k.before + 1
  pub back : (n : ℕ) → get_or k.before n 0 ≤ n + 1
  pub found : (gate : Gate) → lookup (same_fan_ins gate) (pairs k) ≡ or_else (listed k gate) (lookup (same_fan_ins gate) k.rest)

-- the place of a variable's list, which may grow
pub record IsListOf (k : Kept) (v place : ℕ) : Type 0 where
  pub at : k.first + place ≡ v
  pub within : place < length k.lists

-- more lists, which are empty
abbrev pub SameLists : List ℕ → List ℕ → Type 0
SameLists before after = (place : ℕ) → get_or after place 0 ≡ get_or before place 0

-- the link of a kept gate to the one that its list's link led to: 1 if that led to none
abbrev pub link_before : ℕ → ℕ
link_before zero = 1
link_before (suc n) = suc n

-- the gates with one at a place, or after the last
abbrev pub put_at : List Gate → ℕ → Gate → List Gate
put_at gates place gate = if nat_lt place (length gates) then slice_set gates place gate else gates ++ gate ∷ []

-- the gate has the next entry
pub record IsEntered (k after : Kept) (gate : Gate) : Type 0 where
  pub next : next_variable after ≡ next_variable k + 1
  pub long : length after.before ≡ length k.before + 1
  pub gates : after.gates ≡ put_at k.gates (length k.before) gate
