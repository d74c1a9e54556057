-- The latches that names and positions hold.
use Rattle.std.specs.Prelude.{ℕ, ◌<◌, ◌≤◌, ◌≡◌, ◌||◌, Bool, not, List, [], ◌∷◌, length, get_or, take, map, filter, bytes_eq, All, Option, None, Some}
use Rattle.std.specs.Global.{Vec}
use Rattle.std.specs.List.{list_any, position}
use Rattle.aig_graph.specs.Counting.{places}
use Rattle.aig_graph.specs.Marking.{has}
use Rattle.aig_graph.specs.Circuits.{Netlist}
use Rattle.aig_graph.specs.declared.properties.Symbol.{Symbol}
use Rattle.aig_graph.specs.declared.holding.KeepError.{KeepError}
use Rattle.aig_graph.specs.declared.holding.KeepError.TheVariants.{NoSuchName, NoMemory}

-- whether the symbol's name is one of the names
abbrev pub is_named : List (List ℕ) → Symbol → Bool
is_named names symbol = list_any (λ name. bytes_eq symbol.name name) names

-- the positions of the symbols whose name is one of the names
unfoldable pub held_by : List (List ℕ) → List Symbol → List ℕ
held_by names symbols = map (λ s. s.position) (filter (is_named names) symbols)

-- whether a symbol has the name
abbrev pub has_name : List Symbol → List ℕ → Bool
has_name symbols name = list_any (λ s. bytes_eq name s.name) symbols

-- the place, from 0, of the first name that no symbol has
unfoldable pub first_missing : List Symbol → List (List ℕ) → Option ℕ
first_missing symbols names = position (λ name. not (has_name symbols name)) names

-- the texts of names
abbrev pub names_of : List (Vec ℕ) → List (List ℕ)
names_of names = map (λ name. name.items) names

-- the positions of the latches that the names hold
abbrev pub held_in : List (List ℕ) → Netlist → List ℕ
held_in names c = held_by names c.symbols.latches

-- each name is that of a latch
abbrev pub NoneMissing : List (List ℕ) → Netlist → Type 0
NoneMissing names c = first_missing c.symbols.latches names ≡ None

-- the name at this place, from 0, is the first that no latch has
abbrev pub IsFirstMissing : List (List ℕ) → Netlist → ℕ → Type 0
IsFirstMissing names c place = first_missing c.symbols.latches names ≡ Some place

-- the number of an error of `keep_of`
abbrev pub keep_error_code : KeepError → ℕ
keep_error_code (NoSuchName place) = 1
keep_error_code NoMemory = 2

-- which latches are asked to be held: those that have one of the names, and those at the positions
pub record Holding : Type 0 where
  pub names : List (List ℕ)
  pub positions : List ℕ

-- these positions of a circuit's latches and those in a list, rising
abbrev pub held_also : List ℕ → List ℕ → Netlist → List ℕ
held_also held [] c = held
held_also held (position ∷ positions) c = places (λ j. has held j || has (position ∷ positions) j) (length c.aig.latches)

-- the positions of the latches that are held, rising
abbrev pub held_of : Holding → Netlist → List ℕ
held_of h c = held_also (held_in h.names c) h.positions c

-- each position is that of one of n latches
abbrev pub AreLatches : ℕ → List ℕ → Type 0
AreLatches n positions = All (λ j. j < n) positions

-- the k-th position is the first at which none of n latches is
pub record IsFirstNoLatch (n : ℕ) (positions : List ℕ) (k : ℕ) : Type 0 where
  pub within : k < length positions
  pub none : n ≤ get_or positions k 0
  pub before : AreLatches n (take k positions)
