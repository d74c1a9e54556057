-- What a witness circuit shares with the model, by its names or by their places.
use Rattle.std.specs.Prelude.{ℕ, ◌+◌, ◌*◌, ◌<◌, ◌≡◌, ◌++◌, ◌⊎◌, nat_lt, Bool, true, false, List, length, slice_get, slice_set, Option, Some, None, codes, if◌then◌else◌}
use Rattle.aig_graph.specs.Tables.{table}
use Rattle.aig_graph.specs.declared.properties.Symbol.{Symbol}
use Rattle.aig_graph.specs.Circuits.{Netlist}
use Rattle.aig_graph.specs.Graph.{first_latch}
use Rattle.file_words.specs.Numbers.{number_of}
use Rattle.witness_circuits.specs.declared.sharing.Sharing.{Sharing}

-- a name that begins with `= `, and one in which the number of a literal follows
abbrev pub IsSaying : List ℕ → Type 0
IsSaying name = (digits : List ℕ) × (name ≡ codes "= " ++ digits)

-- a name begins with `= `, and the number of this literal follows
abbrev pub Says : List ℕ → ℕ → Type 0
Says name lit = (digits : List ℕ) × (name ≡ codes "= " ++ digits) × (number_of digits ≡ Some lit)

-- whether a name begins so
abbrev pub Tells : Symbol → Bool → Type 0
Tells name true = IsSaying name.name
Tells name false = IsSaying name.name → ⊥

-- one of the names begins so, or none does
abbrev pub SomeSays : List Symbol → Type 0
SomeSays names = (j : ℕ) × (name : Symbol) × (slice_get names j ≡ Some name) × IsSaying name.name

-- no name begins with `= ` and a number
abbrev pub NoneSays : List Symbol → Type 0
NoneSays names = (j : ℕ) (name : Symbol) → slice_get names j ≡ Some name → IsSaying name.name → ⊥

-- the bit tells whether one of the names says a literal
abbrev pub TellsWhether : List Symbol → Bool → Type 0
TellsWhether names true = SomeSays names
TellsWhether names false = NoneSays names

-- a name at this position says the literal
abbrev pub IsSaid : List Symbol → ℕ → ℕ → Type 0
IsSaid names position lit = (j : ℕ) × (name : Symbol) × (slice_get names j ≡ Some name) × (name.position ≡ position) × Says name.name lit

-- Of `many` inputs or latches those are shared whose names begin with `= `. Each is the variable,
-- from `first` on, whose literal its name says, and no two are one variable.
pub record AreNamed (first count : ℕ) (names : List Symbol) (many : ℕ) (places : List (Option ℕ)) : Type 0 where
  pub long : length places ≡ many
  pub shared : (i place : ℕ) → slice_get places i ≡ Some (Some place) → (place < count) × IsSaid names i (2 * (first + place))
  pub each : (j : ℕ) (name : Symbol) → slice_get names j ≡ Some name → IsSaying name.name → (place : ℕ) × (slice_get places name.position ≡ Some (Some place))
  pub once : (i j place : ℕ) → slice_get places i ≡ Some (Some place) → slice_get places j ≡ Some (Some place) → i ≡ j

-- a name is left out, or its place is put at its position and marked, if it wasn't marked before
abbrev pub Takes : ℕ → Symbol → List (Option ℕ) → List Bool → List (Option ℕ) → List Bool → Type 0
Takes first name places taken new marked =
    ((IsSaying name.name → ⊥) × (new ≡ places) × (marked ≡ taken))
    ⊎ ((place : ℕ) × (place < length taken) × Says name.name (2 * (first + place)) × (slice_get taken place ≡ Some false)
    × (new ≡ slice_set places name.position (Some place)) × (marked ≡ slice_set taken place true))

-- a name begins with `= ` and says none of the model's that is left
abbrev pub IsRefused : ℕ → Symbol → List Bool → Type 0
IsRefused first name taken = IsSaying name.name × ((place : ℕ) → slice_get taken place ≡ Some false → Says name.name (2 * (first + place)) → ⊥)

-- the model's with this number, if it has one
abbrev pub place_below : ℕ → ℕ → Option ℕ
place_below count place = if nat_lt place count then Some place else None

-- what is shared is found by name
pub record IsByNames (c w : Netlist) (k : Sharing) : Type 0 where
  pub inputs : AreNamed 1 c.aig.inputs w.symbols.inputs w.aig.inputs k.inputs
  pub latches : AreNamed (first_latch c.aig) (length c.aig.latches) w.symbols.latches (length w.aig.latches) k.latches

-- what is shared is found by number
pub record IsByPlaces (c w : Netlist) (k : Sharing) : Type 0 where
  pub inputs : k.inputs ≡ table 0 w.aig.inputs (place_below c.aig.inputs)
  pub latches : k.latches ≡ table 0 (length w.aig.latches) (place_below (length c.aig.latches))

-- as the names of w say, if one says a literal; else by the numbers of its inputs and latches
abbrev pub IsSharedBy : Netlist → Netlist → Sharing → Type 0
IsSharedBy c w k =
    ((SomeSays w.symbols.inputs ⊎ SomeSays w.symbols.latches) × IsByNames c w k)
    ⊎ (NoneSays w.symbols.inputs × NoneSays w.symbols.latches × IsByPlaces c w k)
