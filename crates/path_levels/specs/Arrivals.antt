-- The arrival of what a latch behind a gate would be fed by, and closed sets of gates that arrive
-- within a bound.
use Rattle.std.specs.Prelude.{ℕ, ◌≤◌, List, Option, Some, None, Contains}
use Rattle.aig_graph.specs.declared.graph.Latch.{Latch}
use Rattle.aig_graph.specs.Graph.{Graph, variable, latch_at}
use Rattle.aig_graph.specs.Folding.{fold_gates}
use Rattle.aig_graph.specs.Circuits.{Netlist}
use Rattle.aig_graph.specs.Closed.{IsClosedSet}
use Rattle.aig_graph.specs.Move.{move_of}
use Rattle.aig_graph.specs.Border.{border_size}
use Rattle.aig_graph.specs.declared.choice.Choice.{Choice}
use Rattle.aig_graph.specs.declared.choice.Choice.TheVariants.{Greatest, Smallest}
use Rattle.path_levels.specs.Levels.{level, one_above}

-- the level of a latch's next literal; 0 if there is no latch
abbrev pub level_of_next : Graph → Option Latch → ℕ
level_of_next g None = 0
level_of_next g (Some latch) = level g (variable latch.next)

-- the level of the next literal of the latch at a variable; 0 if there is no latch
abbrev pub next_level : Graph → ℕ → ℕ
next_level g v = level_of_next g (latch_at g v)

-- The arrival of a latch is the level of its next literal, that of a gate the greater arrival of
-- its fan-ins plus one. It is the level of what a latch behind the gate would be fed by, if latches
-- move over all gates below it too. They do, since a set is closed under fan-in. So the arrival is
-- a number of the gate alone, whatever the set.
unfoldable pub arrival : Graph → ℕ → ℕ
arrival g v = fold_gates g (next_level g) one_above v

-- each variable of the set arrives within the bound
abbrev pub ArriveWithin : ℕ → Graph → List ℕ → Type 0
ArriveWithin bound g s = (v : ℕ) → Contains s v → arrival g v ≤ bound

-- a closed set whose gates arrive within the bound
pub record IsClosedWithin (bound : ℕ) (g : Graph) (held s : List ℕ) : Type 0 where
  pub closed : IsClosedSet g held s
  pub within : ArriveWithin bound g s

-- of these sets none has a smaller border
pub record IsLeastWithin (bound : ℕ) (c : Netlist) (held s : List ℕ) : Type 0 where
  pub closed : IsClosedWithin bound c.aig held s
  pub least : (r : List ℕ) → IsClosedWithin bound c.aig held r → border_size (move_of c held s) ≤ border_size (move_of c held r)

-- the least one in which every least one lies
pub record IsGreatestWithin (bound : ℕ) (c : Netlist) (held s : List ℕ) : Type 0 where
  pub least : IsLeastWithin bound c held s
  pub holds : (r : List ℕ) → IsLeastWithin bound c held r → (v : ℕ) → Contains r v → Contains s v

-- the least one that lies in every least one
pub record IsSmallestWithin (bound : ℕ) (c : Netlist) (held s : List ℕ) : Type 0 where
  pub least : IsLeastWithin bound c held s
  pub within : (r : List ℕ) → IsLeastWithin bound c held r → (v : ℕ) → Contains s v → Contains r v

-- the least one that a choice takes
abbrev pub IsChosenWithin : ℕ → Choice → Netlist → List ℕ → List ℕ → Type 0
IsChosenWithin bound Greatest c held s = IsGreatestWithin bound c held s
IsChosenWithin bound Smallest c held s = IsSmallestWithin bound c held s
