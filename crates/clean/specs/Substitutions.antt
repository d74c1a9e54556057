-- A literal for each variable.
use Rattle.std.specs.Prelude.{ℕ, ◌*◌, ◌++◌, Bool, List}
use Rattle.aig_graph.specs.Graph.{Graph, variables_end}
use Rattle.cleaned_circuits.specs.Trimmed.{new_variable}
use Rattle.aig_graph.specs.Tables.{table}

-- the variables before the first latch, each for itself
unfoldable pub own_literals : ℕ → List ℕ
own_literals first = table 0 first (λ v. 2 * v)

-- the whole table, if the entries from the first latch on are these
unfoldable pub from_first : ℕ → List ℕ → List ℕ
from_first first literals = own_literals first ++ literals

-- the new literal of each variable, after numbers close up
unfoldable pub new_literals : Graph → (ℕ → Bool) → List ℕ
new_literals g s = table 0 (variables_end g) (λ v. 2 * new_variable g s v)
