-- How nodes are marked that a walk reaches, node after node.
use Rattle.std.specs.Prelude.{ℕ, ◌++◌, Bool, true, false, List, [], ◌∷◌, slice_set, slice_index_or, if◌then◌else◌}

-- a mark for each node, and marked nodes in the order in which they were reached
pub record SearchFront : Type 0 where
  pub marks : List Bool
  pub queue : List ℕ

abbrev pub is_marked : SearchFront → ℕ → Bool
is_marked r v = slice_index_or r.marks v false

-- a node is marked and not queued
abbrev pub mark_node : SearchFront → ℕ → SearchFront
mark_node r v = record { marks = slice_set r.marks v true; queue = r.queue }

-- a node that isn't marked is marked and queued
unfoldable pub reach_node : SearchFront → ℕ → SearchFront
reach_node r v = if is_marked r v then r else record { marks = slice_set r.marks v true; queue = r.queue ++ v ∷ [] }
