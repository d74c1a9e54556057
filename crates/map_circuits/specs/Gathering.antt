-- Entries that move to the front of a table.
use Rattle.std.specs.Prelude.{ℕ, ◌+◌, ◌-◌, ◌<◌, ◌≤◌, ◌≡◌, Bool, List, length}
use Rattle.std.specs.List.{slice_index_or}
use Rattle.aig_graph.specs.Counting.{places}
use Rattle.aig_graph.specs.Marking.{AreAllMarks}
use Rattle.map_circuits.specs.Following.{entry_of}

-- The first of the new entries are those that the variables below n that pass had before, in their
-- order. From that of n on all are as they were.
pub record IsGathered (first : ℕ) (p : ℕ → Bool) (n : ℕ) (old new : List ℕ) (kept : ℕ) : Type 0 where
  pub long : length new ≡ length old
  pub few : kept ≤ n - first
  pub many : kept ≡ length (places p n)
  pub front : (i : ℕ) → i < kept → slice_index_or new i 0 ≡ entry_of first old (slice_index_or (places p n) i 0)
  pub rest : (j : ℕ) → n - first ≤ j → slice_index_or new j 0 ≡ slice_index_or old j 0

-- if the marked ones of the entries before one place have moved, to be the first of xs, those
-- before another have in ys
abbrev pub GathersOn : ℕ → ℕ → List Bool → List ℕ → List ℕ → ℕ → ℕ → Type 0
GathersOn from to marks xs ys kept after = (first : ℕ) (p : ℕ → Bool) (old : List ℕ) → AreAllMarks first marks p
    → IsGathered first p (first + from) old xs kept → IsGathered first p (first + to) old ys after
