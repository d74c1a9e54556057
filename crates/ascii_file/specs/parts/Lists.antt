-- The literals of properties as they are collected.
use Rattle.std.specs.Prelude.{ℕ, List, []}

-- the literals of outputs, bad states and constraints; the number of literals of each justice
-- property; these, and the fairness literals
pub record Lists : Type 0 where
  pub safety : List ℕ
  pub sizes : List ℕ
  pub liveness : List ℕ

-- lists that are still empty
abbrev pub no_lists : Lists
no_lists = record { safety = []; sizes = []; liveness = [] }
