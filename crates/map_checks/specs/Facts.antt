-- What a literal says of two others.
use Rattle.std.specs.Prelude.{ℕ, ◌≡◌, Bool, true}
use Rattle.aig_graph.specs.Graph.{Graph, IsLiteralOf}
use Rattle.aig_graph.specs.Gates.{Respects, gates_of}

-- two literals that are equal if this one is 1
pub record IsFact (g : Graph) (lit : ℕ) (sides : ℕ × ℕ) : Type 0 where
  pub first : IsLiteralOf g sides.0
  pub second : IsLiteralOf g sides.1
  pub equal : (own : ℕ → Bool) → Respects (gates_of g) own → own lit ≡ true → own sides.0 ≡ own sides.1
