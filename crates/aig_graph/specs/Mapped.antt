-- The properties of a circuit, kind by kind.
use Rattle.std.specs.Prelude.{ℕ, map, All}
use Rattle.aig_graph.specs.declared.properties.Props.{Props}

-- what holds of each property literal
pub record OfProps (P : ℕ → Type 0) (p : Props) : Type 0 where
  pub outputs : All P p.outputs
  pub bad : All P p.bad
  pub constraints : All P p.constraints
  pub justice : All (λ lits. All P lits) p.justice
  pub fairness : All P p.fairness

-- each property literal as f gives it
unfoldable pub mapped_props : (ℕ → ℕ) → Props → Props
mapped_props f p = record { outputs = map f p.outputs; bad = map f p.bad; constraints = map f p.constraints; justice = map (map f) p.justice; fairness = map f p.fairness }
