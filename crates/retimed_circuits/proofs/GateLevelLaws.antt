-- The level of a gate, by the levels of variables.
use Rattle.std.proofs.Common.{ℕ, ◌≡◌, inl, inr, suc, max, arith, ap₂, ◌∙◌}
use Rattle.std.proofs.lemmas.Bool.{cases_lt}
use Rattle.aig_graph.specs.declared.graph.Gate.{Gate}
use Rattle.aig_graph.specs.Graph.{variable}
use Rattle.aig_graph.specs.Building.{gate_of}
use Rattle.path_levels.specs.Levels.{one_above}

-- one above the higher fan-in
abbrev pub gate_level : (ℕ → ℕ) → Gate → ℕ
gate_level at gate = one_above gate (at (variable gate.rhs0)) (at (variable gate.rhs1))

-- a gate of two literals has one level, whichever of them comes first
pub gate_level-gate_of : (at : ℕ → ℕ) (a b : ℕ) → gate_level at (gate_of a b) ≡ suc (max (at (variable a)) (at (variable b)))
gate_level-gate_of at a b = elim (cases_lt a b) [
  | inl less ↦ (
      let first : (gate_of a b).rhs0 ≡ b = omega arith in
      let second : (gate_of a b).rhs1 ≡ a = omega arith in
      let other : suc (max (at (variable b)) (at (variable a))) ≡ suc (max (at (variable a)) (at (variable b))) = omega arith in
      ap₂ (λ (x y : ℕ). suc (max (at (variable x)) (at (variable y)))) first second ∙ other)
  | inr more ↦ (
      let first : (gate_of a b).rhs0 ≡ a = omega arith in
      let second : (gate_of a b).rhs1 ≡ b = omega arith in
      ap₂ (λ (x y : ℕ). suc (max (at (variable x)) (at (variable y)))) first second)
]
