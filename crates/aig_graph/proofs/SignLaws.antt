-- Signs of literals, for any values that respect negation.
use Rattle.std.proofs.Common.{ℕ, ◌+◌, ◌*◌, ◌%◌, ◌<◌, ◌≤◌, ◌≡◌, ◌⊎◌, inl, inr, Bool, not, ◌&&◌, cond, nat_eq, arith, ap, sym, ◌∙◌}
use Rattle.std.proofs.Math.Bool.{and_comm, not-not}
use Rattle.std.proofs.lemmas.Bool.{cases_lt, cases_eq}
use Rattle.aig_graph.specs.Graph.{variable}
use Rattle.aig_graph.specs.Value.{signed, signed_as}
use Rattle.aig_graph.specs.Building.{gate_of}

-- each odd literal has the negated value of the even one of its variable
pub IsNegated : (ℕ → Bool) → Type 0
IsNegated values = (v : ℕ) → values (2 * v + 1) ≡ not (values (2 * v))

-- an even literal leaves a value as it is
pub signed-even : (lit : ℕ) (b : Bool) → lit % 2 ≡ 0 → signed lit b ≡ b
signed-even lit b e = ap (λ (m : ℕ). cond (nat_eq m 1) (not b) b) e

-- an odd literal negates a value
pub signed-odd : (lit : ℕ) (b : Bool) → lit % 2 ≡ 1 → signed lit b ≡ not b
signed-odd lit b e = ap (λ (m : ℕ). cond (nat_eq m 1) (not b) b) e

parity : (n : ℕ) → (n % 2 ≡ 0) ⊎ (n % 2 ≡ 1)
parity n = elim (cases_eq (n % 2) 0) [ inl even ↦ inl even | inr other ↦ inr (omega arith) ]

-- a literal's value is its variable's, negated if it is
pub value_signed : (values : ℕ → Bool) → ((v : ℕ) → values (2 * v + 1) ≡ not (values (2 * v))) → (lit : ℕ) → values lit ≡ signed lit (values (2 * variable lit))
value_signed values negated lit = elim (parity lit) [
  | inl even ↦ (let place : lit ≡ 2 * variable lit = omega arith in ap values place ∙ sym (signed-even lit (values (2 * variable lit)) even))
  | inr odd ↦ (let place : lit ≡ 2 * variable lit + 1 = omega arith in ap values place ∙ negated (variable lit) ∙ sym (signed-odd lit (values (2 * variable lit)) odd))
]

-- a literal with the sign of another added has its value, negated if the other is odd
pub value_signed_as : (values : ℕ → Bool) → ((v : ℕ) → values (2 * v + 1) ≡ not (values (2 * v))) → (lit base : ℕ) → values (signed_as lit base) ≡ signed lit (values base)
value_signed_as values negated lit base = elim (parity lit) [
  | inl even ↦ (
      let place : signed_as lit base ≡ base = omega arith in
      ap values place ∙ sym (signed-even lit (values base) even))
  | inr odd ↦ elim (parity base) [
    | inl plain ↦ (
        let place : signed_as lit base ≡ 2 * variable base + 1 = omega arith in
        let here : base ≡ 2 * variable base = omega arith in
        ap values place ∙ negated (variable base) ∙ ap (λ (n : ℕ). not (values n)) (sym here) ∙ sym (signed-odd lit (values base) odd))
    | inr negative ↦ (
        let place : signed_as lit base ≡ 2 * variable base = omega arith in
        let here : base ≡ 2 * variable base + 1 = omega arith in
        ap values place ∙ sym (not-not (values (2 * variable base))) ∙ ap not (sym (negated (variable base))) ∙ ap (λ (n : ℕ). not (values n)) (sym here) ∙ sym (signed-odd lit (values base) odd))
  ]
]

-- a literal with another's sign is one of its own variable
pub variable-signed_as : (lit base : ℕ) → variable (signed_as lit base) ≡ variable base
variable-signed_as lit base = omega arith

-- a variable's even literal with another's sign is one of that variable
pub variable-signed_as_twice : (lit v : ℕ) → variable (signed_as lit (2 * v)) ≡ v
variable-signed_as_twice lit v = omega arith

-- a gate has the AND of its literals in whichever order they were given
pub value-gate_of : (values : ℕ → Bool) (a b : ℕ) → (values (gate_of a b).rhs0 && values (gate_of a b).rhs1) ≡ (values a && values b)
value-gate_of values a b = elim (cases_lt a b) [
  | inl less ↦ (
      let first : (gate_of a b).rhs0 ≡ b = omega arith in
      let second : (gate_of a b).rhs1 ≡ a = omega arith in
      ap (λ (n : ℕ). values n && values (gate_of a b).rhs1) first ∙ ap (λ (n : ℕ). values b && values n) second ∙ and_comm (values b) (values a))
  | inr more ↦ (
      let first : (gate_of a b).rhs0 ≡ a = omega arith in
      let second : (gate_of a b).rhs1 ≡ b = omega arith in
      ap (λ (n : ℕ). values n && values (gate_of a b).rhs1) first ∙ ap (λ (n : ℕ). values a && values n) second)
]

-- the gate of two literals has the larger one first
pub gate_of-ordered : (a b : ℕ) → (gate_of a b).rhs1 ≤ (gate_of a b).rhs0
gate_of-ordered a b = omega arith

-- the gate of two literals of variables below n has its fan-ins' variables below n
pub gate_of-below : (n a b : ℕ) → variable a < n → variable b < n → variable (gate_of a b).rhs0 < n
gate_of-below n a b p q = omega arith

-- a number that isn't odd is even
pub even-where : (lit : ℕ) → (lit % 2 ≡ 1 → ⊥) → lit % 2 ≡ 0
even-where lit other = elim (parity lit) [ inl even ↦ even | inr odd ↦ absurd (other odd) ]
