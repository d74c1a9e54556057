-- What stands for a circuit's literals has their values.
use Rattle.std.proofs.Common.{inl, inr, ℕ, ◌+◌, ◌*◌, ◌<◌, ◌≡◌, Bool, ◌&&◌, List, [], ◌∷◌, ◌++◌, length, get_or, slice_get, Some, arith, ap, sym, ◌∙◌, subst}
use Rattle.std.proofs.lemmas.Bool.{cases_lt}
use Rattle.std.proofs.lemmas.List.{length_push, get_or_append_left, get_or_push}
use Rattle.std.proofs.lemmas.List.Elements.{All-push}
use Rattle.aig_graph.specs.declared.graph.Gate.{Gate}
use Rattle.aig_graph.specs.Circuits.{AreLiteralsOf}
use Rattle.aig_graph.specs.Graph.{Graph, IsGraph, IsGateAt, IsLiteralOf, variable, first_gate}
use Rattle.aig_graph.specs.Value.{signed, value_within}
use Rattle.aig_graph.proofs.SignLaws.{value_signed, value_signed_as, variable-signed_as}
use Rattle.state_maps.specs.States.{Digits, State}
use Rattle.state_maps.proofs.WithinLaws.{within_laws}
use Rattle.map_circuits.specs.Growing.{Extends, IsConjunction}
use Rattle.map_circuits.specs.Instances.{HaveValues, StandTo, substitute}

-- the substitute of a literal is a literal, and has its value if the literals have those of the
-- variables
pub substitute-within : (h : Graph) (literals : List ℕ) (lit : ℕ) → AreLiteralsOf h literals → variable lit < length literals → IsLiteralOf h (substitute literals lit)
substitute-within h literals lit all less =
    let same : variable (substitute literals lit) ≡ variable (get_or literals (variable lit) 0) = variable-signed_as lit (get_or literals (variable lit) 0) in
    let here : IsLiteralOf h (get_or literals (variable lit) 0) = all (variable lit) 0 less in
    omega (arith, same, here)

-- the substitute of a literal has the literal's value, if that of each variable has the variable's
pub substitute-value : (h c : Graph) (literals : List ℕ) → IsGraph h → IsGraph c → (z x : Digits) (u s : State) → HaveValues h literals z u (value_within c x s) → (lit : ℕ) → variable lit < length literals
    → value_within h z u (substitute literals lit) ≡ value_within c x s lit
substitute-value h c literals graph valid z x u s have lit less =
    value_signed_as (value_within h z u) (within_laws h graph z u).negation lit (get_or literals (variable lit) 0)
    ∙ ap (signed lit) (have (variable lit) less)
    ∙ sym (value_signed (value_within c x s) (within_laws c valid x s).negation lit)

module _ (g c : Graph) (leaves : List ℕ) (valid : IsGraph c) where
  -- before the first gate the leaves stand for the variables
  pub substitute-start : length leaves ≡ first_gate c → AreLiteralsOf g leaves → StandTo g c leaves (first_gate c + 0) g leaves
  substitute-start many within = record {
    many = omega (arith, many);
    within = within;
    values = λ z x u s have. have;
  }

  -- both fan-ins of a gate are of variables before the gate's
  pub fan-ins-there : (k : ℕ) (gate : Gate) → slice_get c.gates k ≡ Some gate → (variable gate.rhs0 < first_gate c + k) × (variable gate.rhs1 < first_gate c + k)
  fan-ins-there k gate there =
      let at : IsGateAt (first_gate c + k) gate = valid.gates k gate there in
      (omega (arith, at.below), omega (arith, at.below, at.ordered))

  -- one more gate
  pub substitute-more : (h i : Graph) (literals new : List ℕ) (k lit : ℕ) (gate : Gate) → slice_get c.gates k ≡ Some gate → IsGraph h → StandTo g c leaves (first_gate c + k) h literals → Extends h i
      → IsConjunction i (substitute literals gate.rhs0) (substitute literals gate.rhs1) lit → new ≡ literals ++ lit ∷ [] → StandTo g c leaves (first_gate c + (k + 1)) i new
  substitute-more h i literals new k lit gate there graph p more is pushed =
      let P : List ℕ → Type 0 = λ ls. StandTo g c leaves (first_gate c + (k + 1)) i ls in
      subst P (sym pushed) (record {
        many = omega (arith, p.many, length_push literals lit);
        within = All-push (λ l. IsLiteralOf i l) literals lit (λ j d less. more.literals (get_or literals j d) (p.within j d less)) is.within;
        values = λ z x u s have v less. elim (cases_lt v (length literals)) [
          | inl before ↦
              ap (value_within i z u) (get_or_append_left literals (lit ∷ []) 0 v before)
              ∙ more.values z u (get_or literals v 0) (p.within v 0 before)
              ∙ p.values z x u s have v before
          | inr past ↦ here z x u s have v (omega (arith, past, less, length_push literals lit))
        ];
      })
    where
      ins : (variable gate.rhs0 < first_gate c + k) × (variable gate.rhs1 < first_gate c + k)
      ins = fan-ins-there k gate there

      -- a fan-in has its value, also in the larger graph
      fan-in : (z x : Digits) (u s : State) → HaveValues g leaves z u (value_within c x s) → (own : ℕ) → variable own < first_gate c + k → value_within i z u (substitute literals own) ≡ value_within c x s own
      fan-in z x u s have own less =
          let short : variable own < length literals = omega (arith, less, p.many) in
          more.values z u (substitute literals own) (substitute-within h literals own p.within short)
          ∙ substitute-value h c literals graph valid z x u s (p.values z x u s have) own short

      here : (z x : Digits) (u s : State) → HaveValues g leaves z u (value_within c x s) → (v : ℕ) → v ≡ length literals → value_within i z u (get_or (literals ++ lit ∷ []) v 0) ≡ value_within c x s (2 * v)
      here z x u s have v last =
          let place : v ≡ first_gate c + k = omega (arith, last, p.many) in
          ap (value_within i z u) (get_or_push literals lit 0 v (sym last))
          ∙ is.is z u
          ∙ ap (λ (b : Bool). b && value_within i z u (substitute literals gate.rhs1)) (fan-in z x u s have gate.rhs0 ins.0)
          ∙ ap (λ (b : Bool). value_within c x s gate.rhs0 && b) (fan-in z x u s have gate.rhs1 ins.1)
          ∙ sym ((within_laws c valid x s).gate k gate there)
          ∙ ap (λ (n : ℕ). value_within c x s (2 * n)) (sym place)
