-- Gates gates, as one more is put among them.
use Rattle.std.proofs.Common.{◌⊎◌, inl, inr, ℕ, ◌+◌, ◌-◌, ◌*◌, ◌<◌, ◌≤◌, ◌≡◌, Bool, not, ◌&&◌, List, [], ◌∷◌, ◌++◌, length, slice_get, Some, refl, arith, ap, sym, ◌∙◌, subst}
use Rattle.std.proofs.Math.Bool.{and-true, and_self}
use Rattle.std.proofs.lemmas.List.{length-map, length_push, map_push}
use Rattle.aig_graph.specs.declared.literal.TheConstants.{MAX_VARIABLES}
use Rattle.aig_graph.specs.declared.graph.Gate.{Gate}
use Rattle.aig_graph.specs.declared.graph.Latch.{Latch}
use Rattle.aig_graph.specs.Building.{gate_of}
use Rattle.aig_graph.specs.Graph.{Graph, IsGateAt, IsGraph, first_gate}
use Rattle.aig_graph.proofs.SignLaws.{gate_of-below, gate_of-ordered, value-gate_of}
use Rattle.aig_graph.proofs.PlacesLaws.{slice_get_push, slice_get-append_left, slice_get-append_right}
use Rattle.gate_sharing.specs.declared.shared.SharedGate.{SharedGate}
use Rattle.aig_graph.specs.Gates.{AreGates, Gates, Grows, Respects, gates_end, gates_of}
use Rattle.gate_sharing.specs.Shared.{IsBoth, IsFolded, IsSharedLiteral, shared_gates}

-- shared gates that stay as they are count as grown
pub grows-itself : (k : Gates) → Grows k k
grows-itself k = record { first = refl; long = omega arith; gates = λ j gate e. e }

-- shared gates that grow twice have grown from the first to the last
pub grows-transitive : (k l m : Gates) → Grows k l → Grows l m → Grows k m
grows-transitive k l m p q = record {
  first = q.first ∙ p.first;
  long = omega (arith, p.long, q.long);
  gates = λ j gate e. q.gates j gate (p.gates j gate e);
}

-- values that respect more gates respect fewer
pub respects-fewer : (k l : Gates) → Grows k l → (values : ℕ → Bool) → Respects l values → Respects k values
respects-fewer k l grows values p = record {
  constant = p.constant;
  negation = p.negation;
  gates = λ j gate e. ap (λ (n : ℕ). values (2 * (n + j))) (sym grows.first) ∙ p.gates j gate (grows.gates j gate e);
}

-- a literal that is shared stays shared as gates grow
pub shared-more : (k l : Gates) → Grows k l → (lit : ℕ) → IsSharedLiteral k lit → IsSharedLiteral l lit
shared-more k l grows lit within = omega (arith, grows.first, grows.long, within)

-- what becomes of the gates: all as they were, or one more
abbrev pub Takes : List Gate → List Gate → Gate → Type 0
Takes gates new gate = (new ≡ gates) ⊎ (new ≡ gates ++ gate ∷ [])

module _ (first : ℕ) (gates new : List Gate) (gate : Gate) (takes : Takes gates new gate) where
  abbrev before : Gates
  before = record { first = first; gates = gates }

  abbrev after : Gates
  after = record { first = first; gates = new }

  -- each gate reads what is before, also after one that does so was put at the end, if there is
  -- room
  pub gates-after : AreGates before → gates_end before < MAX_VARIABLES → IsGateAt (gates_end before) gate → AreGates after
  gates-after are room at = elim takes [
    | inl same ↦ (let P : List Gate → Type 0 = λ gs. AreGates (record { first = first; gates = gs }) in subst P (sym same) are)
    | inr more ↦ (
        let P : List Gate → Type 0 = λ gs. AreGates (record { first = first; gates = gs }) in
        subst P (sym more) (record {
          small = omega (arith, room, length_push gates gate);
          gates = λ j other e. elim (slice_get_push gates gate j other e) [
            | inl there ↦ are.gates j other there
            | inr last ↦ (
                let Q : ℕ → Gate → Type 0 = λ n g. IsGateAt (first + n) g in
                let here : Q (length gates) gate = at in
                subst (λ (n : ℕ). Q n other) (sym last.0) (subst (Q (length gates)) (sym last.1) here))
          ];
        }))
  ]

  -- the gates after one was put at the end, or none, have grown from those before
  pub grows-after : Grows before after
  grows-after = elim takes [
    | inl same ↦ (let P : List Gate → Type 0 = λ gs. Grows before (record { first = first; gates = gs }) in subst P (sym same) (grows-itself before))
    | inr more ↦ (
        let P : List Gate → Type 0 = λ gs. Grows before (record { first = first; gates = gs }) in
        subst P (sym more) (record {
          first = refl;
          long = omega (arith, length_push gates gate);
          gates = λ j other e. slice_get-append_left gates (gate ∷ []) j other e;
        }))
  ]

-- a gate's literal
pub both-at : (k : Gates) (gate : Gate) (place lit : ℕ) → slice_get k.gates place ≡ Some gate → place < length k.gates → lit ≡ 2 * (k.first + place) → IsBoth k gate.rhs0 gate.rhs1 lit
both-at k gate place lit there within at = record {
  within = omega (arith, within, at);
  is = λ values respects. ap values at ∙ respects.gates place gate there;
}

-- a gate whose second fan-in is 1 folds to the first fan-in
pub folded-true : (gate : Gate) → gate.rhs1 ≡ 1 → IsFolded gate gate.rhs0
folded-true gate one = record {
  below = omega arith;
  is = λ values constant negation. sym (ap (λ (n : ℕ). values gate.rhs0 && values n) one ∙ ap (λ (b : Bool). values gate.rhs0 && b) (negation 0 ∙ ap not constant) ∙ and-true (values gate.rhs0));
}

-- a gate whose fan-ins are equal folds to that fan-in
pub folded-equal : (gate : Gate) → gate.rhs0 ≡ gate.rhs1 → IsFolded gate gate.rhs0
folded-equal gate same = record {
  below = omega arith;
  is = λ values constant negation. sym (ap (λ (n : ℕ). values gate.rhs0 && values n) (sym same) ∙ and_self (values gate.rhs0));
}

-- what stands for a gate of two literals stands for these in either order
pub both-folded : (k : Gates) (a b lit : ℕ) → IsSharedLiteral k a → IsSharedLiteral k b → IsFolded (gate_of a b) lit → IsBoth k a b lit
both-folded k a b lit first second folded = record {
  within = omega (arith, folded.below, gate_of-below (gates_end k) a b first second);
  is = λ values respects. folded.is values respects.constant respects.negation ∙ value-gate_of values a b;
}

-- what is 1 where both fan-ins of the gate of two literals are is 1 where both literals are
pub both-either : (k : Gates) (a b lit : ℕ) → IsBoth k (gate_of a b).rhs0 (gate_of a b).rhs1 lit → IsBoth k a b lit
both-either k a b lit both = record {
  within = both.within;
  is = λ values respects. both.is values respects ∙ value-gate_of values a b;
}

-- the gate of two shared literals may stand at the end of the shared gates
pub gate-at : (k : Gates) (a b : ℕ) → IsSharedLiteral k a → IsSharedLiteral k b → IsGateAt (gates_end k) (gate_of a b)
gate-at k a b first second = record { ordered = gate_of-ordered a b; below = gate_of-below (gates_end k) a b first second }

-- one more gate stands after the others
pub takes-one : (old new : List SharedGate) (shared : SharedGate) → new ≡ old ++ shared ∷ [] → Takes (shared_gates old) (shared_gates new) shared.gate
takes-one old new shared e = inr (ap shared_gates e ∙ map_push (λ (s : SharedGate). s.gate) old shared)

-- its place is the number of the others
pub last-there : (old new : List SharedGate) (shared : SharedGate) (place : ℕ) → new ≡ old ++ shared ∷ [] → place ≡ length old → slice_get (shared_gates new) place ≡ Some shared.gate
last-there old new shared place e at =
    let gate : Gate = shared.gate in
    ap (λ (shareds : List SharedGate). slice_get (shared_gates shareds) place) e
    ∙ ap (λ (gates : List Gate). slice_get gates place) (map_push (λ (s : SharedGate). s.gate) old shared)
    ∙ ap (λ (n : ℕ). slice_get (shared_gates old ++ gate ∷ []) n) (omega (arith, at, length-map old (λ (s : SharedGate). s.gate)))
    ∙ slice_get-append_right (shared_gates old) (gate ∷ []) 0

-- the gates as those of a graph with these latches, and inputs before them
module _ (k : Gates) (are : AreGates k) (inputs : ℕ) (latches : List Latch) (room : 1 + inputs + length latches ≡ k.first) (gates : List Gate) (all : gates ≡ k.gates) where
  abbrev as_graph : List Gate → Graph
  as_graph gs = record { inputs = inputs; latches = latches; gates = gs }

  -- they are a graph
  pub shared-graph : ((place : ℕ) (latch : Latch) → slice_get latches place ≡ Some latch → IsSharedLiteral k latch.next) → IsGraph (as_graph gates)
  shared-graph nexts =
      let here : IsGraph (as_graph k.gates) = record {
        small = omega (arith, are.small, room);
        latches = λ j latch e. (let within : IsSharedLiteral k latch.next = nexts j latch e in omega (arith, within, room));
        gates = λ j gate e. (let place : k.first + j ≡ first_gate (as_graph k.gates) + j = omega (arith, room) in subst (λ (n : ℕ). IsGateAt n gate) place (are.gates j gate e));
      } in
      subst (λ (gs : List Gate). IsGraph (as_graph gs)) (sym all) here

  -- its gates are these
  pub shared-gates_of : gates_of (as_graph gates) ≡ k
  shared-gates_of =
      let at : first_gate (as_graph k.gates) ≡ k.first = omega (arith, room) in
      ap (λ (gs : List Gate). gates_of (as_graph gs)) all ∙ ap (λ (n : ℕ). record { first = n; gates = k.gates }) at
