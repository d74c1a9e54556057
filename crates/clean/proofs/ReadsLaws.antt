-- What the gate or the latch at a variable reads.
use Rattle.std.proofs.Common.{ℕ, ◌+◌, ◌-◌, ◌≡◌, [], ◌∷◌, Option, Some, None, refl, arith, ap, sym, ◌∙◌, subst}
use Rattle.std.specs.List.{All}
use Rattle.std.proofs.lemmas.Option.{none-some}
use Rattle.std.proofs.lemmas.List.Elements.{All-nil, All-cons, All-head, All-tail}
use Rattle.aig_graph.specs.declared.graph.Gate.{Gate}
use Rattle.aig_graph.specs.declared.graph.Latch.{Latch}
use Rattle.aig_graph.specs.Graph.{Graph, IsGraph, IsGateAt, IsLiteralOf, first_latch, first_gate, gate_at, latch_at}
use Rattle.aig_graph.proofs.KindLaws.{latch_at-gates, latch_place, GatePlace, gate_place}
use Rattle.clean.specs.Sweep.{reads_by, reads_of}

module _ (g : Graph) where
  -- no variable is both a gate's and a latch's
  pub gate-no-latch : (v : ℕ) (gate : Gate) (latch : Latch) → gate_at g v ≡ Some gate → latch_at g v ≡ Some latch → ⊥
  gate-no-latch v gate latch here there = none-some latch (sym (latch_at-gates g v (gate_place g v gate here).from) ∙ there)

  -- what holds of all that a variable reads
  pub to-reads : (P : ℕ → Type 0) (v : ℕ) → ((gate : Gate) → gate_at g v ≡ Some gate → P gate.rhs0 × P gate.rhs1) → ((latch : Latch) → latch_at g v ≡ Some latch → P latch.next) → All P (reads_of g v)
  unfolding reads_of
  to-reads P v by_gate by_latch = go (gate_at g v) (latch_at g v) refl refl
    where
      go : (o : Option Gate) (l : Option Latch) → gate_at g v ≡ o → latch_at g v ≡ l → All P (reads_by o l)
      go (Some gate) l e d = All-cons P gate.rhs0 (gate.rhs1 ∷ []) (by_gate gate e).0 (All-cons P gate.rhs1 [] (by_gate gate e).1 (All-nil P))
      go None (Some latch) e d = All-cons P latch.next [] (by_latch latch d) (All-nil P)
      go None None e d = All-nil P

  -- what holds of all that a gate's variable reads holds of both fan-ins
  pub from-gate : (P : ℕ → Type 0) (v : ℕ) (gate : Gate) → All P (reads_of g v) → gate_at g v ≡ Some gate → P gate.rhs0 × P gate.rhs1
  unfolding reads_of
  from-gate P v gate all e =
      let Q : Option Gate → Type 0 = λ o. All P (reads_by o (latch_at g v)) in
      let both : All P (gate.rhs0 ∷ gate.rhs1 ∷ []) = subst Q e all in
      (All-head P gate.rhs0 (gate.rhs1 ∷ []) both, All-head P gate.rhs1 [] (All-tail P gate.rhs0 (gate.rhs1 ∷ []) both))

  -- what holds of all that a latch's variable reads holds of its next literal
  pub from-latch : (P : ℕ → Type 0) (v : ℕ) (latch : Latch) → All P (reads_of g v) → latch_at g v ≡ Some latch → P latch.next
  unfolding reads_of
  from-latch P v latch all e = go (gate_at g v) refl
    where
      go : (o : Option Gate) → gate_at g v ≡ o → P latch.next
      go (Some gate) there = absurd (gate-no-latch v gate latch there e)
      go None none =
          let Q : Option Gate → Type 0 = λ o. All P (reads_by o (latch_at g v)) in
          let R : Option Latch → Type 0 = λ l. All P (reads_by None l) in
          All-head P latch.next [] (subst R e (subst Q none all))

  -- the literals that a variable reads are in range
  pub reads-within : IsGraph g → (v : ℕ) → All (λ lit. IsLiteralOf g lit) (reads_of g v)
  reads-within valid v = to-reads (λ lit. IsLiteralOf g lit) v
      (λ gate e.
      let place : GatePlace g v gate = gate_place g v gate e in
      let at : IsGateAt (first_gate g + (v - first_gate g)) gate = valid.gates (v - first_gate g) gate place.there in
      (omega (arith, at.below, place.from, place.below), omega (arith, at.below, at.ordered, place.from, place.below)))
      (λ latch e. valid.latches (v - first_latch g) latch (latch_place g v latch e).there)

  -- a gate's variable reads the two fan-ins
  pub reads-gate : (v : ℕ) (gate : Gate) → gate_at g v ≡ Some gate → reads_of g v ≡ gate.rhs0 ∷ gate.rhs1 ∷ []
  unfolding reads_of
  reads-gate v gate e = ap (λ (o : Option Gate). reads_by o (latch_at g v)) e

  -- a latch's variable reads the next literal
  pub reads-latch : (v : ℕ) (latch : Latch) → gate_at g v ≡ None → latch_at g v ≡ Some latch → reads_of g v ≡ latch.next ∷ []
  unfolding reads_of
  reads-latch v latch none e = ap (λ (o : Option Gate). reads_by o (latch_at g v)) none ∙ ap (reads_by None) e

  -- a variable that is neither a gate nor a latch reads nothing
  pub reads-none : (v : ℕ) → gate_at g v ≡ None → latch_at g v ≡ None → reads_of g v ≡ []
  unfolding reads_of
  reads-none v none e = ap (λ (o : Option Gate). reads_by o (latch_at g v)) none ∙ ap (reads_by None) e
