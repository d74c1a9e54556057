-- A circuit that reads the substitutes of what it read has equal values.
use Rattle.std.proofs.Common.{ℕ, ◌+◌, ◌*◌, ◌<◌, ◌≤◌, ◌≡◌, suc, zero, List, length, map, Bool, ◌&&◌, Some, slice_get, refl, arith, ap, sym, ◌∙◌, subst, add-one}
use Rattle.std.proofs.lemmas.List.{length-map}
use Rattle.std.proofs.lemmas.Option.{slice_get_within}
use Rattle.aig_graph.specs.declared.properties.Symbol.{Symbol}
use Rattle.aig_graph.specs.declared.graph.Gate.{Gate}
use Rattle.aig_graph.specs.declared.graph.Latch.{Latch}
use Rattle.aig_graph.specs.Graph.{Graph, IsGraph, IsGateAt, IsLiteralOf, variable, first_latch, first_gate, variables_end, is_free, free_before}
use Rattle.aig_graph.specs.Circuits.{Netlist, IsNetlist, AreNamesBelow}
use Rattle.aig_graph.specs.Value.{Inputs, Choice, value, signed, opening}
use Rattle.aig_graph.specs.Streams.{property_literals}
use Rattle.aig_graph.specs.Laws.{ValueLaws}
use Rattle.aig_graph.proofs.ValueLaws.{value_laws}
use Rattle.aig_graph.proofs.SignLaws.{value_signed, value-gate_of, gate_of-ordered, gate_of-below}
use Rattle.aig_graph.proofs.KindLaws.{kind_of, is_constant, is_input, is_latch, is_gate}
use Rattle.aig_graph.specs.Mapped.{mapped_props}
use Rattle.cleaned_circuits.specs.Merged.{replaced, replaced_gate, replaced_latch, replaced_graph, replaced_circuit, substitutes_of, merged_of}
use Rattle.aig_graph.proofs.ListLaws.{slice_get-map_some, from_map, map-map, map-same, count_by-take_map}
use Rattle.aig_graph.proofs.PropsLaws.{mapped-literals, mapped-props, literals_within}
use Rattle.cleaned_circuits.proofs.SubstituteLaws.{replaced-within, replaced_literal-value}

module _ (substitutes : List ℕ) (g : Graph) where
  -- a replaced graph, which reads what stands for what it read, has the graph's inputs
  pub replaced-inputs : (replaced_graph substitutes g).inputs ≡ g.inputs
  unfolding replaced_graph
  replaced-inputs = refl

  -- a replaced graph has as many latches
  pub length-replaced_latches : length (replaced_graph substitutes g).latches ≡ length g.latches
  unfolding replaced_graph
  length-replaced_latches = length-map g.latches (replaced_latch substitutes)

  -- a replaced graph has as many gates
  pub length-replaced_gates : length (replaced_graph substitutes g).gates ≡ length g.gates
  unfolding replaced_graph
  length-replaced_gates = length-map g.gates (replaced_gate substitutes)

  -- the first latch of a replaced graph stands where it stood
  pub replaced-first_latch : first_latch (replaced_graph substitutes g) ≡ first_latch g
  replaced-first_latch = omega (arith, replaced-inputs)

  -- the first gate of a replaced graph stands where it stood
  pub replaced-first_gate : first_gate (replaced_graph substitutes g) ≡ first_gate g
  replaced-first_gate = omega (arith, replaced-inputs, length-replaced_latches)

  -- the variables of a replaced graph end where they ended
  pub replaced-end : variables_end (replaced_graph substitutes g) ≡ variables_end g
  replaced-end = omega (arith, replaced-inputs, length-replaced_latches, length-replaced_gates)

  -- each latch of the graph stands at its place, reading what stands for its next literal
  pub replaced-latch : (j : ℕ) (latch : Latch) → slice_get g.latches j ≡ Some latch → slice_get (replaced_graph substitutes g).latches j ≡ Some (replaced_latch substitutes latch)
  unfolding replaced_graph
  replaced-latch j latch e = slice_get-map_some (replaced_latch substitutes) g.latches j latch e

  -- each gate of the graph stands at its place, reading what stands for its fan-ins
  pub replaced-gate : (k : ℕ) (gate : Gate) → slice_get g.gates k ≡ Some gate → slice_get (replaced_graph substitutes g).gates k ≡ Some (replaced_gate substitutes gate)
  unfolding replaced_graph
  replaced-gate k gate e = slice_get-map_some (replaced_gate substitutes) g.gates k gate e

  -- each latch of the replaced graph is one of the graph, reading what stands for its next literal
  pub from_latch : (j : ℕ) (latch : Latch) → slice_get (replaced_graph substitutes g).latches j ≡ Some latch → (old : Latch) × (slice_get g.latches j ≡ Some old) × (latch ≡ replaced_latch substitutes old)
  unfolding replaced_graph
  from_latch j latch e = from_map (replaced_latch substitutes) g.latches j latch e

  -- each gate of the replaced graph is one of the graph, reading what stands for its fan-ins
  pub from_gate : (k : ℕ) (gate : Gate) → slice_get (replaced_graph substitutes g).gates k ≡ Some gate → (old : Gate) × (slice_get g.gates k ≡ Some old) × (gate ≡ replaced_gate substitutes old)
  unfolding replaced_graph
  from_gate k gate e = from_map (replaced_gate substitutes) g.gates k gate e

  -- before each latch of a replaced graph there are as many free ones
  pub replaced-free_before : (j : ℕ) → free_before (replaced_graph substitutes g) j ≡ free_before g j
  unfolding replaced_graph
  replaced-free_before j = count_by-take_map is_free is_free (replaced_latch substitutes) (λ latch. refl) j g.latches

-- for each literal there stands one of no later variable
abbrev pub SubstitutesWithin : Graph → List ℕ → Type 0
SubstitutesWithin g substitutes = (lit : ℕ) → variable lit < variables_end g → variable (replaced substitutes lit) ≤ variable lit

-- for each literal there stands one of its value
abbrev pub SubstitutesRight : Graph → List ℕ → Type 0
SubstitutesRight g substitutes = (x : Inputs) (f : Choice) (t lit : ℕ) → variable lit < variables_end g → value g x f t (replaced substitutes lit) ≡ value g x f t lit

module _ (g : Graph) (substitutes : List ℕ) (valid : IsGraph g) (within_each : SubstitutesWithin g substitutes) where
  -- if no literal is replaced by one of a later variable, the replaced graph is one
  pub IsGraph-replaced : IsGraph (replaced_graph substitutes g)
  IsGraph-replaced = record {
    small = omega (arith, replaced-end substitutes g, valid.small);
    latches = λ j latch e.
        let from = from_latch substitutes g j latch e in
        let within : variable from.0.next < variables_end g = valid.latches j from.0 from.1 in
        let P : Latch → Type 0 = λ l. variable l.next < variables_end (replaced_graph substitutes g) in
        subst P (sym from.2) (omega (arith, within_each from.0.next within, replaced-end substitutes g));
    gates = λ k gate e.
        let from = from_gate substitutes g k gate e in
        let old : Gate = from.0 in
        let at : IsGateAt (first_gate g + k) old = valid.gates k old from.1 in
        let within : first_gate g + k < variables_end g = omega (arith, slice_get_within g.gates k old from.1) in
        let below : variable (replaced_gate substitutes old).rhs0 < first_gate g + k =
        gate_of-below (first_gate g + k) (replaced substitutes old.rhs0) (replaced substitutes old.rhs1)
        (omega (arith, within_each old.rhs0 (omega arith))) (omega (arith, within_each old.rhs1 (omega arith))) in
        let P : Gate → Type 0 = λ x. IsGateAt (first_gate (replaced_graph substitutes g) + k) x in
        let Q : ℕ → Type 0 = λ n. IsGateAt n (replaced_gate substitutes old) in
        let place : first_gate g + k ≡ first_gate (replaced_graph substitutes g) + k = omega (arith, replaced-first_gate substitutes g) in
        subst P (sym from.2) (subst Q place (record { ordered = gate_of-ordered (replaced substitutes old.rhs0) (replaced substitutes old.rhs1); below = below }));
  }

  module _ (right : SubstitutesRight g substitutes) (x : Inputs) (f : Choice) where
    abbrev before : ℕ → ℕ → Bool
    before t lit = value g x f t lit

    abbrev after : ℕ → ℕ → Bool
    after t lit = value (replaced_graph substitutes g) x f t lit

    before-laws : ValueLaws g x f
    before-laws = value_laws g valid x f

    after-laws : ValueLaws (replaced_graph substitutes g) x f
    after-laws = value_laws (replaced_graph substitutes g) IsGraph-replaced x f

    -- each latch has its value
    abbrev Holds : ℕ → Type 0
    Holds t = (j : ℕ) (latch : Latch) → slice_get g.latches j ≡ Some latch → after t (2 * (first_latch g + j)) ≡ before t (2 * (first_latch g + j))

    signed-same : (t lit : ℕ) → after t (2 * variable lit) ≡ before t (2 * variable lit) → after t lit ≡ before t lit
    signed-same t lit same = value_signed (after t) (after-laws.negation t) lit ∙ ap (signed lit) same ∙ sym (value_signed (before t) (before-laws.negation t) lit)

    -- a replaced literal has the value of the literal, if the variable that it reads has its value
    replaced-same : (t lit : ℕ) → variable lit < variables_end g → after t (2 * variable (replaced substitutes lit)) ≡ before t (2 * variable (replaced substitutes lit)) → after t (replaced substitutes lit) ≡ before t lit
    replaced-same t lit within same = signed-same t (replaced substitutes lit) same ∙ right x f t lit within

    variable-value : (t : ℕ) → Holds t → (n v : ℕ) → v < n → v < variables_end g → after t (2 * v) ≡ before t (2 * v)
    variable-value t holds zero v h within = absurd (omega arith)
    variable-value t holds (suc n) v h within = elim (kind_of g v within) [
      | is_constant e ↦ (let zero_is : 2 * v ≡ 0 = omega arith in ap (after t) zero_is ∙ after-laws.constant t ∙ sym (before-laws.constant t) ∙ ap (before t) (sym zero_is))
      | is_input i less e ↦ (
          let place : 2 * v ≡ 2 * (1 + i) = omega arith in
          ap (after t) place ∙ after-laws.input t i (omega (arith, replaced-inputs substitutes g)) ∙ sym (before-laws.input t i less) ∙ ap (before t) (sym place))
      | is_latch j latch there e ↦ (
          let place : 2 * v ≡ 2 * (first_latch g + j) = omega arith in
          ap (after t) place ∙ holds j latch there ∙ ap (before t) (sym place))
      | is_gate k gate there e ↦ (
          let at : IsGateAt (first_gate g + k) gate = valid.gates k gate there in
          let place : 2 * v ≡ 2 * (first_gate g + k) = omega arith in
          let new_place : 2 * v ≡ 2 * (first_gate (replaced_graph substitutes g) + k) = omega (arith, replaced-first_gate substitutes g) in
          let one : after t (replaced substitutes gate.rhs0) ≡ before t gate.rhs0 =
          replaced-same t gate.rhs0 (omega arith) (variable-value t holds n (variable (replaced substitutes gate.rhs0))
          (omega (arith, within_each gate.rhs0 (omega arith))) (omega (arith, within_each gate.rhs0 (omega arith)))) in
          let two : after t (replaced substitutes gate.rhs1) ≡ before t gate.rhs1 =
          replaced-same t gate.rhs1 (omega arith) (variable-value t holds n (variable (replaced substitutes gate.rhs1))
          (omega (arith, within_each gate.rhs1 (omega arith))) (omega (arith, within_each gate.rhs1 (omega arith)))) in
          ap (after t) new_place ∙ after-laws.gate t k (replaced_gate substitutes gate) (replaced-gate substitutes g k gate there)
          ∙ value-gate_of (after t) (replaced substitutes gate.rhs0) (replaced substitutes gate.rhs1)
          ∙ ap (λ (b : Bool). b && after t (replaced substitutes gate.rhs1)) one ∙ ap (λ (b : Bool). before t gate.rhs0 && b) two
          ∙ sym (before-laws.gate t k gate there) ∙ ap (before t) (sym place))
    ]

    literal-value : (t : ℕ) → Holds t → (lit : ℕ) → variable lit < variables_end g → after t (replaced substitutes lit) ≡ before t lit
    literal-value t holds lit within =
        replaced-same t lit within (variable-value t holds (suc (variable (replaced substitutes lit))) (variable (replaced substitutes lit)) (omega arith) (omega (arith, within_each lit within)))

    holds-start : Holds 0
    holds-start j latch there =
        let place : 2 * (first_latch g + j) ≡ 2 * (first_latch (replaced_graph substitutes g) + j) = omega (arith, replaced-first_latch substitutes g) in
        ap (after 0) place ∙ after-laws.latch_at_start j (replaced_latch substitutes latch) (replaced-latch substitutes g j latch there)
        ∙ ap (λ (n : ℕ). opening latch.reset (f n)) (replaced-free_before substitutes g j)
        ∙ sym (before-laws.latch_at_start j latch there)

    holds-later : (t : ℕ) → Holds t → Holds (t + 1)
    holds-later t holds j latch there =
        let place : 2 * (first_latch g + j) ≡ 2 * (first_latch (replaced_graph substitutes g) + j) = omega (arith, replaced-first_latch substitutes g) in
        ap (after (t + 1)) place ∙ after-laws.latch_later t j (replaced_latch substitutes latch) (replaced-latch substitutes g j latch there)
        ∙ literal-value t holds latch.next (valid.latches j latch there)
        ∙ sym (before-laws.latch_later t j latch there)

    holds-always : (t : ℕ) → Holds t
    holds-always zero = holds-start
    holds-always (suc t) = let P : ℕ → Type 0 = λ n. Holds n in subst P (add-one t) (holds-later t (holds-always t))

    -- in the replaced graph a replaced literal has the value of the literal before
    pub replaced-graph_value : (t lit : ℕ) → variable lit < variables_end g → value (replaced_graph substitutes g) x f t (replaced substitutes lit) ≡ value g x f t lit
    replaced-graph_value t lit within = literal-value t (holds-always t) lit within

module _ (substitutes : List ℕ) (c : Netlist) (valid : IsGraph c.aig) (netlist : IsNetlist c) (within_each : SubstitutesWithin c.aig substitutes) where
  -- the properties keep their values
  pub replaced-properties : SubstitutesRight c.aig substitutes → (x : Inputs) (f : Choice) (t : ℕ)
      → map (value (replaced_circuit substitutes c).aig x f t) (property_literals (replaced_circuit substitutes c).props) ≡ map (value c.aig x f t) (property_literals c.props)
  replaced-properties right x f t =
      ap (map (value (replaced_circuit substitutes c).aig x f t)) (mapped-literals (replaced substitutes) c.props)
      ∙ map-map (value (replaced_circuit substitutes c).aig x f t) (replaced substitutes) (property_literals c.props)
      ∙ map-same (λ lit. IsLiteralOf c.aig lit) (λ lit. value (replaced_circuit substitutes c).aig x f t (replaced substitutes lit)) (value c.aig x f t)
      (λ lit within. replaced-graph_value c.aig substitutes valid within_each right x f t lit within) (property_literals c.props) (literals_within c.aig c.props netlist.props)

  names_as_many : (n m : ℕ) (names : List Symbol) → m ≡ n → AreNamesBelow n names → AreNamesBelow m names
  names_as_many n m names same below = let P : ℕ → Type 0 = λ k. AreNamesBelow k names in subst P (sym same) below

  -- if no literal is replaced by one of a later variable, the replaced circuit is one
  pub IsNetlist-replaced : IsNetlist (replaced_circuit substitutes c)
  unfolding mapped_props
  IsNetlist-replaced =
      let s = netlist.symbols in
      let p = c.props in
      let f = replaced substitutes in
      let names = c.symbols in
      record {
        props = mapped-props f (λ lit. IsLiteralOf c.aig lit) (replaced_circuit substitutes c).aig p (literals_within c.aig p netlist.props)
            (λ lit within. omega (arith, within_each lit within, replaced-end substitutes c.aig));
        symbols = record {
          inputs = names_as_many c.aig.inputs (replaced_circuit substitutes c).aig.inputs names.inputs (replaced-inputs substitutes c.aig) s.inputs;
          latches = names_as_many (length c.aig.latches) (length (replaced_circuit substitutes c).aig.latches) names.latches (length-replaced_latches substitutes c.aig) s.latches;
          outputs = names_as_many (length p.outputs) (length (map f p.outputs)) names.outputs (length-map p.outputs f) s.outputs;
          bad = names_as_many (length p.bad) (length (map f p.bad)) names.bad (length-map p.bad f) s.bad;
          constraints = names_as_many (length p.constraints) (length (map f p.constraints)) names.constraints (length-map p.constraints f) s.constraints;
          justice = names_as_many (length p.justice) (length (map (map f) p.justice)) names.justice (length-map p.justice (map f)) s.justice;
          fairness = names_as_many (length p.fairness) (length (map f p.fairness)) names.fairness (length-map p.fairness f) s.fairness;
        };
      }

-- in a pass of cleaning
pub IsGraph-merged : (g : Graph) (held : List ℕ) → IsGraph g → IsGraph (replaced_graph (substitutes_of g held) g)
IsGraph-merged g held valid = IsGraph-replaced g (substitutes_of g held) valid (replaced-within g held valid)

module _ (held : List ℕ) (c : Netlist) (valid : IsGraph c.aig) (netlist : IsNetlist c) where
  -- in a pass of cleaning the merged circuit's properties have the values that they had, step by
  -- step
  pub merged-properties : (x : Inputs) (f : Choice) (t : ℕ) → map (value (merged_of held c).aig x f t) (property_literals (merged_of held c).props) ≡ map (value c.aig x f t) (property_literals c.props)
  merged-properties = replaced-properties (substitutes_of c.aig held) c valid netlist (replaced-within c.aig held valid) (replaced_literal-value c.aig held valid)

  -- in a pass of cleaning the merged circuit is one
  pub IsNetlist-merged : IsNetlist (merged_of held c)
  IsNetlist-merged = IsNetlist-replaced (substitutes_of c.aig held) c valid netlist (replaced-within c.aig held valid)
