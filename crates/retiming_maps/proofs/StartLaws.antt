-- The states of a circuit are mapped to themselves, by the inputs of a circuit without gates.
use Rattle.std.proofs.Common.{inl, inr, ℕ, ◌+◌, ◌*◌, ◌<◌, ◌≤◌, ◌≡◌, suc, zero, Bool, false, ◌&&◌, Option, Some, None, slice_get, List, [], ◌∷◌, length, map, refl, arith, ap, sym, ◌∙◌, subst, zero-add}
use Rattle.std.specs.List.{All}
use Rattle.std.proofs.Math.ListN.{get_or-eq_default}
use Rattle.std.proofs.lemmas.Bool.{cases_lt}
use Rattle.std.proofs.lemmas.List.{get_or-map, length-map}
use Rattle.std.proofs.lemmas.List.FromFn.{get_or-range_with_len}
use Rattle.std.proofs.lemmas.Option.{none-some, slice_get_within}
use Rattle.aig_graph.specs.declared.graph.Latch.{Latch}
use Rattle.aig_graph.specs.declared.literal.TheConstants.{MAX_VARIABLES}
use Rattle.aig_graph.specs.Building.{without_gates}
use Rattle.aig_graph.specs.Circuits.{Netlist}
use Rattle.aig_graph.specs.Graph.{Graph, IsGraph, IsGateAt, IsLiteralOf, first_gate, first_latch, free_latches, gate_at, variable, variables_end}
use Rattle.aig_graph.specs.Laws.{all_free}
use Rattle.aig_graph.specs.Streams.{chosen}
use Rattle.aig_graph.specs.Value.{next_value, opening_at, signed, value_within}
use Rattle.aig_graph.proofs.FoldingLaws.{gate_at-first_gate, gate_at-is}
use Rattle.aig_graph.proofs.KindLaws.{is_constant, is_gate, is_input, is_latch, kind_of}
use Rattle.aig_graph.proofs.SignLaws.{value_signed}
use Rattle.cleaned_circuits.proofs.PassLaws.{IsCircuit}
use Rattle.aig_graph.specs.Tables.{table}
use Rattle.aig_graph.proofs.ListLaws.{map-same}
use Rattle.aig_graph.proofs.TableLaws.{length-table, table-at}
use Rattle.state_maps.specs.States.{Digits, IsStateMap, SameReads, State, after_step, opening_state}
use Rattle.state_maps.proofs.MapLaws.{opening-same}
use Rattle.state_maps.proofs.WithinLaws.{within_laws}
use Rattle.map_circuits.specs.Constraining.{AreOne}
use Rattle.map_circuits.specs.Following.{state_of}
use Rattle.retiming_maps.specs.Mapping.{IsMapBy}
use Rattle.retiming_maps.proofs.FreeLaws.{free-start}
use Rattle.aig_graph.proofs.StreamLaws.{funext, same_streams-reflexive}

-- the values of a step rest on what the latches hold alone
module _ (g : Graph) (valid : IsGraph g) (x : Digits) (s t : State) (same : (j : ℕ) → j < length g.latches → s j ≡ t j) where
  signed-same : (lit : ℕ) → value_within g x s (2 * variable lit) ≡ value_within g x t (2 * variable lit) → value_within g x s lit ≡ value_within g x t lit
  signed-same lit e =
      value_signed (value_within g x s) (within_laws g valid x s).negation lit ∙ ap (signed lit) e ∙ sym (value_signed (value_within g x t) (within_laws g valid x t).negation lit)

  variable-same : (n v : ℕ) → v < n → v < variables_end g → value_within g x s (2 * v) ≡ value_within g x t (2 * v)
  variable-same zero v h within = absurd (omega arith)
  variable-same (suc n) v h within =
      let one = within_laws g valid x s in
      let two = within_laws g valid x t in
      let before : ℕ → Bool = value_within g x s in
      let after : ℕ → Bool = value_within g x t in
      elim (kind_of g v within) [
        | is_constant e ↦ (let at : 2 * v ≡ 0 = omega (arith, e) in ap before at ∙ one.constant ∙ sym (ap after at ∙ two.constant))
        | is_input i less e ↦ (let at : 2 * v ≡ 2 * (1 + i) = omega (arith, e) in ap before at ∙ one.input i less ∙ sym (ap after at ∙ two.input i less))
        | is_latch j latch there e ↦ (
            let at : 2 * v ≡ 2 * (first_latch g + j) = omega (arith, e) in
            ap before at ∙ one.latch j latch there ∙ same j (slice_get_within g.latches j latch there) ∙ sym (ap after at ∙ two.latch j latch there))
        | is_gate k gate there e ↦ (
            let here : IsGateAt v gate = gate_at-is g valid v gate (ap (gate_at g) e ∙ gate_at-first_gate g k ∙ there) in
            let at : 2 * v ≡ 2 * (first_gate g + k) = omega (arith, e) in
            let first = signed-same gate.rhs0 (variable-same n (variable gate.rhs0) (omega (arith, here.below)) (omega (arith, here.below))) in
            let second = signed-same gate.rhs1 (variable-same n (variable gate.rhs1) (omega (arith, here.below, here.ordered)) (omega (arith, here.below, here.ordered))) in
            ap before at ∙ one.gate k gate there
            ∙ ap (λ (b : Bool). b && before gate.rhs1) first ∙ ap (λ (b : Bool). after gate.rhs0 && b) second
            ∙ sym (ap after at ∙ two.gate k gate there))
      ]

  -- a literal has equal values in states in which each latch of the graph holds equal values
  pub literal-same : (lit : ℕ) → IsLiteralOf g lit → value_within g x s lit ≡ value_within g x t lit
  literal-same lit within = signed-same lit (variable-same (suc (variable lit)) (variable lit) (omega arith) within)

-- inputs alone are a graph if there is room for their variables
pub inputs-graph : (n : ℕ) → n + 1 ≤ MAX_VARIABLES → IsGraph (without_gates n [])
inputs-graph n small = record {
  small = omega (arith, small);
  latches = λ k latch there. absurd (none-some latch there);
  gates = λ k gate there. absurd (none-some gate there);
}

module _ (c : Netlist) (valid : IsCircuit c) where
  abbrev long : ℕ
  long = length c.aig.latches

  abbrev inputs : Graph
  inputs = without_gates long []

  abbrev literals : List ℕ
  literals = table 0 long (λ j. 2 * (1 + j))

  -- what the inputs say of a state
  abbrev to : State → State
  to s = state_of inputs literals s

  module _ (graph : IsGraph inputs) where
    to-same : (s : State) (j : ℕ) → j < long → to s j ≡ s j
    to-same s j less =
        let place : 2 * (1 + (0 + j)) ≡ 2 * (1 + j) = omega arith in
        get_or-map (value_within inputs s (λ i. false)) literals j 0 false (omega (arith, less, length-table 0 long (λ j. 2 * (1 + j))))
        ∙ ap (value_within inputs s (λ i. false)) (table-at 0 long (λ j. 2 * (1 + j)) j 0 less ∙ place)
        ∙ (within_laws inputs graph s (λ i. false)).input j less

    to-past : (s : State) (j : ℕ) → long ≤ j → to s j ≡ false
    to-past s j past =
        get_or-eq_default (map (value_within inputs s (λ i. false)) literals) false {n = j}
        (omega (arith, past, length-table 0 long (λ j. 2 * (1 + j)), length-map literals (value_within inputs s (λ i. false))))

    -- a state whose latches past the last one hold 0 is told whole
    to-whole : (s : State) → ((j : ℕ) → slice_get c.aig.latches j ≡ None → s j ≡ false) → to s ≡ s
    to-whole s none = funext _ _ (λ j. elim (cases_lt j long) [
      | inl less ↦ to-same s j less
      | inr past ↦ to-past s j past ∙ sym (none j (past-none c.aig.latches j past))
    ])
      where
        past-none : {A : Type 0} (xs : List A) (k : ℕ) → length xs ≤ k → slice_get xs k ≡ None
        past-none [] k past = refl
        past-none (x ∷ xs) zero past = absurd (omega (arith, past))
        past-none (x ∷ xs) (suc k) past = past-none xs k (omega (arith, past))

    step-same : (x : Digits) (s : State) → after_step c.aig x s ≡ after_step c.aig x (to s)
    step-same x s = funext _ _ at
      where
        at : (j : ℕ) → after_step c.aig x s j ≡ after_step c.aig x (to s) j
        at j = go (slice_get c.aig.latches j) refl
          where
            go : (o : Option Latch) → slice_get c.aig.latches j ≡ o → after_step c.aig x s j ≡ after_step c.aig x (to s) j
            go None e = ap (next_value (value_within c.aig x s)) e ∙ sym (ap (next_value (value_within c.aig x (to s))) e)
            go (Some latch) e =
                ap (next_value (value_within c.aig x s)) e
                ∙ literal-same c.aig valid.graph x s (to s) (λ j less. sym (to-same s j less)) latch.next (valid.graph.latches j latch e)
                ∙ sym (ap (next_value (value_within c.aig x (to s))) e)

    same-reads : (x : Digits) (s : State) → SameReads c c x s (to s)
    same-reads x s =
        let P : ℕ → Type 0 = λ lit. IsLiteralOf c.aig lit in
        let after : ℕ → Bool = value_within c.aig x (to s) in
        let before : ℕ → Bool = value_within c.aig x s in
        let same : (lit : ℕ) → P lit → after lit ≡ before lit = literal-same c.aig valid.graph x (to s) s (to-same s) in
        let list : (lits : List ℕ) → All P lits → map after lits ≡ map before lits = map-same P after before same in
        let props = valid.netlist.props in
        record {
          outputs = list c.props.outputs props.outputs;
          bad = list c.props.bad props.bad;
          constraints = list c.props.constraints props.constraints;
          justice = map-same (λ lits. All P lits) (map after) (map before) list c.props.justice props.justice;
          fairness = list c.props.fairness props.fairness;
        }

    identity-maps : IsStateMap c c (all_free c.aig) (AreOne inputs []) to
    identity-maps = record {
      holds_first = λ f k d less. absurd (omega (arith, less));
      first = λ f.
          to-whole (opening_state c.aig f) (λ j none. ap (opening_at c.aig f j) none)
          ∙ opening-same c.aig valid.graph f (chosen (all_free c.aig) f) (λ j less. ap f (sym (get_or-range_with_len 0 (free_latches c.aig) j 0 less ∙ zero-add j)));
      keeps = λ x s ones. ones;
      steps = λ x s ones. to-whole (after_step c.aig x s) (λ j none. ap (next_value (value_within c.aig x s)) none) ∙ step-same x s;
      reads = λ x s ones. same-reads x s;
    }

-- the parts that are made first
pub identity-map : (c : Netlist) (g : Graph) (functions constraints : List ℕ) → IsCircuit c → IsGraph g → g ≡ without_gates (length c.aig.latches) []
    → functions ≡ table 0 (length c.aig.latches) (λ j. 2 * (1 + j)) → constraints ≡ [] → IsMapBy c c (all_free c.aig) g functions constraints
identity-map c g functions constraints valid graph built filled none =
    let n : ℕ = length c.aig.latches in
    let P : Graph → Type 0 = λ h. IsGraph h in
    let here : IsGraph (without_gates n []) = subst P built graph in
    let Q : Graph → List ℕ → List ℕ → Type 0 = λ h lits ones. IsMapBy c c (all_free c.aig) h lits ones in
    let start : Q (without_gates n []) (table 0 n (λ j. 2 * (1 + j))) [] = record {
      graph = here;
      inputs = refl;
      latches = refl;
      functions_within = λ k d less.
          let below : k < n = omega (arith, less, length-table 0 n (λ j. 2 * (1 + j))) in
          let at = table-at 0 n (λ j. 2 * (1 + j)) k d below in
          omega (arith, at, below);
      constraints_within = λ k d less. absurd (omega (arith, less));
      many = length-table 0 n (λ j. 2 * (1 + j));
      places = (same_streams-reflexive c).places;
      free = free-start c;
      maps = identity-maps c valid here;
    } in
    subst (λ (h : Graph). Q h functions constraints) (sym built)
    (subst (λ (lits : List ℕ). Q (without_gates n []) lits constraints) (sym filled) (subst (λ (ones : List ℕ). Q (without_gates n []) (table 0 n (λ j. 2 * (1 + j))) ones) (sym none) start))
