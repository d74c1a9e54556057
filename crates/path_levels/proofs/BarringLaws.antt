-- Circuits in which gates are barred: what their gates are, and that they are circuits.
use Rattle.std.proofs.Common.{ℕ, ◌+◌, ◌-◌, ◌<◌, ◌≤◌, ◌≡◌, ◌∙◌, inl, inr, suc, zero, Bool, true, false, List, [], ◌∷◌, length, map, Some, is_some, slice_get, refl, sym, ap, ap₂, subst, arith}
use Rattle.std.specs.List.{All, enumerate_from, flat_map}
use Rattle.std.proofs.lemmas.Option.{none-some, same_Some, slice_get_within}
use Rattle.std.proofs.lemmas.List.{length-map}
use Rattle.std.proofs.lemmas.List.FromFn.{length-enumerate_from}
use Rattle.std.proofs.lemmas.List.Elements.{All-nil, All-cons, All-append, All-weaker}
use Rattle.aig_graph.specs.declared.graph.Gate.{Gate}
use Rattle.aig_graph.specs.Graph.{Graph, IsGraph, IsGateAt, IsLiteralOf, variable, first_gate, variables_end, gate_at}
use Rattle.aig_graph.specs.Circuits.{Netlist, IsNetlist}
use Rattle.aig_graph.specs.Streams.{property_literals}
use Rattle.aig_graph.proofs.FoldingLaws.{gate_at-first_gate}
use Rattle.aig_graph.proofs.KindLaws.{element, gate_place}
use Rattle.aig_graph.proofs.PropsLaws.{literals_within}
use Rattle.aig_graph.proofs.HoldingLaws.{no-names}
use Rattle.frame_net.proofs.PassableLaws.{gate_cases}
use Rattle.path_levels.specs.Bounded.{gate_left, reads_barred, gates_left, barred_reads, graph_left, outputs_left, with_barred}

-- what is left at a place of a list of gates
left-at : (test : ℕ → Bool) (first : ℕ) (gates : List Gate) (k : ℕ) (gate : Gate) → slice_get gates k ≡ Some gate
    → slice_get (map (λ (e : ℕ × Gate). gate_left (test e.0) e.1) (enumerate_from first gates)) k ≡ Some (gate_left (test (first + k)) gate)
left-at test first [] k gate e = absurd (none-some gate e)
left-at test first (x ∷ xs) zero gate e =
    let here : first ≡ first + 0 = omega arith in
    ap₂ (λ (n : ℕ) (y : Gate). Some (gate_left (test n) y)) here (same_Some x gate e)
left-at test first (x ∷ xs) (suc k) gate e =
    let place : first + 1 + k ≡ first + suc k = omega arith in
    left-at test (first + 1) xs k gate e ∙ ap (λ (n : ℕ). Some (gate_left (test n) gate)) place

module _ (test : ℕ → Bool) (g : Graph) where
  length-left : length (gates_left test g) ≡ length g.gates
  length-left = length-map (enumerate_from (first_gate g) g.gates) (λ (e : ℕ × Gate). gate_left (test e.0) e.1) ∙ length-enumerate_from (first_gate g) g.gates

  -- there are as many variables
  pub variables-left : variables_end (graph_left test g) ≡ variables_end g
  variables-left = omega (arith, length-left)

  -- a gate, or the one of the constant if it is barred
  pub gate_at-left : (v : ℕ) (gate : Gate) → gate_at g v ≡ Some gate → gate_at (graph_left test g) v ≡ Some (gate_left (test v) gate)
  gate_at-left v gate e =
      let at = gate_place g v gate e in
      let k : ℕ = v - first_gate g in
      let place : first_gate g + k ≡ v = omega (arith, at.from) in
      ap (λ (n : ℕ). gate_at (graph_left test g) n) (sym place)
      ∙ gate_at-first_gate (graph_left test g) k
      ∙ left-at test (first_gate g) g.gates k gate at.there
      ∙ ap (λ (n : ℕ). Some (gate_left (test n) gate)) place

  -- and it is left of a gate
  pub gate_at-before_barring : (v : ℕ) (other : Gate) → gate_at (graph_left test g) v ≡ Some other → (gate : Gate) × (gate_at g v ≡ Some gate) × (other ≡ gate_left (test v) gate)
  gate_at-before_barring v other e =
      let at = gate_place (graph_left test g) v other e in
      let k : ℕ = v - first_gate g in
      let place : first_gate g + k ≡ v = omega (arith, at.from) in
      let there = element g.gates k (omega (arith, at.from, at.below, length-left)) in
      let here : gate_at g v ≡ Some there.0 = ap (λ (n : ℕ). gate_at g n) (sym place) ∙ gate_at-first_gate g k ∙ there.1 in
      (there.0, here, same_Some other (gate_left (test v) there.0) (sym e ∙ gate_at-left v there.0 here))

  -- the gates keep their variables
  pub is_gate-left : (v : ℕ) → is_some (gate_at (graph_left test g) v) ≡ is_some (gate_at g v)
  is_gate-left v = elim (gate_cases g v) [
    | inr some ↦ ap is_some (gate_at-left v some.0 some.1) ∙ sym (ap is_some some.1)
    | inl none ↦ elim (gate_cases (graph_left test g) v) [
      | inl other ↦ ap is_some other ∙ sym (ap is_some none)
      | inr some ↦ (let was = gate_at-before_barring v some.0 some.1 in absurd (none-some was.0 (sym none ∙ was.1)))
    ]
  ]

  left-well : (v : ℕ) (b : Bool) (gate : Gate) → 1 ≤ v → IsGateAt v gate → IsGateAt v (gate_left b gate)
  left-well v true gate later is = record { ordered = omega arith; below = omega arith }
  left-well v false gate later is = is

  -- a graph in which gates are barred is one
  pub graph-left : IsGraph g → IsGraph (graph_left test g)
  graph-left valid = record {
    small = omega (arith, variables-left, valid.small);
    latches = λ k latch e. let in_range : variable latch.next < variables_end g = valid.latches k latch e in omega (arith, in_range, variables-left);
    gates = λ k other e.
        let within : k < length g.gates = omega (arith, length-left, slice_get_within (gates_left test g) k other e) in
        let there = element g.gates k within in
        let is : other ≡ gate_left (test (first_gate g + k)) there.0 = same_Some other _ (sym e ∙ left-at test (first_gate g) g.gates k there.0 there.1) in
        subst (λ (x : Gate). IsGateAt (first_gate g + k) x) (sym is)
        (left-well (first_gate g + k) (test (first_gate g + k)) there.0 (omega arith) (valid.gates k there.0 there.1));
  }

reads-within : (n : ℕ) (b : Bool) (gate : Gate) → variable gate.rhs0 < n → variable gate.rhs1 < n → All (λ lit. variable lit < n) (reads_barred b gate)
reads-within n true gate upper lower =
    All-cons (λ lit. variable lit < n) gate.rhs0 (gate.rhs1 ∷ []) upper (All-cons (λ lit. variable lit < n) gate.rhs1 [] lower (All-nil (λ lit. variable lit < n)))
reads-within n false gate upper lower = All-nil (λ lit. variable lit < n)

-- what barred gates read has variables below all that these are at
flat-within : (test : ℕ → Bool) (n : ℕ) (gates : List Gate) → ((k : ℕ) (gate : Gate) → slice_get gates k ≡ Some gate → (variable gate.rhs0 < n) × (variable gate.rhs1 < n)) → (first : ℕ)
    → All (λ lit. variable lit < n) (flat_map (λ (e : ℕ × Gate). reads_barred (test e.0) e.1) (enumerate_from first gates))
flat-within test n [] each first = All-nil (λ lit. variable lit < n)
flat-within test n (x ∷ xs) each first =
    All-append (λ lit. variable lit < n) (reads_barred (test first) x) (flat_map (λ (e : ℕ × Gate). reads_barred (test e.0) e.1) (enumerate_from (first + 1) xs))
    (let here = each 0 x refl in reads-within n (test first) x here.0 here.1)
    (flat-within test n xs (λ k gate e. each (suc k) gate e) (first + 1))

-- the literals of the outputs are those of the graph
pub outputs-within : (test : ℕ → Bool) (c : Netlist) → IsGraph c.aig → IsNetlist c → All (λ lit. variable lit < variables_end c.aig) (outputs_left test c)
outputs-within test c valid netlist =
    All-append (λ lit. variable lit < variables_end c.aig) (property_literals c.props) (barred_reads test c.aig) (literals_within c.aig c.props netlist.props)
    (flat-within test (variables_end c.aig) c.aig.gates
    (λ k gate e. let at : IsGateAt (first_gate c.aig + k) gate = valid.gates k gate e in
    let short : k < length c.aig.gates = slice_get_within c.aig.gates k gate e in
    (omega (arith, at.below, short), omega (arith, at.below, at.ordered, short))) (first_gate c.aig))

-- a circuit in which gates are barred is one
pub netlist-left : (test : ℕ → Bool) (c : Netlist) → IsGraph c.aig → IsNetlist c → IsNetlist (with_barred test c)
netlist-left test c valid netlist = record {
  props = record {
    outputs = All-weaker (λ lit. variable lit < variables_end c.aig) (λ lit. IsLiteralOf (graph_left test c.aig) lit) (λ lit below. omega (arith, below, variables-left test c.aig))
        (outputs_left test c) (outputs-within test c valid netlist);
    bad = λ k a less. absurd (omega (arith, less));
    constraints = λ k a less. absurd (omega (arith, less));
    justice = λ k a less. absurd (omega (arith, less));
    fairness = λ k a less. absurd (omega (arith, less));
  };
  symbols = record {
    inputs = no-names c.aig.inputs;
    latches = no-names (length c.aig.latches);
    outputs = no-names (length (outputs_left test c));
    bad = no-names 0;
    constraints = no-names 0;
    justice = no-names 0;
    fairness = no-names 0;
  };
}
