-- What stands where in a trimmed graph.
use Rattle.std.proofs.Common.{ℕ, ◌+◌, ◌<◌, ◌≤◌, ◌≡◌, List, length, Bool, true, ◌||◌, nat_lt, Some, slice_get, refl, arith, ap, sym, ◌∙◌, subst}
use Rattle.std.proofs.lemmas.Bool.{or_left, or_right, lt-ltb, le-ltb}
use Rattle.std.proofs.lemmas.List.{length-map}
use Rattle.aig_graph.specs.declared.graph.Gate.{Gate}
use Rattle.aig_graph.specs.declared.graph.Latch.{Latch}
use Rattle.aig_graph.specs.Graph.{Graph, IsGraph, IsGateAt, variable, first_latch, first_gate, variables_end}
use Rattle.aig_graph.specs.Circuits.{Netlist}
use Rattle.aig_graph.specs.Counting.{count_below}
use Rattle.aig_graph.proofs.FoldingLaws.{gate_at-first_gate}
use Rattle.aig_graph.proofs.PlacesLaws.{count-le, count-lt, count-bound}
use Rattle.aig_graph.proofs.SignLaws.{variable-signed_as_twice, gate_of-ordered, gate_of-below}
use Rattle.aig_graph.proofs.KindLaws.{latch_at-first_latch}
use Rattle.cleaned_circuits.specs.Reached.{stays, HoldsReads}
use Rattle.cleaned_circuits.specs.Trimmed.{new_variable, renumbered, renumbered_latch, renumbered_gate, picked, trimmed_graph}
use Rattle.aig_graph.proofs.ListLaws.{slice_get-map_some, from_map}
use Rattle.cleaned_circuits.proofs.PickedLaws.{count-all, length-picked, picked-at, WasAt, was_at}

module _ (g : Graph) (s : ℕ → Bool) where
  -- from the first latch on a variable stays if it is in the set
  pub stays-past : (v : ℕ) → first_latch g ≤ v → stays g s v ≡ s v
  stays-past v h = ap (λ (b : Bool). b || s v) (le-ltb v (first_latch g) h)

  -- a variable of the set stays
  pub stays-reached : (v : ℕ) → s v ≡ true → stays g s v ≡ true
  stays-reached v e = or_right (nat_lt v (first_latch g)) (s v) e

  -- the constant and the inputs stay
  pub stays-low : (v : ℕ) → v < first_latch g → stays g s v ≡ true
  stays-low v h = or_left (nat_lt v (first_latch g)) (s v) (lt-ltb v (first_latch g) h)

  -- what comes before the latches keeps its number
  pub new-low : (v : ℕ) → v ≤ first_latch g → new_variable g s v ≡ v
  new-low v h = count-all (stays g s) v (λ w less. stays-low w (omega arith))

  -- from the first latch on new variables are from the first latch on
  pub new-from : (v : ℕ) → first_latch g ≤ v → first_latch g ≤ new_variable g s v
  new-from v h = omega (arith, count-le (stays g s) (first_latch g) v h, new-low (first_latch g) (omega arith))

  -- new variables keep the order
  pub new-rises : (v w : ℕ) → v ≤ w → new_variable g s v ≤ new_variable g s w
  new-rises v w h = count-le (stays g s) v w h

  -- a trimmed graph has the graph's inputs
  pub trimmed-inputs : (trimmed_graph g s).inputs ≡ g.inputs
  unfolding trimmed_graph
  trimmed-inputs = refl

  -- the first latch of a trimmed graph stands where the graph's does
  pub trimmed-first_latch : first_latch (trimmed_graph g s) ≡ first_latch g
  trimmed-first_latch = omega (arith, trimmed-inputs)

  latches-long : first_latch g + length (trimmed_graph g s).latches ≡ new_variable g s (first_gate g)
  unfolding trimmed_graph
  latches-long =
      let place : first_latch g + length g.latches ≡ first_gate g = omega arith in
      omega (
        arith,
        length-map (picked (stays g s) (first_latch g) g.latches) (renumbered_latch g s),
        length-picked (stays g s) (first_latch g) g.latches,
        new-low (first_latch g) (omega arith),
        ap (count_below (stays g s)) place,
      )

  -- the first gate of a trimmed graph stands at the new variable of the graph's first gate
  pub trimmed-first_gate : first_gate (trimmed_graph g s) ≡ new_variable g s (first_gate g)
  trimmed-first_gate = omega (arith, latches-long, trimmed-inputs)

  gates-long : new_variable g s (first_gate g) + length (trimmed_graph g s).gates ≡ new_variable g s (variables_end g)
  unfolding trimmed_graph
  gates-long =
      let place : first_gate g + length g.gates ≡ variables_end g = omega arith in
      omega (
        arith,
        length-map (picked (stays g s) (first_gate g) g.gates) (renumbered_gate g s),
        length-picked (stays g s) (first_gate g) g.gates,
        ap (count_below (stays g s)) place,
      )

  -- the variables of a trimmed graph end at the new variable of the graph's end
  pub trimmed-end : variables_end (trimmed_graph g s) ≡ new_variable g s (variables_end g)
  trimmed-end = omega (arith, gates-long, trimmed-first_gate)

  -- a latch that stays stands at its rank, reading its renumbered next literal
  pub latch_in : (j m : ℕ) (latch : Latch) → slice_get g.latches j ≡ Some latch → s (first_latch g + j) ≡ true → first_latch g + m ≡ new_variable g s (first_latch g + j)
      → slice_get (trimmed_graph g s).latches m ≡ Some (renumbered_latch g s latch)
  unfolding trimmed_graph
  latch_in j m latch there reached rank =
      slice_get-map_some (renumbered_latch g s) (picked (stays g s) (first_latch g) g.latches) m latch
      (picked-at (stays g s) (first_latch g) g.latches j m latch there (stays-reached (first_latch g + j) reached) (omega (arith, new-low (first_latch g) (omega arith))))

  -- a gate that stays stands at its rank, reading its renumbered fan-ins
  pub gate_in : (k m : ℕ) (gate : Gate) → slice_get g.gates k ≡ Some gate → s (first_gate g + k) ≡ true → first_gate (trimmed_graph g s) + m ≡ new_variable g s (first_gate g + k)
      → slice_get (trimmed_graph g s).gates m ≡ Some (renumbered_gate g s gate)
  unfolding trimmed_graph
  gate_in k m gate there reached rank =
      slice_get-map_some (renumbered_gate g s) (picked (stays g s) (first_gate g) g.gates) m gate
      (picked-at (stays g s) (first_gate g) g.gates k m gate there (stays-reached (first_gate g + k) reached) (omega (arith, trimmed-first_gate)))

  pub record LatchFrom (m : ℕ) (latch : Latch) : Type 0 where
    -- the place of the latch among the graph's
    pub place : ℕ
    -- the latch that it was
    pub old : Latch
    -- it stood there
    pub there : slice_get g.latches place ≡ Some old
    -- it is in the set
    pub reached : s (first_latch g + place) ≡ true
    -- the latch is this one, reading its renumbered next literal
    pub is : latch ≡ renumbered_latch g s old
    -- its new variable is that of its place
    pub rank : first_latch g + m ≡ new_variable g s (first_latch g + place)

  -- each latch of a trimmed graph is one of the graph that stays
  pub latch_from : (m : ℕ) (latch : Latch) → slice_get (trimmed_graph g s).latches m ≡ Some latch → LatchFrom m latch
  unfolding trimmed_graph
  latch_from m latch e =
      let from = from_map (renumbered_latch g s) (picked (stays g s) (first_latch g) g.latches) m latch e in
      let was : WasAt (stays g s) (first_latch g) g.latches m from.0 = was_at (stays g s) (first_latch g) g.latches m from.0 from.1 in
      record {
        place = was.place;
        old = from.0;
        there = was.there;
        reached = sym (stays-past (first_latch g + was.place) (omega arith)) ∙ was.passes;
        is = from.2;
        rank = omega (arith, was.rank, new-low (first_latch g) (omega arith));
      }

  pub record GateFrom (m : ℕ) (gate : Gate) : Type 0 where
    -- the place of the gate among the graph's
    pub place : ℕ
    -- the gate that it was
    pub old : Gate
    -- it stood there
    pub there : slice_get g.gates place ≡ Some old
    -- it is in the set
    pub reached : s (first_gate g + place) ≡ true
    -- the gate is this one, reading its renumbered fan-ins
    pub is : gate ≡ renumbered_gate g s old
    -- its new variable is that of its place
    pub rank : first_gate (trimmed_graph g s) + m ≡ new_variable g s (first_gate g + place)

  -- each gate of a trimmed graph is one of the graph that stays
  pub gate_from : (m : ℕ) (gate : Gate) → slice_get (trimmed_graph g s).gates m ≡ Some gate → GateFrom m gate
  unfolding trimmed_graph
  gate_from m gate e =
      let from = from_map (renumbered_gate g s) (picked (stays g s) (first_gate g) g.gates) m gate e in
      let was : WasAt (stays g s) (first_gate g) g.gates m from.0 = was_at (stays g s) (first_gate g) g.gates m from.0 from.1 in
      record {
        place = was.place;
        old = from.0;
        there = was.there;
        reached = sym (stays-past (first_gate g + was.place) (omega arith)) ∙ was.passes;
        is = from.2;
        rank = omega (arith, was.rank, trimmed-first_gate);
      }

  -- a renumbered literal is of the new variable of the literal's
  pub renumbered-variable : (lit : ℕ) → variable (renumbered g s lit) ≡ new_variable g s (variable lit)
  renumbered-variable lit = variable-signed_as_twice lit (new_variable g s (variable lit))

  -- a variable that stays gets a smaller number than each later one
  pub new-less : (v w : ℕ) → stays g s v ≡ true → v < w → new_variable g s v < new_variable g s w
  new-less v w reached h = count-lt (stays g s) v w h reached

module _ (c : Netlist) (held : List ℕ) (s : ℕ → Bool) (valid : IsGraph c.aig) (holds : HoldsReads c.aig c.props held s) where
  -- what a reached latch or gate reads stays
  pub next-reached : (j : ℕ) (latch : Latch) → slice_get c.aig.latches j ≡ Some latch → s (first_latch c.aig + j) ≡ true → stays c.aig s (variable latch.next) ≡ true
  next-reached j latch there reached = holds.latches (first_latch c.aig + j) latch (latch_at-first_latch c.aig j ∙ there) reached

  -- the fan-ins of a gate that is reached stay
  pub fan_ins-reached : (k : ℕ) (gate : Gate) → slice_get c.aig.gates k ≡ Some gate → s (first_gate c.aig + k) ≡ true → (stays c.aig s (variable gate.rhs0) ≡ true) × (stays c.aig s (variable gate.rhs1) ≡ true)
  fan_ins-reached k gate there reached = holds.gates (first_gate c.aig + k) gate (gate_at-first_gate c.aig k ∙ there) reached

  -- a reached literal in range stays in range
  pub renumbered-within : (lit : ℕ) → stays c.aig s (variable lit) ≡ true → variable lit < variables_end c.aig → variable (renumbered c.aig s lit) < variables_end (trimmed_graph c.aig s)
  renumbered-within lit reached within =
      omega (arith, renumbered-variable c.aig s lit, new-less c.aig s (variable lit) (variables_end c.aig) reached within, trimmed-end c.aig s)

  -- trimmed to a set that holds what it reads, a graph is one
  pub IsGraph-trimmed : IsGraph (trimmed_graph c.aig s)
  IsGraph-trimmed = record {
    small = omega (arith, trimmed-end c.aig s, count-bound (stays c.aig s) (variables_end c.aig), valid.small);
    latches = λ m latch e.
        let from : LatchFrom c.aig s m latch = latch_from c.aig s m latch e in
        let P : Latch → Type 0 = λ l. variable l.next < variables_end (trimmed_graph c.aig s) in
        subst P (sym from.is) (renumbered-within from.old.next (next-reached from.place from.old from.there from.reached) (valid.latches from.place from.old from.there));
    gates = λ m gate e.
        let from : GateFrom c.aig s m gate = gate_from c.aig s m gate e in
        let old : Gate = from.old in
        let at : IsGateAt (first_gate c.aig + from.place) old = valid.gates from.place old from.there in
        let reached = fan_ins-reached from.place old from.there from.reached in
        let a : ℕ = renumbered c.aig s old.rhs0 in
        let b : ℕ = renumbered c.aig s old.rhs1 in
        let first : variable a < first_gate (trimmed_graph c.aig s) + m =
        omega (arith, renumbered-variable c.aig s old.rhs0, new-less c.aig s (variable old.rhs0) (first_gate c.aig + from.place) reached.0 (omega arith), from.rank) in
        let second : variable b < first_gate (trimmed_graph c.aig s) + m =
        omega (arith, renumbered-variable c.aig s old.rhs1, new-less c.aig s (variable old.rhs1) (first_gate c.aig + from.place) reached.1 (omega arith), from.rank) in
        let P : Gate → Type 0 = λ x. IsGateAt (first_gate (trimmed_graph c.aig s) + m) x in
        subst P (sym from.is) (record { ordered = gate_of-ordered a b; below = gate_of-below (first_gate (trimmed_graph c.aig s) + m) a b first second });
  }
