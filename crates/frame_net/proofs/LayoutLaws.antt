-- The tables by which a network is built.
use Rattle.std.proofs.Common.{◌≡◌, ℕ, ◌+◌, ◌-◌, ◌/◌, ◌<◌, ◌≤◌, ◌^◌, Bool, true, false, not, ◌&&◌, ◌||◌, List, length, replicate, take, slice_get, get_or, Option, Some, None, arith, refl, ap, ap₂, sym, ◌∙◌, subst, inl, inr}
use Rattle.std.proofs.lemmas.Bool.{cases_lt, and_parts, true≢false, false≢true}
use Rattle.std.proofs.lemmas.Option.{slice_get-get_or}
use Rattle.std.proofs.lemmas.List.{get_or-take, length-take}
use Rattle.aig_graph.specs.Tables.{table}
use Rattle.aig_graph.specs.Marking.{mark_at, Marks, AreAllMarks}
use Rattle.aig_graph.proofs.PlacesLaws.{length-places, count-bound, Ranks, rank_at}
use Rattle.aig_graph.proofs.MarkingLaws.{Marks-then, table-marks, AreAllMarks-table}
use Rattle.aig_graph.proofs.TableLaws.{length-table, table-at}
use Rattle.aig_graph.specs.declared.graph.Gate.{Gate}
use Rattle.aig_graph.specs.declared.graph.Latch.{Latch}
use Rattle.aig_graph.specs.declared.properties.Props.{Props}
use Rattle.aig_graph.specs.Graph.{Graph, IsGraph, IsGateAt, variable, first_latch, first_gate, variables_end, latches_and_gates, latch_at, gate_at, is_known}
use Rattle.aig_graph.specs.Closed.{is_held, is_settled}
use Rattle.aig_graph.specs.Border.{is_read_outside}
use Rattle.aig_graph.proofs.FoldingLaws.{gate_at-is}
use Rattle.aig_graph.proofs.KindLaws.{latch_at-before}
use Rattle.aig_graph.proofs.ClosedLaws.{is_settled-gate}
use Rattle.frame_net.specs.Passable.{is_passable}
use Rattle.frame_net.specs.declared.layout.Layout.{Layout}
use Rattle.frame_net.specs.Layout.{nodes_of}
use Rattle.frame_net.specs.Capacity.{has_node, node_variables, latch_count, is_observed, latch_number}
use Rattle.frame_net.proofs.PassableLaws.{passable-no_gate, passable-at_gate, has-passable, settled-split}
use Rattle.frame_net.proofs.NodeLaws.{has_node-latch, has_node-gate, rank-latch, rank-gate, latches-among}

-- no variable before the first latch has a node
pub node-before : (g : Graph) (held : List ℕ) (v : ℕ) → v < first_latch g → has_node g held v ≡ false
node-before g held v h = has_node-latch g held v (omega (arith, h)) ∙ ap (λ (o : Option Latch). is_known o) (latch_at-before g v h)

-- a variable has a node if it is a known latch or marked as passable
pub has_node-marked : (g : Graph) (held : List ℕ) (v : ℕ) (a b : Bool) → a ≡ is_known (latch_at g v) → b ≡ is_passable g held v → (a || b) ≡ has_node g held v
unfolding has_node
has_node-marked g held v a b p q = ap₂ (λ (x y : Bool). x || y) p q

-- marks of held latches, and then of what is read from outside the passable gates, are the table of
-- what leaves the frame
pub leaving-table : (g : Graph) (props : Props) (held : List ℕ) (n : ℕ) (inside old mid new : List Bool)
    → ((v : ℕ) → mark_at (first_latch g) inside v ≡ is_passable g held v)
    → old ≡ replicate n false → Marks (first_latch g) old mid (is_held g held) → Marks (first_latch g) mid new (is_read_outside g props (mark_at (first_latch g) inside))
    → new ≡ table (first_latch g) n (is_observed g props held)
unfolding is_observed
leaving-table g props held n inside old mid new same fresh first second =
    let tests : mark_at (first_latch g) inside ≡ is_passable g held = λ i. λ v. same v i in
    table-marks (first_latch g) n old new (λ v. is_held g held v || is_read_outside g props (is_passable g held) v) fresh
    (Marks-then (first_latch g) old mid new (is_held g held) (is_read_outside g props (is_passable g held)) first
    (subst (λ (f : ℕ → Bool). Marks (first_latch g) mid new (is_read_outside g props f)) tests second))

-- the entry of a variable in a table by variable is the variable's value
pub table-value : {A : Type 0} (g : Graph) (f : ℕ → A) (xs : List A) (v : ℕ) (d : A) → xs ≡ table (first_latch g) (latches_and_gates g) f → first_latch g ≤ v → v < variables_end g → get_or xs (v - first_latch g) d ≡ f v
table-value g f xs v d filled from below =
    ap (λ (ys : List _). get_or ys (v - first_latch g) d) filled
    ∙ table-at (first_latch g) (latches_and_gates g) f (v - first_latch g) d (omega (arith, from, below))
    ∙ ap (λ (n : ℕ). f n) (omega (arith, from))

-- a table of the variables with nodes marks all of them
pub node-marks : (g : Graph) (held : List ℕ) (marks : List Bool) → marks ≡ table (first_latch g) (latches_and_gates g) (has_node g held) → AreAllMarks (first_latch g) marks (has_node g held)
node-marks g held marks filled = AreAllMarks-table (first_latch g) (latches_and_gates g) marks (has_node g held) filled (λ v h. node-before g held v h)

-- the entries of the latches in a table of the variables with nodes mark those with nodes
pub latch-marks : (g : Graph) (held : List ℕ) (marks front : List Bool) → marks ≡ table (first_latch g) (latches_and_gates g) (has_node g held) → front ≡ take (length g.latches) marks → AreAllMarks (first_latch g) front (has_node g held)
latch-marks g held marks front filled is = record {
  before = λ v h. node-before g held v h;
  each = λ k h.
      let short : k < length g.latches = omega (arith, h, ap (λ (xs : List Bool). length xs) is, length-take (length g.latches) marks) in
      ap (λ (xs : List Bool). get_or xs k false) is ∙ get_or-take (length g.latches) marks k false short
      ∙ (node-marks g held marks filled).each k (omega (arith, short, ap (λ (xs : List Bool). length xs) filled, length-table (first_latch g) (latches_and_gates g) (has_node g held)));
}

-- there are at most as many known latches as variables before the gates
pub latches-bound : (g : Graph) (held : List ℕ) → latch_count g held ≤ first_gate g
latches-bound g held = count-bound (has_node g held) (first_gate g)

-- there are at most as many variables with nodes as variables
pub variables-bound : (g : Graph) (held : List ℕ) → length (node_variables g held) ≤ variables_end g
variables-bound g held = omega (arith, length-places (has_node g held) (variables_end g), count-bound (has_node g held) (variables_end g))

-- the number of a variable's node, counted as a latch's, is at most two more than the variable
pub number-bound : (g : Graph) (held : List ℕ) (v : ℕ) → latch_number g held v ≤ 2 + v
number-bound g held v = omega (arith, count-bound (has_node g held) v)

-- a variable from the list, by its place
pub place-of : (g : Graph) (held : List ℕ) (vars : List ℕ) (i u : ℕ) → vars ≡ node_variables g held → i < length vars → u ≡ get_or vars i u → Ranks (has_node g held) (variables_end g) i u
place-of g held vars i u same h is =
    rank_at (has_node g held) (variables_end g) i u (ap (λ (xs : List ℕ). slice_get xs i) (sym same) ∙ (slice_get-get_or vars i u h ∙ ap (λ (x : ℕ). Some x) (sym is)))

-- a variable whose place is among the known latches is a latch
pub latch-place : (g : Graph) (held : List ℕ) (i u : ℕ) → Ranks (has_node g held) (variables_end g) i u → i < latch_count g held → u < first_gate g
latch-place g held i u r h = elim (cases_lt u (first_gate g)) [
  | inl lt ↦ lt
  | inr ge ↦ absurd (omega (arith, rank-gate g held u ge, r.rank, h))
]

-- a variable whose place is past the known latches is a gate
pub gate-place : (g : Graph) (held : List ℕ) (i u : ℕ) → Ranks (has_node g held) (variables_end g) i u → latch_count g held ≤ i → first_gate g ≤ u
gate-place g held i u r h = elim (cases_lt u (first_gate g)) [
  | inl lt ↦ absurd (omega (arith, rank-latch g held u r.passes lt, r.rank, h))
  | inr ge ↦ ge
]

-- ---- the variables of a layout, by the numbers of their nodes

-- a place among the latches is one among all variables
pub place-within : (l : Layout) (i : ℕ) → i < l.latches → i < length l.variables.items
place-within l i h = omega (arith, h, l.latches_are, latches-among l.aig.now l.keep.now, ap (λ (xs : List ℕ). length xs) l.variables_are)

-- the place of the gate of node v
pub gate-within : (l : Layout) (v : ℕ) → 2 ≤ v → v < nodes_of l → l.latches ≤ v - 2 → l.latches + (v - 2 - l.latches) / 2 < length l.variables.items
gate-within l v from h past = omega (arith, from, h, past, l.latches_are, latches-among l.aig.now l.keep.now, ap (λ (xs : List ℕ). length xs) l.variables_are)

-- the variable at a place among a layout's latches has a node, and the place as its rank
pub latch-rank : (l : Layout) (i u : ℕ) → i < l.latches → u ≡ get_or l.variables.items i u → Ranks (has_node l.aig.now l.keep.now) (variables_end l.aig.now) i u
latch-rank l i u h is = place-of l.aig.now l.keep.now l.variables.items i u l.variables_are (place-within l i h) is

-- the variable of a gate's node in a layout has a node, and the place that the node's number gives
-- as its rank
pub gate-rank : (l : Layout) (v u : ℕ) → 2 ≤ v → v < nodes_of l → l.latches ≤ v - 2 → u ≡ get_or l.variables.items (l.latches + (v - 2 - l.latches) / 2) u
    → Ranks (has_node l.aig.now l.keep.now) (variables_end l.aig.now) (l.latches + (v - 2 - l.latches) / 2) u
gate-rank l v u from h past is = place-of l.aig.now l.keep.now l.variables.items (l.latches + (v - 2 - l.latches) / 2) u l.variables_are (gate-within l v from h past) is

-- what has a node is after the inputs
pub node-from : (g : Graph) (held : List ℕ) (u : ℕ) → has_node g held u ≡ true → first_latch g ≤ u
node-from g held u p = elim (cases_lt u (first_latch g)) [
  | inl lt ↦ absurd (true≢false (sym p ∙ node-before g held u lt))
  | inr ge ↦ ge
]

-- ---- the fan-ins of a passable gate have nodes

settled-node : (g : Graph) (held : List ℕ) (u : ℕ) → is_settled g held u ≡ true → has_node g held u ≡ true
unfolding has_node
settled-node g held u e = merge (is_passable g held u) (is_held g held u) (is_known (latch_at g u)) (sym (settled-split g held u) ∙ e)
  where
    merge : (a h k : Bool) → (a || (not h && k)) ≡ true → (k || a) ≡ true
    merge true h true e = refl
    merge true h false e = refl
    merge false true k e = absurd (cc)
    merge false false true e = refl
    merge false false false e = absurd (cc)

-- the fan-ins of a passable gate have nodes
pub fan_ins-nodes : (g : Graph) (held : List ℕ) → IsGraph g → (w : ℕ) (gate : Gate) → gate_at g w ≡ Some gate → is_passable g held w ≡ true
    → (has_node g held (variable gate.rhs0) ≡ true) × (has_node g held (variable gate.rhs1) ≡ true)
fan_ins-nodes g held valid w gate there passes =
    let parts = and_parts (is_settled g held (variable gate.rhs0)) (is_settled g held (variable gate.rhs1)) (sym (is_settled-gate g held valid w gate there) ∙ (sym (passable-at_gate g held w gate there) ∙ passes)) in
    (settled-node g held (variable gate.rhs0) parts.0, settled-node g held (variable gate.rhs1) parts.1)

-- the marks of a table of passable gates say which variables are passable
pub read-marks : (g : Graph) (held : List ℕ) (first : ℕ) (marks read : List Bool) → first ≡ first_latch g → marks ≡ table (first_latch g) (latches_and_gates g) (is_passable g held) → read ≡ marks
    → (v : ℕ) → mark_at (first_latch g) read v ≡ is_passable g held v
read-marks g held first marks read same filled is v = ap (λ (xs : List Bool). mark_at (first_latch g) xs v) is ∙ has-passable g held (first_latch g) marks v refl filled

pub record FanIns (g : Graph) (held : List ℕ) (w : ℕ) (gate : Gate) : Type 0 where
  -- it is the gate at w
  pub there : gate_at g w ≡ Some gate
  -- the variable of its first fan-in has a node
  pub has0 : has_node g held (variable gate.rhs0) ≡ true
  -- the variable of its second fan-in has a node
  pub has1 : has_node g held (variable gate.rhs1) ≡ true
  -- the variable of its first fan-in is from the first latch on
  pub from0 : first_latch g ≤ variable gate.rhs0
  -- the variable of its second fan-in is from the first latch on
  pub from1 : first_latch g ≤ variable gate.rhs1
  -- the variable of its first fan-in is one of the graph's
  pub below0 : variable gate.rhs0 < variables_end g
  -- the variable of its second fan-in is one of the graph's
  pub below1 : variable gate.rhs1 < variables_end g

-- both fan-ins of a gate with nodes have nodes, and are latches or gates
pub fan_ins-facts : (g : Graph) (held : List ℕ) → IsGraph g → (w : ℕ) (gate : Gate) → gate_at g w ≡ Some gate → first_gate g ≤ w → w < variables_end g → has_node g held w ≡ true → FanIns g held w gate
fan_ins-facts g held valid w gate there from below p =
    let nodes = fan_ins-nodes g held valid w gate there (sym (has_node-gate g held w from) ∙ p) in
    let here : IsGateAt w gate = gate_at-is g valid w gate there in
    record {
      there = there;
      has0 = nodes.0;
      has1 = nodes.1;
      from0 = node-from g held (variable gate.rhs0) nodes.0;
      from1 = node-from g held (variable gate.rhs1) nodes.1;
      below0 = omega (arith, here.below, below);
      below1 = omega (arith, here.below, here.ordered, below);
    }

-- a variable from the first gate on that has nodes is a gate
pub no-gate : (g : Graph) (held : List ℕ) (w : ℕ) → gate_at g w ≡ None → first_gate g ≤ w → has_node g held w ≡ true → ⊥
no-gate g held w none from p = false≢true (sym (passable-no_gate g held w none) ∙ sym (has_node-gate g held w from) ∙ p)

-- the number of a variable's node, counted as a latch's, is below 2^30
pub number-fits : (g : Graph) (held : List ℕ) → IsGraph g → (v : ℕ) → v < variables_end g → latch_number g held v < 2 ^ 30
number-fits g held valid v h = omega (arith, number-bound g held v, valid.small, h)
