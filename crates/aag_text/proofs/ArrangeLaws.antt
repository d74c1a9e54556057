-- The circuit of lists by places whose gates stand in order.
use Rattle.std.proofs.Common.{ℕ, ◌+◌, ◌-◌, ◌^◌, ◌<◌, ◌≤◌, ◌≡◌, List, length, map, get_or, All, Option, Some, None, Ok, IfSome, Bool, true, false, cond, nat_le, refl, sym, ap, subst, ◌∙◌, arith}
use Rattle.std.proofs.lemmas.Bool.{leb-true}
use Rattle.std.proofs.lemmas.List.{length-map}
use Rattle.std.proofs.lemmas.List.Elements.{All-map}
use Rattle.aig_graph.specs.declared.graph.Gate.{Gate}
use Rattle.aig_graph.specs.declared.graph.Latch.{Latch}
use Rattle.aig_graph.specs.declared.properties.Symbols.{Symbols}
use Rattle.aig_graph.specs.Graph.{Graph, IsGraph, IsLiteralOf, variable}
use Rattle.aig_graph.specs.Circuits.{Netlist, IsNetlist}
use Rattle.aig_graph.specs.declared.properties.Props.{Props}
use Rattle.ascii_file.specs.order.Order.{IsOrder, ordered, AreReadsInFile, ReadsBelow}
use Rattle.ascii_file.proofs.GateOrderLaws.{ordered_law}
use Rattle.ascii_file.specs.Meaning.{props_of}
use Rattle.ascii_file.specs.declared.header.Header.{Header}
use Rattle.ascii_file.specs.parts.Parts.{AreNamesWithin}
use Rattle.ascii_file.proofs.PartLaws.{netlist_within}
use Rattle.aag_text.specs.Numbering.{PlacedLists}
use Rattle.aag_text.specs.Arranging.{AreRanks, AreMovable, IsBelow, HasFanInsBelow, gate_read, reads_of_gate, order_or_cycle, moved, moved_latch, gates_in_order, graph_in_order}
use Rattle.aag_text.specs.Resolving.{PlacedListsFit, IsArranged, placed_reads, arranged}
use Rattle.aag_text.proofs.GraphLaws.{movable, distinct, graph_is, ends, all_moved_below}

module _ (h : Header) (sizes : List ℕ) (p : PlacedLists) (order ranks : List ℕ) (placed : PlacedListsFit h sizes p) (is : IsOrder (placed_reads h p) order) (are : AreRanks order ranks) where
  -- the ranks of the order may move literals after the latches
  pub movable_by : AreMovable (1 + h.inputs + h.latches) ranks
  movable_by = movable (1 + h.inputs + h.latches) (placed_reads h p) order ranks is are (omega (arith, placed.small, length-map p.gates (reads_of_gate (1 + h.inputs + h.latches))))

  -- each place of the order is that of a gate of the file
  pub order_by : All (λ g. g < length p.gates) order
  order_by k d within =
      let less = (distinct (placed_reads h p) order is).below k d within in
      omega (arith, less, is.as_many, length-map p.gates (reads_of_gate (1 + h.inputs + h.latches)))

  -- there is a rank for each gate
  pub ranks_end : length ranks ≡ length p.gates
  ranks_end = omega (arith, are.as_many, is.as_many, length-map p.gates (reads_of_gate (1 + h.inputs + h.latches)))

  same_first : 1 + h.inputs + h.latches ≡ 1 + h.inputs + length p.latches
  same_first = omega (arith, placed.latches)

  is_first : IsOrder (map (reads_of_gate (1 + h.inputs + length p.latches)) p.gates) order
  is_first = subst (λ (n : ℕ). IsOrder (map (reads_of_gate n) p.gates) order) same_first is

  latches_first : All (λ (latch : Latch). IsBelow (1 + h.inputs + length p.latches + length p.gates) latch.next) p.latches
  latches_first = subst (λ (n : ℕ). All (λ (latch : Latch). IsBelow (n + length p.gates) latch.next) p.latches) same_first placed.latches_below

  small_first : 1 + h.inputs + length p.latches + length p.gates ≤ 2 ^ 28
  small_first = omega (arith, placed.small, placed.latches)

  -- the graph in order is one
  pub graph_by : IsGraph (graph_in_order h.inputs p.latches p.gates order ranks)
  graph_by = graph_is h.inputs p.latches p.gates order ranks is_first are small_first latches_first

  -- moved latches and gates in order make the graph in order
  pub same_graph : (ls : List Latch) (gs : List Gate) → ls ≡ map (moved_latch (1 + h.inputs + h.latches) ranks) p.latches → gs ≡ gates_in_order (1 + h.inputs + h.latches) ranks order p.gates
      → record { inputs = h.inputs; latches = ls; gates = gs } ≡ graph_in_order h.inputs p.latches p.gates order ranks
  same_graph ls gs a b = rw (a, b) (ap (λ (n : ℕ). record { inputs = h.inputs; latches = map (moved_latch n ranks) p.latches; gates = gates_in_order n ranks order p.gates }) same_first)

  -- moved latches and gates in order make a graph
  pub parts_are_graph : (ls : List Latch) (gs : List Gate) → ls ≡ map (moved_latch (1 + h.inputs + h.latches) ranks) p.latches → gs ≡ gates_in_order (1 + h.inputs + h.latches) ranks order p.gates
      → IsGraph (record { inputs = h.inputs; latches = ls; gates = gs })
  parts_are_graph ls gs a b = subst IsGraph (sym (same_graph ls gs a b)) graph_by

  -- moved literals are the graph's
  moved_literals : (lits : List ℕ) → All (IsBelow (1 + h.inputs + h.latches + length p.gates)) lits → All (IsBelow (1 + h.inputs + h.latches + length ranks)) (map (moved (1 + h.inputs + h.latches) ranks) lits)
  moved_literals lits all = all_moved_below (1 + h.inputs + h.latches) ranks movable_by lits (subst (λ (n : ℕ). All (IsBelow (1 + h.inputs + h.latches + n)) lits) (sym ranks_end) all)

  -- moved literals of the circuit are below 2^29
  pub small_literals : (lits : List ℕ) → All (IsBelow (1 + h.inputs + h.latches + length p.gates)) lits → All (λ lit. lit < 2 ^ 29) (map (moved (1 + h.inputs + h.latches) ranks) lits)
  small_literals lits all k d within = let below = moved_literals lits all k d within in omega (arith, below, movable_by.small)

  -- literals below the variables' end by the gates are so by the ranks
  pub all_below : (lits : List ℕ) → All (IsBelow (1 + h.inputs + h.latches + length p.gates)) lits → All (IsBelow (1 + h.inputs + h.latches + length ranks)) lits
  all_below lits all = subst (λ (n : ℕ). All (IsBelow (1 + h.inputs + h.latches + n)) lits) (sym ranks_end) all

  graph_literals : (lits : List ℕ) → All (IsBelow (1 + h.inputs + h.latches + length p.gates)) lits → All (IsLiteralOf (graph_in_order h.inputs p.latches p.gates order ranks)) (map (moved (1 + h.inputs + h.latches) ranks) lits)
  graph_literals lits all k d within =
      let below = moved_literals lits all k d within in
      omega (arith, below, ranks_end, ends h.inputs p.latches p.gates order ranks is_first are small_first latches_first, placed.latches)

  -- the arranged circuit, with names that the header counts, is a circuit
  pub netlist_by : (names : Symbols) → AreNamesWithin h names → IsNetlist (arranged h sizes p names order ranks)
  netlist_by names within =
      netlist_within h (graph_in_order h.inputs p.latches p.gates order ranks)
      (record { safety = map (moved (1 + h.inputs + h.latches) ranks) p.safety; sizes = sizes; liveness = map (moved (1 + h.inputs + h.latches) ranks) p.liveness }) names
      (record {
        inputs = refl;
        latches = length-map p.latches (moved_latch (1 + h.inputs + length p.latches) ranks) ∙ placed.latches;
        safety = length-map p.safety (moved (1 + h.inputs + h.latches) ranks) ∙ placed.safety;
        sizes = placed.justice;
        liveness = length-map p.liveness (moved (1 + h.inputs + h.latches) ranks) ∙ placed.liveness;
        safety_literals = graph_literals p.safety placed.safety_below;
        liveness_literals = graph_literals p.liveness placed.liveness_below;
      }) within

-- the parts of a circuit that were made from a slice of the ranks
pub arranged_parts : (h : Header) (sizes : List ℕ) (p : PlacedLists) (order ranks slice : List ℕ) → AreRanks order ranks → slice ≡ ranks
    → (g : Graph) (props : Props) → g ≡ graph_in_order h.inputs p.latches p.gates order slice
    → props ≡ props_of h (map (moved (1 + h.inputs + h.latches) slice) p.safety) sizes (map (moved (1 + h.inputs + h.latches) slice) p.liveness)
    → (names : Symbols) → IsArranged h sizes p names order (record { aig = g; props = props; symbols = names })
arranged_parts h sizes p order ranks slice are same g props a b names = record { ranks = ranks; are_ranks = are; circuit = rw (a, b, same) refl }

-- an arranged circuit is one
pub netlist_arranged : (h : Header) (sizes : List ℕ) (p : PlacedLists) (order : List ℕ) → PlacedListsFit h sizes p → IsOrder (placed_reads h p) order
    → (names : Symbols) → AreNamesWithin h names → (c : Netlist) → IsArranged h sizes p names order c → IsNetlist c
netlist_arranged h sizes p order placed is names within c at = subst IsNetlist (sym at.circuit) (netlist_by h sizes p order at.ranks placed is at.are_ranks names within)

-- the order that was found
order_found : (o : Option (List ℕ)) (order : List ℕ) → order_or_cycle o ≡ Ok order → o ≡ Some order
order_found None order e = absurd (cc)
order_found (Some found) order e = cc

-- the order that was found of a slice of the gates is that of the gates by places
pub computed_by : (h : Header) (p : PlacedLists) (gates : List Gate) (order : List ℕ) → gates ≡ p.gates → order_or_cycle (ordered (map (reads_of_gate (1 + h.inputs + h.latches)) gates)) ≡ Ok order → ordered (placed_reads h p) ≡ Some order
computed_by h p gates order same found =
    ap (λ (gs : List Gate). ordered (map (reads_of_gate (1 + h.inputs + h.latches)) gs)) (sym same) ∙ order_found (ordered (map (reads_of_gate (1 + h.inputs + h.latches)) gates)) order found

-- an order that was computed is the order
pub order_is : (h : Header) (p : PlacedLists) (order : List ℕ) → ordered (placed_reads h p) ≡ Some order → IsOrder (placed_reads h p) order
order_is h p order computed = (ordered_law (placed_reads h p) order).0 computed

-- gates read gates of the file
gate_read_below : (first n lit : ℕ) → variable lit < first + n → IfSome (gate_read first lit) (λ g. g < n)
gate_read_below first n lit below = by_test (nat_le first (variable lit)) refl
  where
    by_test : (test : Bool) → nat_le first (variable lit) ≡ test → IfSome (cond test (Some (variable lit - first)) None) (λ g. g < n)
    by_test true is = omega (arith, below, leb-true first (variable lit) is)
    by_test false is = tt

-- gates whose fan-ins are below the variables' end read gates of the file
pub reads_in_file : (first : ℕ) (gates : List Gate) → All (HasFanInsBelow (first + length gates)) gates → AreReadsInFile (map (reads_of_gate first) gates)
reads_in_file first gates below =
    subst (λ (n : ℕ). All (ReadsBelow n) (map (reads_of_gate first) gates)) (sym (length-map gates (reads_of_gate first)))
    (All-map (ReadsBelow (length gates)) (reads_of_gate first) gates
    (λ k d within. let both = below k d within in
    record { first = gate_read_below first (length gates) (get_or gates k d).rhs0 both.0; second = gate_read_below first (length gates) (get_or gates k d).rhs1 both.1 }))
