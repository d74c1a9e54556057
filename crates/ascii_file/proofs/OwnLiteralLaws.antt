-- The circuit of the raw circuit by a circuit's own literals is that circuit.
use Rattle.std.proofs.Common.{ℕ, suc, zero, ◌+◌, ◌*◌, ◌<◌, ◌≤◌, ◌≡◌, List, [], ◌∷◌, ◌++◌, length, map, take, drop, get_or, slice_get, Option, Some, None, IfSome, All, min, max, nat_eq, cond, refl, sym, ap, ap₂, subst, ◌∙◌, length-append, arith}
use Rattle.std.specs.List.{range_with_len, enumerate_from, sum, flat_map}
use Rattle.std.proofs.lemmas.Bool.{ne_eqb, eqb-true, cond-false}
use Rattle.std.proofs.lemmas.List.{length-map}
use Rattle.std.proofs.lemmas.List.FromFn.{length-enumerate_from}
use Rattle.std.proofs.lemmas.List.Quantifiers.{position-Some}
use Rattle.std.proofs.lemmas.Option.{slice_get_within, same_Some}
use Rattle.std.proofs.Math.Seq.{take-append_seam, drop-append_seam, drop-append-add}
use Rattle.aig_graph.specs.declared.graph.Gate.{Gate}
use Rattle.aig_graph.specs.declared.graph.Latch.{Latch}
use Rattle.aig_graph.specs.declared.graph.Reset.{Reset}
use Rattle.aig_graph.specs.declared.graph.Reset.TheVariants.{Zero, One, Free}
use Rattle.aig_graph.specs.declared.properties.Props.{Props}
use Rattle.aig_graph.specs.declared.properties.Symbols.{Symbols}
use Rattle.aig_graph.specs.Graph.{Graph, IsGraph, IsGateAt, IsLiteralOf, variable, first_latch, first_gate}
use Rattle.aig_graph.specs.Building.{gate_of}
use Rattle.aig_graph.specs.Circuits.{Netlist, IsNetlist}
use Rattle.ascii_file.specs.declared.order.reads.Reads.{Reads}
use Rattle.ascii_file.specs.order.Order.{IsOrder, IsInOrder, ReadsBelow}
use Rattle.ascii_file.proofs.GateOrderLaws.{at_most_one, keeps_order}
use Rattle.ascii_file.proofs.RangeLaws.{range-literal, enumerated_at}
use Rattle.ascii_file.specs.declared.raw.RawLatch.{RawLatch}
use Rattle.ascii_file.specs.declared.raw.RawGate.{RawGate}
use Rattle.ascii_file.specs.Raw.{Raw, defined}
use Rattle.ascii_file.specs.Meaning.{gate_place, gate_reads, no_gate, with_gates_at, literal_in, reset_of, split_by, props_of, circuit_of}
use Rattle.ascii_file.specs.Laws.{IsCircuitOf}
use Rattle.ascii_file.proofs.WrittenCircuitLaws.{reset_number, written_latch, written_gate, written, written_header, variables, length-joined, written-counted, written-defined, safety-are, liveness-are}
use Rattle.ascii_file.proofs.NameLaws.{symbols_again}

-- ---- the order

-- the gate that a literal names stands below the literal's reader
place-below : (c : Netlist) (lit k g : ℕ) → variable lit < first_gate c.aig + k → gate_place (written c) lit ≡ Some g → g < k
place-below c lit k g below is =
    let gates = (written c).gates in
    let found = position-Some (λ (gate : RawGate). nat_eq (variable gate.lhs) (variable lit)) gates g no_gate is in
    let less : g < length c.aig.gates = omega (arith, found.0, length-map (enumerate_from (first_gate c.aig) c.aig.gates) written_gate, length-enumerate_from (first_gate c.aig) c.aig.gates) in
    let same : variable (get_or gates g no_gate).lhs ≡ variable lit = eqb-true (variable (get_or gates g no_gate).lhs) (variable lit) found.1 in
    let own : variable (get_or gates g no_gate).lhs ≡ first_gate c.aig + g = own_variable c.aig.gates (first_gate c.aig) g less in
    omega (arith, below, same, own)
  where
    own_variable : (xs : List Gate) (first k : ℕ) → k < length xs → variable (get_or (map written_gate (enumerate_from first xs)) k no_gate).lhs ≡ first + k
    own_variable [] first k less = absurd (omega arith)
    own_variable (x ∷ xs) first zero less = omega arith
    own_variable (x ∷ xs) first (suc k) less = let later = own_variable xs (first + 1) k (omega (arith, less)) in omega (arith, later)

below-if : (c : Netlist) (lit k : ℕ) → variable lit < first_gate c.aig + k → IfSome (gate_place (written c) lit) (λ g. g < k)
below-if c lit k below = by_case (gate_place (written c) lit) refl
  where
    by_case : (found : Option ℕ) → gate_place (written c) lit ≡ found → IfSome found (λ g. g < k)
    by_case None is = tt
    by_case (Some g) is = place-below c lit k g below is

abbrev reads_of : Raw → RawGate → Reads
reads_of raw gate = record { first = gate_place raw gate.rhs0; second = gate_place raw gate.rhs1 }

mapped-at : {X Y : Type 0} (f : X → Y) (xs : List X) (k : ℕ) (y : Y) → slice_get (map f xs) k ≡ Some y → (x : X) × (slice_get xs k ≡ Some x) × (f x ≡ y)
mapped-at f [] k y there = absurd cc
mapped-at f (x ∷ xs) zero y there = (x, refl, same_Some (f x) y there)
mapped-at f (x ∷ xs) (suc k) y there = mapped-at f xs k y there

-- its gates are in order
written-in_order : (c : Netlist) → IsGraph c.aig → IsInOrder (gate_reads (written c))
written-in_order c graph g reads there =
    let raw = mapped-at (reads_of (written c)) (written c).gates g reads there in
    let own = enumerated_at written_gate c.aig.gates (first_gate c.aig) g raw.0 raw.1 in
    let at : IsGateAt (first_gate c.aig + g) own.0 = graph.gates g own.0 own.1 in
    let ordered : own.0.rhs1 ≤ own.0.rhs0 = at.ordered in
    let below : variable own.0.rhs0 < first_gate c.aig + g = at.below in
    let both : ReadsBelow g (reads_of (written c) (written_gate (first_gate c.aig + g, own.0))) = record { first = below-if c own.0.rhs0 g below; second = below-if c own.0.rhs1 g (omega (arith, ordered, below)) } in
    subst (ReadsBelow g) raw.2 (subst (λ (gate : RawGate). ReadsBelow g (reads_of (written c) gate)) own.2 both)

-- the gates of a circuit by its own literals are in order
pub written-order : (c : Netlist) → IsGraph c.aig → IsOrder (gate_reads (written c)) (range_with_len 0 (length c.aig.gates))
written-order c graph =
    let many : length (gate_reads (written c)) ≡ length c.aig.gates = length-map (written c).gates (reads_of (written c)) ∙ (written-counted c).gates in
    subst (λ (n : ℕ). IsOrder (gate_reads (written c)) (range_with_len 0 n)) many (keeps_order (gate_reads (written c)) (written-in_order c graph))

-- gates in their own order
all_in_turn : (front xs : List RawGate) → map (λ k. get_or (front ++ xs) k no_gate) (range_with_len (length front) (length xs)) ≡ xs
all_in_turn front [] = refl
all_in_turn front (x ∷ xs) =
    ap₂ (λ (y : RawGate) (ys : List RawGate). y ∷ ys) (at_seam front) (next (all_in_turn (front ++ x ∷ []) xs))
  where
    at_seam : (front : List RawGate) → get_or (front ++ x ∷ xs) (length front) no_gate ≡ x
    at_seam [] = refl
    at_seam (y ∷ front) = at_seam front

    again_assoc : (front : List RawGate) → front ++ x ∷ [] ++ xs ≡ front ++ (x ∷ xs)
    again_assoc [] = refl
    again_assoc (y ∷ front) = ap (λ (ys : List RawGate). y ∷ ys) (again_assoc front)

    next : map (λ k. get_or (front ++ x ∷ [] ++ xs) k no_gate) (range_with_len (length (front ++ x ∷ [])) (length xs)) ≡ xs → map (λ k. get_or (front ++ (x ∷ xs)) k no_gate) (range_with_len (length front + 1) (length xs)) ≡ xs
    next e =
        ap₂ (λ (all : List RawGate) (n : ℕ). map (λ k. get_or all k no_gate) (range_with_len n (length xs))) (sym (again_assoc front)) (sym (length-append front (x ∷ []))) ∙ e

same_gates : (c : Netlist) → with_gates_at (written c) (range_with_len 0 (length c.aig.gates)) ≡ written c
same_gates c =
    ap (λ (gates : List RawGate). record (written c) { gates = gates })
    (ap (λ (n : ℕ). map (λ k. get_or (written c).gates k no_gate) (range_with_len 0 n)) (sym (written-counted c).gates) ∙ all_in_turn [] (written c).gates)

-- ---- the graph

-- a change that leaves each element leaves the list
map_same : (f : ℕ → ℕ) (xs : List ℕ) → ((k d : ℕ) → k < length xs → f (get_or xs k d) ≡ get_or xs k d) → map f xs ≡ xs
map_same f [] same = refl
map_same f (x ∷ xs) same = ap₂ (λ (y : ℕ) (ys : List ℕ). y ∷ ys) (same 0 0 (omega arith)) (map_same f xs (λ k d less. same (suc k) d (omega arith)))

-- a reset by its number
reset_again : (v : ℕ) (reset : Reset) → 1 ≤ v → reset_of (reset_number v reset) ≡ reset
reset_again v Zero low = refl
reset_again v One low = refl
reset_again v Free low =
    cond-false (nat_eq (2 * v) 0) Zero (cond (nat_eq (2 * v) 1) One Free) (ne_eqb (2 * v) 0 (λ e. absurd (omega (arith, e, low)))) ∙ cond-false (nat_eq (2 * v) 1) One Free (ne_eqb (2 * v) 1 (λ e. absurd (omega (arith, e))))

-- latches with their own literals
pub latches_again : (f : ℕ → ℕ) (xs : List Latch) (first : ℕ) → 1 ≤ first → ((k : ℕ) (latch : Latch) → slice_get xs k ≡ Some latch → f latch.next ≡ latch.next)
    → map (λ (latch : RawLatch). record { next = f latch.next; reset = reset_of latch.reset }) (map written_latch (enumerate_from first xs)) ≡ xs
latches_again f [] first low same = refl
latches_again f (x ∷ xs) first low same =
    ap₂ (λ (y : Latch) (ys : List Latch). y ∷ ys) (ap₂ (λ (lit : ℕ) (reset : Reset). record { next = lit; reset = reset }) (same 0 x refl) (reset_again first x.reset low))
    (latches_again f xs (first + 1) (omega (arith, low)) (λ k latch there. same (suc k) latch there))

-- both literals of a gate stay, and the larger is first
record IsKeptGate (f : ℕ → ℕ) (gate : Gate) : Type 0 where
  rhs0 : f gate.rhs0 ≡ gate.rhs0
  rhs1 : f gate.rhs1 ≡ gate.rhs1
  ordered : gate.rhs1 ≤ gate.rhs0

gate_again : (f : ℕ → ℕ) (gate : Gate) → IsKeptGate f gate → gate_of (f gate.rhs0) (f gate.rhs1) ≡ gate
gate_again f gate kept =
    let larger : max gate.rhs0 gate.rhs1 ≡ gate.rhs0 = omega (arith, kept.ordered) in
    let smaller : min gate.rhs0 gate.rhs1 ≡ gate.rhs1 = omega (arith, kept.ordered) in
    ap₂ gate_of kept.rhs0 kept.rhs1 ∙ ap₂ (λ (a b : ℕ). record { rhs0 = a; rhs1 = b }) larger smaller

gates_again : (f : ℕ → ℕ) (xs : List Gate) (first : ℕ) → ((k : ℕ) (gate : Gate) → slice_get xs k ≡ Some gate → IsKeptGate f gate)
    → map (λ (gate : RawGate). gate_of (f gate.rhs0) (f gate.rhs1)) (map written_gate (enumerate_from first xs)) ≡ xs
gates_again f [] first same = refl
gates_again f (x ∷ xs) first same =
    ap₂ (λ (y : Gate) (ys : List Gate). y ∷ ys) (gate_again f x (same 0 x refl)) (gates_again f xs (first + 1) (λ k gate there. same (suc k) gate there))

-- a literal's new number is its old one
abbrev again : Netlist → ℕ → ℕ
again c = literal_in (defined (written c))

literal_again : (c : Netlist) (lit : ℕ) → IsLiteralOf c.aig lit → again c lit ≡ lit
literal_again c lit within = ap (λ (vs : List ℕ). literal_in vs lit) (written-defined c) ∙ range-literal (variables c.aig) lit (omega arith)

literals_again : (c : Netlist) (lits : List ℕ) → All (λ lit. IsLiteralOf c.aig lit) lits → map (again c) lits ≡ lits
literals_again c lits are = map_same (again c) lits (λ k d less. literal_again c (get_or lits k d) (are k d less))

gate_kept : (c : Netlist) → IsGraph c.aig → (k : ℕ) (gate : Gate) → slice_get c.aig.gates k ≡ Some gate → IsKeptGate (again c) gate
gate_kept c graph k gate there =
    let at : IsGateAt (first_gate c.aig + k) gate = graph.gates k gate there in
    let less : k < length c.aig.gates = slice_get_within c.aig.gates k gate there in
    let ordered : gate.rhs1 ≤ gate.rhs0 = at.ordered in
    let below : variable gate.rhs0 < first_gate c.aig + k = at.below in
    record { rhs0 = literal_again c gate.rhs0 (omega arith); rhs1 = literal_again c gate.rhs1 (omega arith); ordered = ordered }

-- ---- the properties

-- a list is split into as many lists as there are lengths
pub length-split : (sizes xs : List ℕ) → length (split_by sizes xs) ≡ length sizes
length-split [] xs = refl
length-split (n ∷ sizes) xs = ap suc (length-split sizes (drop n xs))

-- lists that were joined are split again
split_again : (lists : List (List ℕ)) (rest : List ℕ) → split_by (map length lists) (flat_map (λ lits. lits) lists ++ rest) ≡ lists
split_again [] rest = refl
split_again (lits ∷ lists) rest =
    ap₂ (λ (one : List ℕ) (more : List (List ℕ)). one ∷ more)
    (ap (take (length lits)) (assoc lits) ∙ take-append_seam lits (flat_map (λ lits. lits) lists ++ rest))
    (ap (λ (xs : List ℕ). split_by (map length lists) (drop (length lits) xs)) (assoc lits) ∙ ap (split_by (map length lists)) (drop-append_seam lits (flat_map (λ lits. lits) lists ++ rest)) ∙ split_again lists rest)
  where
    assoc : (xs : List ℕ) → xs ++ flat_map (λ lits. lits) lists ++ rest ≡ xs ++ (flat_map (λ lits. lits) lists ++ rest)
    assoc [] = refl
    assoc (x ∷ xs) = ap (λ (ys : List ℕ). x ∷ ys) (assoc xs)

-- the properties by the header's numbers and the circuit's own literals are the circuit's
pub props_again : (c : Netlist) → props_of (written_header c) (written c).safety (written c).sizes (written c).liveness ≡ c.props
unfolding props_of
props_again c =
    let p = c.props in
    let joined = flat_map (λ (lits : List ℕ). lits) p.justice in
    let many : sum (map length p.justice) ≡ length joined = sym (length-joined p.justice) in
    props_are p (take (length p.outputs) (written c).safety) (take (length p.bad) (drop (length p.outputs) (written c).safety)) (drop (length p.outputs + length p.bad) (written c).safety)
    (split_by (map length p.justice) (written c).liveness) (drop (sum (map length p.justice)) (written c).liveness)
    (take-append_seam p.outputs (p.bad ++ p.constraints)) (ap (take (length p.bad)) (drop-append_seam p.outputs (p.bad ++ p.constraints)) ∙ take-append_seam p.bad p.constraints)
    (drop-append-add p.outputs (p.bad ++ p.constraints) (length p.bad) ∙ drop-append_seam p.bad p.constraints)
    (split_again p.justice p.fairness) (ap (λ (n : ℕ). drop n (written c).liveness) many ∙ drop-append_seam joined p.fairness)
  where
    props_are : (p : Props) (outputs bad constraints : List ℕ) (justice : List (List ℕ)) (fairness : List ℕ) → outputs ≡ p.outputs → bad ≡ p.bad → constraints ≡ p.constraints → justice ≡ p.justice → fairness ≡ p.fairness
        → record { outputs = outputs; bad = bad; constraints = constraints; justice = justice; fairness = fairness } ≡ p
    props_are p outputs bad constraints justice fairness e1 e2 e3 e4 e5 = rw (e1, e2, e3, e4, e5) refl

-- ---- the circuit

-- what is made of the parts of a value is that value
pub graph_is : (g : Graph) (inputs : ℕ) (latches : List Latch) (gates : List Gate) → inputs ≡ g.inputs → latches ≡ g.latches → gates ≡ g.gates → record { inputs = inputs; latches = latches; gates = gates } ≡ g
graph_is g inputs latches gates p q r =
    ap₂ (λ (n : ℕ) (ls : List Latch). record { inputs = n; latches = ls; gates = gates }) p q ∙ ap (λ (gs : List Gate). record { inputs = g.inputs; latches = g.latches; gates = gs }) r

-- a circuit is what its graph, properties and symbols make
pub netlist_is : (c : Netlist) (aig : Graph) (props : Props) (symbols : Symbols) → aig ≡ c.aig → props ≡ c.props → symbols ≡ c.symbols → record { aig = aig; props = props; symbols = symbols } ≡ c
netlist_is c aig props symbols p q r =
    ap₂ (λ (g : Graph) (ps : Props). record { aig = g; props = ps; symbols = symbols }) p q ∙ ap (λ (names : Symbols). record { aig = c.aig; props = c.props; symbols = names }) r

written-circuit : (c : Netlist) → IsGraph c.aig → IsNetlist c → circuit_of (written_header c) (written c) ≡ c
unfolding circuit_of
written-circuit c graph netlist =
    netlist_is c _ _ _
    (graph_is c.aig _ _ _ (written-counted c).inputs
    (latches_again (again c) c.aig.latches (first_latch c.aig) (omega arith) (λ k latch there. literal_again c latch.next (graph.latches k latch there)))
    (gates_again (again c) c.aig.gates (first_gate c.aig) (gate_kept c graph)))
    (ap₂ (λ (safety liveness : List ℕ). props_of (written_header c) safety (written c).sizes liveness) (literals_again c (written c).safety (safety-are c netlist)) (literals_again c (written c).liveness (liveness-are c netlist))
    ∙ props_again c)
    (symbols_again c netlist)

-- and no other
pub circuit_again : (c d : Netlist) → IsGraph c.aig → IsNetlist c → IsCircuitOf (written_header c) (written c) d → d ≡ c
circuit_again c d graph netlist of =
    let order : of.order ≡ range_with_len 0 (length c.aig.gates) = at_most_one (gate_reads (written c)) of.order (range_with_len 0 (length c.aig.gates)) of.is_order (written-order c graph) in
    of.circuit ∙ ap (λ (k : List ℕ). circuit_of (written_header c) (with_gates_at (written c) k)) order ∙ ap (circuit_of (written_header c)) (same_gates c) ∙ written-circuit c graph netlist
