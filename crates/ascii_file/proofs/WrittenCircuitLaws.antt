-- A circuit by its own literals: the raw circuit that its text spells.
use Rattle.std.proofs.Common.{ℕ, suc, zero, ◌+◌, ◌-◌, ◌*◌, ◌<◌, ◌≤◌, ◌≡◌, inl, inr, List, [], ◌∷◌, ◌++◌, length, map, All, refl, sym, ap, ap₂, subst, ◌∙◌, length-append, arith}
use Rattle.std.specs.List.{range_with_len, enumerate_from, sum, flat_map, AllByRecursion}
use Rattle.std.proofs.lemmas.List.{length-map}
use Rattle.std.proofs.lemmas.List.Elements.{All-from_recursion, recursion_from_All, All-weaker, All-append, All-map}
use Rattle.std.proofs.lemmas.List.FromFn.{length-range_with_len, length-enumerate_from}
use Rattle.std.proofs.lemmas.List.Sums.{sum_by-cons}
use Rattle.std.proofs.lemmas.Option.{slice_get_within}
use Rattle.aig_graph.specs.declared.graph.Gate.{Gate}
use Rattle.aig_graph.specs.declared.graph.Latch.{Latch}
use Rattle.aig_graph.specs.declared.graph.Reset.{Reset}
use Rattle.aig_graph.specs.declared.graph.Reset.TheVariants.{Zero, One, Free}
use Rattle.aig_graph.specs.declared.properties.Symbol.{Symbol}
use Rattle.aig_graph.specs.declared.properties.Symbols.{Symbols}
use Rattle.aig_graph.specs.Graph.{Graph, IsGraph, IsGateAt, IsLiteralOf, variable, first_latch, first_gate, variables_end}
use Rattle.aig_graph.specs.Circuits.{Netlist, IsNetlist, AreLiteralsOf}
use Rattle.ascii_file.proofs.RangeLaws.{range-append, range-apart, range-knows, names-enumerated, all_enumerated, all_range}
use Rattle.ascii_file.specs.declared.header.Header.{Header}
use Rattle.ascii_file.specs.declared.raw.RawLatch.{RawLatch}
use Rattle.ascii_file.specs.declared.raw.RawGate.{RawGate}
use Rattle.ascii_file.specs.declared.raw.SymbolKind.{SymbolKind}
use Rattle.ascii_file.specs.declared.raw.SymbolKind.TheVariants.{Input, Latch as LatchKind, Output, Bad, Constraint, Justice, Fairness}
use Rattle.ascii_file.specs.Raw.{Raw, RawSymbol, defined, read_literals}
use Rattle.ascii_file.specs.Headers.{IsHeaderWithin}
use Rattle.ascii_file.specs.Files.{IsCountedBy, IsInRange, IsDefinable, DefinesApart, HasReset, IsKnownAmong}
use Rattle.ascii_file.specs.Laws.{IsWithinLimits}
use Rattle.ascii_file.proofs.DistinctItemLaws.{AreApart}

-- an input, a latch and a gate at their variables
abbrev pub written_input : ℕ → ℕ
written_input v = 2 * v

abbrev pub reset_number : ℕ → Reset → ℕ
reset_number v Zero = 0
reset_number v One = 1
reset_number v Free = 2 * v

abbrev pub written_latch : ℕ × Latch → RawLatch
written_latch e = record { current = 2 * e.0; next = e.1.next; reset = reset_number e.0 e.1.reset }

abbrev pub written_gate : ℕ × Gate → RawGate
written_gate e = record { lhs = 2 * e.0; rhs0 = e.1.rhs0; rhs1 = e.1.rhs1 }

-- names with their kind
abbrev pub named : SymbolKind → List Symbol → List RawSymbol
named kind names = map (λ (s : Symbol). record { kind = kind; position = s.position; name = s.name }) names

abbrev pub written_symbols : Symbols → List RawSymbol
written_symbols s =
    named Input s.inputs ++ (named LatchKind s.latches ++ (named Output s.outputs ++ (named Bad s.bad ++ (named Constraint s.constraints ++ (named Justice s.justice ++ named Fairness s.fairness)))))

-- the raw circuit whose literals are the circuit's own
abbrev pub written : Netlist → Raw
written c = record {
  inputs = map written_input (range_with_len 1 c.aig.inputs);
  latches = map written_latch (enumerate_from (first_latch c.aig) c.aig.latches);
  safety = c.props.outputs ++ (c.props.bad ++ c.props.constraints);
  sizes = map length c.props.justice;
  liveness = flat_map (λ lits. lits) c.props.justice ++ c.props.fairness;
  gates = map written_gate (enumerate_from (first_gate c.aig) c.aig.gates);
  symbols = written_symbols c.symbols;
}

-- the numbers of the header
abbrev pub written_header : Netlist → Header
written_header c = record {
  greatest = variables_end c.aig - 1;
  inputs = c.aig.inputs;
  latches = length c.aig.latches;
  outputs = length c.props.outputs;
  gates = length c.aig.gates;
  bad = length c.props.bad;
  constraints = length c.props.constraints;
  justice = length c.props.justice;
  fairness = length c.props.fairness;
}

-- how many variables there are
abbrev pub variables : Graph → ℕ
variables g = g.inputs + length g.latches + length g.gates

-- ---- counts and limits

-- joined lists are as long as their lengths come to
pub length-joined : (lists : List (List ℕ)) → length (flat_map (λ lits. lits) lists) ≡ sum (map length lists)
length-joined [] = refl
length-joined (lits ∷ lists) = length-append lits (flat_map (λ lits. lits) lists) ∙ ap (λ (n : ℕ). length lits + n) (length-joined lists) ∙ sym (sum_by-cons (λ (n : ℕ). n) (length lits) (map length lists))

-- a circuit by its own literals has as many items as its header says
pub written-counted : (c : Netlist) → IsCountedBy (written_header c) (written c)
written-counted c = record {
  inputs = length-map (range_with_len 1 c.aig.inputs) written_input ∙ length-range_with_len 1 c.aig.inputs;
  latches = length-map (enumerate_from (first_latch c.aig) c.aig.latches) written_latch ∙ length-enumerate_from (first_latch c.aig) c.aig.latches;
  safety = omega (arith, length-append c.props.outputs (c.props.bad ++ c.props.constraints), length-append c.props.bad c.props.constraints);
  sizes = length-map c.props.justice length;
  liveness = length-append (flat_map (λ lits. lits) c.props.justice) c.props.fairness ∙ ap (λ (n : ℕ). n + length c.props.fairness) (length-joined c.props.justice);
  gates = length-map (enumerate_from (first_gate c.aig) c.aig.gates) written_gate ∙ length-enumerate_from (first_gate c.aig) c.aig.gates;
}

-- the header of a circuit within the limits is within them
pub written-within : (c : Netlist) → IsGraph c.aig → IsWithinLimits c → IsHeaderWithin (written_header c)
written-within c graph within = record {
  greatest = omega (arith, graph.small);
  outputs = within.outputs;
  bad = within.bad;
  constraints = within.constraints;
  justice = within.justice;
  fairness = within.fairness;
  total = omega arith;
}

-- ---- what is defined

-- the variables of the inputs
input_names : (n : ℕ) (a : ℕ) → map variable (map written_input (range_with_len a n)) ≡ range_with_len a n
input_names zero a = refl
input_names (suc n) a = let same : variable (2 * a) ≡ a = omega arith in ap₂ (λ (v : ℕ) (vs : List ℕ). v ∷ vs) same (input_names n (a + 1))

-- the variables are numbered from 1 on
pub written-defined : (c : Netlist) → defined (written c) ≡ range_with_len 1 (variables c.aig)
written-defined c =
    let g = c.aig in
    let inputs : map variable (written c).inputs ≡ range_with_len 1 g.inputs = input_names g.inputs 1 in
    let latches : map (λ (latch : RawLatch). variable latch.current) (written c).latches ≡ range_with_len (1 + g.inputs) (length g.latches) =
    names-enumerated (λ (latch : RawLatch). variable latch.current) written_latch (λ e. omega arith) (first_latch g) g.latches in
    let gates : map (λ (gate : RawGate). variable gate.lhs) (written c).gates ≡ range_with_len (1 + g.inputs + length g.latches) (length g.gates) =
    names-enumerated (λ (gate : RawGate). variable gate.lhs) written_gate (λ e. omega arith) (first_gate g) g.gates in
    let third : 1 + g.inputs + length g.latches ≡ 1 + (g.inputs + length g.latches) = omega arith in
    ap₂ (λ (vs ws : List ℕ). vs ++ ws) (ap₂ (λ (vs ws : List ℕ). vs ++ ws) inputs latches) gates
    ∙ ap (λ (vs : List ℕ). vs ++ range_with_len (1 + g.inputs + length g.latches) (length g.gates)) (range-append g.inputs 1 (length g.latches))
    ∙ ap (λ (a : ℕ). range_with_len 1 (g.inputs + length g.latches) ++ range_with_len a (length g.gates)) third
    ∙ range-append (g.inputs + length g.latches) 1 (length g.gates)

-- ---- the literals

-- what holds of all lists holds of all their elements
pub All-joined : (P : ℕ → Type 0) (lists : List (List ℕ)) → AllByRecursion (λ lits. All P lits) lists → All P (flat_map (λ lits. lits) lists)
All-joined P [] all = λ k d less. absurd (omega arith)
All-joined P (lits ∷ lists) all = All-append P lits (flat_map (λ lits. lits) lists) all.0 (All-joined P lists all.1)

-- the literals of the two groups of properties
pub safety-are : (c : Netlist) → IsNetlist c → AreLiteralsOf c.aig (written c).safety
safety-are c netlist =
    All-append (λ lit. IsLiteralOf c.aig lit) c.props.outputs (c.props.bad ++ c.props.constraints) netlist.props.outputs
    (All-append (λ lit. IsLiteralOf c.aig lit) c.props.bad c.props.constraints netlist.props.bad netlist.props.constraints)

-- the literals of justice and fairness are the graph's
pub liveness-are : (c : Netlist) → IsNetlist c → AreLiteralsOf c.aig (written c).liveness
liveness-are c netlist =
    All-append (λ lit. IsLiteralOf c.aig lit) (flat_map (λ lits. lits) c.props.justice) c.props.fairness
    (All-joined (λ lit. IsLiteralOf c.aig lit) c.props.justice (recursion_from_All (λ lits. AreLiteralsOf c.aig lits) c.props.justice netlist.props.justice)) netlist.props.fairness

-- no literal is past the greatest variable
literal-within : (g : Graph) (lit : ℕ) → IsLiteralOf g lit → lit ≤ 2 * (variables_end g - 1) + 1
literal-within g lit within = omega arith

-- no literal of a circuit is past its header's greatest variable
pub written-in_range : (c : Netlist) → IsGraph c.aig → IsNetlist c → IsInRange (written_header c) (written c)
written-in_range c graph netlist =
    let g = c.aig in
    let most = 2 * (variables_end g - 1) + 1 in
    record {
      inputs = All-from_recursion (λ lit. lit ≤ most) (written c).inputs (all_range (λ lit. lit ≤ most) written_input g.inputs 1 (λ v low high. omega arith));
      latches = All-from_recursion (λ latch. (latch.current ≤ most) × (latch.next ≤ most)) (written c).latches
          (all_enumerated (λ (latch : RawLatch). (latch.current ≤ most) × (latch.next ≤ most)) written_latch g.latches (first_latch g) (λ k latch there.
          let less : k < length g.latches = slice_get_within g.latches k latch there in
          (omega arith, literal-within g latch.next (graph.latches k latch there))));
      safety = All-weaker (λ lit. IsLiteralOf g lit) (λ lit. lit ≤ most) (λ lit within. literal-within g lit within) (written c).safety (safety-are c netlist);
      liveness = All-weaker (λ lit. IsLiteralOf g lit) (λ lit. lit ≤ most) (λ lit within. literal-within g lit within) (written c).liveness (liveness-are c netlist);
      gates = All-from_recursion (λ gate. (gate.lhs ≤ most) × (gate.rhs0 ≤ most) × (gate.rhs1 ≤ most)) (written c).gates
          (all_enumerated (λ (gate : RawGate). (gate.lhs ≤ most) × (gate.rhs0 ≤ most) × (gate.rhs1 ≤ most)) written_gate g.gates (first_gate g) (λ k gate there.
          let less : k < length g.gates = slice_get_within g.gates k gate there in
          let at : IsGateAt (first_gate g + k) gate = graph.gates k gate there in
          let ordered : gate.rhs1 ≤ gate.rhs0 = at.ordered in
          let below : variable gate.rhs0 < first_gate g + k = at.below in
          (omega arith, omega arith, omega arith)));
    }

-- a literal that can be defined
even-definable : (v : ℕ) → 1 ≤ v → IsDefinable (2 * v)
even-definable v low = (omega arith, omega arith)

-- a circuit by its own literals defines each variable once
pub written-apart : (c : Netlist) → DefinesApart (written c)
written-apart c = record {
  inputs = All-from_recursion IsDefinable (written c).inputs (all_range IsDefinable written_input c.aig.inputs 1 (λ v low high. even-definable v low));
  latches = All-from_recursion (λ latch. IsDefinable latch.current) (written c).latches
      (all_enumerated (λ (latch : RawLatch). IsDefinable latch.current) written_latch c.aig.latches (first_latch c.aig) (λ k latch there. even-definable (first_latch c.aig + k) (omega arith)));
  gates = All-from_recursion (λ gate. IsDefinable gate.lhs) (written c).gates
      (all_enumerated (λ (gate : RawGate). IsDefinable gate.lhs) written_gate c.aig.gates (first_gate c.aig) (λ k gate there. even-definable (first_gate c.aig + k) (omega arith)));
  apart = subst AreApart (sym (written-defined c)) (range-apart 1 (variables c.aig));
}

-- each latch has one of the three resets
reset-has : (v next : ℕ) (reset : Reset) → HasReset (record { current = 2 * v; next = next; reset = reset_number v reset })
reset-has v next Zero = inl refl
reset-has v next One = inr (inl refl)
reset-has v next Free = inr (inr refl)

-- each latch of a circuit has 0, 1 or its own literal as its reset
pub written-resets : (c : Netlist) → All HasReset (written c).latches
written-resets c = All-from_recursion HasReset (written c).latches (all_enumerated HasReset written_latch c.aig.latches (first_latch c.aig) (λ k latch there. reset-has (first_latch c.aig + k) latch.next latch.reset))

-- each literal is of a variable that is defined
literal-known : (c : Netlist) (lit : ℕ) → IsLiteralOf c.aig lit → IsKnownAmong (defined (written c)) lit
literal-known c lit within = subst (λ (vs : List ℕ). IsKnownAmong vs lit) (sym (written-defined c)) (range-knows (variables c.aig) lit (omega arith))

-- the fan-ins of all gates
fan_ins-are : (P : ℕ → Type 0) (gates : List RawGate) → AllByRecursion (λ gate. P gate.rhs0 × P gate.rhs1) gates → All P (flat_map (λ gate. gate.rhs0 ∷ gate.rhs1 ∷ []) gates)
fan_ins-are P [] all = λ k d less. absurd (omega arith)
fan_ins-are P (gate ∷ gates) all =
    All-append P (gate.rhs0 ∷ gate.rhs1 ∷ []) (flat_map (λ gate. gate.rhs0 ∷ gate.rhs1 ∷ []) gates) (All-from_recursion P (gate.rhs0 ∷ gate.rhs1 ∷ []) (all.0.0, (all.0.1, tt))) (fan_ins-are P gates all.1)

-- each literal that a circuit reads is the constant's or of a variable that it defines
pub written-resolved : (c : Netlist) → IsGraph c.aig → IsNetlist c → All (IsKnownAmong (defined (written c))) (read_literals (written c))
written-resolved c graph netlist =
    let P : ℕ → Type 0 = λ (lit : ℕ). IsKnownAmong (defined (written c)) lit in
    let nexts : List ℕ = map (λ (latch : RawLatch). latch.next) (written c).latches in
    let fan_ins : List ℕ = flat_map (λ (gate : RawGate). gate.rhs0 ∷ gate.rhs1 ∷ []) (written c).gates in
    All-append P (nexts ++ (written c).safety ++ (written c).liveness) fan_ins
    (All-append P (nexts ++ (written c).safety) (written c).liveness
    (All-append P nexts (written c).safety
    (All-map P (λ (latch : RawLatch). latch.next) (written c).latches (All-from_recursion (λ (latch : RawLatch). P latch.next) (written c).latches
    (all_enumerated (λ (latch : RawLatch). P latch.next) written_latch c.aig.latches (first_latch c.aig) (λ k latch there. literal-known c latch.next (graph.latches k latch there)))))
    (All-weaker (λ lit. IsLiteralOf c.aig lit) P (literal-known c) (written c).safety (safety-are c netlist)))
    (All-weaker (λ lit. IsLiteralOf c.aig lit) P (literal-known c) (written c).liveness (liveness-are c netlist)))
    (fan_ins-are P (written c).gates (all_enumerated (λ (gate : RawGate). P gate.rhs0 × P gate.rhs1) written_gate c.aig.gates (first_gate c.aig) (λ k gate there.
    let at : IsGateAt (first_gate c.aig + k) gate = graph.gates k gate there in
    let less : k < length c.aig.gates = slice_get_within c.aig.gates k gate there in
    let ordered : gate.rhs1 ≤ gate.rhs0 = at.ordered in
    let below : variable gate.rhs0 < first_gate c.aig + k = at.below in
    (literal-known c gate.rhs0 (omega arith), literal-known c gate.rhs1 (omega arith)))))
