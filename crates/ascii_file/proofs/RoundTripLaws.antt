-- The text of a circuit is a file of the raw circuit by its own literals, so it is read as that
-- circuit.
use Rattle.std.proofs.Common.{ℕ, suc, zero, ◌+◌, ◌-◌, ◌*◌, ◌^◌, ◌<◌, ◌≤◌, ◌≡◌, ◌≢◌, inl, inr, List, [], ◌∷◌, ◌++◌, length, map, get_or, All, Some, None, Ok, Bool, true, false, cond, not, nat_eq, nat_le, ◌&&◌, refl, sym, ap, ◌∙◌, append-nil, arith, codes}
use Rattle.std.specs.List.{AllByRecursion, list_all, sum}
use Rattle.std.specs.Option.{option_and_then}
use Rattle.std.proofs.lemmas.Bool.{and_parts, and_from, le-leb, eqb-true, ne_eqb, not_from_false, cond-true}
use Rattle.std.proofs.lemmas.List.Elements.{recursion_from_All}
use Rattle.std.proofs.lemmas.List.Sums.{sum_by-cons, list_all-from_AllPass}
use Rattle.aig_graph.specs.declared.properties.Symbol.{Symbol}
use Rattle.aig_graph.specs.declared.properties.Symbols.{Symbols}
use Rattle.aig_graph.specs.Graph.{IsGraph, variables_end}
use Rattle.aig_graph.specs.Circuits.{Netlist, IsNetlist}
use Rattle.ascii_file.proofs.CycleLaws.{exists_law}
use Rattle.file_words.specs.Lines.{numbers_of}
use Rattle.file_words.specs.Text.{without_last_zeros, header_row, text}
use Rattle.file_words.specs.Cuts.{lacks}
use Rattle.file_words.proofs.DecimalLaws.{AreSmall, row_line, numbers_of-row_line}
use Rattle.ascii_file.specs.declared.header.Header.{Header}
use Rattle.ascii_file.specs.declared.raw.RawLatch.{RawLatch}
use Rattle.ascii_file.specs.declared.raw.RawGate.{RawGate}
use Rattle.ascii_file.specs.declared.raw.SymbolKind.{SymbolKind}
use Rattle.ascii_file.specs.declared.raw.SymbolKind.TheVariants.{Input, Latch as LatchKind, Output, Bad, Constraint, Justice, Fairness}
use Rattle.ascii_file.specs.Raw.{RawSymbol, count_of}
use Rattle.ascii_file.specs.Headers.{header_in, header_of}
use Rattle.ascii_file.specs.Items.{Item, InputItem, LatchItem, SafetyItem, SizeItem, LivenessItem, GateItem, SymbolItem, items_of}
use Rattle.ascii_file.specs.Meaning.{gate_reads}
use Rattle.ascii_file.specs.Files.{HasReset, IsAsciiFile}
use Rattle.ascii_file.specs.Laws.{all_names, IsWithinLimits, RoundTripLaw}
use Rattle.ascii_file.proofs.FileLaws.{in_file, the_reading_law}
use Rattle.ascii_file.proofs.WrittenCircuitLaws.{named, written_symbols, written, written_header, written-counted, written-within, written-in_range, written-apart, written-resets, written-resolved}
use Rattle.ascii_file.proofs.NameLaws.{written-names}
use Rattle.ascii_file.proofs.TextLineLaws.{item_line, IsSmall, lines-spell, lines-text}
use Rattle.ascii_file.proofs.OwnLiteralLaws.{written-order, circuit_again}

-- ---- the header

-- zeros that are left out are read as zeros
all_zero : (ns : List ℕ) (k : ℕ) → list_all (λ m. nat_eq m 0) ns ≡ true → get_or ns k 0 ≡ 0
all_zero [] k e = refl
all_zero (n ∷ ns) zero e = eqb-true n 0 (and_parts (nat_eq n 0) (list_all (λ m. nat_eq m 0) ns) e).0
all_zero (n ∷ ns) (suc k) e = all_zero ns k (and_parts (nat_eq n 0) (list_all (λ m. nat_eq m 0) ns) e).1

trimmed-at : (ns : List ℕ) (k : ℕ) → get_or (without_last_zeros ns) k 0 ≡ get_or ns k 0
trimmed-at [] k = refl
trimmed-at (n ∷ ns) k = by_test (list_all (λ m. nat_eq m 0) (n ∷ ns)) refl k (trimmed-at ns)
  where
    by_test : (test : Bool) → list_all (λ m. nat_eq m 0) (n ∷ ns) ≡ test → (k : ℕ) → ((j : ℕ) → get_or (without_last_zeros ns) j 0 ≡ get_or ns j 0) → get_or (cond test [] (n ∷ without_last_zeros ns)) k 0 ≡ get_or (n ∷ ns) k 0
    by_test true is k later = sym (all_zero (n ∷ ns) k is)
    by_test false is zero later = refl
    by_test false is (suc k) later = later k

trimmed-length : (ns : List ℕ) → length (without_last_zeros ns) ≤ length ns
trimmed-length [] = omega arith
trimmed-length (n ∷ ns) = by_test (list_all (λ m. nat_eq m 0) (n ∷ ns)) (trimmed-length ns)
  where
    by_test : (test : Bool) → length (without_last_zeros ns) ≤ length ns → length (cond test [] (n ∷ without_last_zeros ns)) ≤ length (n ∷ ns)
    by_test true less = omega arith
    by_test false less = omega (arith, less)

trimmed-small : (ns : List ℕ) → AreSmall ns → AreSmall (without_last_zeros ns)
trimmed-small [] small = tt
trimmed-small (n ∷ ns) small = by_test (list_all (λ m. nat_eq m 0) (n ∷ ns)) (trimmed-small ns small.1)
  where
    by_test : (test : Bool) → AreSmall (without_last_zeros ns) → AreSmall (cond test [] (n ∷ without_last_zeros ns))
    by_test true later = tt
    by_test false later = (small.0, later)

-- the header of nine numbers
abbrev header_with : (m i l o a b c j f : ℕ) → Header
header_with m i l o a b c j f = record { greatest = m; inputs = i; latches = l; outputs = o; gates = a; bad = b; constraints = c; justice = j; fairness = f }

-- five numbers, and up to four more
header_in-is : (m i l o a b c j f : ℕ) (more : List ℕ) → length more ≤ 4 → ((k : ℕ) → get_or more k 0 ≡ get_or (b ∷ c ∷ j ∷ f ∷ []) k 0)
    → header_in (m ∷ i ∷ l ∷ o ∷ a ∷ more) ≡ Some (header_with m i l o a b c j f)
header_in-is m i l o a b c j f more short at =
    let ns : List ℕ = m ∷ i ∷ l ∷ o ∷ a ∷ more in
    cond-true (nat_le 5 (length ns) && nat_le (length ns) 9) (Some (header_with m i l o a (get_or more 0 0) (get_or more 1 0) (get_or more 2 0) (get_or more 3 0))) None
    (and_from (nat_le 5 (length ns)) (nat_le (length ns) 9) (le-leb 5 (length ns) (omega arith)) (le-leb (length ns) 9 (omega (arith, short))))
    ∙ same (get_or more 0 0) (get_or more 1 0) (get_or more 2 0) (get_or more 3 0) (at 0) (at 1) (at 2) (at 3)
  where
    same : (p q r s : ℕ) → p ≡ b → q ≡ c → r ≡ j → s ≡ f → Some (header_with m i l o a p q r s) ≡ Some (header_with m i l o a b c j f)
    same p q r s e1 e2 e3 e4 = rw (e1, e2, e3, e4) refl

-- what follows the letters
pub header_numbers : (c : Netlist) → IsGraph c.aig → IsWithinLimits c → option_and_then header_in (numbers_of (row_line (header_row c))) ≡ Some (written_header c)
header_numbers c graph within =
    let g = c.aig in
    let few : variables_end g ≤ 2 ^ 28 = graph.small in
    let last : List ℕ = length c.props.bad ∷ length c.props.constraints ∷ length c.props.justice ∷ length c.props.fairness ∷ [] in
    ap (option_and_then header_in) (numbers_of-row_line (variables_end g - 1) (g.inputs ∷ length g.latches ∷ length c.props.outputs ∷ length g.gates ∷ without_last_zeros last) (
      omega arith,
      (
        omega arith,
        (
          omega arith,
          (
            omega (arith, within.outputs),
            (
              omega arith,
              trimmed-small last (omega (arith, within.bad), (omega (arith, within.constraints), (omega (arith, within.justice), (omega (arith, within.fairness), tt)))),
            ),
          ),
        ),
      ),
    ))
    ∙ header_in-is (variables_end g - 1) g.inputs (length g.latches) (length c.props.outputs) (length g.gates) (length c.props.bad) (length c.props.constraints) (length c.props.justice) (length c.props.fairness)
    (without_last_zeros last) (trimmed-length last) (trimmed-at last)

header_spelt : (c : Netlist) → IsGraph c.aig → IsWithinLimits c → header_of (codes "aag " ++ row_line (header_row c)) ≡ Some (written_header c)
unfolding header_of
header_spelt c graph within = header_numbers c graph within

-- ---- the numbers and names

small_items : {X : Type 0} (P : X → Type 0) (make : X → Item) (xs : List X) (rest : List Item) → ((x : X) → P x → IsSmall (make x)) → AllByRecursion P xs → AllByRecursion IsSmall rest → AllByRecursion IsSmall (map make xs ++ rest)
small_items P make [] rest each all later = later
small_items P make (x ∷ xs) rest each all later = (each x all.0, small_items P make xs rest each all.1 later)

small_last : {X : Type 0} (P : X → Type 0) (make : X → Item) (xs : List X) → ((x : X) → P x → IsSmall (make x)) → AllByRecursion P xs → AllByRecursion IsSmall (map make xs)
small_last P make [] each all = tt
small_last P make (x ∷ xs) each all = (each x all.0, small_last P make xs each all.1)

all_both : {X : Type 0} (P Q : X → Type 0) (xs : List X) → AllByRecursion P xs → AllByRecursion Q xs → AllByRecursion (λ x. P x × Q x) xs
all_both P Q [] one other = tt
all_both P Q (x ∷ xs) one other = ((one.0, other.0), all_both P Q xs one.1 other.1)

-- no size is more than their sum
each_within : (most : ℕ) (ns : List ℕ) → sum ns ≤ most → AllByRecursion (λ n. n ≤ most) ns
each_within most [] within = tt
each_within most (n ∷ ns) within =
    let more : sum (n ∷ ns) ≡ n + sum ns = sum_by-cons (λ m. m) n ns in
    (omega (arith, within, more), each_within most ns (omega (arith, within, more)))

abbrev HasNoNewline : List ℕ → Type 0
HasNoNewline name = All (λ b. b ≢ 10) name

name-lacks : (name : List ℕ) → HasNoNewline name → lacks 10 name ≡ true
name-lacks name none = list_all-from_AllPass (λ b. not (nat_eq b 10)) name (λ k d less. not_from_false (nat_eq (get_or name k d) 10) (ne_eqb (get_or name k d) 10 (none k d less)))

-- the names with their kinds
abbrev AreClean : List Symbol → Type 0
AreClean names = AllByRecursion (λ s. HasNoNewline s.name) names

abbrev AreRawClean : List RawSymbol → Type 0
AreRawClean symbols = AllByRecursion (λ s. HasNoNewline s.name) symbols

clean_kind : (kind : SymbolKind) (names more : List Symbol) (rest : List RawSymbol) → AreClean (names ++ more) → (AreClean more → AreRawClean rest) → AreRawClean (named kind names ++ rest)
clean_kind kind [] more rest clean later = later clean
clean_kind kind (x ∷ names) more rest clean later = (clean.0, clean_kind kind names more rest clean.1 later)

clean_last : (kind : SymbolKind) (names : List Symbol) → AreClean names → AreRawClean (named kind names)
clean_last kind [] clean = tt
clean_last kind (x ∷ names) clean = (clean.0, clean_last kind names clean.1)

all_clean : (s : Symbols) → AreClean (all_names s) → AreRawClean (written_symbols s)
all_clean s clean =
    clean_kind Input s.inputs _ _ clean (λ a. clean_kind LatchKind s.latches _ _ a (λ b. clean_kind Output s.outputs _ _ b (λ d. clean_kind Bad s.bad _ _ d
    (λ e. clean_kind Constraint s.constraints _ _ e (λ f. clean_kind Justice s.justice s.fairness (named Fairness s.fairness) f (clean_last Fairness s.fairness))))))

-- how many things of each kind there are
counts-small : (c : Netlist) → IsGraph c.aig → IsWithinLimits c → (kind : SymbolKind) → count_of (written_header c) kind < 2 ^ 64
counts-small c graph within Input = omega (arith, graph.small)
counts-small c graph within LatchKind = omega (arith, graph.small)
counts-small c graph within Output = omega (arith, within.outputs)
counts-small c graph within Bad = omega (arith, within.bad)
counts-small c graph within Constraint = omega (arith, within.constraints)
counts-small c graph within Justice = omega (arith, within.justice)
counts-small c graph within Fairness = omega (arith, within.fairness)

-- a latch whose literals are within a range
latch-small : (most : ℕ) (latch : RawLatch) → 1 ≤ most → most < 2 ^ 64 → ((latch.current ≤ most) × (latch.next ≤ most)) × HasReset latch → IsSmall (LatchItem latch)
latch-small most latch low small (range, reset) = (omega (arith, range.0, small), omega (arith, range.1, small), by_case reset)
  where
    by_case : HasReset latch → latch.reset < 2 ^ 64
    by_case (inl none) = omega (arith, none)
    by_case (inr (inl one)) = omega (arith, one)
    by_case (inr (inr own)) = omega (arith, own, range.0, small)

-- the items of a circuit within the limits have numbers that a line may have, and names without
-- newline
pub written-small : (c : Netlist) → IsGraph c.aig → IsNetlist c → IsWithinLimits c → AllByRecursion IsSmall (items_of (written c))
written-small c graph netlist within =
    let raw = written c in
    let range = written-in_range c graph netlist in
    let most = 2 * (variables_end c.aig - 1) + 1 in
    let few : most < 2 ^ 64 = omega (arith, graph.small) in
    let low : 1 ≤ most = omega arith in
    let names = written-names c netlist in
    let below = recursion_from_All (λ (s : RawSymbol). s.position < count_of (written_header c) s.kind) raw.symbols names.below in
    let clean = all_clean c.symbols (recursion_from_All (λ (s : Symbol). HasNoNewline s.name) (all_names c.symbols) within.names) in
    small_items (λ lit. lit ≤ most) InputItem raw.inputs _ (λ lit less. omega (arith, less, few)) (recursion_from_All _ raw.inputs range.inputs)
    (small_items (λ (latch : RawLatch). ((latch.current ≤ most) × (latch.next ≤ most)) × HasReset latch) LatchItem raw.latches _ (λ latch. latch-small most latch low few)
    (all_both (λ (latch : RawLatch). (latch.current ≤ most) × (latch.next ≤ most)) HasReset raw.latches (recursion_from_All _ raw.latches range.latches) (recursion_from_All HasReset raw.latches (written-resets c)))
    (small_items (λ lit. lit ≤ most) SafetyItem raw.safety _ (λ lit less. omega (arith, less, few)) (recursion_from_All _ raw.safety range.safety)
    (small_items (λ n. n ≤ 2 ^ 24) SizeItem raw.sizes _ (λ n less. omega (arith, less)) (each_within (2 ^ 24) raw.sizes within.justice_literals)
    (small_items (λ lit. lit ≤ most) LivenessItem raw.liveness _ (λ lit less. omega (arith, less, few)) (recursion_from_All _ raw.liveness range.liveness)
    (small_items (λ (gate : RawGate). (gate.lhs ≤ most) × (gate.rhs0 ≤ most) × (gate.rhs1 ≤ most)) GateItem raw.gates _ (λ gate three. (omega (arith, three.0, few), omega (arith, three.1, few), omega (arith, three.2, few)))
    (recursion_from_All _ raw.gates range.gates)
    (small_last (λ (s : RawSymbol). (s.position < count_of (written_header c) s.kind) × HasNoNewline s.name) SymbolItem raw.symbols
    (λ s both. (let few : count_of (written_header c) s.kind < 2 ^ 64 = counts-small c graph within s.kind in omega (arith, both.0, few), name-lacks s.name both.1))
    (all_both (λ (s : RawSymbol). s.position < count_of (written_header c) s.kind) (λ (s : RawSymbol). HasNoNewline s.name) raw.symbols below clean)))))))

-- ---- the law

written-file : (c : Netlist) → IsGraph c.aig → IsNetlist c → IsWithinLimits c → IsAsciiFile (text c) (written_header c) (written c)
written-file c graph netlist within =
    let small = written-small c graph netlist within in
    record {
      spelt = record {
        first = codes "aag " ++ row_line (header_row c);
        middle = map item_line (items_of (written c));
        last = [];
        all = lines-text c small ∙ ap (λ (ls : List (List ℕ)). (codes "aag " ++ row_line (header_row c)) ∷ ls) (sym (append-nil (map item_line (items_of (written c)))));
        header = header_spelt c graph within;
        items = lines-spell (items_of (written c)) small;
        comment = tt;
      };
      within = written-within c graph within;
      counted = written-counted c;
      in_range = written-in_range c graph netlist;
      apart = written-apart c;
      resets = written-resets c;
      sizes = within.justice_literals;
      names = written-names c netlist;
      resolved = written-resolved c graph netlist;
      acyclic = (exists_law (gate_reads (written c)) (in_file (written c))).0 (_, written-order c graph);
    }

-- the text of a circuit within the limits is read as that circuit
pub the_round_trip_law : (c : Netlist) → RoundTripLaw c
the_round_trip_law c graph netlist within =
    let given = (the_reading_law (text c)).file (written_header c) (written c) (written-file c graph netlist within) in
    given.2 ∙ ap (λ (d : Netlist). Ok d) (circuit_again c given.0 graph netlist given.1)
