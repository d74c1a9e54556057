-- The text of a circuit is the header's line and a line for each item of its raw circuit.
use Rattle.std.proofs.Common.{ℕ, ◌+◌, ◌*◌, ◌^◌, ◌<◌, ◌≤◌, ◌≡◌, List, [], ◌∷◌, ◌++◌, length, map, Some, None, Option, Bool, true, false, cond, not, nat_eq, refl, sym, ap, ap₂, ◌∙◌, append_assoc, append-nil, arith, decimal, codes}
use Rattle.std.specs.List.{flat_map, range_with_len, enumerate_from, AllZip, AllByRecursion}
use Rattle.std.specs.Option.{option_and_then, option_map}
use Rattle.std.proofs.lemmas.Bool.{ne_eqb, eqb-true, cond-true, cond-false, and_parts, not-true, and_from, not_from_false}
use Rattle.std.proofs.lemmas.Grind.{flat_map-append}
use Rattle.aig_graph.specs.declared.graph.Gate.{Gate}
use Rattle.aig_graph.specs.declared.graph.Latch.{Latch}
use Rattle.aig_graph.specs.declared.graph.Reset.{Reset}
use Rattle.aig_graph.specs.declared.graph.Reset.TheVariants.{Zero, One, Free}
use Rattle.aig_graph.specs.declared.properties.Symbol.{Symbol}
use Rattle.aig_graph.specs.declared.properties.Symbols.{Symbols}
use Rattle.aig_graph.specs.Graph.{first_latch, first_gate}
use Rattle.aig_graph.specs.Circuits.{Netlist}
use Rattle.counted_io.specs.Line.{line}
use Rattle.file_words.specs.Lines.{with_front, lines, is_number, digits_value, numbers_of}
use Rattle.file_words.specs.Text.{header_row, reset_row, latch_row, gate_row, single_rows, numbered_rows, input_rows, property_rows, symbol_line, symbol_lines, all_symbols, text}
use Rattle.file_words.specs.Cuts.{lacks}
use Rattle.file_words.proofs.DecimalLaws.{decimal-is_number, decimal-value, decimal-lacks, lacks-append, row_line, row-is_line, row_line-lacks_newline, numbers_of-row_line, lines-at_newline, lines-row}
use Rattle.ascii_file.specs.declared.raw.RawLatch.{RawLatch}
use Rattle.ascii_file.specs.declared.raw.SymbolKind.{SymbolKind}
use Rattle.ascii_file.specs.declared.raw.SymbolKind.TheVariants.{Input, Latch as LatchKind, Output, Bad, Constraint, Justice, Fairness}
use Rattle.ascii_file.specs.Raw.{RawSymbol}
use Rattle.ascii_file.specs.Items.{Item, InputItem, LatchItem, SafetyItem, SizeItem, LivenessItem, GateItem, SymbolItem, items_of, single, latch_in, gate_in, kind_of, cut_at_space, symbol_in, symbol_of, item_of}
use Rattle.ascii_file.specs.Files.{Spells}
use Rattle.ascii_file.proofs.WrittenCircuitLaws.{written_input, reset_number, written_latch, written_gate, named, written_symbols, written}

-- ---- the line of an item

abbrev pub reset_numbers : ℕ → List ℕ
reset_numbers n = cond (nat_eq n 0) [] (n ∷ [])

abbrev letter_of : SymbolKind → ℕ
letter_of Input = 105
letter_of LatchKind = 108
letter_of Output = 111
letter_of Bad = 98
letter_of Constraint = 99
letter_of Justice = 106
letter_of Fairness = 102

abbrev pub item_text : Item → List ℕ
item_text (InputItem lit) = line (lit ∷ [])
item_text (LatchItem latch) = line (latch.current ∷ latch.next ∷ reset_numbers latch.reset)
item_text (SafetyItem lit) = line (lit ∷ [])
item_text (SizeItem size) = line (size ∷ [])
item_text (LivenessItem lit) = line (lit ∷ [])
item_text (GateItem gate) = line (gate.lhs ∷ gate.rhs0 ∷ gate.rhs1 ∷ [])
item_text (SymbolItem symbol) = symbol_line (letter_of symbol.kind) (record { position = symbol.position; name = symbol.name })

abbrev pub item_line : Item → List ℕ
item_line (InputItem lit) = row_line (lit ∷ [])
item_line (LatchItem latch) = row_line (latch.current ∷ latch.next ∷ reset_numbers latch.reset)
item_line (SafetyItem lit) = row_line (lit ∷ [])
item_line (SizeItem size) = row_line (size ∷ [])
item_line (LivenessItem lit) = row_line (lit ∷ [])
item_line (GateItem gate) = row_line (gate.lhs ∷ gate.rhs0 ∷ gate.rhs1 ∷ [])
item_line (SymbolItem symbol) = letter_of symbol.kind ∷ (decimal symbol.position ++ 32 ∷ symbol.name)

-- the text of an item is its line and a newline
pub is_line : (item : Item) → item_text item ≡ item_line item ++ 10 ∷ []
unfolding symbol_line
is_line (InputItem lit) = row-is_line (lit ∷ [])
is_line (LatchItem latch) = row-is_line (latch.current ∷ latch.next ∷ reset_numbers latch.reset)
is_line (SafetyItem lit) = row-is_line (lit ∷ [])
is_line (SizeItem size) = row-is_line (size ∷ [])
is_line (LivenessItem lit) = row-is_line (lit ∷ [])
is_line (GateItem gate) = row-is_line (gate.lhs ∷ gate.rhs0 ∷ gate.rhs1 ∷ [])
is_line (SymbolItem symbol) = refl

-- ---- what the line of an item spells

-- numbers that a line may have, and a name without newline
abbrev pub IsSmall : Item → Type 0
IsSmall (InputItem lit) = lit < 2 ^ 64
IsSmall (LatchItem latch) = (latch.current < 2 ^ 64) × (latch.next < 2 ^ 64) × (latch.reset < 2 ^ 64)
IsSmall (SafetyItem lit) = lit < 2 ^ 64
IsSmall (SizeItem size) = size < 2 ^ 64
IsSmall (LivenessItem lit) = lit < 2 ^ 64
IsSmall (GateItem gate) = (gate.lhs < 2 ^ 64) × (gate.rhs0 < 2 ^ 64) × (gate.rhs1 < 2 ^ 64)
IsSmall (SymbolItem symbol) = (symbol.position < 2 ^ 64) × (lacks 10 symbol.name ≡ true)

letter-lacks : (kind : SymbolKind) → nat_eq (letter_of kind) 10 ≡ false
letter-lacks Input = refl
letter-lacks LatchKind = refl
letter-lacks Output = refl
letter-lacks Bad = refl
letter-lacks Constraint = refl
letter-lacks Justice = refl
letter-lacks Fairness = refl

letter-kind : (kind : SymbolKind) → kind_of (letter_of kind) ≡ Some kind
letter-kind Input = refl
letter-kind LatchKind = refl
letter-kind Output = refl
letter-kind Bad = refl
letter-kind Constraint = refl
letter-kind Justice = refl
letter-kind Fairness = refl

-- the line of an item with small numbers and a name without newline has no newline
pub line-lacks : (item : Item) → IsSmall item → lacks 10 (item_line item) ≡ true
line-lacks (InputItem lit) small = row_line-lacks_newline (lit ∷ [])
line-lacks (LatchItem latch) small = row_line-lacks_newline (latch.current ∷ latch.next ∷ reset_numbers latch.reset)
line-lacks (SafetyItem lit) small = row_line-lacks_newline (lit ∷ [])
line-lacks (SizeItem size) small = row_line-lacks_newline (size ∷ [])
line-lacks (LivenessItem lit) small = row_line-lacks_newline (lit ∷ [])
line-lacks (GateItem gate) small = row_line-lacks_newline (gate.lhs ∷ gate.rhs0 ∷ gate.rhs1 ∷ [])
line-lacks (SymbolItem symbol) small =
    and_from (not (nat_eq (letter_of symbol.kind) 10)) (lacks 10 (decimal symbol.position ++ 32 ∷ symbol.name)) (not_from_false (nat_eq (letter_of symbol.kind) 10) (letter-lacks symbol.kind))
    (lacks-append 10 (decimal symbol.position) (32 ∷ symbol.name) (decimal-lacks 10 symbol.position (omega arith)) small.1)

cut-at_space : (front name : List ℕ) → lacks 32 front ≡ true → cut_at_space (front ++ 32 ∷ name) ≡ Some (front, name)
cut-at_space [] name clean = refl
cut-at_space (b ∷ front) name clean =
    let parts = and_parts (not (nat_eq b 32)) (lacks 32 front) clean in
    cond-false (nat_eq b 32) (Some ([], front ++ 32 ∷ name)) (option_map (λ (cut : List ℕ × List ℕ). (b ∷ cut.0, cut.1)) (cut_at_space (front ++ 32 ∷ name))) (not-true (nat_eq b 32) parts.0)
    ∙ ap (option_map (λ (cut : List ℕ × List ℕ). (b ∷ cut.0, cut.1))) (cut-at_space front name parts.1)

symbol-spelt : (symbol : RawSymbol) → symbol.position < 2 ^ 64 → symbol_of (item_line (SymbolItem symbol)) ≡ Some (SymbolItem symbol)
symbol-spelt symbol small =
    let p = decimal symbol.position in
    ap (λ (found : Option SymbolKind). option_and_then (λ kind. option_and_then (symbol_in kind) (cut_at_space (p ++ 32 ∷ symbol.name))) found) (letter-kind symbol.kind)
    ∙ ap (option_and_then (symbol_in symbol.kind)) (cut-at_space p symbol.name (decimal-lacks 32 symbol.position (omega arith)))
    ∙ cond-true (is_number p) (Some (SymbolItem (record { kind = symbol.kind; position = digits_value p; name = symbol.name }))) None (decimal-is_number symbol.position small)
    ∙ ap (λ (n : ℕ). Some (SymbolItem (record { kind = symbol.kind; position = n; name = symbol.name }))) (decimal-value symbol.position small)

latch-spelt : (latch : RawLatch) (test : Bool) → nat_eq latch.reset 0 ≡ test → IsSmall (LatchItem latch)
    → option_and_then latch_in (numbers_of (row_line (latch.current ∷ latch.next ∷ cond test [] (latch.reset ∷ [])))) ≡ Some (LatchItem latch)
latch-spelt latch true is small =
    let zero : latch.reset ≡ 0 = zero_of latch.reset is in
    ap (option_and_then latch_in) (numbers_of-row_line latch.current (latch.next ∷ []) (small.0, (small.1, tt))) ∙ ap (λ (n : ℕ). Some (LatchItem (record { current = latch.current; next = latch.next; reset = n }))) (sym zero)
  where
    zero_of : (n : ℕ) → nat_eq n 0 ≡ true → n ≡ 0
    zero_of n e = eqb-true n 0 e
latch-spelt latch false is small = ap (option_and_then latch_in) (numbers_of-row_line latch.current (latch.next ∷ latch.reset ∷ []) (small.0, (small.1, (small.2, tt))))

-- the line of an item spells that item
pub line-spells : (item : Item) → IsSmall item → Spells (item_line item) item
unfolding item_of
line-spells (InputItem lit) small = ap (option_and_then (single InputItem)) (numbers_of-row_line lit [] (small, tt))
line-spells (LatchItem latch) small = latch-spelt latch (nat_eq latch.reset 0) refl small
line-spells (SafetyItem lit) small = ap (option_and_then (single SafetyItem)) (numbers_of-row_line lit [] (small, tt))
line-spells (SizeItem size) small = ap (option_and_then (single SizeItem)) (numbers_of-row_line size [] (small, tt))
line-spells (LivenessItem lit) small = ap (option_and_then (single LivenessItem)) (numbers_of-row_line lit [] (small, tt))
line-spells (GateItem gate) small = ap (option_and_then gate_in) (numbers_of-row_line gate.lhs (gate.rhs0 ∷ gate.rhs1 ∷ []) (small.0, (small.1, (small.2, tt))))
line-spells (SymbolItem symbol) small = symbol-spelt symbol small.0

-- the lines of items spell these items, one by one
pub lines-spell : (items : List Item) → AllByRecursion IsSmall items → AllZip Spells (map item_line items) items
lines-spell [] small = tt
lines-spell (item ∷ items) small = (line-spells item small.0, lines-spell items small.1)

-- the lines of items' texts are the items' lines
pub items_lines : (items : List Item) → AllByRecursion IsSmall items → lines (flat_map item_text items) ≡ map item_line items
unfolding lines
items_lines [] small = refl
items_lines (item ∷ items) small =
    ap (λ (front : List ℕ). lines (front ++ flat_map item_text items)) (is_line item) ∙ ap lines (append_assoc (item_line item) (10 ∷ []) (flat_map item_text items))
    ∙ lines-at_newline (item_line item) (flat_map item_text items) (line-lacks item small.0) ∙ ap (λ (ls : List (List ℕ)). item_line item ∷ ls) (items_lines items small.1)

-- ---- the sections of a text

mapped : {X : Type 0} (make : X → Item) (xs : List X) (rest : List Item) → flat_map item_text (map make xs ++ rest) ≡ flat_map (λ x. item_text (make x)) xs ++ flat_map item_text rest
mapped make [] rest = refl
mapped make (x ∷ xs) rest = ap (λ (more : List ℕ). item_text (make x) ++ more) (mapped make xs rest) ∙ sym (append_assoc (item_text (make x)) (flat_map (λ y. item_text (make y)) xs) (flat_map item_text rest))

-- joining what a function gives of a mapped list is joining what both functions give of the list
pub flat_map-map : {X Y A : Type 0} (f : Y → List A) (g : X → Y) (xs : List X) → flat_map f (map g xs) ≡ flat_map (λ x. f (g x)) xs
flat_map-map f g [] = refl
flat_map-map f g (x ∷ xs) = ap (λ (more : List _). f (g x) ++ more) (flat_map-map f g xs)

-- the number of a latch's reset is left out if it is 0, and written if it isn't
pub reset-row : (v : ℕ) (reset : Reset) → 1 ≤ v → reset_numbers (reset_number v reset) ≡ reset_row v reset
reset-row v Zero low = refl
reset-row v One low = refl
reset-row v Free low = cond-false (nat_eq (2 * v) 0) [] (2 * v ∷ []) (ne_eqb (2 * v) 0 (λ e. absurd (omega (arith, e, low))))

latches_text : (xs : List Latch) (first : ℕ) → 1 ≤ first → flat_map (λ x. item_text (LatchItem x)) (map written_latch (enumerate_from first xs)) ≡ numbered_rows latch_row first xs
unfolding latch_row
latches_text [] first low = refl
latches_text (x ∷ xs) first low =
    ap₂ (λ (ns more : List ℕ). line (2 * first ∷ x.next ∷ ns) ++ more) (reset-row first x.reset low) (latches_text xs (first + 1) (omega (arith, low)))

gates_text : (xs : List Gate) (first : ℕ) → flat_map (λ x. item_text (GateItem x)) (map written_gate (enumerate_from first xs)) ≡ numbered_rows gate_row first xs
unfolding gate_row
gates_text [] first = refl
gates_text (x ∷ xs) first = ap (λ (more : List ℕ). line (2 * first ∷ x.rhs0 ∷ x.rhs1 ∷ []) ++ more) (gates_text xs (first + 1))

joined_rows : (lists : List (List ℕ)) → single_rows (flat_map (λ lits. lits) lists) ≡ flat_map single_rows lists
joined_rows [] = refl
joined_rows (lits ∷ lists) = flat_map-append (λ n. line (n ∷ [])) lits (flat_map (λ lits. lits) lists) ∙ ap (λ (more : List ℕ). single_rows lits ++ more) (joined_rows lists)

named_text : (kind : SymbolKind) (names : List Symbol) (rest : List RawSymbol)
    → flat_map (λ x. item_text (SymbolItem x)) (named kind names ++ rest) ≡ symbol_lines (letter_of kind) names ++ flat_map (λ x. item_text (SymbolItem x)) rest
named_text kind [] rest = refl
named_text kind (x ∷ names) rest =
    ap (λ (more : List ℕ). symbol_line (letter_of kind) x ++ more) (named_text kind names rest)
    ∙ sym (append_assoc (symbol_line (letter_of kind) x) (symbol_lines (letter_of kind) names) (flat_map (λ y. item_text (SymbolItem y)) rest))

-- the texts of a circuit's symbols are the symbols of all kinds
pub symbols_text : (s : Symbols) → flat_map (λ x. item_text (SymbolItem x)) (written_symbols s) ≡ all_symbols s
symbols_text s =
    named_text Input s.inputs _ ∙ ap (λ (more : List ℕ). symbol_lines 105 s.inputs ++ more)
    (named_text LatchKind s.latches _ ∙ ap (λ (more : List ℕ). symbol_lines 108 s.latches ++ more)
    (named_text Output s.outputs _ ∙ ap (λ (more : List ℕ). symbol_lines 111 s.outputs ++ more)
    (named_text Bad s.bad _ ∙ ap (λ (more : List ℕ). symbol_lines 98 s.bad ++ more)
    (named_text Constraint s.constraints _ ∙ ap (λ (more : List ℕ). symbol_lines 99 s.constraints ++ more)
    (named_text Justice s.justice _ ∙ ap (λ (more : List ℕ). symbol_lines 106 s.justice ++ more)
    (ap (flat_map (λ x. item_text (SymbolItem x))) (sym (append-nil (named Fairness s.fairness))) ∙ named_text Fairness s.fairness [] ∙ append-nil (symbol_lines 102 s.fairness)))))))
    ∙ grouped (symbol_lines 105 s.inputs) (symbol_lines 108 s.latches) (symbol_lines 111 s.outputs) (symbol_lines 98 s.bad) (symbol_lines 99 s.constraints) (symbol_lines 106 s.justice) (symbol_lines 102 s.fairness)
  where
    grouped : (a b c d e f g : List ℕ) → a ++ (b ++ (c ++ (d ++ (e ++ (f ++ g))))) ≡ a ++ b ++ c ++ d ++ e ++ f ++ g
    grouped a b c d e f g = simp append_assoc

-- ---- the text

-- seven parts in a row
seven : (a b c d e f g p q r s t u : List ℕ) → p ≡ b ++ q → q ≡ c ++ r → r ≡ d ++ s → s ≡ e ++ t → t ≡ f ++ u → u ≡ g → a ++ p ≡ a ++ (b ++ (c ++ (d ++ (e ++ (f ++ g)))))
seven a b c d e f g p q r s t u e1 e2 e3 e4 e5 e6 = rw (e1, e2, e3, e4, e5, e6) refl

module _ (c : Netlist) where
  -- the lines of the properties' literals and sizes are the property rows, before gates and symbols
  pub properties_text : (symbols : List ℕ) (gates : List ℕ)
      → single_rows (written c).safety ++ (single_rows (written c).sizes ++ (single_rows (written c).liveness ++ (gates ++ symbols))) ≡ property_rows c.props ++ (gates ++ symbols)
  properties_text symbols gates =
      ap₂ (λ (one other : List ℕ). one ++ (single_rows (map length c.props.justice) ++ (other ++ (gates ++ symbols))))
      (flat_map-append (λ n. line (n ∷ [])) c.props.outputs (c.props.bad ++ c.props.constraints) ∙ ap (λ (more : List ℕ). single_rows c.props.outputs ++ more) (flat_map-append (λ n. line (n ∷ [])) c.props.bad c.props.constraints))
      (flat_map-append (λ n. line (n ∷ [])) (flat_map (λ lits. lits) c.props.justice) c.props.fairness ∙ ap (λ (more : List ℕ). more ++ single_rows c.props.fairness) (joined_rows c.props.justice))
      ∙ grouped (single_rows c.props.outputs) (single_rows c.props.bad) (single_rows c.props.constraints) (single_rows (map length c.props.justice)) (flat_map single_rows c.props.justice) (single_rows c.props.fairness) (gates ++ symbols)
    where
      grouped : (a b d e f g rest : List ℕ) → a ++ (b ++ d) ++ (e ++ (f ++ g ++ rest)) ≡ a ++ b ++ d ++ e ++ f ++ g ++ rest
      grouped a b d e f g rest = simp append_assoc

  items_text : flat_map item_text (items_of (written c)) ≡ input_rows c.aig.inputs ++ (numbered_rows latch_row (first_latch c.aig) c.aig.latches ++ (property_rows c.props ++ (numbered_rows gate_row (first_gate c.aig) c.aig.gates ++ all_symbols c.symbols)))
  items_text =
      let raw = written c in
      mapped InputItem raw.inputs _ ∙ ap₂ (λ (one more : List ℕ). one ++ more) (flat_map-map (λ x. item_text (InputItem x)) written_input (range_with_len 1 c.aig.inputs))
      (mapped LatchItem raw.latches _ ∙ ap₂ (λ (one more : List ℕ). one ++ more) (latches_text c.aig.latches (first_latch c.aig) (omega arith))
      (mapped SafetyItem raw.safety _ ∙ ap (λ (more : List ℕ). single_rows raw.safety ++ more)
      (mapped SizeItem raw.sizes _ ∙ ap (λ (more : List ℕ). single_rows raw.sizes ++ more)
      (mapped LivenessItem raw.liveness _ ∙ ap (λ (more : List ℕ). single_rows raw.liveness ++ more)
      (mapped GateItem raw.gates _ ∙ ap₂ (λ (one more : List ℕ). one ++ more) (gates_text c.aig.gates (first_gate c.aig)) (flat_map-map item_text SymbolItem raw.symbols ∙ symbols_text c.symbols))))
      ∙ properties_text (all_symbols c.symbols) (numbered_rows gate_row (first_gate c.aig) c.aig.gates)))

  -- the text of a circuit is its header's line and the texts of its items
  pub text_is : text c ≡ codes "aag " ++ (line (header_row c) ++ flat_map item_text (items_of (written c)))
  unfolding text
  text_is =
      grouped (codes "aag ") (line (header_row c)) (input_rows c.aig.inputs) (numbered_rows latch_row (first_latch c.aig) c.aig.latches) (property_rows c.props) (numbered_rows gate_row (first_gate c.aig) c.aig.gates) (all_symbols c.symbols)
      ∙ ap (λ (more : List ℕ). codes "aag " ++ (line (header_row c) ++ more)) (sym items_text)
    where
      grouped : (a b d e f g h : List ℕ) → a ++ b ++ d ++ e ++ f ++ g ++ h ≡ a ++ (b ++ (d ++ (e ++ (f ++ (g ++ h)))))
      grouped a b d e f g h = simp append_assoc

-- the lines of the text
pub lines-text : (c : Netlist) → AllByRecursion IsSmall (items_of (written c)) → lines (text c) ≡ (codes "aag " ++ row_line (header_row c)) ∷ map item_line (items_of (written c))
unfolding lines
lines-text c small =
    ap lines (text_is c) ∙ ap (λ (ls : List (List ℕ)). with_front 97 (with_front 97 (with_front 103 (with_front 32 ls)))) (lines-row (header_row c) (flat_map item_text (items_of (written c))))
    ∙ ap (λ (ls : List (List ℕ)). (codes "aag " ++ row_line (header_row c)) ∷ ls) (items_lines (items_of (written c)) small)
