-- What is read is within the limits of a header.
use Rattle.std.proofs.Common.{ℕ, ◌+◌, ◌^◌, ◌≡◌, ◌≤◌, List, [], ◌∷◌, ◌++◌, map, Option, Some, None, Ok, sym, subst, ◌∙◌, arith}
use Rattle.std.specs.List.{sum, AllByRecursion}
use Rattle.std.proofs.lemmas.List.{length-map}
use Rattle.std.proofs.lemmas.List.Elements.{All-from_recursion}
use Rattle.std.proofs.lemmas.List.Sums.{sum_by_push}
use Rattle.aig_graph.specs.Circuits.{Netlist}
use Rattle.ascii_file.specs.declared.header.Header.{Header}
use Rattle.ascii_file.specs.Raw.{Raw, RawSymbol, nothing_yet, defined}
use Rattle.ascii_file.specs.Items.{Item, InputItem, LatchItem, SafetyItem, SizeItem, LivenessItem, GateItem, SymbolItem}
use Rattle.ascii_file.specs.Meaning.{literal_in, with_gates_at, props_of, symbols_of}
use Rattle.ascii_file.specs.Meaning as ascii
use Rattle.ascii_file.specs.Reading.{read_bytes, with_item}
use Rattle.ascii_file.specs.Files.{IsAsciiFile}
use Rattle.ascii_file.specs.Laws.{all_names, IsWithinLimits}
use Rattle.ascii_file.proofs.FileLaws.{the_reading_law}
use Rattle.binary_file.specs.Items.{next_section, first_line}
use Rattle.binary_file.specs.Files.{IsItem, AreItems, with_items, IsBinaryFile}
use Rattle.binary_file.specs.Reading as binary
use Rattle.binary_file.proofs.FileLaws as binary_files
use Rattle.binary_file.proofs.CountLaws.{the_counts_law}
use Rattle.file_words.specs.declared.spelling.Spelling.{Spelling}
use Rattle.file_words.specs.declared.spelling.Spelling.TheVariants.{Ascii, Binary}
use Rattle.aig_binary.specs.Spellings.{spelling_of, read_in_spelling, read_any}
use Rattle.aig_binary.specs.Limits.{ReadsWithin}
use Rattle.ascii_file.proofs.OneLineLaws.{IsOneLine, HasOneLineNames, parts, joined}
use Rattle.aig_binary.proofs.LineNameLaws.{IsLine, AreLineNames, lines-are, first_line-is, raw-named, line-named, symbols-are}
use Rattle.aig_binary.proofs.PropsLimitLaws.{ArePropsWithin, IsSmall, props-within}

limits : (c : Netlist) → ArePropsWithin c.props → HasOneLineNames c → IsWithinLimits c
limits c props names = record {
  outputs = props.outputs;
  bad = props.bad;
  constraints = props.constraints;
  justice = props.justice;
  justice_literals = props.justice_literals;
  fairness = props.fairness;
  names = All-from_recursion IsOneLine (all_names c.symbols) names;
}

-- ---- ASCII files

file-names : (bytes : List ℕ) (h : Header) (raw : Raw) → IsAsciiFile bytes h raw → AreLineNames raw.symbols
file-names bytes h raw file =
    let all = subst (λ (ls : List (List ℕ)). AllByRecursion IsLine ls) file.spelt.all (lines-are bytes) in
    raw-named raw file.spelt.middle (parts IsLine file.spelt.middle file.spelt.last all.1).0 file.spelt.items

ascii-circuit : (bytes : List ℕ) (h : Header) (raw : Raw) (order : List ℕ) → IsAsciiFile bytes h raw → IsWithinLimits (ascii.circuit_of h (with_gates_at raw order))
unfolding ascii.circuit_of
ascii-circuit bytes h raw order file =
    let variables = defined (with_gates_at raw order) in
    let safety = map (literal_in variables) raw.safety in
    let liveness = map (literal_in variables) raw.liveness in
    let small : IsSmall h = record { outputs = file.within.outputs; bad = file.within.bad; constraints = file.within.constraints; justice = file.within.justice; fairness = file.within.fairness } in
    limits (ascii.circuit_of h (with_gates_at raw order))
    (props-within h safety raw.sizes liveness small (length-map raw.safety (literal_in variables) ∙ file.counted.safety) file.counted.sizes (length-map raw.liveness (literal_in variables) ∙ file.counted.liveness) file.sizes)
    (symbols-are raw.symbols (file-names bytes h raw file))

ascii-within : (bytes : List ℕ) (c : Netlist) → read_bytes bytes ≡ Ok c → IsWithinLimits c
ascii-within bytes c e =
    let (h, raw, file, circuit) = (the_reading_law bytes).read c e in
    subst IsWithinLimits (sym circuit.circuit) (ascii-circuit bytes h raw circuit.order file)

-- ---- binary files

-- what has been read of a file so far
record IsBounded (raw : Raw) : Type 0 where
  sizes : sum raw.sizes ≤ 2 ^ 24
  names : AreLineNames raw.symbols

item-bounded : (h : Header) (raw : Raw) (item : Item) (bytes rest : List ℕ) → IsItem h raw item bytes rest → IsBounded raw → IsBounded (with_item raw item)
item-bounded h raw (InputItem lit) bytes rest is b = record { sizes = b.sizes; names = b.names }
item-bounded h raw (LatchItem latch) bytes rest is b = record { sizes = b.sizes; names = b.names }
item-bounded h raw (SafetyItem lit) bytes rest is b = record { sizes = b.sizes; names = b.names }
item-bounded h raw (SizeItem size) bytes rest is b =
    let more : sum (raw.sizes ++ size ∷ []) ≡ sum raw.sizes + size = sum_by_push (λ n. n) raw.sizes size in
    record { sizes = omega (arith, is.fits, more); names = b.names }
item-bounded h raw (LivenessItem lit) bytes rest is b = record { sizes = b.sizes; names = b.names }
item-bounded h raw (GateItem gate) bytes rest is b = record { sizes = b.sizes; names = b.names }
item-bounded h raw (SymbolItem symbol) bytes rest is b =
    let own = line-named h raw (next_section h raw) (first_line bytes) symbol (first_line-is bytes) is.spelt in
    record { sizes = b.sizes; names = joined (λ (s : RawSymbol). IsLine s.name) raw.symbols (symbol ∷ []) b.names (own, tt) }

items-bounded : (h : Header) (items : List Item) (raw : Raw) (bytes : List ℕ) → AreItems h raw items bytes → IsBounded raw → IsBounded (with_items raw items)
items-bounded h [] raw bytes are b = b
items-bounded h (item ∷ items) raw bytes (rest, is, are) b = items-bounded h items (with_item raw item) rest are (item-bounded h raw item bytes rest is b)

binary-circuit : (bytes : List ℕ) (h : Header) (raw : Raw) → IsBinaryFile bytes h raw → IsWithinLimits (binary.circuit_of h raw)
unfolding binary.circuit_of
binary-circuit bytes h raw file =
    let counted = the_counts_law bytes h raw file in
    let none : IsBounded nothing_yet = record { sizes = omega arith; names = tt } in
    let bounded : IsBounded raw = subst IsBounded file.all (items-bounded h file.items nothing_yet _ file.spelt none) in
    let small : IsSmall h = record { outputs = file.within.outputs; bad = file.within.bad; constraints = file.within.constraints; justice = file.within.justice; fairness = file.within.fairness } in
    limits (binary.circuit_of h raw) (props-within h raw.safety raw.sizes raw.liveness small counted.safety counted.sizes counted.liveness bounded.sizes) (symbols-are raw.symbols bounded.names)

binary-within : (bytes : List ℕ) (c : Netlist) → binary.read_binary bytes ≡ Ok c → IsWithinLimits c
binary-within bytes c e =
    let (h, raw, file, circuit) = (binary_files.the_reading_law bytes).read c e in
    subst IsWithinLimits (sym circuit) (binary-circuit bytes h raw file)

-- ---- either spelling

-- a circuit that is read in either spelling is within the limits of a header
pub reads-within : (bytes : List ℕ) → ReadsWithin bytes
unfolding read_any
reads-within bytes c e = by_spelling (spelling_of bytes) e
  where
    by_spelling : (spelling : Option Spelling) → read_in_spelling spelling bytes ≡ Ok c → IsWithinLimits c
    by_spelling None none = absurd cc
    by_spelling (Some Ascii) read = ascii-within bytes c read
    by_spelling (Some Binary) read = binary-within bytes c read
