-- A line has no newline, and so its name has none.
use Rattle.std.proofs.Common.{ℕ, ◌≡◌, ◌≢◌, List, [], ◌∷◌, map, fold, Option, Some, None, IfSome, nat_eq, nat_lt, subst}
use Rattle.std.specs.List.{AllByRecursion, AllZip}
use Rattle.std.specs.Option.{option_and_then, option_map}
use Rattle.std.proofs.lemmas.Bool.{cond_both, eqb-false}
use Rattle.std.proofs.lemmas.List.Elements.{All-from_recursion}
use Rattle.aig_graph.specs.declared.properties.Symbol.{Symbol}
use Rattle.file_words.specs.Lines.{with_front, lines, is_number, digits_value, numbers_of}
use Rattle.ascii_file.specs.declared.header.Header.{Header}
use Rattle.ascii_file.specs.declared.raw.Section.{Section}
use Rattle.ascii_file.specs.declared.raw.Section.TheVariants.{Inputs, Latches, Safety, Sizes, Liveness, Gates, Symbols as SymbolSection}
use Rattle.ascii_file.specs.declared.raw.SymbolKind.{SymbolKind}
use Rattle.ascii_file.specs.declared.raw.SymbolKind.TheVariants.{Input, Latch, Output, Bad, Constraint, Justice, Fairness}
use Rattle.ascii_file.specs.Raw.{Raw, RawSymbol, kind_number}
use Rattle.ascii_file.specs.Items.{Item, InputItem, LatchItem, SafetyItem, SizeItem, LivenessItem, GateItem, SymbolItem, item_of, items_of, kind_of, cut_at_space, symbol_in, symbol_of}
use Rattle.ascii_file.specs.Meaning.{with_name, with_symbol, names_of, symbols_of}
use Rattle.ascii_file.specs.Files.{Spells}
use Rattle.ascii_file.specs.Laws.{all_names}
use Rattle.ascii_file.proofs.StepLaws.{section_is}
use Rattle.binary_file.specs.Items.{first_line, item_in, next_latch}
use Rattle.binary_file.proofs.ItemLaws.{latch_section}
use Rattle.ascii_file.proofs.OneLineLaws.{IsOneLine, AreOneLine, parts, joined}

abbrev pub IsLine : List ℕ → Type 0
IsLine bytes = AllByRecursion (λ b. b ≢ 10) bytes

in_front : (b : ℕ) (ls : List (List ℕ)) → b ≢ 10 → AllByRecursion IsLine ls → AllByRecursion IsLine (with_front b ls)
in_front b [] other all = ((other, tt), tt)
in_front b (l ∷ ls) other all = ((other, all.0), all.1)

-- no line of some bytes has a newline
pub lines-are : (bytes : List ℕ) → AllByRecursion IsLine (lines bytes)
unfolding lines
lines-are [] = tt
lines-are (b ∷ bytes) =
    cond_both (nat_eq b 10) ([] ∷ lines bytes) (with_front b (lines bytes)) (AllByRecursion IsLine) (λ e. (tt, lines-are bytes)) (λ e. in_front b (lines bytes) (eqb-false b 10 e) (lines-are bytes))

-- the first line of some bytes has no newline
pub first_line-is : (bytes : List ℕ) → IsLine (first_line bytes)
unfolding first_line
first_line-is [] = tt
first_line-is (b ∷ bytes) = cond_both (nat_eq b 10) [] (b ∷ first_line bytes) IsLine (λ e. tt) (λ e. (eqb-false b 10 e, first_line-is bytes))

-- what stands after the first space
cut-is : (bytes : List ℕ) → IsLine bytes → IfSome (cut_at_space bytes) (λ cut. IsLine cut.1)
cut-is [] line = tt
cut-is (b ∷ bytes) line =
    cond_both (nat_eq b 32) (Some ([], bytes)) (option_map (λ (cut : List ℕ × List ℕ). (b ∷ cut.0, cut.1)) (cut_at_space bytes)) (λ (o : Option (List ℕ × List ℕ)). IfSome o (λ cut. IsLine cut.1)) (λ e. line.1)
    (λ e. longer (cut_at_space bytes) (cut-is bytes line.1))
  where
    longer : (o : Option (List ℕ × List ℕ)) → IfSome o (λ cut. IsLine cut.1) → IfSome {T = List ℕ × List ℕ} (option_map (λ (cut : List ℕ × List ℕ). (b ∷ cut.0, cut.1)) o) (λ cut. IsLine cut.1)
    longer None is = tt
    longer (Some cut) is = is

-- a symbol's name has no newline
abbrev pub IsNamed : Item → Type 0
IsNamed (InputItem lit) = Unit {0}
IsNamed (LatchItem latch) = Unit {0}
IsNamed (SafetyItem lit) = Unit {0}
IsNamed (SizeItem size) = Unit {0}
IsNamed (LivenessItem lit) = Unit {0}
IsNamed (GateItem gate) = Unit {0}
IsNamed (SymbolItem symbol) = IsLine symbol.name

symbol-is : (line : List ℕ) → IsLine line → IfSome (symbol_of line) IsNamed
symbol-is [] line = tt
symbol-is (letter ∷ bytes) line = by_kind (kind_of letter)
  where
    by_cut : (kind : SymbolKind) (o : Option (List ℕ × List ℕ)) → IfSome o (λ cut. IsLine cut.1) → IfSome (option_and_then (symbol_in kind) o) IsNamed
    by_cut kind None is = tt
    by_cut kind (Some (position, name)) is =
        cond_both (is_number position) (Some (SymbolItem (record { kind = kind; position = digits_value position; name = name }))) None (λ (o : Option Item). IfSome o IsNamed) (λ e. is) (λ e. tt)

    by_kind : (found : Option SymbolKind) → IfSome (option_and_then (λ kind. option_and_then (symbol_in kind) (cut_at_space bytes)) found) IsNamed
    by_kind None = tt
    by_kind (Some kind) = by_cut kind (cut_at_space bytes) (cut-is bytes line.1)

-- the name of a symbol that a line without a newline spells has none
pub named-symbol : (line : List ℕ) (symbol : RawSymbol) → IsLine line → symbol_of line ≡ Some (SymbolItem symbol) → IsLine symbol.name
named-symbol line symbol is e = subst (λ (o : Option Item). IfSome o IsNamed) e (symbol-is line is)

-- ---- ASCII files

item-named : (line : List ℕ) (item : Item) → IsLine line → Spells line item → IsNamed item
unfolding item_of
item-named line (InputItem lit) is spelt = tt
item-named line (LatchItem latch) is spelt = tt
item-named line (SafetyItem lit) is spelt = tt
item-named line (SizeItem size) is spelt = tt
item-named line (LivenessItem lit) is spelt = tt
item-named line (GateItem gate) is spelt = tt
item-named line (SymbolItem symbol) is spelt = named-symbol line symbol is spelt

items-named : (ls : List (List ℕ)) (items : List Item) → AllByRecursion IsLine ls → AllZip Spells ls items → AllByRecursion IsNamed items
items-named [] [] are spelt = tt
items-named [] (item ∷ items) are spelt = absurd spelt
items-named (l ∷ ls) [] are spelt = absurd spelt
items-named (l ∷ ls) (item ∷ items) are spelt = (item-named l item are.0 spelt.0, items-named ls items are.1 spelt.1)

abbrev pub AreLineNames : List RawSymbol → Type 0
AreLineNames symbols = AllByRecursion (λ (s : RawSymbol). IsLine s.name) symbols

last_symbols : (symbols : List RawSymbol) → AllByRecursion IsNamed (map SymbolItem symbols) → AreLineNames symbols
last_symbols [] all = tt
last_symbols (x ∷ symbols) all = (all.0, last_symbols symbols all.1)

-- the names of an ASCII file's symbols have no newline
pub raw-named : (raw : Raw) (ls : List (List ℕ)) → AllByRecursion IsLine ls → AllZip Spells ls (items_of raw) → AreLineNames raw.symbols
raw-named raw ls are spelt =
    let all = items-named ls (items_of raw) are spelt in
    let a = (parts IsNamed (map InputItem raw.inputs) _ all).1 in
    let b = (parts IsNamed (map LatchItem raw.latches) _ a).1 in
    let d = (parts IsNamed (map SafetyItem raw.safety) _ b).1 in
    let e = (parts IsNamed (map SizeItem raw.sizes) _ d).1 in
    let f = (parts IsNamed (map LivenessItem raw.liveness) _ e).1 in
    last_symbols raw.symbols (parts IsNamed (map GateItem raw.gates) _ f).1

-- ---- binary files

-- the name of a symbol that a line of a binary file spells has no newline
pub line-named : (h : Header) (raw : Raw) (section : Section) (line : List ℕ) (symbol : RawSymbol) → IsLine line → item_in h raw section line ≡ Some (SymbolItem symbol) → IsLine symbol.name
unfolding item_of
line-named h raw Inputs line symbol is e = absurd cc
line-named h raw Latches line symbol is e = let other : SymbolSection ≡ Latches = latch_section (next_latch h raw) (numbers_of line) (SymbolItem symbol) e in absurd cc
line-named h raw Safety line symbol is e = let other : SymbolSection ≡ Safety = section_is Safety line (SymbolItem symbol) e in absurd cc
line-named h raw Sizes line symbol is e = let other : SymbolSection ≡ Sizes = section_is Sizes line (SymbolItem symbol) e in absurd cc
line-named h raw Liveness line symbol is e = let other : SymbolSection ≡ Liveness = section_is Liveness line (SymbolItem symbol) e in absurd cc
line-named h raw Gates line symbol is e = absurd cc
line-named h raw SymbolSection line symbol is e = named-symbol line symbol is e

-- ---- the names of a circuit

with_name-is : (names : List Symbol) (x : Symbol) → AreOneLine names → IsOneLine x → AreOneLine (with_name names x)
with_name-is [] x all one = (one, tt)
with_name-is (first ∷ names) x all one =
    cond_both (nat_lt x.position first.position) (x ∷ first ∷ names) (first ∷ with_name names x) AreOneLine (λ e. (one, all)) (λ e. (all.0, with_name-is names x all.1 one))

names-are : (kind : SymbolKind) (symbols : List RawSymbol) (names : List Symbol) → AreLineNames symbols → AreOneLine names → AreOneLine (fold (with_symbol kind) names symbols)
names-are kind [] names all named = named
names-are kind (x ∷ symbols) names all named =
    let own : Symbol = record { position = x.position; name = x.name } in
    names-are kind symbols (with_symbol kind names x) all.1
    (cond_both (nat_eq (kind_number x.kind) (kind_number kind)) (with_name names own) names AreOneLine (λ e. with_name-is names own named (All-from_recursion (λ b. b ≢ 10) x.name all.0)) (λ e. named))

-- if no symbol's name has a newline, no name of the circuit has one
pub symbols-are : (symbols : List RawSymbol) → AreLineNames symbols → AreOneLine (all_names (symbols_of symbols))
unfolding symbols_of
symbols-are symbols all =
    let of_kind : (kind : SymbolKind) → AreOneLine (names_of kind symbols) = λ kind. names-are kind symbols [] all tt in
    joined IsOneLine (names_of Input symbols) _ (of_kind Input) (joined IsOneLine (names_of Latch symbols) _ (of_kind Latch) (joined IsOneLine (names_of Output symbols) _ (of_kind Output)
    (joined IsOneLine (names_of Bad symbols) _ (of_kind Bad) (joined IsOneLine (names_of Constraint symbols) _ (of_kind Constraint) (joined IsOneLine (names_of Justice symbols) _ (of_kind Justice) (of_kind Fairness))))))
