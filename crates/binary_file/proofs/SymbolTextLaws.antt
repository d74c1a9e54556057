-- Symbols by what their lines are.
use Rattle.std.proofs.Common.{ℕ, ◌^◌, ◌<◌, ◌≡◌, inl, inr, List, [], ◌∷◌, Option, Some, None, Result, Ok, Err, refl, arith, Bool, true, false, cond, nat_le, sym, subst, ◌∙◌}
use Rattle.std.specs.List.{list_any}
use Rattle.std.proofs.lemmas.Bool.{cases_lt, lt-leb, le-leb, cond-false}
use Rattle.file_words.specs.declared.fault.ReadError.{ReadError}
use Rattle.file_words.specs.declared.fault.ReadError.TheVariants.{BadSymbol, Trailing}
use Rattle.ascii_file.specs.declared.header.Header.{Header}
use Rattle.ascii_file.specs.declared.raw.Section.{Section}
use Rattle.ascii_file.specs.declared.raw.Section.TheVariants.{Symbols}
use Rattle.ascii_file.specs.declared.raw.SymbolKind.{SymbolKind}
use Rattle.ascii_file.specs.declared.raw.SymbolKind.TheVariants.{Input, Latch, Output, Bad, Constraint, Justice, Fairness}
use Rattle.ascii_file.specs.Raw.{Raw, RawSymbol, count_of}
use Rattle.ascii_file.specs.Items.{Item, InputItem, LatchItem, SafetyItem, SizeItem, LivenessItem, GateItem, SymbolItem, kind_of, symbol_of, item_of, begins_comment}
use Rattle.ascii_file.specs.Reading.{is_of_same, with_item, malformed_symbol, malformed}
use Rattle.ascii_file.proofs.StepLaws.{section_is}
use Rattle.ascii_file.specs.declared.parts.symbols.SymbolText.{SymbolText}
use Rattle.ascii_file.specs.declared.parts.symbols.SymbolText.TheVariants.{NoSymbol, Comment, Malformed, Name}
use Rattle.ascii_file.specs.parts.Rows.{clamped}
use Rattle.ascii_file.specs.parts.Symbols.{unnamed, text_of_item, text_of}
use Rattle.binary_file.specs.Headers.{IsHeaderWithin}
use Rattle.binary_file.specs.Items.{next_section, item_in}
use Rattle.binary_file.specs.Reading.{take_item, read_line}
use Rattle.ascii_file.specs.parts.Names.{symbol_at}
use Rattle.binary_file.specs.Contents.{Contents, contents_of}
use Rattle.binary_file.specs.ReaderItems.{symbol_taken}
use Rattle.binary_file.proofs.TakingLaws.{Agrees}

-- what reading gives of a line that is this text
abbrev pub TextAgrees : Header → Raw → ℕ → SymbolText → Result Raw ReadError → Type 0
TextAgrees h raw at (Name kind position name) read = Agrees h (symbol_taken (contents_of h raw) raw.symbols at (symbol_at kind position name)) read
TextAgrees h raw at Malformed read = read ≡ Err (BadSymbol at)
TextAgrees h raw at NoSymbol read = read ≡ Err (Trailing at)
TextAgrees h raw at Comment read = ⊥

-- there are fewer things of each kind than 32 bits count
few : (h : Header) → IsHeaderWithin h → (kind : SymbolKind) → count_of h kind < 2 ^ 30
few h within Input = let total = within.total in let most = within.greatest in omega (arith, total, most)
few h within Latch = let total = within.total in let most = within.greatest in omega (arith, total, most)
few h within Output = let most = within.outputs in omega (arith, most)
few h within Bad = let most = within.bad in omega (arith, most)
few h within Constraint = let most = within.constraints in omega (arith, most)
few h within Justice = let most = within.justice in omega (arith, most)
few h within Fairness = let most = within.fairness in omega (arith, most)

module _ (h : Header) (within : IsHeaderWithin h) (raw : Raw) (at : ℕ) where
  -- a symbol with its position cut to 32 bits
  symbol_agrees : (symbol : RawSymbol) → Agrees h (symbol_taken (contents_of h raw) raw.symbols at (symbol_at symbol.kind (clamped symbol.position) symbol.name))
      (cond (nat_le (count_of h symbol.kind) symbol.position) (Err (BadSymbol at)) (cond (list_any (is_of_same symbol) raw.symbols) (Err (BadSymbol at)) (Ok (with_item raw (SymbolItem symbol)))))
  symbol_agrees symbol =
      let fits = few h within symbol.kind in
      elim (cases_lt symbol.position (count_of h symbol.kind)) [
        | inl below ↦ inside (clamped symbol.position) (lt-leb _ _ below) (omega (arith, below, fits))
        | inr past ↦ outside (nat_le (count_of h symbol.kind) (clamped symbol.position)) (nat_le (count_of h symbol.kind) symbol.position) _ _ (le-leb _ _ (omega (arith, past, fits))) (le-leb _ _ past)
      ]
    where
      outside : (a b : Bool) (c : Result Contents ReadError) (read : Result Raw ReadError) → a ≡ true → b ≡ true → Agrees h (cond a (Err (BadSymbol at)) c) (cond b (Err (BadSymbol at)) read)
      outside true true c read e d = refl
      outside false b c read e d = absurd cc
      outside true false c read e d = absurd cc

      by_any : (any : Bool) → list_any (is_of_same symbol) raw.symbols ≡ any → nat_le (count_of h symbol.kind) symbol.position ≡ false
          → Agrees h (symbol_taken (contents_of h raw) raw.symbols at symbol) (cond any (Err (BadSymbol at)) (Ok (with_item raw (SymbolItem symbol))))
      by_any any is_any below = by_tests (nat_le (count_of h symbol.kind) symbol.position) (list_any (is_of_same symbol) raw.symbols) any below is_any
        where
          by_tests : (a b d : Bool) → a ≡ false → b ≡ d
              → Agrees h (cond a (Err (BadSymbol at)) (cond b (Err (BadSymbol at)) (Ok (contents_of h (with_item raw (SymbolItem symbol)))))) (cond d (Err (BadSymbol at)) (Ok (with_item raw (SymbolItem symbol))))
          by_tests false true true e same = refl
          by_tests false false false e same = (with_item raw (SymbolItem symbol), refl, refl)
          by_tests true b d e same = absurd cc
          by_tests false true false e same = absurd cc
          by_tests false false true e same = absurd cc

      inside : (position : ℕ) → nat_le (count_of h symbol.kind) symbol.position ≡ false → position ≡ symbol.position
          → Agrees h (symbol_taken (contents_of h raw) raw.symbols at (symbol_at symbol.kind position symbol.name))
          (cond (nat_le (count_of h symbol.kind) symbol.position) (Err (BadSymbol at)) (cond (list_any (is_of_same symbol) raw.symbols) (Err (BadSymbol at)) (Ok (with_item raw (SymbolItem symbol)))))
      inside position below same =
          subst (λ (n : ℕ). Agrees h (symbol_taken (contents_of h raw) raw.symbols at (symbol_at symbol.kind n symbol.name))
          (cond (nat_le (count_of h symbol.kind) symbol.position) (Err (BadSymbol at)) (cond (list_any (is_of_same symbol) raw.symbols) (Err (BadSymbol at)) (Ok (with_item raw (SymbolItem symbol)))))) (sym same)
          (subst (λ (read : Result Raw ReadError). Agrees h (symbol_taken (contents_of h raw) raw.symbols at symbol) read)
          (sym (cond-false (nat_le (count_of h symbol.kind) symbol.position) (Err (BadSymbol at)) (cond (list_any (is_of_same symbol) raw.symbols) (Err (BadSymbol at)) (Ok (with_item raw (SymbolItem symbol)))) below))
          (by_any (list_any (is_of_same symbol) raw.symbols) refl below))

  by_letter : (found : Option SymbolKind) → TextAgrees h raw at (unnamed found) (Err (malformed_symbol at found))
  by_letter None = refl
  by_letter (Some kind) = refl

  without_item : (line : List ℕ) → TextAgrees h raw at (text_of_item line None) (take_item h raw at (malformed Symbols at line) None)
  without_item [] = refl
  without_item (letter ∷ bytes) = by_letter (kind_of letter)

  item_agrees : (line : List ℕ) (found : Option Item) → symbol_of line ≡ found → TextAgrees h raw at (text_of_item line found) (take_item h raw at (malformed Symbols at line) found)
  unfolding item_of
  item_agrees line None e = without_item line
  item_agrees line (Some (SymbolItem symbol)) e = symbol_agrees symbol
  item_agrees line (Some (InputItem lit)) e = let other = section_is Symbols line (InputItem lit) e in absurd cc
  item_agrees line (Some (LatchItem latch)) e = let other = section_is Symbols line (LatchItem latch) e in absurd cc
  item_agrees line (Some (SafetyItem lit)) e = let other = section_is Symbols line (SafetyItem lit) e in absurd cc
  item_agrees line (Some (SizeItem size)) e = let other = section_is Symbols line (SizeItem size) e in absurd cc
  item_agrees line (Some (LivenessItem lit)) e = let other = section_is Symbols line (LivenessItem lit) e in absurd cc
  item_agrees line (Some (GateItem gate)) e = let other = section_is Symbols line (GateItem gate) e in absurd cc

  -- the line of a symbol, or one that isn't
  pub line_text : (line : List ℕ) (text : SymbolText) → next_section h raw ≡ Symbols → begins_comment line ≡ false → text ≡ text_of line → TextAgrees h raw at text (read_line h raw at line)
  unfolding read_line text_of item_of
  line_text line text here no_comment is =
      let said : text ≡ text_of_item line (symbol_of line) = is ∙ cond-false (begins_comment line) Comment (text_of_item line (symbol_of line)) no_comment in
      subst (λ (t : SymbolText). TextAgrees h raw at t (take_item h raw at (malformed (next_section h raw) at line) (item_in h raw (next_section h raw) line))) (sym said)
      (subst (λ (s : Section). TextAgrees h raw at (text_of_item line (symbol_of line)) (take_item h raw at (malformed s at line) (item_in h raw s line))) (sym here) (item_agrees line (symbol_of line) refl))
