-- The items of a line, by numbers that 32 bits hold.
use Rattle.std.proofs.Common.{ℕ, ◌+◌, ◌*◌, ◌^◌, ◌<◌, ◌≤◌, ◌≡◌, inl, inr, length, List, [], ◌∷◌, map, Option, Some, None, Result, Ok, Err, refl, arith, Bool, true, false, cond, nat_eq, nat_lt, nat_le, ap, sym, subst, ◌∙◌, get_or}
use Rattle.std.proofs.lemmas.Bool.{cond-true, cond-false, both_ways, cases_Bool, cases_lt, cases_eq, eq-eqb, ne_eqb, ltb-false, lt-ltb, le-ltb, le-leb, or_parts}
use Rattle.std.specs.List.{sum}
use Rattle.std.specs.Option.{option_and_then, option_map}
use Rattle.aig_graph.specs.Marking.{has}
use Rattle.aig_graph.specs.Graph.{variable}
use Rattle.file_words.specs.declared.fault.ReadError.{ReadError}
use Rattle.file_words.specs.declared.fault.ReadError.TheVariants.{MaxIndex, BadLine, BadLiteral, DefinedTwice, BadReset, BadSymbol, Trailing}
use Rattle.file_words.specs.Lines.{numbers_of}
use Rattle.ascii_file.specs.declared.header.Header.{Header}
use Rattle.ascii_file.specs.declared.raw.Section.{Section}
use Rattle.ascii_file.specs.declared.raw.Section.TheVariants.{Inputs, Latches, Safety, Sizes, Liveness, Gates, Symbols}
use Rattle.ascii_file.specs.declared.raw.SymbolKind.{SymbolKind}
use Rattle.ascii_file.specs.declared.raw.SymbolKind.TheVariants.{Input, Latch, Output, Bad, Constraint, Justice, Fairness}
use Rattle.ascii_file.specs.Raw.{Raw, RawSymbol, defined, count_of}
use Rattle.ascii_file.specs.Headers.{IsHeaderWithin}
use Rattle.ascii_file.specs.Items.{Item, InputItem, LatchItem, SafetyItem, SizeItem, LivenessItem, GateItem, SymbolItem, single, latch_in, gate_in, kind_of, symbol_of, item_of, begins_comment}
use Rattle.ascii_file.specs.Reading.{unless, past_greatest, is_undefinable, is_bad_reset, checks, with_item, take_item, malformed_symbol, malformed, next_section, read_line, is_symbols, is_complete}
use Rattle.ascii_file.specs.Files.{HasReset}
use Rattle.ascii_file.proofs.CheckLaws.{reset_where_it_passes}
use Rattle.ascii_file.proofs.StepLaws.{section_is}
use Rattle.ascii_file.proofs.StateLaws.{is_of}
use Rattle.ascii_file.specs.declared.parts.symbols.SymbolText.{SymbolText}
use Rattle.ascii_file.specs.declared.parts.symbols.SymbolText.TheVariants.{NoSymbol, Comment, Malformed, Name}
use Rattle.ascii_file.specs.parts.Rows.{clamped, up_to_nine, row_of}
use Rattle.ascii_file.specs.parts.Symbols.{unnamed, text_without, text_of_item, text_of}
use Rattle.ascii_file.proofs.SymbolLaws.{without_comment}
use Rattle.aag_text.specs.Items.{only, item_of_numbers}
use Rattle.aag_text.proofs.CountLaws.{symbols_next}

-- ---- one number

past-clamped : (most n : ℕ) → most < 2 ^ 30 → nat_lt most (clamped n) ≡ nat_lt most n
past-clamped most n small = elim (cases_lt most n) [
  | inl past ↦ lt-ltb _ _ (omega arith) ∙ sym (lt-ltb _ _ past)
  | inr within ↦ le-ltb _ _ (omega arith) ∙ sym (le-ltb _ _ within)
]

clamped-within : (most n : ℕ) → most < 2 ^ 30 → n ≤ most → clamped n ≡ n
clamped-within most n small within = omega arith

equals-clamped : (n k : ℕ) → k < 2 ^ 30 → nat_eq n k ≡ nat_eq (clamped n) k
equals-clamped n k h = elim (cases_eq n k) [
  | inl same ↦ eq-eqb n k same ∙ sym (eq-eqb (clamped n) k (omega arith))
  | inr apart ↦ ne_eqb n k apart ∙ sym (ne_eqb (clamped n) k (λ e. apart (omega arith)))
]

-- ---- the literals of a line

module _ (h : Header) (raw : Raw) (at : ℕ) (small : h.greatest < 2 ^ 28) where
  past_greatest-clamped : (lits : List ℕ) → past_greatest h (map clamped lits) ≡ past_greatest h lits
  past_greatest-clamped [] = refl
  past_greatest-clamped (n ∷ lits) = let one = past-clamped (2 * h.greatest + 1) n (omega arith) in let more = past_greatest-clamped lits in cc

  all-within : (lits : List ℕ) → past_greatest h lits ≡ false → map clamped lits ≡ lits
  all-within [] e = refl
  all-within (n ∷ lits) e =
      let parts = or_parts (nat_lt (2 * h.greatest + 1) n) (past_greatest h lits) e in
      let one = clamped-within (2 * h.greatest + 1) n (omega arith) (ltb-false _ _ parts.0) in
      let more = all-within lits parts.1 in
      cc

  -- after the check of the range stands what depends on the literals
  range-clamped : (rest : List ℕ → Result Raw ReadError) (lits : List ℕ)
      → cond (past_greatest h lits) (Err (MaxIndex at)) (rest lits) ≡ cond (past_greatest h (map clamped lits)) (Err (MaxIndex at)) (rest (map clamped lits))
  range-clamped rest lits = elim (cases_Bool (past_greatest h lits)) [
    | inl past ↦ cond-true _ _ _ past ∙ sym (cond-true _ _ _ (past_greatest-clamped lits ∙ past))
    | inr within ↦ ap (λ (ns : List ℕ). cond (past_greatest h ns) (Err (MaxIndex at)) (rest ns)) (sym (all-within lits within))
  ]

  -- one more item, if no check of it fails
  abbrev taken : Item → Result Raw ReadError
  taken item = unless (checks h raw at item) (Ok (with_item raw item))

  input-clamped : (lit : ℕ) → taken (InputItem lit) ≡ taken (InputItem (clamped lit))
  input-clamped lit =
      range-clamped (λ ns. cond (is_undefinable (get_or ns 0 0)) (Err (BadLiteral at)) (cond (has (defined raw) (variable (get_or ns 0 0))) (Err (DefinedTwice at)) (Ok (with_item raw (InputItem (get_or ns 0 0)))))) (lit ∷ [])

  safety-clamped : (lit : ℕ) → taken (SafetyItem lit) ≡ taken (SafetyItem (clamped lit))
  safety-clamped lit = range-clamped (λ ns. Ok (with_item raw (SafetyItem (get_or ns 0 0)))) (lit ∷ [])

  liveness-clamped : (lit : ℕ) → taken (LivenessItem lit) ≡ taken (LivenessItem (clamped lit))
  liveness-clamped lit = range-clamped (λ ns. Ok (with_item raw (LivenessItem (get_or ns 0 0)))) (lit ∷ [])

  gate-clamped : (a b c : ℕ) → taken (GateItem (record { lhs = a; rhs0 = b; rhs1 = c })) ≡ taken (GateItem (record { lhs = clamped a; rhs0 = clamped b; rhs1 = clamped c }))
  gate-clamped a b c =
      range-clamped (λ ns. cond (is_undefinable (get_or ns 0 0)) (Err (BadLiteral at)) (cond (has (defined raw) (variable (get_or ns 0 0))) (Err (DefinedTwice at))
      (Ok (with_item raw (GateItem (record { lhs = get_or ns 0 0; rhs0 = get_or ns 1 0; rhs1 = get_or ns 2 0 })))))) (a ∷ b ∷ c ∷ [])

  -- ---- a latch, whose reset is no literal

  latch_with : ℕ → ℕ → ℕ → Item
  latch_with current next reset = LatchItem (record { current = current; next = next; reset = reset })

  -- after the check of the range
  latch_rest : ℕ → List ℕ → Result Raw ReadError
  latch_rest reset ns =
      cond (is_undefinable (get_or ns 0 0)) (Err (BadLiteral at)) (cond (has (defined raw) (variable (get_or ns 0 0))) (Err (DefinedTwice at))
      (cond (is_bad_reset (record { current = get_or ns 0 0; next = get_or ns 1 0; reset = reset })) (Err (BadReset at)) (Ok (with_item raw (latch_with (get_or ns 0 0) (get_or ns 1 0) reset)))))

  bad_reset-clamped : (current next n : ℕ) → current < 2 ^ 30 → is_bad_reset (record { current = current; next = next; reset = n }) ≡ is_bad_reset (record { current = current; next = next; reset = clamped n })
  bad_reset-clamped current next n fits =
      let zero? = equals-clamped n 0 (omega arith) in
      let one? = equals-clamped n 1 (omega arith) in
      let own? = equals-clamped n current fits in
      cc

  reset_or_clamped : (current next n : ℕ) → current < 2 ^ 30 → (bad : Bool) → is_bad_reset (record { current = current; next = next; reset = n }) ≡ bad
      → cond bad (Err (BadReset at)) (Ok (with_item raw (latch_with current next n))) ≡ cond bad (Err (BadReset at)) (Ok (with_item raw (latch_with current next (clamped n))))
  reset_or_clamped current next n fits true e = refl
  reset_or_clamped current next n fits false e = ap (λ (r : ℕ). Ok (with_item raw (latch_with current next r))) (sym (kept (reset_where_it_passes (record { current = current; next = next; reset = n }) e)))
    where
      kept : HasReset (record { current = current; next = next; reset = n }) → clamped n ≡ n
      kept (inl zero) = omega arith
      kept (inr (inl one)) = omega arith
      kept (inr (inr own)) = omega arith

  reset_step : (current next n : ℕ) → current < 2 ^ 30
      → cond (is_bad_reset (record { current = current; next = next; reset = n })) (Err (BadReset at)) (Ok (with_item raw (latch_with current next n)))
      ≡ cond (is_bad_reset (record { current = current; next = next; reset = clamped n })) (Err (BadReset at)) (Ok (with_item raw (latch_with current next (clamped n))))
  reset_step current next n fits =
      reset_or_clamped current next n fits (is_bad_reset (record { current = current; next = next; reset = n })) refl
      ∙ ap (λ (b : Bool). cond b (Err (BadReset at)) (Ok (with_item raw (latch_with current next (clamped n))))) (bad_reset-clamped current next n fits)

  latch_rest-clamped : (a b reset : ℕ) → cond (past_greatest h (a ∷ b ∷ [])) (Err (MaxIndex at)) (latch_rest reset (a ∷ b ∷ [])) ≡ cond (past_greatest h (a ∷ b ∷ [])) (Err (MaxIndex at)) (latch_rest (clamped reset) (a ∷ b ∷ []))
  unfolding latch_rest
  latch_rest-clamped a b reset = elim (cases_Bool (past_greatest h (a ∷ b ∷ []))) [
    | inl past ↦ cond-true _ _ _ past ∙ sym (cond-true _ _ _ past)
    | inr within ↦
        let first : a ≤ 2 * h.greatest + 1 = ltb-false _ _ (or_parts (nat_lt (2 * h.greatest + 1) a) (past_greatest h (b ∷ [])) within).0 in
        ap (λ (r : Result Raw ReadError). cond (past_greatest h (a ∷ b ∷ [])) (Err (MaxIndex at)) (cond (is_undefinable a) (Err (BadLiteral at)) (cond (has (defined raw) (variable a)) (Err (DefinedTwice at)) r))) (reset_step a b reset (omega arith))
  ]

  latch-clamped : (a b c : ℕ) → taken (latch_with a b c) ≡ taken (latch_with (clamped a) (clamped b) (clamped c))
  unfolding latch_rest latch_with
  latch-clamped a b c = latch_rest-clamped a b c ∙ range-clamped (latch_rest (clamped c)) (a ∷ b ∷ [])

  short_latch-clamped : (a b : ℕ) → taken (latch_with a b 0) ≡ taken (latch_with (clamped a) (clamped b) 0)
  unfolding latch_rest latch_with
  short_latch-clamped a b = range-clamped (latch_rest 0) (a ∷ b ∷ [])

  -- ---- a size

  size-clamped : sum raw.sizes ≤ 2 ^ 24 → (size : ℕ) → taken (SizeItem size) ≡ taken (SizeItem (clamped size))
  size-clamped most size = elim (cases_lt (2 ^ 24) (sum raw.sizes + size)) [
    | inl large ↦ cond-true _ _ _ (lt-ltb _ _ large) ∙ sym (cond-true _ _ _ (lt-ltb (2 ^ 24) (sum raw.sizes + clamped size) (omega arith)))
    | inr fits ↦ ap (λ (n : ℕ). taken (SizeItem n)) (sym (clamped-within (2 ^ 24) size (omega arith) (omega arith)))
  ]

  -- ---- a line by its numbers

  -- more numbers than the section wants
  too_many : (b : Bool) (found : List ℕ → Option Item) (ns : List ℕ) → found ns ≡ None → take_item h raw at (BadLine at) (option_and_then found (cond b (Some ns) None)) ≡ Err (BadLine at)
  too_many true found ns e = ap (take_item h raw at (BadLine at)) e
  too_many false found ns e = refl

  -- the numbers as 32 bits hold them, at most nine
  abbrev short : Option (List ℕ) → Option (List ℕ)
  short o = option_and_then (λ ns. up_to_nine (map clamped ns)) o

  -- the items of one number, of two or three, and of three
  one_number : (make : ℕ → Item) → ((n : ℕ) → taken (make n) ≡ taken (make (clamped n))) → (o : Option (List ℕ))
      → take_item h raw at (BadLine at) (option_and_then (single make) o) ≡ take_item h raw at (BadLine at) (option_and_then (λ ns. option_map make (only ns)) (short o))
  one_number make same None = refl
  one_number make same (Some []) = refl
  one_number make same (Some (n ∷ [])) = same n
  one_number make same (Some (a ∷ b ∷ ns)) = sym (too_many (nat_le (length (map clamped (a ∷ b ∷ ns))) 9) (λ zs. option_map make (only zs)) (map clamped (a ∷ b ∷ ns)) refl)

  latch_numbers : (o : Option (List ℕ)) → take_item h raw at (BadLine at) (option_and_then latch_in o) ≡ take_item h raw at (BadLine at) (option_and_then (item_of_numbers Latches) (short o))
  unfolding latch_with
  latch_numbers None = refl
  latch_numbers (Some []) = refl
  latch_numbers (Some (a ∷ [])) = refl
  latch_numbers (Some (a ∷ b ∷ [])) = short_latch-clamped a b
  latch_numbers (Some (a ∷ b ∷ c ∷ [])) = latch-clamped a b c
  latch_numbers (Some (a ∷ b ∷ c ∷ d ∷ ns)) = sym (too_many (nat_le (length (map clamped (a ∷ b ∷ c ∷ d ∷ ns))) 9) (item_of_numbers Latches) (map clamped (a ∷ b ∷ c ∷ d ∷ ns)) refl)

  gate_numbers : (o : Option (List ℕ)) → take_item h raw at (BadLine at) (option_and_then gate_in o) ≡ take_item h raw at (BadLine at) (option_and_then (item_of_numbers Gates) (short o))
  gate_numbers None = refl
  gate_numbers (Some []) = refl
  gate_numbers (Some (a ∷ [])) = refl
  gate_numbers (Some (a ∷ b ∷ [])) = refl
  gate_numbers (Some (a ∷ b ∷ c ∷ [])) = gate-clamped a b c
  gate_numbers (Some (a ∷ b ∷ c ∷ d ∷ ns)) = sym (too_many (nat_le (length (map clamped (a ∷ b ∷ c ∷ d ∷ ns))) 9) (item_of_numbers Gates) (map clamped (a ∷ b ∷ c ∷ d ∷ ns)) refl)

  by_section : sum raw.sizes ≤ 2 ^ 24 → (line : List ℕ) (section : Section) → is_symbols section ≡ false
      → take_item h raw at (malformed section at line) (item_of section line) ≡ take_item h raw at (BadLine at) (option_and_then (item_of_numbers section) (row_of line))
  unfolding item_of row_of
  by_section most line Inputs e = one_number InputItem input-clamped (numbers_of line)
  by_section most line Latches e = latch_numbers (numbers_of line)
  by_section most line Safety e = one_number SafetyItem safety-clamped (numbers_of line)
  by_section most line Sizes e = one_number SizeItem (size-clamped most) (numbers_of line)
  by_section most line Liveness e = one_number LivenessItem liveness-clamped (numbers_of line)
  by_section most line Gates e = gate_numbers (numbers_of line)
  by_section most line Symbols e = absurd (both_ways true e refl)

  -- a line before the symbols is read by its numbers
  pub line_by_numbers : sum raw.sizes ≤ 2 ^ 24 → is_complete h raw ≡ false → (line : List ℕ)
      → read_line h raw at line ≡ take_item h raw at (BadLine at) (option_and_then (item_of_numbers (next_section h raw)) (row_of line))
  unfolding read_line
  line_by_numbers most e line = by_section most line (next_section h raw) e

-- ---- a symbol by its text

-- what a line after the gates gives, by its text; one that begins the comment isn't asked for
abbrev pub by_text : Header → Raw → ℕ → SymbolText → Result Raw ReadError
by_text h raw at NoSymbol = Err (Trailing at)
by_text h raw at Comment = Err (Trailing at)
by_text h raw at Malformed = Err (BadSymbol at)
by_text h raw at (Name kind position name) = take_item h raw at (BadSymbol at) (Some (SymbolItem (record { kind = kind; position = position; name = name })))

module _ (h : Header) (raw : Raw) (at : ℕ) (within : IsHeaderWithin h) where
  few_of : (kind : SymbolKind) → count_of h kind < 2 ^ 30
  few_of Input = omega (arith, within.greatest, within.total)
  few_of Latch = omega (arith, within.greatest, within.total)
  few_of Output = omega (arith, within.outputs)
  few_of Bad = omega (arith, within.bad)
  few_of Constraint = omega (arith, within.constraints)
  few_of Justice = omega (arith, within.justice)
  few_of Fairness = omega (arith, within.fairness)

  symbol-clamped : (symbol : RawSymbol)
      → take_item h raw at (BadSymbol at) (Some (SymbolItem symbol)) ≡ take_item h raw at (BadSymbol at) (Some (SymbolItem (record { kind = symbol.kind; position = clamped symbol.position; name = symbol.name })))
  symbol-clamped symbol = elim (cases_lt symbol.position (count_of h symbol.kind)) [
    | inl below ↦
        let few = few_of symbol.kind in
        let same : clamped symbol.position ≡ symbol.position = clamped-within (count_of h symbol.kind) symbol.position few (omega arith) in
        ap (λ (p : ℕ). take_item h raw at (BadSymbol at) (Some (SymbolItem (record { kind = symbol.kind; position = p; name = symbol.name })))) (sym same)
    | inr past ↦
        let few = few_of symbol.kind in
        cond-true _ _ _ (le-leb (count_of h symbol.kind) symbol.position past) ∙ sym (cond-true _ _ _ (le-leb (count_of h symbol.kind) (clamped symbol.position) (omega arith)))
  ]

  without_item : (line : List ℕ) → take_item h raw at (malformed Symbols at line) None ≡ by_text h raw at (text_without line)
  without_item [] = refl
  without_item (letter ∷ bytes) = by_kind (kind_of letter)
    where
      by_kind : (kind : Option SymbolKind) → ◌≡◌ {A = Result Raw ReadError} (Err (malformed_symbol at kind)) (by_text h raw at (unnamed kind))
      by_kind None = refl
      by_kind (Some kind) = refl

  by_item : (line : List ℕ) (found : Option Item) → item_of Symbols line ≡ found → take_item h raw at (malformed Symbols at line) found ≡ by_text h raw at (text_of_item line found)
  by_item line None e = without_item line
  by_item line (Some item) e =
      let symbol = is_of Symbols item (sym (section_is Symbols line item e)) in
      subst (λ (i : Item). take_item h raw at (malformed Symbols at line) (Some i) ≡ by_text h raw at (text_of_item line (Some i))) (sym symbol.1) (symbol-clamped symbol.0)

  -- a line after the gates that begins no comment is read by its text
  pub line_by_text : is_complete h raw ≡ true → (line : List ℕ) → begins_comment line ≡ false → read_line h raw at line ≡ by_text h raw at (text_of line)
  unfolding read_line item_of text_of
  line_by_text e line no_comment =
      ap (λ (s : Section). take_item h raw at (malformed s at line) (item_of s line)) (symbols_next h raw e) ∙ by_item line (symbol_of line) refl
      ∙ ap (by_text h raw at) (sym (cond-false (begins_comment line) Comment (text_of_item line (symbol_of line)) no_comment))

item_no_comment : (line : List ℕ) (found : Option Item) → text_of_item line found ≡ Comment → ⊥
item_no_comment line None is = without_comment line is
item_no_comment line (Some (SymbolItem symbol)) is = absurd cc
item_no_comment line (Some item) is = without_comment line is

-- a line that begins no comment isn't one by its text
pub no_comment : (line : List ℕ) → begins_comment line ≡ false → text_of line ≡ Comment → ⊥
unfolding text_of
no_comment line plain is = item_no_comment line (symbol_of line) (sym (cond-false (begins_comment line) Comment (text_of_item line (symbol_of line)) plain) ∙ is)
