-- Symbols byte by byte.
use Rattle.std.proofs.Common.{ℕ, ◌≡◌, List, [], ◌∷◌, Option, Some, None, Bool, true, false, not, cond, nat_eq, ◌&&◌, refl, sym, ap, ◌∙◌}
use Rattle.std.specs.Char.{is_ascii_digit}
use Rattle.std.specs.Option.{option_and_then, option_map}
use Rattle.std.proofs.lemmas.Bool.{cond-true, cond-false, eq-eqb, ne_eqb, eqb-true, and_left}
use Rattle.file_words.specs.Lines.{is_number, digits_value}
use Rattle.ascii_file.specs.declared.raw.SymbolKind.{SymbolKind}
use Rattle.ascii_file.specs.declared.raw.SymbolKind.TheVariants.{Input, Latch, Output, Bad, Constraint, Justice, Fairness}
use Rattle.ascii_file.specs.Items.{SymbolItem, kind_of, cut_at_space, symbol_in, symbol_of, begins_comment}
use Rattle.ascii_file.specs.declared.parts.symbols.SymbolText.{SymbolText}
use Rattle.ascii_file.specs.declared.parts.symbols.SymbolText.TheVariants.{NoSymbol, Comment, Malformed, Name}
use Rattle.ascii_file.specs.parts.Rows.{clamped, next_digit}
use Rattle.ascii_file.specs.parts.Symbols.{unnamed, text_of_item, text_of, is_constraint, named_at, position_with, letter_with, text_without}
use Rattle.ascii_file.proofs.RowLaws.{continued, continued-none, clamped-digit}

-- a line with no item isn't the comment's
pub without_comment : (line : List ℕ) → text_without line ≡ Comment → ⊥
without_comment [] is = absurd cc
without_comment (letter ∷ bytes) is = by_kind (kind_of letter) is
  where
    by_kind : (kind : Option SymbolKind) → unnamed kind ≡ Comment → ⊥
    by_kind None is = absurd cc
    by_kind (Some kind) is = absurd cc

-- ---- one byte of a position

-- a space ends the position, and the name follows
pub at_space : (kind : SymbolKind) (number : Option ℕ) (b : ℕ) (rest : List ℕ) → b ≡ 32 → named_at kind number rest ≡ position_with kind number (b ∷ rest)
unfolding position_with
at_space kind number b rest e = sym (cond-true (nat_eq b 32) (named_at kind number rest) _ (eq-eqb b 32 e))

-- a digit is one more of the position, or its first
pub at_digit : (kind : SymbolKind) (number : Option ℕ) (b : ℕ) (rest : List ℕ) → (b ≡ 32 → ⊥) → is_ascii_digit b ≡ true
    → position_with kind (Some (clamped (next_digit number b))) rest ≡ position_with kind number (b ∷ rest)
unfolding position_with
at_digit kind number b rest no_space digit = sym (cond-false (nat_eq b 32) (named_at kind number rest) _ (ne_eqb b 32 no_space) ∙ cond-true (is_ascii_digit b) _ Malformed digit)

-- a byte in a position that is neither a space nor a digit is no symbol's
pub at_other : (kind : SymbolKind) (number : Option ℕ) (b : ℕ) (rest : List ℕ) → (b ≡ 32 → ⊥) → is_ascii_digit b ≡ false → Malformed ≡ position_with kind number (b ∷ rest)
unfolding position_with
at_other kind number b rest no_space no_digit = sym (cond-false (nat_eq b 32) (named_at kind number rest) _ (ne_eqb b 32 no_space) ∙ cond-false (is_ascii_digit b) _ Malformed no_digit)

-- ---- a position and the name after it

abbrev by_number : SymbolKind → List ℕ → Option ℕ → SymbolText
by_number kind name None = Malformed
by_number kind name (Some v) = Name kind (clamped v) name

-- what a cut gives, if a number was begun before it
abbrev by_cut : SymbolKind → Option ℕ → Option (List ℕ × List ℕ) → SymbolText
by_cut kind number None = Malformed
by_cut kind number (Some cut) = by_number kind cut.1 (continued number cut.0)

position-cut : (kind : SymbolKind) (number : Option ℕ) (bytes : List ℕ) → position_with kind (option_map clamped number) bytes ≡ by_cut kind number (cut_at_space bytes)
unfolding position_with
position-cut kind number [] = refl
position-cut kind number (b ∷ bytes) = by_space (nat_eq b 32) (is_ascii_digit b) refl (λ n. position-cut kind n bytes)
  where
    ended : (number : Option ℕ) → named_at kind (option_map clamped number) bytes ≡ by_number kind bytes number
    ended None = refl
    ended (Some v) = refl

    more : (digit : Bool) → is_ascii_digit b ≡ digit → (found : Option (List ℕ × List ℕ)) → ((n : Option ℕ) → position_with kind (option_map clamped n) bytes ≡ by_cut kind n found)
        → cond digit (position_with kind (Some (clamped (next_digit (option_map clamped number) b))) bytes) Malformed ≡ by_cut kind number (option_map (λ (cut : List ℕ × List ℕ). (b ∷ cut.0, cut.1)) found)
    more false is None later = refl
    more false is (Some cut) later = sym (ap (λ (d : Bool). by_number kind cut.1 (cond d (continued (Some (next_digit number b)) cut.0) None)) is)
    more true is None later = ap (λ (n : ℕ). position_with kind (Some n) bytes) (clamped-digit number b) ∙ later (Some (next_digit number b))
    more true is (Some cut) later =
        ap (λ (n : ℕ). position_with kind (Some n) bytes) (clamped-digit number b) ∙ later (Some (next_digit number b))
        ∙ sym (ap (λ (d : Bool). by_number kind cut.1 (cond d (continued (Some (next_digit number b)) cut.0) None)) is)

    by_space : (space digit : Bool) → is_ascii_digit b ≡ digit → ((n : Option ℕ) → position_with kind (option_map clamped n) bytes ≡ by_cut kind n (cut_at_space bytes))
        → cond space (named_at kind (option_map clamped number) bytes) (cond digit (position_with kind (Some (clamped (next_digit (option_map clamped number) b))) bytes) Malformed)
        ≡ by_cut kind number (cond space (Some ([], bytes)) (option_map (λ (cut : List ℕ × List ℕ). (b ∷ cut.0, cut.1)) (cut_at_space bytes)))
    by_space true digit is later = ended number
    by_space false digit is later = more digit is (cut_at_space bytes) later

-- ---- a whole line

-- the item of a line with a letter
item_text : (kind : SymbolKind) (letter : ℕ) (bytes : List ℕ) → kind_of letter ≡ Some kind → text_of_item (letter ∷ bytes) (symbol_of (letter ∷ bytes)) ≡ position_with kind None bytes
item_text kind letter bytes is =
    ap (λ (found : Option SymbolKind). text_of_item (letter ∷ bytes) (option_and_then (λ k. option_and_then (symbol_in k) (cut_at_space bytes)) found)) is ∙ by_found (cut_at_space bytes) ∙ sym (position-cut kind None bytes)
  where
    none : text_of_item (letter ∷ bytes) None ≡ Malformed
    none = ap unnamed is

    by_test : (cut : List ℕ × List ℕ) (test : Bool)
        → text_of_item (letter ∷ bytes) (cond test (Some (SymbolItem (record { kind = kind; position = digits_value cut.0; name = cut.1 }))) None) ≡ by_number kind cut.1 (cond test (Some (digits_value cut.0)) None)
    by_test cut true = refl
    by_test cut false = none

    by_found : (found : Option (List ℕ × List ℕ)) → text_of_item (letter ∷ bytes) (option_and_then (symbol_in kind) found) ≡ by_cut kind None found
    by_found None = none
    by_found (Some cut) = by_test cut (is_number cut.0) ∙ sym (ap (by_number kind cut.1) (continued-none cut.0))

-- the letter c is that of constraints, and of the comment
module _ (letter : ℕ) (kind : SymbolKind) where
  pick : (n : ℕ) (k : SymbolKind) (test : Bool) → nat_eq letter n ≡ test → nat_eq n 99 ≡ is_constraint k → (rest : Option SymbolKind) → (rest ≡ Some kind → nat_eq letter 99 ≡ is_constraint kind)
      → cond test (Some k) rest ≡ Some kind → nat_eq letter 99 ≡ is_constraint kind
  pick n k true is same rest later e = ap (λ (x : ℕ). nat_eq x 99) (eqb-true letter n is) ∙ same ∙ ap is_constraint (same_kind k e)
    where
      same_kind : (k : SymbolKind) → ◌≡◌ {A = Option SymbolKind} (Some k) (Some kind) → k ≡ kind
      same_kind k e = cc
  pick n k false is same rest later e = later e

  letter-c : kind_of letter ≡ Some kind → nat_eq letter 99 ≡ is_constraint kind
  letter-c =
      pick 105 Input (nat_eq letter 105) refl refl _ (pick 108 Latch (nat_eq letter 108) refl refl _ (pick 111 Output (nat_eq letter 111) refl refl _ (pick 98 Bad (nat_eq letter 98) refl refl _
      (pick 99 Constraint (nat_eq letter 99) refl refl _ (pick 106 Justice (nat_eq letter 106) refl refl _ (pick 102 Fairness (nat_eq letter 102) refl refl None (λ e. absurd (none e))))))))
    where
      none : ◌≡◌ {A = Option SymbolKind} None (Some kind) → ⊥
      none e = cc

-- after the letter of a kind the rest makes of the line what the whole line is
pub after_letter : (letter : ℕ) (kind : SymbolKind) (rest : List ℕ) → kind_of letter ≡ Some kind → letter_with kind rest ≡ text_of (letter ∷ rest)
unfolding text_of begins_comment position_with
after_letter letter kind [] is =
    sym (ap (λ (b : Bool). cond b Comment (text_of_item (letter ∷ []) (symbol_of (letter ∷ [])))) (letter-c letter kind is) ∙ ap (λ (t : SymbolText). cond (is_constraint kind) Comment t) (item_text kind letter [] is))
after_letter letter kind (b ∷ rest) is =
    sym (ap (λ (t : Bool). cond (t && not (is_ascii_digit b)) Comment (text_of_item (letter ∷ b ∷ rest) (symbol_of (letter ∷ b ∷ rest)))) (letter-c letter kind is)
    ∙ ap (λ (t : SymbolText). cond (is_constraint kind && not (is_ascii_digit b)) Comment t) (item_text kind letter (b ∷ rest) is))

-- another first byte
no_c : (letter : ℕ) → kind_of letter ≡ None → nat_eq letter 99 ≡ false
no_c letter is = by_test (nat_eq letter 99) refl
  where
    by_test : (test : Bool) → nat_eq letter 99 ≡ test → nat_eq letter 99 ≡ false
    by_test false e = e
    by_test true e = absurd (some (sym (ap kind_of (eqb-true letter 99 e)) ∙ is))
      where
        some : ◌≡◌ {A = Option SymbolKind} (Some Constraint) None → ⊥
        some same = cc

-- a line that begins with the letter of no kind is no symbol
pub no_letter : (letter : ℕ) (rest : List ℕ) → kind_of letter ≡ None → NoSymbol ≡ text_of (letter ∷ rest)
unfolding text_of begins_comment
no_letter letter rest is = sym (by_comment rest ∙ without)
  where
    without : text_of_item (letter ∷ rest) (symbol_of (letter ∷ rest)) ≡ NoSymbol
    without = ap (λ (found : Option SymbolKind). text_of_item (letter ∷ rest) (option_and_then (λ k. option_and_then (symbol_in k) (cut_at_space rest)) found)) is ∙ ap unnamed is

    by_comment : (rest : List ℕ) → cond (begins_comment (letter ∷ rest)) Comment (text_of_item (letter ∷ rest) (symbol_of (letter ∷ rest))) ≡ text_of_item (letter ∷ rest) (symbol_of (letter ∷ rest))
    by_comment [] = cond-false (nat_eq letter 99) Comment _ (no_c letter is)
    by_comment (b ∷ rest) = cond-false (nat_eq letter 99 && not (is_ascii_digit b)) Comment _ (and_left (nat_eq letter 99) _ (no_c letter is))
