-- The numbers of a row that was written.
use Rattle.std.proofs.Common.{ℕ, suc, zero, ◌+◌, ◌-◌, ◌*◌, ◌/◌, ◌%◌, ◌^◌, ◌<◌, ◌≡◌, List, [], ◌∷◌, ◌++◌, length, map, fold, Some, None, true, false, cond, not, nat_lt, nat_eq, refl, sym, ap, ap₂, ◌∙◌, append_assoc, append-nil, arith, rules, decimal}
use Rattle.std.specs.Char.{is_ascii_digit}
use Rattle.std.specs.Fmt.{digits, digits_onto, digit_glyph}
use Rattle.std.specs.List.{list_all, flat_map, AllByRecursion}
use Rattle.std.proofs.lemmas.List.Folds.{list_all-append}
use Rattle.std.proofs.lemmas.Bool.{not-true, and_parts, and_from, lt-ltb, ne_eqb, cond-true, cond-false, cond_both, not_from_false}
use Rattle.std.proofs.lemmas.Fmt.{digits_decimal, digits_value-decimal, decimal_nonempty}
use Rattle.std.proofs.lemmas.Str.Parse.{IsNumeralModel, numerals_by_fold}
use Rattle.counted_io.specs.Line.{line, spaced}
use Rattle.file_words.specs.Lines.{with_front, lines, pieces, is_number, digits_value, numbers_of}
use Rattle.file_words.specs.Cuts.{lacks}

-- ---- the digits of a number

-- the test of digits and their value are those of numerals
digits_model : IsNumeralModel (λ ds. list_all is_ascii_digit ds ≡ true) digits_value
digits_model = numerals_by_fold (λ ds. list_all is_ascii_digit ds ≡ true) (search rules) (λ n ds. fold (λ value digit. 10 * value + (digit - 48)) n ds) (search rules)

-- the digits of a number below 2^64 are a number
pub decimal-is_number : (n : ℕ) → n < 2 ^ 64 → is_number (decimal n) ≡ true
decimal-is_number n small =
    and_from (not (nat_eq (length (decimal n)) 0)) (list_all is_ascii_digit (decimal n))
    (not_from_false (nat_eq (length (decimal n)) 0) (ne_eqb (length (decimal n)) 0 (λ e. absurd (omega (arith, decimal_nonempty n small)))))
    (digits_decimal digits_model n small)

-- the digits of a number below 2^64 spell it
pub decimal-value : (n : ℕ) → n < 2 ^ 64 → digits_value (decimal n) ≡ n
decimal-value n small = digits_value-decimal digits_model n small

-- ---- what no digit is

-- digits are from 48 on
digits_onto-lacks : (b k n : ℕ) (acc : List ℕ) → b < 48 → lacks b acc ≡ true → lacks b (digits_onto k 10 false n acc) ≡ true
digits_onto-lacks b zero n acc low rest = rest
digits_onto-lacks b (suc k) n acc low rest =
    let glyph : digit_glyph false (n % 10) ≡ 48 + n % 10 = cond-true (nat_lt (n % 10) 10) (48 + n % 10) (87 + n % 10) (lt-ltb (n % 10) 10 (omega arith)) in
    let other : nat_eq (digit_glyph false (n % 10)) b ≡ false = ne_eqb (digit_glyph false (n % 10)) b (λ e. absurd (omega (arith, glyph, e))) in
    let more : lacks b (digit_glyph false (n % 10) ∷ acc) ≡ true = and_from (not (nat_eq (digit_glyph false (n % 10)) b)) (lacks b acc) (not_from_false (nat_eq (digit_glyph false (n % 10)) b) other) rest in
    cond_both (nat_eq (n / 10) 0) (digit_glyph false (n % 10) ∷ acc) (digits_onto k 10 false (n / 10) (digit_glyph false (n % 10) ∷ acc)) (λ text. lacks b text ≡ true)
    (λ _. more) (λ _. digits_onto-lacks b k (n / 10) (digit_glyph false (n % 10) ∷ acc) low more)

-- a number has neither a space nor a newline
pub decimal-lacks : (b n : ℕ) → b < 48 → lacks b (decimal n) ≡ true
unfolding digits
decimal-lacks b n low = digits_onto-lacks b 64 n [] low refl

-- bytes that lack a mark lack it joined with others that do
pub lacks-append : (b : ℕ) (xs ys : List ℕ) → lacks b xs ≡ true → lacks b ys ≡ true → lacks b (xs ++ ys) ≡ true
lacks-append b xs ys front back = list_all-append (λ c. not (nat_eq c b)) xs ys ∙ and_from (lacks b xs) (lacks b ys) front back

-- ---- the numbers of a row

-- a row without its newline
abbrev pub row_line : List ℕ → List ℕ
row_line [] = []
row_line (n ∷ ns) = decimal n ++ flat_map spaced ns

-- a written row is the row without its newline, and a newline
pub row-is_line : (ns : List ℕ) → line ns ≡ row_line ns ++ 10 ∷ []
unfolding line
row-is_line [] = refl
row-is_line (n ∷ ns) = sym (append_assoc (decimal n) (flat_map spaced ns) (10 ∷ []))

-- there is no newline before the end of a row
spaced-lacks_newline : (ns : List ℕ) → lacks 10 (flat_map spaced ns) ≡ true
unfolding spaced
spaced-lacks_newline [] = refl
spaced-lacks_newline (n ∷ ns) = lacks-append 10 (decimal n) (flat_map spaced ns) (decimal-lacks 10 n (omega arith)) (spaced-lacks_newline ns)

-- a row without its newline has none at all
pub row_line-lacks_newline : (ns : List ℕ) → lacks 10 (row_line ns) ≡ true
row_line-lacks_newline [] = refl
row_line-lacks_newline (n ∷ ns) = lacks-append 10 (decimal n) (flat_map spaced ns) (decimal-lacks 10 n (omega arith)) (spaced-lacks_newline ns)

-- a piece runs up to the first space, or to the end
pub pieces-at_space : (piece rest : List ℕ) → lacks 32 piece ≡ true → pieces (piece ++ 32 ∷ rest) ≡ piece ∷ pieces rest
unfolding pieces
pieces-at_space [] rest clean = refl
pieces-at_space (b ∷ piece) rest clean =
    let parts = and_parts (not (nat_eq b 32)) (lacks 32 piece) clean in
    cond-false (nat_eq b 32) ([] ∷ pieces (piece ++ 32 ∷ rest)) (with_front b (pieces (piece ++ 32 ∷ rest))) (not-true (nat_eq b 32) parts.0)
    ∙ ap (with_front b) (pieces-at_space piece rest parts.1)

-- a line without a space is one piece
pub pieces-at_end : (piece : List ℕ) → lacks 32 piece ≡ true → pieces piece ≡ piece ∷ []
unfolding pieces
pieces-at_end [] clean = refl
pieces-at_end (b ∷ piece) clean =
    let parts = and_parts (not (nat_eq b 32)) (lacks 32 piece) clean in
    cond-false (nat_eq b 32) ([] ∷ pieces piece) (with_front b (pieces piece)) (not-true (nat_eq b 32) parts.0)
    ∙ ap (with_front b) (pieces-at_end piece parts.1)

-- the pieces of a row are its numbers
pieces-row_line : (n : ℕ) (ns : List ℕ) → pieces (row_line (n ∷ ns)) ≡ map decimal (n ∷ ns)
unfolding spaced
pieces-row_line n [] = ap pieces (append-nil (decimal n)) ∙ pieces-at_end (decimal n) (decimal-lacks 32 n (omega arith))
pieces-row_line n (m ∷ ms) =
    pieces-at_space (decimal n) (row_line (m ∷ ms)) (decimal-lacks 32 n (omega arith)) ∙ ap (λ (ps : List (List ℕ)). decimal n ∷ ps) (pieces-row_line m ms)

-- numbers that a row may have
abbrev pub AreSmall : List ℕ → Type 0
AreSmall ns = AllByRecursion (λ n. n < 2 ^ 64) ns

-- what was written for numbers is numbers, with their values
decimals-are_numbers : (ns : List ℕ) → AreSmall ns → list_all is_number (map decimal ns) ≡ true
decimals-are_numbers [] small = refl
decimals-are_numbers (n ∷ ns) small = and_from (is_number (decimal n)) (list_all is_number (map decimal ns)) (decimal-is_number n small.0) (decimals-are_numbers ns small.1)

decimals-values : (ns : List ℕ) → AreSmall ns → map digits_value (map decimal ns) ≡ ns
decimals-values [] small = refl
decimals-values (n ∷ ns) small = ap₂ (λ (m : ℕ) (ms : List ℕ). m ∷ ms) (decimal-value n small.0) (decimals-values ns small.1)

-- the numbers of a row are read again
pub numbers_of-row_line : (n : ℕ) (ns : List ℕ) → AreSmall (n ∷ ns) → numbers_of (row_line (n ∷ ns)) ≡ Some (n ∷ ns)
unfolding numbers_of
numbers_of-row_line n ns small =
    ap (λ (ps : List (List ℕ)). cond (list_all is_number ps) (Some (map digits_value ps)) None) (pieces-row_line n ns)
    ∙ cond-true (list_all is_number (map decimal (n ∷ ns))) (Some (map digits_value (map decimal (n ∷ ns)))) None (decimals-are_numbers (n ∷ ns) small)
    ∙ ap (λ (ms : List ℕ). Some ms) (decimals-values (n ∷ ns) small)

-- ---- the lines of rows

-- a line runs up to the first newline
pub lines-at_newline : (line rest : List ℕ) → lacks 10 line ≡ true → lines (line ++ 10 ∷ rest) ≡ line ∷ lines rest
unfolding lines
lines-at_newline [] rest clean = refl
lines-at_newline (b ∷ line) rest clean =
    let parts = and_parts (not (nat_eq b 10)) (lacks 10 line) clean in
    cond-false (nat_eq b 10) ([] ∷ lines (line ++ 10 ∷ rest)) (with_front b (lines (line ++ 10 ∷ rest))) (not-true (nat_eq b 10) parts.0)
    ∙ ap (with_front b) (lines-at_newline line rest parts.1)

-- the line of a row, and the lines of rows
pub lines-row : (ns rest : List ℕ) → lines (line ns ++ rest) ≡ row_line ns ∷ lines rest
lines-row ns rest =
    ap (λ (text : List ℕ). lines (text ++ rest)) (row-is_line ns) ∙ ap lines (append_assoc (row_line ns) (10 ∷ []) rest)
    ∙ lines-at_newline (row_line ns) rest (row_line-lacks_newline ns)

-- the lines of a text that begins with rows are these rows, and then the lines of the rest
pub lines-rows : {X : Type 0} (numbers : X → List ℕ) (xs : List X) (rest : List ℕ) → lines (flat_map (λ x. line (numbers x)) xs ++ rest) ≡ map (λ x. row_line (numbers x)) xs ++ lines rest
lines-rows numbers [] rest = refl
lines-rows numbers (x ∷ xs) rest =
    ap lines (append_assoc (line (numbers x)) (flat_map (λ y. line (numbers y)) xs) rest)
    ∙ lines-row (numbers x) (flat_map (λ y. line (numbers y)) xs ++ rest)
    ∙ ap (λ (ls : List (List ℕ)). row_line (numbers x) ∷ ls) (lines-rows numbers xs rest)
