-- The numbers of a line, byte by byte.
use Rattle.std.proofs.Common.{ℕ, ◌+◌, ◌-◌, ◌*◌, ◌≤◌, ◌≡◌, length, List, [], ◌∷◌, ◌++◌, map, Option, Some, None, refl, arith, Bool, true, false, not, ◌&&◌, ◌==◌, nat_eq, cond, ap, sym, ◌∙◌, length-append, fold}
use Rattle.std.proofs.lemmas.Bool.{cond-true, cond-false, ne_eqb, le-leb, lt-leb}
use Rattle.std.proofs.lemmas.List.{append-nil, append_assoc}
use Rattle.std.specs.Char.{is_ascii_digit}
use Rattle.std.specs.List.{list_all}
use Rattle.std.specs.Option.{option_and_then, option_map}
use Rattle.file_words.specs.Lines.{pieces, with_front, is_number, digits_value, numbers_of}
use Rattle.ascii_file.specs.parts.Rows.{clamped, up_to_nine, row_of, in_front, next_digit, read_on, finished}

-- the numbers of pieces
abbrev numbers_in : List (List ℕ) → Option (List ℕ)
numbers_in ps = cond (list_all is_number ps) (Some (map digits_value ps)) None

-- a number begun, with a piece after it
abbrev pub continued : Option ℕ → List ℕ → Option ℕ
continued number [] = number
continued number (b ∷ bytes) = cond (is_ascii_digit b) (continued (Some (next_digit number b)) bytes) None

-- the numbers of pieces of which the first goes on with a number begun
abbrev after : Option ℕ → List (List ℕ) → Option (List ℕ)
after number [] = None
after number (p ∷ ps) = in_front (continued number p) (numbers_in ps)

abbrev step : ℕ → ℕ → ℕ
step value digit = 10 * value + (digit - 48)

continued-some : (v : ℕ) (p : List ℕ) → continued (Some v) p ≡ cond (list_all is_ascii_digit p) (Some (fold step v p)) None
continued-some v [] = refl
continued-some v (b ∷ bytes) = by_digit (is_ascii_digit b) (continued-some (step v b) bytes)
  where
    by_digit : (d : Bool) → continued (Some (step v b)) bytes ≡ cond (list_all is_ascii_digit bytes) (Some (fold step (step v b) bytes)) None
        → cond d (continued (Some (step v b)) bytes) None ≡ cond (d && list_all is_ascii_digit bytes) (Some (fold step (step v b) bytes)) None
    by_digit true e = e
    by_digit false e = refl

-- if no number was begun, a piece is the number that its digits spell
pub continued-none : (p : List ℕ) → continued None p ≡ cond (is_number p) (Some (digits_value p)) None
continued-none [] = refl
continued-none (b ∷ bytes) =
    let some : nat_eq (length (b ∷ bytes)) 0 ≡ false = ne_eqb (length (b ∷ bytes)) 0 (λ e. absurd (omega arith)) in
    continued-some 0 (b ∷ bytes) ∙ sym (ap (λ (x : Bool). cond (not x && list_all is_ascii_digit (b ∷ bytes)) (Some (digits_value (b ∷ bytes))) None) some)

after-none : (p : List ℕ) (ps : List (List ℕ)) → after None (p ∷ ps) ≡ numbers_in (p ∷ ps)
after-none p ps = ap (λ o. in_front o (numbers_in ps)) (continued-none p) ∙ both (is_number p) (list_all is_number ps)
  where
    both : (a b : Bool) → in_front (cond a (Some (digits_value p)) None) (cond b (Some (map digits_value ps)) None) ≡ cond (a && b) (Some (map digits_value (p ∷ ps))) None
    both true true = refl
    both true false = refl
    both false b = refl

-- there is always a piece
split : (bytes : List ℕ) → (p : List ℕ) × (ps : List (List ℕ)) × (pieces bytes ≡ p ∷ ps)
unfolding pieces
split [] = ([], [], refl)
split (b ∷ bytes) = by_space (b == 32)
  where
    front : (q : List (List ℕ)) → (p : List ℕ) × (ps : List (List ℕ)) × (with_front b q ≡ p ∷ ps)
    front [] = (b ∷ [], [], refl)
    front (p ∷ ps) = (b ∷ p, ps, refl)

    by_space : (s : Bool) → (p : List ℕ) × (ps : List (List ℕ)) × (cond s ([] ∷ pieces bytes) (with_front b (pieces bytes)) ≡ p ∷ ps)
    by_space true = ([], pieces bytes, refl)
    by_space false = front (pieces bytes)

-- one byte more
after-more : (number : Option ℕ) (b : ℕ) (bytes : List ℕ) → ((n : Option ℕ) → after n (pieces bytes) ≡ read_on (λ n. n) n bytes)
    → after number (cond (b == 32) ([] ∷ pieces bytes) (with_front b (pieces bytes)))
    ≡ cond (b == 32) (in_front number (read_on (λ n. n) None bytes)) (cond (is_ascii_digit b) (read_on (λ n. n) (Some (next_digit number b)) bytes) None)
after-more number b bytes before = by_space (b == 32)
  where
    parts : (p : List ℕ) × (ps : List (List ℕ)) × (pieces bytes ≡ p ∷ ps)
    parts = split bytes

    next : numbers_in (pieces bytes) ≡ read_on (λ n. n) None bytes
    next = ap numbers_in parts.2 ∙ sym (after-none parts.0 parts.1) ∙ sym (ap (after None) parts.2) ∙ before None

    by_digit : (d : Bool) → in_front (cond d (continued (Some (next_digit number b)) parts.0) None) (numbers_in parts.1) ≡ cond d (read_on (λ n. n) (Some (next_digit number b)) bytes) None
    by_digit true = sym (ap (after (Some (next_digit number b))) parts.2) ∙ before (Some (next_digit number b))
    by_digit false = refl

    by_space : (s : Bool) → after number (cond s ([] ∷ pieces bytes) (with_front b (pieces bytes)))
        ≡ cond s (in_front number (read_on (λ n. n) None bytes)) (cond (is_ascii_digit b) (read_on (λ n. n) (Some (next_digit number b)) bytes) None)
    by_space true = ap (in_front number) next
    by_space false = ap (λ ps. after number (with_front b ps)) parts.2 ∙ by_digit (is_ascii_digit b)

after-pieces : (number : Option ℕ) (bytes : List ℕ) → after number (pieces bytes) ≡ read_on (λ n. n) number bytes
unfolding pieces read_on
after-pieces number [] = refl
after-pieces number (b ∷ bytes) = after-more number b bytes (λ n. after-pieces n bytes)

numbers_of-read_on : (line : List ℕ) → numbers_of line ≡ read_on (λ n. n) None line
unfolding numbers_of
numbers_of-read_on line =
    let parts = split line in
    ap numbers_in parts.2 ∙ sym (after-none parts.0 parts.1) ∙ sym (ap (after None) parts.2) ∙ after-pieces None line

-- one digit more of a cut number is, cut, one digit more of the number
pub clamped-digit : (number : Option ℕ) (b : ℕ) → clamped (next_digit (option_map clamped number) b) ≡ clamped (next_digit number b)
clamped-digit None b = refl
clamped-digit (Some n) b = omega arith

in_front-map : (number : Option ℕ) (rest : Option (List ℕ)) → option_map (map clamped) (in_front number rest) ≡ in_front (option_map clamped number) (option_map (map clamped) rest)
in_front-map None rest = refl
in_front-map (Some n) None = refl
in_front-map (Some n) (Some ns) = refl

clamped-more : (number : Option ℕ) (b : ℕ) (bytes : List ℕ) → ((n : Option ℕ) → option_map (map clamped) (read_on (λ n. n) n bytes) ≡ read_on clamped (option_map clamped n) bytes)
    → (s d : Bool) → option_map (map clamped) (cond s (in_front number (read_on (λ n. n) None bytes)) (cond d (read_on (λ n. n) (Some (next_digit number b)) bytes) None))
    ≡ cond s (in_front (option_map clamped number) (read_on clamped None bytes)) (cond d (read_on clamped (Some (clamped (next_digit (option_map clamped number) b))) bytes) None)
clamped-more number b bytes before true d = in_front-map number (read_on (λ n. n) None bytes) ∙ ap (in_front (option_map clamped number)) (before None)
clamped-more number b bytes before false true = before (Some (next_digit number b)) ∙ ap (λ n. read_on clamped (Some n) bytes) (sym (clamped-digit number b))
clamped-more number b bytes before false false = refl

-- numbers cut digit by digit are the numbers cut
read_on-clamped : (number : Option ℕ) (bytes : List ℕ) → option_map (map clamped) (read_on (λ n. n) number bytes) ≡ read_on clamped (option_map clamped number) bytes
unfolding read_on
read_on-clamped number [] = in_front-map number (Some [])
read_on-clamped number (b ∷ bytes) = clamped-more number b bytes (λ n. read_on-clamped n bytes) (b == 32) (is_ascii_digit b)

-- read from the start of a line, numbers are those of the whole line
pub finished-start : (line : List ℕ) → finished [] (read_on clamped None line) ≡ row_of line
unfolding row_of
finished-start line = sym (ap (finished []) (read_on-clamped None line)) ∙ by_option (read_on (λ n. n) None line) ∙ ap (option_and_then (λ ns. up_to_nine (map clamped ns))) (sym (numbers_of-read_on line))
  where
    by_option : (o : Option (List ℕ)) → finished [] (option_map (map clamped) o) ≡ option_and_then (λ ns. up_to_nine (map clamped ns)) o
    by_option None = refl
    by_option (Some ns) = refl

-- ---- one byte more

-- a space ends the number that was begun
pub at_space : (number : Option ℕ) (rest : List ℕ) → read_on clamped number (32 ∷ rest) ≡ in_front number (read_on clamped None rest)
unfolding read_on
at_space number rest = refl

-- a digit is one more of the number that was begun, or its first
pub at_digit : (number : Option ℕ) (b : ℕ) (rest : List ℕ) → (b ≡ 32 → ⊥) → is_ascii_digit b ≡ true → read_on clamped number (b ∷ rest) ≡ read_on clamped (Some (clamped (next_digit number b))) rest
unfolding read_on
at_digit number b rest no_space digit = cond-false _ _ _ (ne_eqb b 32 no_space) ∙ cond-true _ _ _ digit

-- a byte that is neither a space nor a digit leaves no numbers
pub at_other : (number : Option ℕ) (b : ℕ) (rest : List ℕ) → (b ≡ 32 → ⊥) → is_ascii_digit b ≡ false → read_on clamped number (b ∷ rest) ≡ None
unfolding read_on
at_other number b rest no_space no_digit = cond-false _ _ _ (ne_eqb b 32 no_space) ∙ cond-false _ _ _ no_digit

-- a number that ends, if there is room for it, or none
pub with_room : (ns : List ℕ) (n : ℕ) (more : Option (List ℕ)) → finished (ns ++ n ∷ []) more ≡ finished ns (in_front (Some n) more)
with_room ns n None = refl
with_room ns n (Some more) = ap up_to_nine (append_assoc ns (n ∷ []) more)

-- a tenth number leaves no numbers
pub without_room : (ns : List ℕ) (n : ℕ) (more : Option (List ℕ)) → length ns ≡ 9 → finished ns (in_front (Some n) more) ≡ None
without_room ns n None full = refl
without_room ns n (Some more) full = cond-false _ _ _ (lt-leb (length (ns ++ n ∷ more)) 9 (omega (arith, full, length-append ns (n ∷ more))))

-- if a number ends that wasn't begun, there are no numbers
pub no_number : (ns : List ℕ) (more : Option (List ℕ)) → finished ns (in_front None more) ≡ None
no_number ns more = refl

-- a line that has ended
pub at_end : (number : Option ℕ) → read_on clamped number [] ≡ in_front number (Some [])
unfolding read_on
at_end number = refl

-- up to nine numbers that nothing follows are the line's
pub all_numbers : (ns : List ℕ) → length ns ≤ 9 → finished ns (Some []) ≡ Some ns
all_numbers ns short = ap up_to_nine (append-nil ns) ∙ cond-true _ _ _ (le-leb (length ns) 9 short)

-- nothing that was refused is spelt
pub stays_none : (spelt : Bool) → cond {A = Option (List ℕ)} spelt None None ≡ None
stays_none true = refl
stays_none false = refl
