-- The first three bytes, and the spelling that they name.
use Rattle.std.proofs.Common.{ℕ, ◌+◌, ◌<◌, ◌≤◌, ◌≡◌, inl, inr, List, [], ◌∷◌, ◌++◌, length, take, drop, get_or, Option, Some, None, nat_eq, refl, sym, ap, subst, ◌∙◌, append_assoc, arith}
use Rattle.std.proofs.Math.Bool.{and-false}
use Rattle.std.proofs.lemmas.Bool.{cases_lt}
use Rattle.std.proofs.lemmas.List.{take_more, take-append-drop}
use Rattle.file_words.specs.declared.spelling.Spelling.{Spelling}
use Rattle.aig_binary.specs.Spellings.{spelling_of}

-- ---- three bytes

-- if the first three are fewer, they are all
pub short_whole : (xs : List ℕ) → length (take 3 xs) < 3 → (take 3 xs ≡ xs) × (length xs < 3)
short_whole [] few = (refl, omega arith)
short_whole (a ∷ []) few = (refl, omega arith)
short_whole (a ∷ b ∷ []) few = (refl, omega arith)
short_whole (a ∷ b ∷ d ∷ xs) few = absurd (omega (arith, few))

push_short : (xs : List ℕ) (x : ℕ) → length xs < 3 → take 3 (xs ++ x ∷ []) ≡ xs ++ x ∷ []
push_short [] x few = refl
push_short (a ∷ []) x few = refl
push_short (a ∷ b ∷ []) x few = refl
push_short (a ∷ b ∷ d ∷ xs) x few = absurd (omega (arith, few))

full_stays : (xs more : List ℕ) → 3 ≤ length (take 3 xs) → take 3 (xs ++ more) ≡ take 3 xs
full_stays [] more full = absurd (omega (arith, full))
full_stays (a ∷ []) more full = absurd (omega (arith, full))
full_stays (a ∷ b ∷ []) more full = absurd (omega (arith, full))
full_stays (a ∷ b ∷ d ∷ xs) more full = refl

-- nothing more
pub letters_begin : (old : List ℕ) → length old ≤ 3 → old ≡ take 3 (old ++ [])
letters_begin [] few = refl
letters_begin (a ∷ []) few = refl
letters_begin (a ∷ b ∷ []) few = refl
letters_begin (a ∷ b ∷ d ∷ []) few = refl
letters_begin (a ∷ b ∷ d ∷ e ∷ xs) few = absurd (omega (arith, few))

-- the first three bytes are at most three
pub three_at_most : (xs : List ℕ) → length (take 3 xs) ≤ 3
three_at_most [] = omega arith
three_at_most (a ∷ []) = omega arith
three_at_most (a ∷ b ∷ []) = omega arith
three_at_most (a ∷ b ∷ d ∷ xs) = omega arith

-- if the first three bytes are three, there are more than two
pub three_many : (xs : List ℕ) → 3 ≤ length (take 3 xs) → 2 < length xs
three_many [] many = absurd (omega (arith, many))
three_many (a ∷ []) many = absurd (omega (arith, many))
three_many (a ∷ b ∷ []) many = absurd (omega (arith, many))
three_many (a ∷ b ∷ d ∷ xs) many = omega arith

-- three bytes, and what follows them
pub taken_twice : (xs more : List ℕ) → take 3 (take 3 xs ++ more) ≡ take 3 (xs ++ more)
taken_twice [] more = refl
taken_twice (a ∷ []) more = refl
taken_twice (a ∷ b ∷ []) more = refl
taken_twice (a ∷ b ∷ d ∷ xs) more = refl

-- one byte more, if there is room
pub letters_next : (old bytes items : List ℕ) (k x : ℕ) → items ≡ take 3 (old ++ take k bytes) → length items < 3 → k < length bytes → x ≡ get_or bytes k x → items ++ x ∷ [] ≡ take 3 (old ++ take (k + 1) bytes)
letters_next old bytes items k x are room within here =
    let whole = short_whole (old ++ take k bytes) (subst (λ (l : List ℕ). length l < 3) are room) in
    let one_more : take (k + 1) bytes ≡ take k bytes ++ x ∷ [] = take_more bytes k x within ∙ ap (λ y. take k bytes ++ y ∷ []) (sym here) in
    ap (λ (l : List ℕ). l ++ x ∷ []) (are ∙ whole.0) ∙ sym (push_short (old ++ take k bytes) x whole.1)
    ∙ ap (take 3) (append_assoc old (take k bytes) (x ∷ []) ∙ ap (λ (l : List ℕ). old ++ l) (sym one_more))

-- if there is no room, the rest changes nothing
pub letters_full : (old bytes items : List ℕ) (k : ℕ) → items ≡ take 3 (old ++ take k bytes) → 3 ≤ length items → items ≡ take 3 (old ++ bytes)
letters_full old bytes items k are full =
    are ∙ sym (full_stays (old ++ take k bytes) (drop k bytes) (subst (λ (l : List ℕ). 3 ≤ length l) are full))
    ∙ ap (take 3) (append_assoc old (take k bytes) (drop k bytes) ∙ ap (λ (l : List ℕ). old ++ l) (take-append-drop k bytes))

-- ---- the spelling

-- it is named by the first three
pub by_letters : (xs : List ℕ) → spelling_of (take 3 xs) ≡ spelling_of xs
by_letters [] = refl
by_letters (a ∷ []) = refl
by_letters (a ∷ b ∷ []) = refl
by_letters (a ∷ b ∷ d ∷ xs) = refl

-- fewer than three name none
pub none_short : (xs : List ℕ) → length xs < 3 → spelling_of xs ≡ None
none_short [] few = refl
none_short (a ∷ []) few = rw (and-false (nat_eq 97 a)) refl
none_short (a ∷ b ∷ []) few = rw (and-false (nat_eq 97 b), and-false (nat_eq 105 b), and-false (nat_eq 97 a)) refl
none_short (a ∷ b ∷ d ∷ xs) few = absurd (omega (arith, few))

-- what follows changes nothing
pub letters_stay : (xs more : List ℕ) → 2 < length xs → spelling_of (xs ++ more) ≡ spelling_of xs
letters_stay [] more many = absurd (omega (arith, many))
letters_stay (a ∷ []) more many = absurd (omega (arith, many))
letters_stay (a ∷ b ∷ []) more many = absurd (omega (arith, many))
letters_stay (a ∷ b ∷ d ∷ xs) more many = refl

-- bytes that name a spelling are more than two
pub named_long : (xs : List ℕ) (spelling : Spelling) → spelling_of xs ≡ Some spelling → 2 < length xs
named_long xs spelling named = elim (cases_lt (length xs) 3) [
  | inl few ↦ absurd (none_some (sym (none_short xs few) ∙ named))
  | inr many ↦ omega (arith, many)
]
  where
    none_some : ◌≡◌ {A = Option Spelling} None (Some spelling) → ⊥
    none_some e = cc

-- bytes that name a spelling name it whatever follows them
pub named_stays : (xs more : List ℕ) (spelling : Spelling) → spelling_of xs ≡ Some spelling → spelling_of (xs ++ more) ≡ Some spelling
named_stays xs more spelling named = letters_stay xs more (named_long xs spelling named) ∙ named
