-- Lines of bytes that come in pieces.
use Rattle.std.proofs.Common.{ℕ, ◌≡◌, List, [], ◌∷◌, ◌++◌, length, Result, Ok, Err, Bool, true, false, not, cond, nat_eq, refl, ap, ap₂, ◌∙◌}
use Rattle.std.proofs.lemmas.Bool.{cond-false, and_parts, not-true}
use Rattle.file_words.specs.declared.fault.ReadError.{ReadError}
use Rattle.file_words.specs.Lines.{with_front, lines}
use Rattle.file_words.specs.Cuts.{lacks}
use Rattle.file_words.specs.Answering.{◌>>=◌}
use Rattle.ascii_file.specs.Reading.{State, AtHeader, take_line, take_lines, finish, read_bytes}
use Rattle.ascii_file.specs.Pieces.{with_first, with_open, ended_lines, open_line, fed, with_last_line, closed, PiecesLaw}

-- the open line, if it has a byte
abbrev last_lines : List ℕ → List (List ℕ)
last_lines [] = []
last_lines (b ∷ line) = (b ∷ line) ∷ []

-- ---- all lines are those that are ended, and the last one

parted : (bytes : List ℕ) → lines bytes ≡ ended_lines bytes ++ last_lines (open_line bytes)
unfolding lines ended_lines open_line
parted [] = refl
parted (b ∷ bytes) = by_test (nat_eq b 10) (parted bytes)
  where
    front : (ended : List (List ℕ)) (last : List ℕ) → with_front b (ended ++ last_lines last) ≡ with_first b ended ++ last_lines (with_open b ended last)
    front [] [] = refl
    front [] (c ∷ last) = refl
    front (line ∷ rest) last = refl

    by_test : (test : Bool) → lines bytes ≡ ended_lines bytes ++ last_lines (open_line bytes)
        → cond test ([] ∷ lines bytes) (with_front b (lines bytes)) ≡ cond test ([] ∷ ended_lines bytes) (with_first b (ended_lines bytes)) ++ last_lines (cond test (open_line bytes) (with_open b (ended_lines bytes) (open_line bytes)))
    by_test true e = ap (λ (ls : List (List ℕ)). [] ∷ ls) e
    by_test false e = ap (with_front b) e ∙ front (ended_lines bytes) (open_line bytes)

-- ---- lines one after the other

-- lines that are joined are taken one list after the other
pub take_lines-append : (xs ys : List (List ℕ)) (state : State) → take_lines state (xs ++ ys) ≡ (take_lines state xs >>= λ next. take_lines next ys)
unfolding take_lines
take_lines-append [] ys state = refl
take_lines-append (x ∷ xs) ys state = by_first (take_line state x) (take_lines-append xs ys)
  where
    by_first : (first : Result State ReadError) → ((next : State) → take_lines next (xs ++ ys) ≡ (take_lines next xs >>= λ t. take_lines t ys))
        → (first >>= λ next. take_lines next (xs ++ ys)) ≡ ((first >>= λ next. take_lines next xs) >>= λ next. take_lines next ys)
    by_first (Ok next) later = later next
    by_first (Err e) later = refl

one_line : (state : State) (line : List ℕ) → take_lines state (last_lines line) ≡ with_last_line state line
unfolding take_lines
one_line state [] = refl
one_line state (b ∷ line) = by_result (take_line state (b ∷ line))
  where
    by_result : (r : Result State ReadError) → (r >>= λ next. Ok next) ≡ r
    by_result (Ok next) = refl
    by_result (Err e) = refl

-- ---- more bytes

-- lines that are ended stay
pub ended-more : (bytes more : List ℕ) → (rest : List (List ℕ)) × (ended_lines (bytes ++ more) ≡ ended_lines bytes ++ rest)
unfolding ended_lines
ended-more [] more = (ended_lines more, refl)
ended-more (b ∷ bytes) more = by_test (nat_eq b 10) (ended-more bytes more)
  where
    front : (ended rest : List (List ℕ)) → (next : List (List ℕ)) × (with_first b (ended ++ rest) ≡ with_first b ended ++ next)
    front [] rest = (with_first b rest, refl)
    front (line ∷ ended) rest = (rest, refl)

    by_test : (test : Bool) → (rest : List (List ℕ)) × (ended_lines (bytes ++ more) ≡ ended_lines bytes ++ rest)
        → (next : List (List ℕ)) × (cond test ([] ∷ ended_lines (bytes ++ more)) (with_first b (ended_lines (bytes ++ more))) ≡ cond test ([] ∷ ended_lines bytes) (with_first b (ended_lines bytes)) ++ next)
    by_test true found = (found.0, ap (λ (ls : List (List ℕ)). [] ∷ ls) found.1)
    by_test false found = let next = front (ended_lines bytes) found.0 in (next.0, ap (with_first b) found.1 ∙ next.1)

-- bytes without a newline go on with the open line
no_line : (part : List ℕ) → lacks 10 part ≡ true → (ended_lines part ≡ []) × (open_line part ≡ part)
unfolding ended_lines open_line
no_line [] clean = (refl, refl)
no_line (b ∷ part) clean =
    let parts = and_parts (not (nat_eq b 10)) (lacks 10 part) clean in
    let other = not-true (nat_eq b 10) parts.0 in
    let later = no_line part parts.1 in (
      cond-false (nat_eq b 10) ([] ∷ ended_lines part) (with_first b (ended_lines part)) other ∙ ap (with_first b) later.0,
      cond-false (nat_eq b 10) (open_line part) (with_open b (ended_lines part) (open_line part)) other ∙ ap₂ (with_open b) later.0 later.1,
    )

-- ---- a part of a line, and the part that ends it

module _ (more : List ℕ) (rest : List (List ℕ)) where
  -- what more bytes do if nothing stands before them
  abbrev Alone : List ℕ → Type 0
  Alone last = (ended_lines more ≡ rest) × (open_line more ≡ last)

-- the part has no newline
part_alone : (part : List ℕ) → lacks 10 part ≡ true → Alone part [] part
unfolding ended_lines open_line
part_alone [] clean = (refl, refl)
part_alone (b ∷ part) clean =
    let parts = and_parts (not (nat_eq b 10)) (lacks 10 part) clean in
    let other = not-true (nat_eq b 10) parts.0 in
    let later = part_alone part parts.1 in (
      cond-false (nat_eq b 10) ([] ∷ ended_lines part) (with_first b (ended_lines part)) other ∙ ap (with_first b) later.0,
      cond-false (nat_eq b 10) (open_line part) (with_open b (ended_lines part) (open_line part)) other ∙ ap₂ (with_open b) later.0 later.1,
    )

-- a part without a newline ends no line, and goes on with the open one
pub part_taken : (part bytes : List ℕ) → lacks 10 part ≡ true → (ended_lines (bytes ++ part) ≡ ended_lines bytes) × (open_line (bytes ++ part) ≡ open_line bytes ++ part)
unfolding ended_lines open_line
part_taken part [] clean = part_alone part clean
part_taken part (b ∷ bytes) clean = by_test (nat_eq b 10) (part_taken part bytes clean)
  where
    front : (ended : List (List ℕ)) (last : List ℕ) → with_open b ended (last ++ part) ≡ with_open b ended last ++ part
    front [] last = refl
    front (line ∷ ended) last = refl

    by_test : (test : Bool) → (ended_lines (bytes ++ part) ≡ ended_lines bytes) × (open_line (bytes ++ part) ≡ open_line bytes ++ part)
        → (cond test ([] ∷ ended_lines (bytes ++ part)) (with_first b (ended_lines (bytes ++ part))) ≡ cond test ([] ∷ ended_lines bytes) (with_first b (ended_lines bytes)))
        × (cond test (open_line (bytes ++ part)) (with_open b (ended_lines (bytes ++ part)) (open_line (bytes ++ part))) ≡ cond test (open_line bytes) (with_open b (ended_lines bytes) (open_line bytes)) ++ part)
    by_test true on = (ap (λ (ls : List (List ℕ)). [] ∷ ls) on.0, on.1)
    by_test false on = (ap (with_first b) on.0, ap₂ (with_open b) on.0 on.1 ∙ front (ended_lines bytes) (open_line bytes))

-- the part is followed by a newline
end_alone : (part : List ℕ) → lacks 10 part ≡ true → Alone (part ++ 10 ∷ []) (part ∷ []) []
unfolding ended_lines open_line
end_alone [] clean = (refl, refl)
end_alone (b ∷ part) clean =
    let parts = and_parts (not (nat_eq b 10)) (lacks 10 part) clean in
    let other = not-true (nat_eq b 10) parts.0 in
    let more = part ++ 10 ∷ [] in
    let later = end_alone part parts.1 in (
      cond-false (nat_eq b 10) ([] ∷ ended_lines more) (with_first b (ended_lines more)) other ∙ ap (with_first b) later.0,
      cond-false (nat_eq b 10) (open_line more) (with_open b (ended_lines more) (open_line more)) other ∙ ap₂ (with_open b) later.0 later.1,
    )

-- a part and its newline end the open line, and leave none open
pub end_taken : (part bytes : List ℕ) → lacks 10 part ≡ true
    → (ended_lines (bytes ++ (part ++ 10 ∷ [])) ≡ ended_lines bytes ++ (open_line bytes ++ part) ∷ []) × (open_line (bytes ++ (part ++ 10 ∷ [])) ≡ [])
unfolding ended_lines open_line
end_taken part [] clean = end_alone part clean
end_taken part (b ∷ bytes) clean = by_test (nat_eq b 10) (end_taken part bytes clean)
  where
    more : List ℕ
    more = bytes ++ (part ++ 10 ∷ [])

    front : (ended : List (List ℕ)) (last : List ℕ) → with_first b (ended ++ (last ++ part) ∷ []) ≡ with_first b ended ++ (with_open b ended last ++ part) ∷ []
    front [] last = refl
    front (line ∷ ended) last = refl

    none_open : (ended : List (List ℕ)) (last : List ℕ) → with_open b (ended ++ (last ++ part) ∷ []) [] ≡ []
    none_open [] last = refl
    none_open (line ∷ ended) last = refl

    by_test : (test : Bool) → (ended_lines (bytes ++ (part ++ 10 ∷ [])) ≡ ended_lines bytes ++ (open_line bytes ++ part) ∷ []) × (open_line (bytes ++ (part ++ 10 ∷ [])) ≡ [])
        → (cond test ([] ∷ ended_lines (bytes ++ (part ++ 10 ∷ []))) (with_first b (ended_lines (bytes ++ (part ++ 10 ∷ []))))
        ≡ cond test ([] ∷ ended_lines bytes) (with_first b (ended_lines bytes)) ++ (cond test (open_line bytes) (with_open b (ended_lines bytes) (open_line bytes)) ++ part) ∷ [])
        × (cond test (open_line (bytes ++ (part ++ 10 ∷ []))) (with_open b (ended_lines (bytes ++ (part ++ 10 ∷ []))) (open_line (bytes ++ (part ++ 10 ∷ [])))) ≡ [])
    by_test true on = (ap (λ (ls : List (List ℕ)). [] ∷ ls) on.0, on.1)
    by_test false on = (ap (with_first b) on.0 ∙ front (ended_lines bytes) (open_line bytes), ap₂ (with_open b) on.0 on.1 ∙ none_open (ended_lines bytes) (open_line bytes))

-- ---- the law

-- steps that may fail, one after another, in either grouping
pub bind_assoc : {A B C : Type 0} (r : Result A ReadError) (f : A → Result B ReadError) (g : B → Result C ReadError) → ((r >>= f) >>= g) ≡ (r >>= λ x. f x >>= g)
bind_assoc (Ok x) f g = refl
bind_assoc (Err e) f g = refl

bind_same : {A B : Type 0} (r : Result A ReadError) (f g : A → Result B ReadError) → ((x : A) → f x ≡ g x) → (r >>= f) ≡ (r >>= g)
bind_same (Ok x) f g same = same x
bind_same (Err e) f g same = refl

whole : (bytes : List ℕ) → read_bytes bytes ≡ (fed bytes >>= closed bytes)
unfolding read_bytes fed closed
whole bytes =
    let ended = take_lines AtHeader (ended_lines bytes) in
    ap (λ (ls : List (List ℕ)). take_lines AtHeader ls >>= finish (length bytes)) (parted bytes)
    ∙ ap (λ (r : Result State ReadError). r >>= finish (length bytes)) (take_lines-append (ended_lines bytes) (last_lines (open_line bytes)) AtHeader)
    ∙ bind_assoc ended (λ next. take_lines next (last_lines (open_line bytes))) (finish (length bytes))
    ∙ bind_same ended (λ next. take_lines next (last_lines (open_line bytes)) >>= finish (length bytes)) (λ next. with_last_line next (open_line bytes) >>= finish (length bytes))
    (λ next. ap (λ (r : Result State ReadError). r >>= finish (length bytes)) (one_line next (open_line bytes)))

stays : (bytes more : List ℕ) (e : ReadError) → fed bytes ≡ Err e → fed (bytes ++ more) ≡ Err e
unfolding fed
stays bytes more e was =
    let found = ended-more bytes more in
    ap (take_lines AtHeader) found.1 ∙ take_lines-append (ended_lines bytes) found.0 AtHeader ∙ ap (λ (r : Result State ReadError). r >>= λ next. take_lines next found.0) was

-- reading bytes is feeding them and closing, and a fault of what was fed stays
pub the_pieces_law : (bytes more : List ℕ) → PiecesLaw bytes more
the_pieces_law bytes more = record { whole = whole bytes; stays = stays bytes more; fault = λ e was. whole bytes ∙ ap (λ (r : Result State ReadError). r >>= closed bytes) was }
