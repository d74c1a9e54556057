-- Tables by variable, as lists.
use Rattle.std.proofs.Common.{ℕ, ◌+◌, ◌<◌, ◌≤◌, ◌≡◌, List, [], ◌∷◌, ◌++◌, length, Bool, true, false, get_or, refl, arith, ap, sym, ◌∙◌}
use Rattle.std.proofs.lemmas.Bool.{cond-true, cond-false}
use Rattle.std.proofs.lemmas.List.{ext_get_or}
use Rattle.std.proofs.lemmas.List.FromFn.{length-map-range_with_len, get_or-map-range_with_len, map-range_with_len_more}
use Rattle.aig_graph.specs.Counting.{numbered, count_below}
use Rattle.aig_graph.specs.Tables.{table}

-- a table of n variables has n entries
pub length-table : {A : Type 0} (first n : ℕ) (f : ℕ → A) → length (table first n f) ≡ n
unfolding table
length-table first n f = length-map-range_with_len f first n

-- the entry at place k is that of the k-th variable from the first on
pub table-at : {A : Type 0} (first n : ℕ) (f : ℕ → A) (k : ℕ) (d : A) → k < n → get_or (table first n f) k d ≡ f (first + k)
unfolding table
table-at first n f k d h = get_or-map-range_with_len f first n k (first + k) d h refl

-- a table of no variables is empty
pub table-none : {A : Type 0} (first : ℕ) (f : ℕ → A) → table first 0 f ≡ []
unfolding table
table-none first f = refl

-- a table of one variable more has that one's entry at its end
pub table-more : {A : Type 0} (first n : ℕ) (f : ℕ → A) → table first (n + 1) f ≡ table first n f ++ f (first + n) ∷ []
unfolding table
table-more first n f = map-range_with_len_more f first n (first + n) refl

-- a list that has at each place what f gives
pub table-from : {A : Type 0} (first n : ℕ) (f : ℕ → A) (xs : List A) (d : A) → length xs ≡ n → ((k : ℕ) → k < n → get_or xs k d ≡ f (first + k)) → xs ≡ table first n f
table-from first n f xs d long each =
    ext_get_or d xs (table first n f) (long ∙ sym (length-table first n f)) (λ k h. each k (omega arith) ∙ sym (table-at first n f k d (omega arith)))

-- functions that agree on the variables of a table give one table
pub table-same : {A : Type 0} (first n : ℕ) (f g : ℕ → A) (d : A) → ((v : ℕ) → first ≤ v → v < first + n → f v ≡ g v) → table first n f ≡ table first n g
table-same first n f g d same =
    table-from first n g (table first n f) d (length-table first n f) (λ k h. table-at first n f k d h ∙ same (first + k) (omega arith) (omega arith))

-- one more entry of a table
pub entry : {A : Type 0} (first n : ℕ) (f : ℕ → A) (xs ys : List A) (x : A) → xs ≡ table first n f → ys ≡ xs ++ x ∷ [] → x ≡ f (first + n) → ys ≡ table first (n + 1) f
entry {A} first n f xs ys x before pushed here =
    pushed ∙ ap (λ (zs : List A). zs ++ x ∷ []) before ∙ ap (λ (z : A). table first n f ++ z ∷ []) here ∙ sym (table-more first n f)

-- a table at the end of a loop
pub table-end : {A : Type 0} (first n m : ℕ) (f : ℕ → A) (xs : List A) → n ≤ m → m ≤ n → xs ≡ table first n f → xs ≡ table first m f
table-end first n m f xs h k filled = let same : n ≡ m = omega arith in filled ∙ ap (λ (i : ℕ). table first i f) same

-- a table that says how long it is
pub whole-table : {A : Type 0} (first n : ℕ) (f : ℕ → A) (xs ys : List A) → xs ≡ ys → ys ≡ table first n f → xs ≡ table first (length xs) f
whole-table {A} first n f xs ys same filled =
    let here : xs ≡ table first n f = same ∙ filled in
    let long : n ≡ length xs = sym (length-table first n f) ∙ ap (λ (zs : List A). length zs) (sym here) in
    here ∙ ap (λ (m : ℕ). table first m f) long

-- the entry of a variable that the table covers
pub read-table : {A : Type 0} (first n : ℕ) (f : ℕ → A) (xs : List A) (k v : ℕ) (r : A) → xs ≡ table first n f → k < n → first + k ≡ v → r ≡ get_or xs k r → r ≡ f v
read-table {A} first n f xs k v r filled h place read =
    read ∙ ap (λ (ys : List A). get_or ys k r) filled ∙ table-at first n f k r h ∙ ap f place

-- what passes the first test is numbered by its rank from the first number on
pub numbered-first : (p q : ℕ → Bool) (first next v : ℕ) → p v ≡ true → numbered p q first next v ≡ first + count_below p v
unfolding numbered
numbered-first p q first next v passes = cond-true (p v) _ _ passes

-- what passes the second test alone is numbered by its rank from the next number on
pub numbered-next : (p q : ℕ → Bool) (first next v : ℕ) → p v ≡ false → q v ≡ true → numbered p q first next v ≡ next + count_below q v
unfolding numbered
numbered-next p q first next v fails passes = cond-false (p v) _ _ fails ∙ cond-true (q v) _ _ passes

-- what passes neither test keeps its own number
pub numbered-other : (p q : ℕ → Bool) (first next v : ℕ) → p v ≡ false → q v ≡ false → numbered p q first next v ≡ v
unfolding numbered
numbered-other p q first next v fails other = cond-false (p v) _ _ fails ∙ cond-false (q v) _ _ other
