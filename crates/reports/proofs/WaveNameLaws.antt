-- Names that stand in their places, words of justice properties, and names that are told apart.
use Rattle.std.proofs.Common.{ℕ, ◌+◌, ◌<◌, ◌≤◌, ◌≡◌, ◌==◌, ◌&&◌, Bool, true, false, cond, not, nat_lt, suc, List, [], ◌∷◌, ◌++◌, length, take, get_or, bytes_eq, refl, arith, ap, ap₂, sym, ◌∙◌, append_assoc, zero-add}
use Rattle.std.specs.List.{list_any, slice_set}
use Rattle.std.proofs.lemmas.Bool.{le-ltb, lt-ltb}
use Rattle.std.proofs.lemmas.List.{get_or_default, length-set}
use Rattle.aig_graph.proofs.TableLaws.{table-more, table-none}
use Rattle.aig_graph.specs.declared.properties.Symbol.{Symbol}
use Rattle.reports.specs.waves.Names.{apart, apart_where, is_again, legal_name, literal_word, property_words, with_legal_name, with_symbols, words_before}

-- ---- names in their places

-- a name that was put in its place
pub name-set : (names : List (List ℕ)) (s : Symbol) (name : List ℕ) (empty : Bool) → s.position < length names → empty ≡ (length s.name == 0) → empty ≡ false
    → name ≡ legal_name s.name → slice_set names s.position name ≡ with_legal_name names s
unfolding with_legal_name
name-set names s name empty inside test isnt is =
    ap (slice_set names s.position) is
    ∙ sym (ap₂ (λ (a b : Bool). cond (a && not b) (slice_set names s.position (legal_name s.name)) names) (lt-ltb s.position (length names) inside) (sym test ∙ isnt))

-- there is no such place
pub none-past : (names : List (List ℕ)) (s : Symbol) → length names ≤ s.position → names ≡ with_legal_name names s
unfolding with_legal_name
none-past names s past =
    sym (ap (λ (a : Bool). cond (a && not (length s.name == 0)) (slice_set names s.position (legal_name s.name)) names) (le-ltb s.position (length names) past))

neither : {A : Type 0} (a : Bool) (x y : A) → cond (a && false) x y ≡ y
neither true x y = refl
neither false x y = refl

-- a name without bytes is none
pub none-without_bytes : (names : List (List ℕ)) (s : Symbol) (empty : Bool) → empty ≡ (length s.name == 0) → empty ≡ true → names ≡ with_legal_name names s
unfolding with_legal_name
none-without_bytes names s empty test is =
    let there : Bool = nat_lt s.position (length names) in
    let set : List (List ℕ) = slice_set names s.position (legal_name s.name) in
    sym (ap (λ (b : Bool). cond (there && not b) set names) (sym test ∙ is) ∙ neither there set names)

either-long : (b : Bool) (xs ys : List (List ℕ)) → length xs ≡ length ys → length (cond b xs ys) ≡ length ys
either-long true xs ys same = same
either-long false xs ys same = refl

length-with_symbol : (names : List (List ℕ)) (s : Symbol) → length (with_legal_name names s) ≡ length names
unfolding with_legal_name
length-with_symbol names s =
    either-long (nat_lt s.position (length names) && not (length s.name == 0)) (slice_set names s.position (legal_name s.name)) names
    (length-set names s.position (legal_name s.name))

-- there are as many names as before
pub length-with_symbols : (names : List (List ℕ)) (symbols : List Symbol) → length (with_symbols names symbols) ≡ length names
length-with_symbols names [] = refl
length-with_symbols names (s ∷ symbols) = length-with_symbols (with_legal_name names s) symbols ∙ length-with_symbol names s

-- ---- words of literals

-- no words of no literals
pub no-words : (property : ℕ) → property_words property 0 ≡ []
no-words property = table-none 0 (literal_word property)

-- one word more
pub one-more_word : (start xs ys : List (List ℕ)) (property n : ℕ) (w : List ℕ) → xs ≡ start ++ property_words property n → ys ≡ xs ++ w ∷ []
    → w ≡ literal_word property n → ys ≡ start ++ property_words property (n + 1)
one-more_word start xs ys property n w before pushed is =
    let word : w ≡ literal_word property (0 + n) = is ∙ ap (literal_word property) (sym (zero-add n)) in
    pushed ∙ ap₂ (λ zs z. zs ++ z ∷ []) before word ∙ append_assoc start (property_words property n) (literal_word property (0 + n) ∷ [])
    ∙ ap (λ zs. start ++ zs) (sym (table-more 0 n (literal_word property)))

-- the words of one property more
pub one-more_property : (start xs ys : List (List ℕ)) (justice : List (List ℕ)) (k : ℕ) (lits : List ℕ) → k < length justice → lits ≡ get_or justice k lits
    → xs ≡ start ++ words_before justice k → ys ≡ xs ++ property_words k (length lits) → ys ≡ start ++ words_before justice (k + 1)
one-more_property start xs ys justice k lits less is before added =
    let next : k + 1 ≡ suc k = omega arith in
    let same : lits ≡ get_or justice k [] = is ∙ get_or_default justice k lits [] less in
    added ∙ ap₂ (λ zs (ls : List ℕ). zs ++ property_words k (length ls)) before same
    ∙ append_assoc start (words_before justice k) (property_words k (length (get_or justice k []))) ∙ ap (λ n. start ++ words_before justice n) (sym next)

-- ---- names told apart

twice : (b : Bool) → not (not b) ≡ b
twice true = refl
twice false = refl

-- a name that was looked for among those before it, and told apart if it was there
pub apart-is : (names : List (List ℕ)) (k : ℕ) (item name : List ℕ) (is_new has : Bool) (told : List ℕ) → k < length names → item ≡ get_or names k item → name ≡ item
    → is_new ≡ not has → has ≡ list_any (bytes_eq name) (take k names) → told ≡ apart_where (not is_new) item k → told ≡ apart names (0 + k)
apart-is names k item name is_new has told less at is new found made =
    let same : item ≡ get_or names k [] = at ∙ get_or_default names k item [] less in
    let again : not is_new ≡ is_again names k = ap not new ∙ twice has ∙ found ∙ ap (λ (n : List ℕ). list_any (bytes_eq n) (take k names)) (is ∙ same) in
    made ∙ ap₂ (λ a n. apart_where a n k) again same ∙ ap (apart names) (sym (zero-add k))
