-- Names by position, and what is read of a file's symbols.
use Rattle.std.proofs.Common.{ℕ, ◌≡◌, List, [], ◌∷◌, ◌++◌, fold, Bool, true, false, not, cond, ◌==◌, ◌||◌, ◌&&◌, nat_eq, nat_lt, Result, Ok, Err, IfOk, Option, Some, refl, sym, ap, subst, ◌∙◌, arith}
use Rattle.std.specs.List.{list_any}
use Rattle.std.specs.Option.{is_some}
use Rattle.std.specs.Ordering.{nat_cmp, is_eq, match_ordering}
use Rattle.std.specs.declared.cmp.Ordering.TheVariants.{Less, Equal, Greater}
use Rattle.std.specs.Map.{lookup}
use Rattle.std.specs.BTreeMap.{is_at, insert_entry}
use Rattle.std.proofs.Math.Bool.{or_comm, or_assoc}
use Rattle.std.proofs.lemmas.Bool.{ltb-true, ne_eqb, eq-eqb, eqb-true, eqb-false}
use Rattle.std.proofs.lemmas.List.Sums.{fold-append}
use Rattle.aig_graph.specs.declared.properties.Symbol.{Symbol}
use Rattle.aig_graph.specs.declared.properties.Symbols.{Symbols}
use Rattle.ascii_file.specs.declared.raw.SymbolKind.{SymbolKind}
use Rattle.ascii_file.specs.declared.raw.SymbolKind.TheVariants.{Input, Latch, Output, Bad, Constraint, Justice, Fairness}
use Rattle.ascii_file.specs.Raw.{RawSymbol, kind_number}
use Rattle.ascii_file.specs.Meaning.{with_name, with_symbol, names_of, symbols_of}
use Rattle.ascii_file.specs.Reading.{is_of_same}
use Rattle.ascii_file.specs.parts.Names.{symbol_at, with_new, symbols_in, has_position, names_of_kind, with_symbol_in, AreNamesOf}

-- ---- a map by position

equal_numbers : (p k : ℕ) → is_eq (nat_cmp p k) ≡ nat_eq p k
equal_numbers p k = by_test (nat_lt p k) (nat_eq p k) (λ less. ne_eqb p k (λ same. absurd (omega (arith, same, ltb-true p k less))))
  where
    by_test : (less same : Bool) → (less ≡ true → same ≡ false) → is_eq (cond less Less (cond same Equal Greater)) ≡ same
    by_test true same apart = sym (apart refl)
    by_test false true apart = refl
    by_test false false apart = refl

-- a map has a position if and only if one of its names has it
pub found : (p : ℕ) (es : List (ℕ × List ℕ)) → has_position (symbols_in es) p ≡ is_some (lookup (is_at (nat_cmp p)) es)
found p [] = refl
found p (e ∷ es) = by_test (nat_eq p e.0) (has_position (symbols_in es) p) e.1 (lookup (is_at (nat_cmp p)) es) (found p es)
    ∙ ap (λ (same : Bool). is_some (cond same (Some e.1) (lookup (is_at (nat_cmp p)) es))) (sym (equal_numbers p e.0))
  where
    by_test : (same rest : Bool) (name : List ℕ) (found : Option (List ℕ)) → rest ≡ is_some found → (same || rest) ≡ is_some (cond same (Some name) found)
    by_test true rest name found h = refl
    by_test false rest name found h = h

-- a position is taken among names if and only if the map that they are of has it
pub taken : (names : List Symbol) (p : ℕ) (es : List (ℕ × List ℕ)) (result : Bool) → symbols_in es ≡ names → result ≡ is_some (lookup (is_at (nat_cmp p)) es) → has_position names p ≡ result
taken names p es result seen is = ap (λ (ns : List Symbol). has_position ns p) (sym seen) ∙ found p es ∙ sym is

-- if neither of two holds, the first doesn't
pub or_first : (a b : Bool) → (a || b) ≡ false → a ≡ false
or_first true b h = h
or_first false b h = refl

-- if neither of two holds, the second doesn't
pub or_second : (a b : Bool) → (a || b) ≡ false → b ≡ false
or_second true b h = absurd (cc)
or_second false b h = h

-- an entry more, at a position that the map doesn't have, is a name more
pub inserted : (p : ℕ) (name : List ℕ) (es : List (ℕ × List ℕ)) → has_position (symbols_in es) p ≡ false
    → symbols_in (insert_entry nat_cmp es p name) ≡ with_name (symbols_in es) (record { position = p; name = name })
inserted p name [] none = refl
inserted p name (e ∷ es) none =
    by_test (nat_lt p e.0) (nat_eq p e.0) ((p, name) ∷ e ∷ es) ((e.0, name) ∷ es) (insert_entry nat_cmp es p name) (with_name (symbols_in es) (record { position = p; name = name }))
    (or_first (nat_eq p e.0) (has_position (symbols_in es) p) none) (inserted p name es (or_second (nat_eq p e.0) (has_position (symbols_in es) p) none))
  where
    by_test : (less same : Bool) (front over rest : List (ℕ × List ℕ)) (names : List Symbol) → same ≡ false → symbols_in rest ≡ names
        → symbols_in (match_ordering (cond less Less (cond same Equal Greater)) front over (e ∷ rest)) ≡ cond less (symbols_in front) (record { position = e.0; name = e.1 } ∷ names)
    by_test true same front over rest names apart more = refl
    by_test false true front over rest names apart more = absurd (cc)
    by_test false false front over rest names apart more = ap (λ (ns : List Symbol). record { position = e.0; name = e.1 } ∷ ns) more

-- ---- symbols of a file

-- a test of the other number first
pub equal_back : (a b : ℕ) → nat_eq a b ≡ nat_eq b a
equal_back a b = by_test (nat_eq b a) refl
  where
    by_test : (same : Bool) → nat_eq b a ≡ same → nat_eq a b ≡ same
    by_test true is = eq-eqb a b (sym (eqb-true b a is))
    by_test false is = ne_eqb a b (λ same. eqb-false b a is (sym same))

position_or : (less : Bool) (p : ℕ) (xs ys : List Symbol) → has_position (cond less xs ys) p ≡ cond less (has_position xs p) (has_position ys p)
position_or true p xs ys = refl
position_or false p xs ys = refl

-- among names with one more a position is taken that was taken before, or is the new name's
pub position-with_name : (p : ℕ) (names : List Symbol) (s : Symbol) → has_position (with_name names s) p ≡ (has_position names p || (p == s.position))
position-with_name p [] s = or_comm (p == s.position) false
position-with_name p (x ∷ names) s =
    position_or (nat_lt s.position x.position) p (s ∷ x ∷ names) (x ∷ with_name names s)
    ∙ by_test (nat_lt s.position x.position) (p == x.position) (has_position names p) (p == s.position) (has_position (with_name names s) p) (position-with_name p names s)
  where
    by_test : (less a b c more : Bool) → more ≡ (b || c) → cond less (c || (a || b)) (a || more) ≡ ((a || b) || c)
    by_test true a b c more is = or_comm c (a || b)
    by_test false true b c more is = refl
    by_test false false b c more is = is

-- a symbol more of a file, in the names of a kind
pub position-with_symbol : (kind : SymbolKind) (p : ℕ) (name : List ℕ) (names : List Symbol) (s : RawSymbol)
    → has_position (with_symbol kind names s) p ≡ (has_position names p || is_of_same (symbol_at kind p name) s)
position-with_symbol kind p name names s = by_test (nat_eq (kind_number kind) (kind_number s.kind)) (equal_back (kind_number s.kind) (kind_number kind))
  where
    by_test : (same : Bool) → nat_eq (kind_number s.kind) (kind_number kind) ≡ same
        → has_position (cond (nat_eq (kind_number s.kind) (kind_number kind)) (with_name names (record { position = s.position; name = s.name })) names) p ≡ (has_position names p || (same && (p == s.position)))
    by_test true is =
        ap (λ (same : Bool). has_position (cond same (with_name names (record { position = s.position; name = s.name })) names) p) is
        ∙ position-with_name p names (record { position = s.position; name = s.name })
    by_test false is =
        ap (λ (same : Bool). has_position (cond same (with_name names (record { position = s.position; name = s.name })) names) p) is
        ∙ or_comm false (has_position names p)

positions : (kind : SymbolKind) (p : ℕ) (name : List ℕ) (names : List Symbol) (symbols : List RawSymbol)
    → has_position (fold (with_symbol kind) names symbols) p ≡ (has_position names p || list_any (is_of_same (symbol_at kind p name)) symbols)
positions kind p name names [] = or_comm false (has_position names p)
positions kind p name names (s ∷ symbols) =
    positions kind p name (with_symbol kind names s) symbols
    ∙ ap (λ (b : Bool). b || list_any (is_of_same (symbol_at kind p name)) symbols) (position-with_symbol kind p name names s)
    ∙ or_assoc (has_position names p) (is_of_same (symbol_at kind p name) s) (list_any (is_of_same (symbol_at kind p name)) symbols)

-- the names of a kind have a position if and only if a symbol is of that thing
pub same_position : (kind : SymbolKind) (p : ℕ) (name : List ℕ) (symbols : List RawSymbol) → has_position (names_of kind symbols) p ≡ list_any (is_of_same (symbol_at kind p name)) symbols
same_position kind p name symbols = positions kind p name [] symbols

-- ---- all kinds

abbrev of_kinds : (SymbolKind → List Symbol) → Symbols
of_kinds f = record { inputs = f Input; latches = f Latch; outputs = f Output; bad = f Bad; constraints = f Constraint; justice = f Justice; fairness = f Fairness }

-- the names of symbols with one more
pub appended : (symbols : List RawSymbol) (s : RawSymbol) → symbols_of (symbols ++ s ∷ []) ≡ with_symbol_in (symbols_of symbols) s
unfolding symbols_of
appended symbols s = ap of_kinds (λ i. λ kind. fold-append (with_symbol kind) [] symbols (s ∷ []) i)

-- the names of a kind among all are the names of the symbols of that kind
pub names_in_kind : (kind : SymbolKind) (symbols : List RawSymbol) → names_of_kind (symbols_of symbols) kind ≡ names_of kind symbols
unfolding symbols_of
names_in_kind Input symbols = refl
names_in_kind Latch symbols = refl
names_in_kind Output symbols = refl
names_in_kind Bad symbols = refl
names_in_kind Constraint symbols = refl
names_in_kind Justice symbols = refl
names_in_kind Fairness symbols = refl

-- no names are those of no symbols
pub nothing_named : AreNamesOf (record { inputs = []; latches = []; outputs = []; bad = []; constraints = []; justice = []; fairness = [] }) []
unfolding symbols_of
nothing_named = refl

-- what an insert answers
pub insert_new : {E : Type 0} (names : Symbols) (kind : SymbolKind) (p : ℕ) (name : List ℕ) (result : Result Bool E) (symbols : List RawSymbol) → AreNamesOf names symbols
    → IfOk result (λ is_new. is_new ≡ not (has_position (names_of_kind names kind) p)) → IfOk result (λ is_new. is_new ≡ not (list_any (is_of_same (symbol_at kind p name)) symbols))
insert_new names kind p name result symbols are =
    let same : has_position (names_of_kind names kind) p ≡ list_any (is_of_same (symbol_at kind p name)) symbols
    = ap (λ (ns : Symbols). has_position (names_of_kind ns kind) p) are ∙ ap (λ (ns : List Symbol). has_position ns p) (names_in_kind kind symbols) ∙ same_position kind p name symbols in
    λ new. subst (λ (b : Bool). IfOk result (λ is_new. is_new ≡ not b)) same new

-- what an insert leaves
pub insert_names : {E : Type 0} (names more : Symbols) (s : RawSymbol) (result : Result Bool E) (symbols : List RawSymbol) → AreNamesOf names symbols
    → IfOk result (λ is_new. more ≡ cond is_new (with_symbol_in names s) names) → IfOk result (λ is_new. AreNamesOf more (with_new is_new symbols s))
insert_names names more s (Ok true) symbols are is = is ∙ ap (λ (ns : Symbols). with_symbol_in ns s) are ∙ sym (appended symbols s)
insert_names names more s (Ok false) symbols are is = is ∙ are
insert_names names more s (Err e) symbols are is = is
