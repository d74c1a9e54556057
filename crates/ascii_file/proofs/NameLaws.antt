-- Names of seven kinds, each by rising position, are put together and taken apart again.
use Rattle.std.proofs.Common.{ℕ, suc, zero, ◌<◌, ◌≤◌, ◌≡◌, List, [], ◌∷◌, ◌++◌, length, map, fold, get_or, All, AllPairs, Bool, true, false, cond, nat_eq, nat_lt, refl, sym, ap, subst, ◌∙◌, append_assoc, append-nil, length-append, arith}
use Rattle.std.specs.List.{AllByRecursion}
use Rattle.std.proofs.lemmas.Bool.{le-ltb, ne_eqb, and_left, and_right, cond-false}
use Rattle.std.proofs.lemmas.List.{get_or-map, length-map}
use Rattle.std.proofs.lemmas.List.Elements.{All-append, All-map}
use Rattle.std.proofs.lemmas.List.Kept.{AllPairs-from_increasing}
use Rattle.aig_graph.specs.declared.properties.Symbol.{Symbol}
use Rattle.aig_graph.specs.declared.properties.Symbols.{Symbols}
use Rattle.aig_graph.specs.Circuits.{Netlist, IsNetlist, AreNamesBelow}
use Rattle.ascii_file.specs.declared.header.Header.{Header}
use Rattle.ascii_file.specs.declared.raw.SymbolKind.{SymbolKind}
use Rattle.ascii_file.specs.declared.raw.SymbolKind.TheVariants.{Input, Latch as LatchKind, Output, Bad, Constraint, Justice, Fairness}
use Rattle.ascii_file.specs.Raw.{RawSymbol, count_of, kind_number}
use Rattle.ascii_file.specs.Meaning.{with_name, with_symbol, names_of, symbols_of}
use Rattle.ascii_file.specs.Reading.{is_of_same}
use Rattle.ascii_file.specs.Files.{NamesApart}
use Rattle.ascii_file.proofs.WrittenCircuitLaws.{named, written_symbols, written, written_header}

-- ---- taken apart

-- the names of one kind leave those of another as they are
one_kind : (kind other : SymbolKind) (xs names : List Symbol) (rest : List RawSymbol)
    → fold (with_symbol kind) names (named other xs ++ rest) ≡ fold (with_symbol kind) (cond (nat_eq (kind_number other) (kind_number kind)) (fold with_name names xs) names) rest
one_kind kind other xs names rest = by_test (nat_eq (kind_number other) (kind_number kind)) refl xs names
  where
    by_test : (same : Bool) → nat_eq (kind_number other) (kind_number kind) ≡ same → (xs names : List Symbol)
        → fold (with_symbol kind) names (named other xs ++ rest) ≡ fold (with_symbol kind) (cond same (fold with_name names xs) names) rest
    by_test true is [] names = refl
    by_test false is [] names = refl
    by_test true is (x ∷ xs) names =
        let step : with_symbol kind names (record { kind = other; position = x.position; name = x.name }) ≡ with_name names x = ap (λ (t : Bool). cond t (with_name names x) names) is in
        ap (λ (ns : List Symbol). fold (with_symbol kind) ns (named other xs ++ rest)) step ∙ by_test true is xs (with_name names x)
    by_test false is (x ∷ xs) names =
        let step : with_symbol kind names (record { kind = other; position = x.position; name = x.name }) ≡ names = ap (λ (t : Bool). cond t (with_name names x) names) is in
        ap (λ (ns : List Symbol). fold (with_symbol kind) ns (named other xs ++ rest)) step ∙ by_test false is xs names

-- a name after all others
at_end : (names : List Symbol) (x : Symbol) → AllByRecursion (λ y. y.position < x.position) names → with_name names x ≡ names ++ x ∷ []
at_end [] x above = refl
at_end (y ∷ names) x above =
    cond-false (nat_lt x.position y.position) (x ∷ y ∷ names) (y ∷ with_name names x) (le-ltb x.position y.position (omega (arith, above.0)))
    ∙ ap (λ (ns : List Symbol). y ∷ ns) (at_end names x above.1)

-- names whose positions rise, one by one
abbrev Rises : List Symbol → List Symbol → Type 0
Rises front [] = Unit {0}
Rises front (x ∷ xs) = AllByRecursion (λ y. y.position < x.position) front × Rises (front ++ x ∷ []) xs

rising_again : (xs front : List Symbol) → Rises front xs → fold with_name front xs ≡ front ++ xs
rising_again [] front rises = sym (append-nil front)
rising_again (x ∷ xs) front rises =
    ap (λ (ns : List Symbol). fold with_name ns xs) (at_end front x rises.0) ∙ rising_again xs (front ++ x ∷ []) rises.1 ∙ append_assoc front (x ∷ []) xs

-- rising positions in the standard library's words
all_before : (front : List Symbol) (x : Symbol) (xs : List Symbol) → AllPairs (λ m n. m < n) (map (λ (s : Symbol). s.position) (front ++ x ∷ xs)) → AllByRecursion (λ y. y.position < x.position) front
all_before [] x xs pairs = tt
all_before (y ∷ front) x xs pairs = (
  (let here : get_or (map (λ (s : Symbol). s.position) (front ++ x ∷ xs)) (length front) 0 ≡ x.position
      = get_or-map (λ (s : Symbol). s.position) (front ++ x ∷ xs) (length front) x 0 (omega (arith, length-append front (x ∷ xs))) ∙ ap (λ (s : Symbol). s.position) (at_front front) in
      subst (λ (n : ℕ). y.position < n) here
      (pairs 0 (suc (length front)) 0 (omega arith) (omega (arith, length-map (y ∷ front ++ x ∷ xs) (λ (s : Symbol). s.position), length-append (y ∷ front) (x ∷ xs))))),
  all_before front x xs (λ i j d less within. pairs (suc i) (suc j) d (omega (arith, less)) (omega (arith, within))),
)
  where
    at_front : (front : List Symbol) → get_or (front ++ x ∷ xs) (length front) x ≡ x
    at_front [] = refl
    at_front (z ∷ front) = at_front front

rises : (xs front : List Symbol) → AllPairs (λ m n. m < n) (map (λ (s : Symbol). s.position) (front ++ xs)) → Rises front xs
rises [] front pairs = tt
rises (x ∷ xs) front pairs = (
  all_before front x xs pairs,
  rises xs (front ++ x ∷ []) (subst (λ (ns : List Symbol). AllPairs (λ m n. m < n) (map (λ (s : Symbol). s.position) ns)) (sym (append_assoc front (x ∷ []) xs)) pairs),
)

-- names by rising position that are put in one after another stay as they are
pub kept : (n : ℕ) (names : List Symbol) → AreNamesBelow n names → fold with_name [] names ≡ names
kept n names are = rising_again names [] (rises names [] (AllPairs-from_increasing (map (λ (s : Symbol). s.position) names) are.rising))

-- what is left of a kind, when all seven were gone through
abbrev after : SymbolKind → SymbolKind → List Symbol → List Symbol → List Symbol
after kind other xs names = cond (nat_eq (kind_number other) (kind_number kind)) (fold with_name names xs) names

all_kinds : (kind : SymbolKind) (s : Symbols) → names_of kind (written_symbols s)
    ≡ after kind Fairness s.fairness (after kind Justice s.justice (after kind Constraint s.constraints (after kind Bad s.bad (after kind Output s.outputs (after kind LatchKind s.latches (after kind Input s.inputs []))))))
all_kinds kind s =
    one_kind kind Input s.inputs [] (named LatchKind s.latches ++ (named Output s.outputs ++ (named Bad s.bad ++ (named Constraint s.constraints ++ (named Justice s.justice ++ named Fairness s.fairness)))))
    ∙ one_kind kind LatchKind s.latches (after kind Input s.inputs []) (named Output s.outputs ++ (named Bad s.bad ++ (named Constraint s.constraints ++ (named Justice s.justice ++ named Fairness s.fairness))))
    ∙ one_kind kind Output s.outputs (after kind LatchKind s.latches (after kind Input s.inputs [])) (named Bad s.bad ++ (named Constraint s.constraints ++ (named Justice s.justice ++ named Fairness s.fairness)))
    ∙ one_kind kind Bad s.bad (after kind Output s.outputs (after kind LatchKind s.latches (after kind Input s.inputs []))) (named Constraint s.constraints ++ (named Justice s.justice ++ named Fairness s.fairness))
    ∙ one_kind kind Constraint s.constraints (after kind Bad s.bad (after kind Output s.outputs (after kind LatchKind s.latches (after kind Input s.inputs [])))) (named Justice s.justice ++ named Fairness s.fairness)
    ∙ one_kind kind Justice s.justice (after kind Constraint s.constraints (after kind Bad s.bad (after kind Output s.outputs (after kind LatchKind s.latches (after kind Input s.inputs []))))) (named Fairness s.fairness)
    ∙ ap (fold (with_symbol kind) (after kind Justice s.justice (after kind Constraint s.constraints (after kind Bad s.bad (after kind Output s.outputs (after kind LatchKind s.latches (after kind Input s.inputs [])))))))
    (sym (append-nil (named Fairness s.fairness)))
    ∙ one_kind kind Fairness s.fairness (after kind Justice s.justice (after kind Constraint s.constraints (after kind Bad s.bad (after kind Output s.outputs (after kind LatchKind s.latches (after kind Input s.inputs [])))))) []

-- the names of a circuit are taken apart as they were
pub symbols_again : (c : Netlist) → IsNetlist c → symbols_of (written_symbols c.symbols) ≡ c.symbols
unfolding symbols_of
symbols_again c netlist =
    let s = c.symbols in
    let are = netlist.symbols in
    symbols_are s (names_of Input (written_symbols s)) (names_of LatchKind (written_symbols s)) (names_of Output (written_symbols s)) (names_of Bad (written_symbols s)) (names_of Constraint (written_symbols s))
    (names_of Justice (written_symbols s)) (names_of Fairness (written_symbols s))
    (all_kinds Input s ∙ kept c.aig.inputs s.inputs are.inputs) (all_kinds LatchKind s ∙ kept (length c.aig.latches) s.latches are.latches) (all_kinds Output s ∙ kept (length c.props.outputs) s.outputs are.outputs)
    (all_kinds Bad s ∙ kept (length c.props.bad) s.bad are.bad) (all_kinds Constraint s ∙ kept (length c.props.constraints) s.constraints are.constraints)
    (all_kinds Justice s ∙ kept (length c.props.justice) s.justice are.justice) (all_kinds Fairness s ∙ kept (length c.props.fairness) s.fairness are.fairness)
  where
    symbols_are : (s : Symbols) (a b d e f g h : List Symbol) → a ≡ s.inputs → b ≡ s.latches → d ≡ s.outputs → e ≡ s.bad → f ≡ s.constraints → g ≡ s.justice → h ≡ s.fairness
        → record { inputs = a; latches = b; outputs = d; bad = e; constraints = f; justice = g; fairness = h } ≡ s
    symbols_are s a b d e f g h pa pb pd pe pf pg ph = rw (pa, pb, pd, pe, pf, pg, ph) refl

-- ---- put together

-- each pair, by recursion
abbrev AreAllApart : List RawSymbol → Type 0
AreAllApart [] = Unit {0}
AreAllApart (x ∷ xs) = AllByRecursion (λ y. is_of_same y x ≡ false) xs × AreAllApart xs

all_at : (P : RawSymbol → Type 0) (xs : List RawSymbol) (k : ℕ) (d : RawSymbol) → k < length xs → AllByRecursion P xs → P (get_or xs k d)
all_at P [] k d less all = absurd (omega arith)
all_at P (x ∷ xs) zero d less all = all.0
all_at P (x ∷ xs) (suc k) d less all = all_at P xs k d (omega (arith, less)) all.1

pairs-from_recursion : (xs : List RawSymbol) → AreAllApart xs → AllPairs (λ (x y : RawSymbol). is_of_same y x ≡ false) xs
pairs-from_recursion [] apart i j d less within = absurd (omega arith)
pairs-from_recursion (x ∷ xs) apart zero zero d less within = absurd (omega arith)
pairs-from_recursion (x ∷ xs) apart zero (suc j) d less within = all_at (λ y. is_of_same y x ≡ false) xs j d (omega (arith, within)) apart.0
pairs-from_recursion (x ∷ xs) apart (suc i) zero d less within = absurd (omega arith)
pairs-from_recursion (x ∷ xs) apart (suc i) (suc j) d less within = pairs-from_recursion xs apart.1 i j d (omega (arith, less)) (omega (arith, within))

-- symbols that are apart, of kinds from one on
record AreFrom (k : ℕ) (symbols : List RawSymbol) : Type 0 where
  apart : AreAllApart symbols
  kinds : AllByRecursion (λ symbol. k ≤ kind_number symbol.kind) symbols

-- names whose positions rise, by recursion
abbrev RiseAll : List Symbol → Type 0
RiseAll [] = Unit {0}
RiseAll (x ∷ xs) = AllByRecursion (λ y. x.position < y.position) xs × RiseAll xs

later_above : (m : ℕ) (xs : List Symbol) → ((k : ℕ) → k < length xs → m < get_or (map (λ (s : Symbol). s.position) xs) k 0) → AllByRecursion (λ y. m < y.position) xs
later_above m [] each = tt
later_above m (y ∷ xs) each = (each 0 (omega arith), later_above m xs (λ k less. each (suc k) (omega (arith, less))))

rise_all : (xs : List Symbol) → AllPairs (λ m n. m < n) (map (λ (s : Symbol). s.position) xs) → RiseAll xs
rise_all [] pairs = tt
rise_all (x ∷ xs) pairs = (
  later_above x.position xs (λ k less. pairs 0 (suc k) 0 (omega arith) (omega (arith, less, length-map xs (λ (s : Symbol). s.position)))),
  rise_all xs (λ i j d less within. pairs (suc i) (suc j) d (omega (arith, less)) (omega (arith, within))),
)

-- one name against the later ones of its kind, and against those of other kinds
own_kind : (kind : SymbolKind) (x : Symbol) (xs : List Symbol) (rest : List RawSymbol) → AllByRecursion (λ y. x.position < y.position) xs
    → AllByRecursion (λ y. is_of_same y (record { kind = kind; position = x.position; name = x.name }) ≡ false) rest
    → AllByRecursion (λ y. is_of_same y (record { kind = kind; position = x.position; name = x.name }) ≡ false) (named kind xs ++ rest)
own_kind kind x [] rest above other = other
own_kind kind x (y ∷ xs) rest above other = (
  and_right (nat_eq (kind_number kind) (kind_number kind)) (nat_eq y.position x.position) (ne_eqb y.position x.position (λ e. absurd (omega (arith, e, above.0)))),
  own_kind kind x xs rest above.1 other,
)

other_kinds : (kind : SymbolKind) (k : ℕ) (x : Symbol) (rest : List RawSymbol) → kind_number kind < k → AllByRecursion (λ symbol. k ≤ kind_number symbol.kind) rest
    → AllByRecursion (λ y. is_of_same y (record { kind = kind; position = x.position; name = x.name }) ≡ false) rest
other_kinds kind k x [] below kinds = tt
other_kinds kind k x (y ∷ rest) below kinds = (
  and_left (nat_eq (kind_number y.kind) (kind_number kind)) _ (ne_eqb (kind_number y.kind) (kind_number kind) (λ e. absurd (omega (arith, e, kinds.0, below)))),
  other_kinds kind k x rest below kinds.1,
)

weaker : (k m : ℕ) (rest : List RawSymbol) → m ≤ k → AllByRecursion (λ symbol. k ≤ kind_number symbol.kind) rest → AllByRecursion (λ symbol. m ≤ kind_number symbol.kind) rest
weaker k m [] less kinds = tt
weaker k m (y ∷ rest) less kinds = (omega (arith, less, kinds.0), weaker k m rest less kinds.1)

with_kind : (kind : SymbolKind) (k : ℕ) (xs : List Symbol) (rest : List RawSymbol) → kind_number kind < k → RiseAll xs → AreFrom k rest → AreFrom (kind_number kind) (named kind xs ++ rest)
with_kind kind k [] rest below rises from = record { apart = from.apart; kinds = weaker k (kind_number kind) rest (omega (arith, below)) from.kinds }
with_kind kind k (x ∷ xs) rest below rises from =
    let later = with_kind kind k xs rest below rises.1 from in
    let same : kind_number kind ≤ kind_number kind = omega arith in
    record { apart = (own_kind kind x xs rest rises.0 (other_kinds kind k x rest below from.kinds), later.apart); kinds = (same, later.kinds) }

risen : (n : ℕ) (names : List Symbol) → AreNamesBelow n names → RiseAll names
risen n names are = rise_all names (AllPairs-from_increasing (map (λ (s : Symbol). s.position) names) are.rising)

below_all : (h : Header) (kind : SymbolKind) (names : List Symbol) → AreNamesBelow (count_of h kind) names → All (λ (symbol : RawSymbol). symbol.position < count_of h symbol.kind) (named kind names)
below_all h kind names are =
    All-map (λ (symbol : RawSymbol). symbol.position < count_of h symbol.kind) (λ (s : Symbol). record { kind = kind; position = s.position; name = s.name }) names are.below

-- the symbols of a circuit, by kinds, each name a thing of its own
pub written-names : (c : Netlist) → IsNetlist c → NamesApart (written_header c) (written c)
written-names c netlist =
    let s = c.symbols in
    let are = netlist.symbols in
    let h = written_header c in
    let P : RawSymbol → Type 0 = λ (symbol : RawSymbol). symbol.position < count_of (written_header c) symbol.kind in
    let nothing : AreFrom 7 [] = record { apart = tt; kinds = tt } in
    let fairness : AreFrom 6 (named Fairness s.fairness) = subst (AreFrom 6) (append-nil (named Fairness s.fairness)) (with_kind Fairness 7 s.fairness [] (omega arith) (risen (length c.props.fairness) s.fairness are.fairness) nothing) in
    let justice = with_kind Justice 6 s.justice (named Fairness s.fairness) (omega arith) (risen (length c.props.justice) s.justice are.justice) fairness in
    let constraints = with_kind Constraint 5 s.constraints _ (omega arith) (risen (length c.props.constraints) s.constraints are.constraints) justice in
    let bad = with_kind Bad 4 s.bad _ (omega arith) (risen (length c.props.bad) s.bad are.bad) constraints in
    let outputs = with_kind Output 3 s.outputs _ (omega arith) (risen (length c.props.outputs) s.outputs are.outputs) bad in
    let latches = with_kind LatchKind 2 s.latches _ (omega arith) (risen (length c.aig.latches) s.latches are.latches) outputs in
    let inputs = with_kind Input 1 s.inputs _ (omega arith) (risen c.aig.inputs s.inputs are.inputs) latches in
    record {
      below =
          All-append P (named Input s.inputs) _ (below_all h Input s.inputs are.inputs) (All-append P (named LatchKind s.latches) _ (below_all h LatchKind s.latches are.latches)
          (All-append P (named Output s.outputs) _ (below_all h Output s.outputs are.outputs) (All-append P (named Bad s.bad) _ (below_all h Bad s.bad are.bad)
          (All-append P (named Constraint s.constraints) _ (below_all h Constraint s.constraints are.constraints) (All-append P (named Justice s.justice) (named Fairness s.fairness) (below_all h Justice s.justice are.justice)
          (below_all h Fairness s.fairness are.fairness))))));
      apart = pairs-from_recursion (written_symbols s) inputs.apart;
    }
