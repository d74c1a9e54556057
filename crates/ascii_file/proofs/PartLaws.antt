-- The parts of a circuit are in range.
use Rattle.std.proofs.Common.{ℕ, suc, zero, ◌+◌, ◌<◌, ◌≡◌, List, [], ◌∷◌, map, fold, length, take, drop, get_or, All, AllPairs, Bool, true, false, cond, nat_eq, nat_lt, ◌==◌, ◌&&◌, ◌↔◌, IsTrue, refl, sym, ap, subst, ◌∙◌, arith}
use Rattle.std.specs.List.{AllByRecursion, sum}
use Rattle.std.specs.List.Sorted.{IsStrictlyIncreasing, IsStrictlySortedBy}
use Rattle.std.specs.Ordering.{nat_cmp}
use Rattle.std.specs.Map.{keys_of}
use Rattle.std.proofs.lemmas.Map.Keys.{IsStrictlyIncreasing-from_sorted}
use Rattle.std.proofs.lemmas.Bool.{ltb-true, ltb-false, or_from, eqb-false, eqb-true}
use Rattle.std.proofs.lemmas.List.{length-drop, length-take-le, length-map}
use Rattle.std.proofs.lemmas.List.Elements.{All-take, All-drop}
use Rattle.aig_graph.specs.declared.properties.Symbol.{Symbol}
use Rattle.aig_graph.specs.declared.properties.Symbols.{Symbols}
use Rattle.aig_graph.specs.Graph.{Graph, IsLiteralOf}
use Rattle.aig_graph.specs.Circuits.{IsNetlist, AreLiteralsOf, AreNamesBelow}
use Rattle.ascii_file.specs.declared.header.Header.{Header}
use Rattle.ascii_file.specs.declared.raw.SymbolKind.{SymbolKind}
use Rattle.ascii_file.specs.declared.raw.SymbolKind.TheVariants.{Input, Latch, Output, Bad, Constraint, Justice, Fairness}
use Rattle.ascii_file.specs.Raw.{RawSymbol, kind_number, count_of, safety_count}
use Rattle.ascii_file.specs.Meaning.{with_name, with_symbol, names_of, symbols_of, split_by, props_of}
use Rattle.ascii_file.specs.Reading.{is_of_same}
use Rattle.ascii_file.proofs.OwnLiteralLaws.{length-split}
use Rattle.ascii_file.specs.parts.Names.{symbol_at, symbols_in, has_position}
use Rattle.ascii_file.specs.parts.Lists.{Lists}
use Rattle.ascii_file.specs.parts.Parts.{AreNamesWithin, NetlistLaw}
use Rattle.ascii_file.proofs.KindNameLaws.{position-with_symbol, or_first, or_second}

-- ---- all of a list, by recursion and by index

from_all : {X : Type 0} (P : X → Type 0) (xs : List X) → All P xs → AllByRecursion P xs
from_all P [] all = tt
from_all P (x ∷ xs) all = (all 0 x (omega arith), from_all P xs (λ k d less. all (suc k) d (omega (arith, less))))

to_all : {X : Type 0} (P : X → Type 0) (xs : List X) → AllByRecursion P xs → All P xs
to_all P [] all k d less = absurd (omega (arith, less))
to_all P (x ∷ xs) all zero d less = all.0
to_all P (x ∷ xs) all (suc k) d less = to_all P xs all.1 k d (omega (arith, less))

weaker : {X : Type 0} (P Q : X → Type 0) → ((x : X) → P x → Q x) → (xs : List X) → AllByRecursion P xs → AllByRecursion Q xs
weaker P Q step [] all = tt
weaker P Q step (x ∷ xs) all = (step x all.0, weaker P Q step xs all.1)

-- ---- names of a kind rise

abbrev RiseAll : List Symbol → Type 0
RiseAll [] = Unit {0}
RiseAll (x ∷ xs) = AllByRecursion (λ y. x.position < y.position) xs × RiseAll xs

all_with : (P : Symbol → Type 0) (names : List Symbol) (s : Symbol) → P s → AllByRecursion P names → AllByRecursion P (with_name names s)
all_with P [] s here all = (here, tt)
all_with P (x ∷ names) s here all = by_test (nat_lt s.position x.position) (all_with P names s here all.1)
  where
    by_test : (less : Bool) → AllByRecursion P (with_name names s) → AllByRecursion P (cond less (s ∷ x ∷ names) (x ∷ with_name names s))
    by_test true more = (here, all)
    by_test false more = (all.0, more)

rise_with : (names : List Symbol) (s : Symbol) → has_position names s.position ≡ false → RiseAll names → RiseAll (with_name names s)
rise_with [] s new rise = (tt, tt)
rise_with (x ∷ names) s new rise = by_test (nat_lt s.position x.position) refl (rise_with names s (or_second (s.position == x.position) (has_position names s.position) new) rise.1)
  where
    by_test : (less : Bool) → nat_lt s.position x.position ≡ less → RiseAll (with_name names s) → RiseAll (cond less (s ∷ x ∷ names) (x ∷ with_name names s))
    by_test true is more =
        let below : s.position < x.position = ltb-true s.position x.position is in
        ((below, weaker (λ (y : Symbol). x.position < y.position) (λ (y : Symbol). s.position < y.position) (λ y later. omega (arith, below, later)) names rise.0), rise)
    by_test false is more =
        let apart = eqb-false s.position x.position (or_first (s.position == x.position) (has_position names s.position) new) in
        let above : x.position < s.position = omega (arith, ltb-false s.position x.position is, apart) in
        (all_with (λ (y : Symbol). x.position < y.position) names s above rise.0, more)

-- each symbol is of another thing than those before it
abbrev AreApart : List RawSymbol → Type 0
AreApart [] = Unit {0}
AreApart (x ∷ xs) = AllByRecursion (λ y. is_of_same y x ≡ false) xs × AreApart xs

apart_from : (symbols : List RawSymbol) → AllPairs (λ symbol other. is_of_same other symbol ≡ false) symbols → AreApart symbols
apart_from [] pairs = tt
apart_from (x ∷ xs) pairs = (
  from_all (λ (y : RawSymbol). is_of_same y x ≡ false) xs (λ k d less. pairs 0 (suc k) d (omega arith) (omega (arith, less))),
  apart_from xs (λ i j d less within. pairs (suc i) (suc j) d (omega (arith, less)) (omega (arith, within))),
)

-- of this kind, and then at no position of the names
abbrev IsNewTo : SymbolKind → List Symbol → RawSymbol → Type 0
IsNewTo kind names y = nat_eq (kind_number y.kind) (kind_number kind) ≡ true → has_position names y.position ≡ false

still_new : (kind : SymbolKind) (names : List Symbol) (s y : RawSymbol) → is_of_same y s ≡ false → IsNewTo kind names y → IsNewTo kind (with_symbol kind names s) y
still_new kind names s y apart new is =
    let same : is_of_same (symbol_at kind y.position y.name) s ≡ is_of_same y s = ap (λ (n : ℕ). nat_eq n (kind_number s.kind) && nat_eq y.position s.position) (sym (eqb-true (kind_number y.kind) (kind_number kind) is)) in
    position-with_symbol kind y.position y.name names s ∙ or_from (has_position names y.position) (is_of_same (symbol_at kind y.position y.name) s) (new is) (same ∙ apart)

all_still_new : (kind : SymbolKind) (names : List Symbol) (s : RawSymbol) (symbols : List RawSymbol) → AllByRecursion (λ y. is_of_same y s ≡ false) symbols → AllByRecursion (IsNewTo kind names) symbols
    → AllByRecursion (IsNewTo kind (with_symbol kind names s)) symbols
all_still_new kind names s [] apart new = tt
all_still_new kind names s (y ∷ symbols) apart new = (still_new kind names s y apart.0 new.0, all_still_new kind names s symbols apart.1 new.1)

rise_symbol : (kind : SymbolKind) (names : List Symbol) (s : RawSymbol) → IsNewTo kind names s → RiseAll names → RiseAll (with_symbol kind names s)
rise_symbol kind names s new rise = by_test (nat_eq (kind_number s.kind) (kind_number kind)) new
  where
    by_test : (same : Bool) → (same ≡ true → has_position names s.position ≡ false) → RiseAll (cond same (with_name names (record { position = s.position; name = s.name })) names)
    by_test true new = rise_with names (record { position = s.position; name = s.name }) (new refl) rise
    by_test false new = rise

rise_all : (kind : SymbolKind) (names : List Symbol) (symbols : List RawSymbol) → AreApart symbols → AllByRecursion (IsNewTo kind names) symbols → RiseAll names → RiseAll (fold (with_symbol kind) names symbols)
rise_all kind names [] apart new rise = rise
rise_all kind names (s ∷ symbols) apart new rise =
    rise_all kind (with_symbol kind names s) symbols apart.1 (all_still_new kind names s symbols apart.0 new.1) (rise_symbol kind names s new.0 rise)

all_new : (kind : SymbolKind) (symbols : List RawSymbol) → AllByRecursion (IsNewTo kind []) symbols
all_new kind [] = tt
all_new kind (y ∷ symbols) = (λ is. refl, all_new kind symbols)

first_above : (m : ℕ) (xs : List Symbol) → AllByRecursion (λ y. m < y.position) xs → 0 < length xs → m < get_or (map (λ (s : Symbol). s.position) xs) 0 0
first_above m [] above some = absurd (omega (arith, some))
first_above m (x ∷ xs) above some = above.0

increasing : (names : List Symbol) → RiseAll names → IsStrictlyIncreasing (map (λ (s : Symbol). s.position) names)
increasing [] rise k less = absurd (omega (arith, less))
increasing (x ∷ names) rise zero less = first_above x.position names rise.0 (omega (arith, less, length-map names (λ (s : Symbol). s.position)))
increasing (x ∷ names) rise (suc k) less =
    let next : suc (k + 1) ≡ suc k + 1 = omega arith in
    subst (λ (m : ℕ). get_or (map (λ (s : Symbol). s.position) names) k 0 < get_or (x.position ∷ map (λ (s : Symbol). s.position) names) m 0) next (increasing names rise.1 k (omega (arith, less)))

-- ---- positions are below the count

-- as many things of kinds with one number
abbrev counted : Header → ℕ → ℕ
counted h n = cond (n == 0) h.inputs (cond (n == 1) h.latches (cond (n == 2) h.outputs (cond (n == 3) h.bad (cond (n == 4) h.constraints (cond (n == 5) h.justice h.fairness)))))

count_by_number : (h : Header) (kind : SymbolKind) → count_of h kind ≡ counted h (kind_number kind)
count_by_number h Input = refl
count_by_number h Latch = refl
count_by_number h Output = refl
count_by_number h Bad = refl
count_by_number h Constraint = refl
count_by_number h Justice = refl
count_by_number h Fairness = refl

same_count : (h : Header) (kind other : SymbolKind) → kind_number kind ≡ kind_number other → count_of h kind ≡ count_of h other
same_count h kind other same = count_by_number h kind ∙ ap (counted h) same ∙ sym (count_by_number h other)

below_all : (h : Header) (kind : SymbolKind) (names : List Symbol) (symbols : List RawSymbol) → AllByRecursion (λ symbol. symbol.position < count_of h symbol.kind) symbols
    → AllByRecursion (λ (s : Symbol). s.position < count_of h kind) names → AllByRecursion (λ (s : Symbol). s.position < count_of h kind) (fold (with_symbol kind) names symbols)
below_all h kind names [] below all = all
below_all h kind names (s ∷ symbols) below all = below_all h kind (with_symbol kind names s) symbols below.1 (by_test (nat_eq (kind_number s.kind) (kind_number kind)) (λ is. eqb-true (kind_number s.kind) (kind_number kind) is))
  where
    by_test : (same : Bool) → (same ≡ true → kind_number s.kind ≡ kind_number kind) → AllByRecursion (λ (s : Symbol). s.position < count_of h kind) (cond same (with_name names (record { position = s.position; name = s.name })) names)
    by_test true is = all_with (λ (s : Symbol). s.position < count_of h kind) names (record { position = s.position; name = s.name }) (subst (λ (n : ℕ). s.position < n) (same_count h s.kind kind (is refl)) below.0) all
    by_test false is = all

names_below : (h : Header) (kind : SymbolKind) (symbols : List RawSymbol) → All (λ symbol. symbol.position < count_of h symbol.kind) symbols
    → AllPairs (λ symbol other. is_of_same other symbol ≡ false) symbols → AreNamesBelow (count_of h kind) (names_of kind symbols)
names_below h kind symbols below apart = record {
  rising = increasing (names_of kind symbols) (rise_all kind [] symbols (apart_from symbols apart) (all_new kind symbols) tt);
  below = to_all (λ (s : Symbol). s.position < count_of h kind) (names_of kind symbols)
      (below_all h kind [] symbols (from_all (λ (symbol : RawSymbol). symbol.position < count_of h symbol.kind) symbols below) tt);
}

-- ---- properties

split_all : (P : ℕ → Type 0) (sizes xs : List ℕ) → All P xs → AllByRecursion (λ lits. All P lits) (split_by sizes xs)
split_all P [] xs all = tt
split_all P (n ∷ sizes) xs all = (All-take P n xs all, split_all P sizes (drop n xs) (All-drop P n xs all))

-- ---- the circuit

-- names of symbols that are apart, below the header's numbers
pub within : (h : Header) (symbols : List RawSymbol) → All (λ symbol. symbol.position < count_of h symbol.kind) symbols → AllPairs (λ symbol other. is_of_same other symbol ≡ false) symbols
    → AreNamesWithin h (symbols_of symbols)
unfolding symbols_of
within h symbols below apart = record {
  inputs = names_below h Input symbols below apart;
  latches = names_below h Latch symbols below apart;
  outputs = names_below h Output symbols below apart;
  bad = names_below h Bad symbols below apart;
  constraints = names_below h Constraint symbols below apart;
  justice = names_below h Justice symbols below apart;
  fairness = names_below h Fairness symbols below apart;
}

names_at : (n count : ℕ) → count ≡ n → (ns : List Symbol) → AreNamesBelow count ns → AreNamesBelow n ns
names_at n count same ns are = subst (λ (m : ℕ). AreNamesBelow m ns) same are

-- parts in range, whatever the names are of
pub record AreInRange (h : Header) (g : Graph) (l : Lists) : Type 0 where
  -- as many inputs as the header says
  pub inputs : g.inputs ≡ h.inputs
  -- as many latches as the header says
  pub latches : length g.latches ≡ h.latches
  -- as many outputs, bad states and constraints as the header says
  pub safety : length l.safety ≡ safety_count h
  -- as many justice properties as the header says
  pub sizes : length l.sizes ≡ h.justice
  -- as many literals of justice properties as their sizes come to, and as many fairness literals as
  -- the header says
  pub liveness : length l.liveness ≡ sum l.sizes + h.fairness
  -- the literals of outputs, bad states and constraints are the graph's
  pub safety_literals : AreLiteralsOf g l.safety
  -- the literals of justice and fairness are the graph's
  pub liveness_literals : AreLiteralsOf g l.liveness

-- parts in range, with names by rising position below the header's counts, make a circuit
pub netlist_within : (h : Header) (g : Graph) (l : Lists) (names : Symbols) → AreInRange h g l → AreNamesWithin h names → IsNetlist (record { aig = g; props = props_of h l.safety l.sizes l.liveness; symbols = names })
unfolding props_of
netlist_within h g l names parts are = record {
  props = record {
    outputs = All-take (IsLiteralOf g) h.outputs l.safety parts.safety_literals;
    bad = All-take (IsLiteralOf g) h.bad (drop h.outputs l.safety) (All-drop (IsLiteralOf g) h.outputs l.safety parts.safety_literals);
    constraints = All-drop (IsLiteralOf g) (h.outputs + h.bad) l.safety parts.safety_literals;
    justice = to_all (λ lits. AreLiteralsOf g lits) (split_by l.sizes l.liveness) (split_all (IsLiteralOf g) l.sizes l.liveness parts.liveness_literals);
    fairness = All-drop (IsLiteralOf g) (sum l.sizes) l.liveness parts.liveness_literals;
  };
  symbols = record {
    inputs = names_at g.inputs h.inputs (sym parts.inputs) names.inputs are.inputs;
    latches = names_at (length g.latches) h.latches (sym parts.latches) names.latches are.latches;
    outputs = names_at (length (take h.outputs l.safety)) h.outputs (sym (length-take-le h.outputs l.safety (omega (arith, parts.safety)))) names.outputs are.outputs;
    bad = names_at (length (take h.bad (drop h.outputs l.safety))) h.bad (sym (length-take-le h.bad (drop h.outputs l.safety) (omega (arith, parts.safety, length-drop h.outputs l.safety)))) names.bad are.bad;
    constraints = names_at (length (drop (h.outputs + h.bad) l.safety)) h.constraints (omega (arith, parts.safety, length-drop (h.outputs + h.bad) l.safety)) names.constraints are.constraints;
    justice = names_at (length (split_by l.sizes l.liveness)) h.justice (sym (length-split l.sizes l.liveness ∙ parts.sizes)) names.justice are.justice;
    fairness = names_at (length (drop (sum l.sizes) l.liveness)) h.fairness (omega (arith, parts.liveness, length-drop (sum l.sizes) l.liveness)) names.fairness are.fairness;
  };
}

-- the parts of a circuit make one
pub netlist : (h : Header) (g : Graph) (symbols : List RawSymbol) (l : Lists) → NetlistLaw h g symbols l
netlist h g symbols l parts =
    netlist_within h g l (symbols_of symbols) (record {
      inputs = parts.inputs;
      latches = parts.latches;
      safety = parts.safety;
      sizes = parts.sizes;
      liveness = parts.liveness;
      safety_literals = parts.safety_literals;
      liveness_literals = parts.liveness_literals;
    }) (within h symbols parts.below parts.apart)

-- ---- a map by position

positions_are : (es : List (ℕ × List ℕ)) → map (λ (s : Symbol). s.position) (symbols_in es) ≡ keys_of es
positions_are [] = refl
positions_are (e ∷ es) = ap (λ (ks : List ℕ). e.0 ∷ ks) (positions_are es)

keys_below : (count : ℕ) (es : List (ℕ × List ℕ)) → AllByRecursion (λ p. p < count) (keys_of es) → AllByRecursion (λ (s : Symbol). s.position < count) (symbols_in es)
keys_below count [] all = tt
keys_below count (e ∷ es) all = (all.0, keys_below count es all.1)

names_keys : (count : ℕ) (es : List (ℕ × List ℕ)) → AllByRecursion (λ (s : Symbol). s.position < count) (symbols_in es) → AllByRecursion (λ p. p < count) (keys_of es)
names_keys count [] all = tt
names_keys count (e ∷ es) all = (all.0, names_keys count es all.1)

-- names are below a count if and only if the keys are
pub below_where_keys : (result : Bool) (count : ℕ) (es : List (ℕ × List ℕ)) (names : List Symbol) → symbols_in es ≡ names → IsTrue result ↔ All (λ p. p < count) (keys_of es) → IsStrictlySortedBy nat_cmp (keys_of es)
    → IsTrue result ↔ AreNamesBelow count names
below_where_keys result count es names seen both ordered = (
  λ yes. subst (AreNamesBelow count) seen (record {
    rising = subst IsStrictlyIncreasing (sym (positions_are es)) (IsStrictlyIncreasing-from_sorted (keys_of es) ordered);
    below = to_all (λ (s : Symbol). s.position < count) (symbols_in es) (keys_below count es (from_all (λ (p : ℕ). p < count) (keys_of es) (both.0 yes)));
  }),
  λ are. both.1 (to_all (λ (p : ℕ). p < count) (keys_of es) (names_keys count es (from_all (λ (s : Symbol). s.position < count) (symbols_in es) (subst (AreNamesBelow count) (sym seen) are).below))),
)
