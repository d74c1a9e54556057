-- Lists of names without newline.
use Rattle.std.proofs.Common.{ℕ, ◌≢◌, List, [], ◌∷◌, ◌++◌, map, filter, Bool}
use Rattle.std.specs.List.{All, AllByRecursion}
use Rattle.std.proofs.lemmas.List.Elements.{All-from_recursion, recursion_from_All, All-map, All-filter}
use Rattle.aig_graph.specs.declared.properties.Symbol.{Symbol}
use Rattle.aig_graph.specs.declared.properties.Symbols.{Symbols}
use Rattle.aig_graph.specs.Circuits.{Netlist}
use Rattle.ascii_file.specs.Laws.{all_names}

abbrev pub IsOneLine : Symbol → Type 0
IsOneLine symbol = All (λ b. b ≢ 10) symbol.name

abbrev pub AreOneLine : List Symbol → Type 0
AreOneLine names = AllByRecursion IsOneLine names

-- what holds of each of two joined lists' elements holds of those of both
pub parts : {X : Type 0} (P : X → Type 0) (xs ys : List X) → AllByRecursion P (xs ++ ys) → AllByRecursion P xs × AllByRecursion P ys
parts P [] ys all = (tt, all)
parts P (x ∷ xs) ys all = let rest = parts P xs ys all.1 in ((all.0, rest.0), rest.1)

-- what holds of the elements of two lists holds of those of the joined list
pub joined : {X : Type 0} (P : X → Type 0) (xs ys : List X) → AllByRecursion P xs → AllByRecursion P ys → AllByRecursion P (xs ++ ys)
joined P [] ys front back = back
joined P (x ∷ xs) ys front back = (front.0, joined P xs ys front.1 back)

abbrev pub placed : (Symbol → ℕ) → Symbol → Symbol
placed position x = record x { position = position x }

-- some of the names, at other positions
pub picked : (position : Symbol → ℕ) (test : Symbol → Bool) (names : List Symbol) → AreOneLine names → AreOneLine (map (placed position) (filter test names))
picked position test names all =
    recursion_from_All IsOneLine (map (placed position) (filter test names)) (All-map IsOneLine (placed position) (filter test names) (All-filter test IsOneLine names (All-from_recursion IsOneLine names all)))

-- other names of latches
pub with_latches : (s : Symbols) (latches : List Symbol) → AreOneLine (all_names s) → (AreOneLine s.latches → AreOneLine latches) → AreOneLine (all_names (record s { latches = latches }))
with_latches s latches all more =
    let others : List Symbol = s.outputs ++ (s.bad ++ (s.constraints ++ (s.justice ++ s.fairness))) in
    let first = parts IsOneLine s.inputs (s.latches ++ others) all in
    let second = parts IsOneLine s.latches others first.1 in
    joined IsOneLine s.inputs (latches ++ others) first.0 (joined IsOneLine latches others (more second.0) second.1)

abbrev pub HasOneLineNames : Netlist → Type 0
HasOneLineNames c = AreOneLine (all_names c.symbols)
