-- What stands for a variable, by the entries from the first latch on.
use Rattle.std.proofs.Common.{zero-add, ℕ, ◌+◌, ◌-◌, ◌*◌, ◌<◌, ◌≤◌, ◌≡◌, List, [], ◌∷◌, ◌++◌, length, get_or, arith, ap, sym, ◌∙◌, length-append, append_assoc}
use Rattle.std.proofs.lemmas.List.{append-nil, get_or_append_left, get_or-append-add, get_or_default}
use Rattle.aig_graph.specs.Graph.{variable}
use Rattle.aig_graph.specs.Tables.{table}
use Rattle.aig_graph.specs.Value.{signed_as}
use Rattle.aig_graph.proofs.TableLaws.{length-table, table-at}
use Rattle.cleaned_circuits.specs.Merged.{replaced}
use Rattle.clean.specs.Substitutions.{own_literals, from_first}

-- there is an own literal for each variable before the first latch
pub length-own_literals : (first : ℕ) → length (own_literals first) ≡ first
unfolding own_literals
length-own_literals first = length-table 0 first (λ v. 2 * v)

-- the whole table has the entries before the first latch and those from it on
pub length-from_first : (first : ℕ) (literals : List ℕ) → length (from_first first literals) ≡ first + length literals
unfolding from_first
length-from_first first literals = omega (arith, length-append (own_literals first) literals, length-own_literals first)

-- without entries from the first latch on, the table has each earlier variable's own literal
pub from_first-nil : (first : ℕ) → from_first first [] ≡ own_literals first
unfolding from_first
from_first-nil first = append-nil (own_literals first)

-- an entry at the end of those from the first latch on stands at the end of the table
pub from_first-push : (first : ℕ) (literals more : List ℕ) (lit : ℕ) → more ≡ literals ++ lit ∷ [] → from_first first more ≡ from_first first literals ++ lit ∷ []
unfolding from_first
from_first-push first literals more lit pushed = ap (λ (xs : List ℕ). own_literals first ++ xs) pushed ∙ sym (append_assoc (own_literals first) literals (lit ∷ []))

own-at : (first v : ℕ) → v < first → get_or (own_literals first) v 0 ≡ 2 * v
unfolding own_literals
own-at first v h = table-at 0 first (λ w. 2 * w) v 0 h ∙ ap (λ (w : ℕ). 2 * w) (zero-add v)

substitute-low : (first v : ℕ) (literals : List ℕ) → v < first → get_or (from_first first literals) v 0 ≡ 2 * v
unfolding from_first
substitute-low first v literals h =
    get_or_append_left (own_literals first) literals 0 v (omega (arith, length-own_literals first)) ∙ own-at first v h

substitute-from : (first v : ℕ) (literals : List ℕ) → first ≤ v → get_or (from_first first literals) v 0 ≡ get_or literals (v - first) 0
unfolding from_first
substitute-from first v literals h =
    let place : v ≡ length (own_literals first) + (v - first) = omega (arith, length-own_literals first) in
    ap (λ (w : ℕ). get_or (own_literals first ++ literals) w 0) place ∙ get_or-append-add (own_literals first) literals (v - first) 0

signed-own : (lit n : ℕ) → n ≡ 2 * variable lit → lit ≡ signed_as lit n
signed-own lit n e = omega arith

-- a literal of a variable before the first latch is replaced by itself
pub replaced-low : (first lit : ℕ) (literals : List ℕ) → variable lit < first → lit ≡ replaced (from_first first literals) lit
replaced-low first lit literals h = signed-own lit (get_or (from_first first literals) (variable lit) 0) (substitute-low first (variable lit) literals h)

-- a literal of a variable from the first latch on is replaced by its entry, its sign kept
pub replaced-from : (first lit base v : ℕ) (literals : List ℕ) → v ≡ variable lit → first ≤ v → base ≡ get_or literals (v - first) base → v - first < length literals
    → signed_as lit base ≡ replaced (from_first first literals) lit
replaced-from first lit base v literals same h read within =
    let entry : base ≡ get_or literals (v - first) 0 = read ∙ get_or_default literals (v - first) base 0 within in
    let here : get_or (from_first first literals) (variable lit) 0 ≡ get_or literals (v - first) 0 = ap (λ (w : ℕ). get_or (from_first first literals) w 0) (sym same) ∙ substitute-from first v literals h in
    ap (signed_as lit) (entry ∙ sym here)

-- that substitution, of a table that has these entries
pub long-is : (first : ℕ) (literals table : List ℕ) → from_first first literals ≡ table → length table ≡ first + length literals
long-is first literals table is = ap (λ (xs : List ℕ). length xs) (sym is) ∙ length-from_first first literals
