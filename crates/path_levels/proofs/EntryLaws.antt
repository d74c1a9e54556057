-- Tables of levels and arrivals: what the entry of a variable is, and that of the next gate.
use Rattle.std.proofs.Common.{ℕ, ◌+◌, ◌-◌, ◌<◌, ◌≤◌, ◌≡◌, ◌∙◌, ◌++◌, inl, inr, suc, List, [], ◌∷◌, get_or, length, Some, sym, ap, ap₂, subst, arith}
use Rattle.std.specs.Prelude.{max, slice_index_or}
use Rattle.std.proofs.lemmas.Bool.{cases_lt, cond-false, cond-true, lt-leb, le-leb}
use Rattle.std.proofs.lemmas.List.{get_or_past}
use Rattle.std.proofs.lemmas.Option.{slice_get-get_or}
use Rattle.aig_graph.specs.Tables.{table}
use Rattle.aig_graph.proofs.TableLaws.{length-table, table-at, entry}
use Rattle.aig_graph.specs.declared.graph.Gate.{Gate}
use Rattle.aig_graph.specs.Graph.{Graph, IsGraph, IsGateAt, variable, first_gate, gate_at}
use Rattle.aig_graph.proofs.FoldingLaws.{gate_at-first_gate, gate_at-is}
use Rattle.path_levels.specs.Levels.{entry_at}

entry-before : (first : ℕ) (entries : List ℕ) (v : ℕ) → v < first → entry_at first entries v ≡ 0
unfolding entry_at
entry-before first entries v h = cond-false _ _ _ (lt-leb _ _ h)

entry-from : (first : ℕ) (entries : List ℕ) (v : ℕ) → first ≤ v → entry_at first entries v ≡ slice_index_or entries (v - first) 0
unfolding entry_at
entry-from first entries v h = cond-true {A = ℕ} _ _ _ (le-leb _ _ h)

-- past the table there is no entry
pub entry-past : (first n v : ℕ) (f : ℕ → ℕ) (entries : List ℕ) → entries ≡ table first n f → first + n ≤ v → entry_at first entries v ≡ 0
entry-past first n v f entries filled h =
    let long : length entries ≡ n = ap (λ (xs : List ℕ). length xs) filled ∙ length-table first n f in
    entry-from first entries v (omega arith) ∙ get_or_past entries (v - first) 0 (omega arith)

-- the entry of a variable up to the end of the table, if those before the table have 0
pub entry-of : (first n v : ℕ) (f : ℕ → ℕ) (entries : List ℕ) → ((w : ℕ) → w < first → f w ≡ 0) → entries ≡ table first n f → v < first + n → entry_at first entries v ≡ f v
entry-of first n v f entries ground filled h = elim (cases_lt v first) [
  | inl lt ↦ entry-before first entries v lt ∙ sym (ground v lt)
  | inr ge ↦ (
      let place : first + (v - first) ≡ v = omega (arith, ge) in
      entry-from first entries v ge
      ∙ ap (λ (xs : List ℕ). slice_index_or xs (v - first) 0) filled
      ∙ table-at first n f (v - first) 0 (omega (arith, h, ge))
      ∙ ap f place)
]

low-at : (first n most : ℕ) (f : ℕ → ℕ) (entries : List ℕ) → entries ≡ table first n f → ((w : ℕ) → f w ≤ most) → (v : ℕ) → entry_at first entries v ≤ most
low-at first n most f entries filled low v = elim (cases_lt v first) [
  | inl lt ↦ rw (entry-before first entries v lt) (omega arith)
  | inr ge ↦ elim (cases_lt v (first + n)) [
    | inl within ↦ (
        let is : entry_at first entries v ≡ f (first + (v - first)) = entry-from first entries v ge
        ∙ ap (λ (xs : List ℕ). slice_index_or xs (v - first) 0) filled
        ∙ table-at first n f (v - first) 0 (omega (arith, within, ge)) in
        omega (arith, is, low (first + (v - first))))
    | inr past ↦ rw (entry-past first n v f entries filled past) (omega arith)
  ]
]

-- no entry is greater than all that the table has
pub entries-low : (first start n most : ℕ) (f : ℕ → ℕ) (entries read : List ℕ) → start ≡ first → entries ≡ table first n f → read ≡ entries → ((w : ℕ) → f w ≤ most) → (v : ℕ) → entry_at start read v ≤ most
entries-low first start n most f entries read from filled is_read low v =
    subst (λ (m : ℕ). entry_at m read v ≤ most) (sym from) (low-at first n most f read (is_read ∙ filled) low v)

-- the gate at a place of the list
pub gate-at : (g : Graph) (k : ℕ) (gate : Gate) (gates : List Gate) → gates ≡ g.gates → k < length gates → gate ≡ get_or gates k gate → gate_at g (first_gate g + k) ≡ Some gate
gate-at g k gate gates same h there =
    let within : k < length g.gates = omega (arith, h, ap (λ (xs : List Gate). length xs) same) in
    gate_at-first_gate g k ∙ slice_get-get_or g.gates k gate within ∙ ap (λ (x : Gate). Some x) (sym (there ∙ ap (λ (xs : List Gate). get_or xs k gate) same))

-- what a gate is one more than, by the variables below it
abbrev pub Rises : Graph → (ℕ → ℕ) → Type 0
Rises g f = (v : ℕ) (gate : Gate) → gate_at g v ≡ Some gate → f v ≡ suc (max (f (variable gate.rhs0)) (f (variable gate.rhs1)))

-- the loop's step: a table up to a gate, and what the gate has by its fan-ins' entries
pub gate-more : (g : Graph) (first start n k x : ℕ) (f : ℕ → ℕ) (gate : Gate) (gates : List Gate) (entries read more : List ℕ) → IsGraph g → Rises g f
    → ((w : ℕ) → w < first → f w ≡ 0) → start ≡ first → first + n ≡ first_gate g + k → gates ≡ g.gates → k < length gates → gate ≡ get_or gates k gate
    → entries ≡ table first n f → read ≡ entries → more ≡ entries ++ x ∷ []
    → x ≡ suc (max (entry_at start read (variable gate.rhs0)) (entry_at start read (variable gate.rhs1)))
    → more ≡ table first (n + 1) f
gate-more g first start n k x f gate gates entries read more valid rises ground from place same h there filled is_read pushed is =
    let at : gate_at g (first_gate g + k) ≡ Some gate = gate-at g k gate gates same h there in
    let here : IsGateAt (first_gate g + k) gate = gate_at-is g valid (first_gate g + k) gate at in
    let of = λ (v : ℕ) (below : v < first + n). ap (λ (m : ℕ). entry_at m read v) from ∙ entry-of first n v f read ground (is_read ∙ filled) below in
    let upper : entry_at start read (variable gate.rhs0) ≡ f (variable gate.rhs0) = of (variable gate.rhs0) (omega (arith, here.below, place)) in
    let lower : entry_at start read (variable gate.rhs1) ≡ f (variable gate.rhs1) = of (variable gate.rhs1) (omega (arith, here.below, here.ordered, place)) in
    entry first n f entries more x filled pushed
    (is ∙ ap₂ (λ (a b : ℕ). suc (max a b)) upper lower ∙ sym (rises (first_gate g + k) gate at) ∙ ap f (sym place))
