-- The arrivals of latches and gates.
use Rattle.std.proofs.Common.{ℕ, ◌+◌, ◌*◌, ◌<◌, ◌≤◌, ◌≡◌, ◌∙◌, ◌++◌, inl, inr, suc, List, [], ◌∷◌, get_or, length, Option, Some, None, sym, ap, arith}
use Rattle.std.proofs.lemmas.Bool.{cases_lt}
use Rattle.std.proofs.lemmas.Option.{slice_get-get_or}
use Rattle.aig_graph.specs.Tables.{table}
use Rattle.aig_graph.proofs.TableLaws.{entry}
use Rattle.aig_graph.specs.declared.literal.TheConstants.{MAX_VARIABLES}
use Rattle.aig_graph.specs.declared.graph.Latch.{Latch}
use Rattle.aig_graph.specs.Graph.{Graph, IsGraph, variable, first_latch, first_gate, variables_end, latch_at, gate_at}
use Rattle.aig_graph.proofs.FoldingLaws.{gate_at-before, fold_gates-leaf, fold_gates-gate}
use Rattle.aig_graph.proofs.KindLaws.{gate_place, latch_at-before, latch_at-first_latch, latch_at-gates}
use Rattle.frame_net.proofs.PassableLaws.{gate_cases}
use Rattle.path_levels.specs.Levels.{one_above, level, entry_at}
use Rattle.path_levels.specs.Arrivals.{level_of_next, next_level, arrival}
use Rattle.path_levels.proofs.EntryLaws.{Rises}
use Rattle.path_levels.proofs.LevelLaws.{rise-bound, level-bound, entry-level}

-- what is no gate arrives with its next literal
arrival-no_gate : (g : Graph) (v : ℕ) → gate_at g v ≡ None → arrival g v ≡ next_level g v
unfolding arrival
arrival-no_gate g v e = fold_gates-leaf g (next_level g) one_above v e

-- a gate arrives one later than the later of its fan-ins
pub arrival-gate : (g : Graph) → IsGraph g → Rises g (arrival g)
unfolding arrival
arrival-gate g valid v gate e = fold_gates-gate g valid (next_level g) one_above v gate e

-- before the first latch nothing has to arrive
pub arrival-before : (g : Graph) (v : ℕ) → v < first_latch g → arrival g v ≡ 0
arrival-before g v h = arrival-no_gate g v (gate_at-before g v (omega arith)) ∙ ap (level_of_next g) (latch_at-before g v h)

next-bound : (g : Graph) (v : ℕ) → next_level g v ≤ variables_end g
next-bound g v = by (latch_at g v)
  where
    by : (o : Option Latch) → level_of_next g o ≤ variables_end g
    by None = omega arith
    by (Some latch) = level-bound g (variable latch.next)

arrival-up : (g : Graph) (v : ℕ) → arrival g v ≤ variables_end g + suc v
unfolding arrival
arrival-up g v = rise-bound g (next_level g) (variables_end g) (next-bound g) v

arrival-past : (g : Graph) (v : ℕ) → variables_end g ≤ v → arrival g v ≡ 0
arrival-past g v h = elim (gate_cases g v) [
  | inl none ↦ arrival-no_gate g v none ∙ ap (level_of_next g) (latch_at-gates g v (omega arith))
  | inr some ↦ absurd (omega (arith, h, (gate_place g v some.0 some.1).below))
]

-- no arrival is greater than twice the number of variables
pub arrival-bound : (g : Graph) → IsGraph g → (v : ℕ) → arrival g v ≤ 2 * MAX_VARIABLES
arrival-bound g valid v = elim (cases_lt v (variables_end g)) [
  | inl lt ↦ omega (arith, lt, arrival-up g v, valid.small)
  | inr ge ↦ rw (arrival-past g v ge) (omega arith)
]

-- the loop's step over latches: the table with the level of the next one's next literal
pub latch-more : (g : Graph) (first k v x : ℕ) (latch : Latch) (latches : List Latch) (levels read arrivals more : List ℕ) → first ≡ first_gate g
    → levels ≡ table (first_gate g) (length g.gates) (level g) → read ≡ levels → latches ≡ g.latches → k < length latches → latch ≡ get_or latches k latch
    → arrivals ≡ table (first_latch g) k (arrival g) → more ≡ arrivals ++ x ∷ []
    → v ≡ variable latch.next → x ≡ entry_at first read v
    → more ≡ table (first_latch g) (k + 1) (arrival g)
latch-more g first k v x latch latches levels read arrivals more from leveled is_read same h there filled pushed of is =
    let within : k < length g.latches = omega (arith, h, ap (λ (xs : List Latch). length xs) same) in
    let at : latch_at g (first_latch g + k) ≡ Some latch =
    latch_at-first_latch g k ∙ slice_get-get_or g.latches k latch within ∙ ap (λ (l : Latch). Some l) (sym (there ∙ ap (λ (xs : List Latch). get_or xs k latch) same)) in
    entry (first_latch g) k (arrival g) arrivals more x filled pushed
    (is ∙ ap (λ (w : ℕ). entry_at first read w) of ∙ ap (λ (n : ℕ). entry_at n read (variable latch.next)) from ∙ entry-level g read (is_read ∙ leveled) (variable latch.next)
    ∙ sym (arrival-no_gate g (first_latch g + k) (gate_at-before g (first_latch g + k) (omega (arith, within))) ∙ ap (level_of_next g) at))
