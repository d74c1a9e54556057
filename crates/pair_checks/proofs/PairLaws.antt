-- Both circuits as one graph, of the copies that were made.
use Rattle.std.proofs.Common.{inl, inr, ℕ, ◌+◌, ◌<◌, ◌≤◌, ◌≡◌, Bool, true, List, length, take, get_or, Option, Some, None, IfNone, IfSome, refl, arith, ap, sym, ◌∙◌, subst}
use Rattle.std.specs.List.{All}
use Rattle.std.proofs.lemmas.Bool.{cases_lt}
use Rattle.std.proofs.lemmas.List.{length-take-le}
use Rattle.std.proofs.lemmas.List.FromFn.{get_or-range_with_len, length-range_with_len}
use Rattle.std.proofs.lemmas.List.Sums.{count_by-le-length}
use Rattle.std.proofs.lemmas.Option.{none-some}
use Rattle.aig_graph.specs.Gates.{AreEqualIn, Gates, Grows, gates_of}
use Rattle.aig_graph.specs.Graph.{Graph, IsGraph, first_gate, first_latch, free_latches, is_free}
use Rattle.aig_graph.specs.Laws.{all_free}
use Rattle.gate_sharing.specs.Circuits.{no_equal}
use Rattle.gate_sharing.specs.Copies.{Copy, CopiesValues, IsCopy, copy_of}
use Rattle.gate_sharing.proofs.SharedLaws.{respects-fewer}
use Rattle.pair_checks.specs.declared.pairs.Pair.{Pair}
use Rattle.pair_checks.specs.Sides.{AreEqualAt, IsRead, IsSide, leaves_of}

-- a copy is a side of each graph whose gates have grown from its own
pub is-side : (p g : Graph) (k : Gates) (n : ℕ) (lits : List ℕ) (leaves copy : Copy) → leaves ≡ record { first = n; literals = lits } → n ≡ first_latch g → Grows k (gates_of p)
    → IsCopy k (no_equal leaves.first) g leaves copy → IsSide p g (leaves_of g lits) copy
is-side p g k n lits leaves copy is at grows copies = record {
  long = copies.long;
  follows = λ values own respects of_own same.
      let here : CopiesValues leaves (first_gate g) values own =
      subst (λ (l : Copy). CopiesValues l (first_gate g) values own) (sym (is ∙ ap (λ (m : ℕ). record { first = m; literals = lits }) at)) same in
      copies.follows values own (respects-fewer k (gates_of p) grows values respects) of_own (λ place substitute found. absurd (none-some substitute found)) here;
}

-- what holds of what may be there holds of what is
pub if-some : {A : Type 0} (P : A → Type 0) (o : Option A) (x : A) → o ≡ Some x → IfSome o P → P x
if-some P o x e h = subst (λ (p : Option _). IfSome p P) e h

-- the same bounds, by other names
pub read-in : (first n end m : ℕ) (reads : List ℕ) → first ≡ n → end ≡ m → All (IsRead first end) reads → All (IsRead n m) reads
read-in first n end m reads same other all = subst (λ (k : ℕ). All (IsRead n k) reads) other (subst (λ (k : ℕ). All (IsRead k end) reads) same all)

module _ (p : Pair) (first second : List ℕ) where
  -- one more place, by whether it is equal
  pub compare-more : (n : ℕ) (old new : Option ℕ) (equal : Bool) → IfNone old (AreEqualAt p first second n) → (new ≡ None → (equal ≡ true) × (old ≡ None))
      → (equal ≡ true → AreEqualIn (gates_of p.graph) (copy_of p.second (get_or second n 0)) (copy_of p.first (get_or first n 0))) → IfNone new (AreEqualAt p first second (n + 1))
  compare-more n old (Some place) equal before note here = tt
  compare-more n old None equal before note here = λ j less.
      let both = note refl in
      let all : AreEqualAt p first second n = subst (λ (o : Option ℕ). IfNone o (AreEqualAt p first second n)) both.1 before in
      elim (cases_lt j n) [
        | inl inside ↦ all j inside
        | inr past ↦ (
            let last : n ≡ j = omega (arith, less, past) in
            subst (λ (i : ℕ). AreEqualIn (gates_of p.graph) (copy_of p.second (get_or second i 0)) (copy_of p.first (get_or first i 0))) last (here both.0))
      ]

  -- places that are equal up to one are so up to those before
  pub compare-end : (n m : ℕ) (o : Option ℕ) → m ≤ n → IfNone o (AreEqualAt p first second n) → IfNone o (AreEqualAt p first second m)
  compare-end n m (Some place) fewer all = tt
  compare-end n m None fewer all = λ j less. all j (omega (arith, less, fewer))

-- the places of all free latches are small
pub free-small : (g : Graph) → IsGraph g → All (λ place. place < 268435455) (all_free g)
free-small g valid k d less =
    let n : ℕ = free_latches g in
    let within : k < n = omega (arith, less, length-range_with_len 0 n) in
    let few : n ≤ length g.latches = omega (arith, count_by-le-length is_free (take (length g.latches) g.latches), length-take-le (length g.latches) g.latches (omega arith)) in
    rw (get_or-range_with_len 0 n k d within) (omega (arith, within, few, valid.small))

-- places among the free latches are small
pub kept-small : (g : Graph) → IsGraph g → (kept : List ℕ) → All (λ place. place < free_latches g) kept → All (λ place. place < 268435455) kept
kept-small g valid kept below k d less =
    let few : free_latches g ≤ length g.latches = omega (arith, count_by-le-length is_free (take (length g.latches) g.latches), length-take-le (length g.latches) g.latches (omega arith)) in
    omega (arith, below k d less, few, valid.small)
