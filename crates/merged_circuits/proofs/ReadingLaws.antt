-- What a latch reads as: its sign, and what stands for the variables before the gates.
use Rattle.std.proofs.Common.{zero-add, ℕ, ◌+◌, ◌-◌, ◌*◌, ◌<◌, ◌≤◌, ◌≡◌, inl, inr, List, ◌++◌, length, length-append, Some, slice_get, get_or, arith, ap, sym, ◌∙◌}
use Rattle.std.proofs.lemmas.Bool.{cases_lt}
use Rattle.std.proofs.lemmas.List.{get_or_append_left, get_or-append-add}
use Rattle.aig_graph.specs.declared.graph.Latch.{Latch}
use Rattle.aig_graph.specs.declared.graph.Reset.{Reset}
use Rattle.aig_graph.specs.Graph.{Graph, variable, first_latch}
use Rattle.aig_graph.specs.Value.{signed_as}
use Rattle.aig_graph.proofs.KindLaws.{element}
use Rattle.aig_graph.specs.Tables.{table}
use Rattle.aig_graph.proofs.TableLaws.{length-table, table-at}
use Rattle.cleaned_circuits.specs.Latches.{constant_of}
use Rattle.cleaned_circuits.specs.Merged.{replaced}
use Rattle.cleaned_circuits.proofs.LatchLaws.{constant-even}
use Rattle.cleaned_circuits.proofs.SubstituteLaws.{AreLeaves}
use Rattle.merged_circuits.specs.Readings.{own_literal, read, from_reset, ReadsAs, as_itself, as_constant, as_first, IsReading, leaves}

-- negated twice
pub signed_as-twice : (lit base : ℕ) → signed_as lit (signed_as lit base) ≡ base
signed_as-twice lit base = omega arith

-- by one reset twice
pub from_reset-twice : (reset : Reset) (lit : ℕ) → from_reset reset (from_reset reset lit) ≡ lit
from_reset-twice reset lit = signed_as-twice (constant_of reset) lit

-- the variable stays
pub variable-from_reset : (reset : Reset) (lit : ℕ) → variable (from_reset reset lit) ≡ variable lit
variable-from_reset reset lit = omega arith

-- the constant of the reset is 0, negated by it
pub from_reset-zero : (reset : Reset) → from_reset reset 0 ≡ constant_of reset
from_reset-zero reset = omega (arith, constant-even reset)

-- and the other way round
pub from_reset-constant : (reset : Reset) → from_reset reset (constant_of reset) ≡ 0
from_reset-constant reset = omega (arith, constant-even reset)

-- how a latch reads: as its constant, or as a latch, negated by both resets
pub data Form (g : Graph) (j : ℕ) (latch : Latch) (lit : ℕ) : Type 0 where
  constant : lit ≡ constant_of latch.reset → Form g j latch lit
  latch_of : (i : ℕ) (first : Latch) → i ≤ j → slice_get g.latches i ≡ Some first → lit ≡ from_reset latch.reset (from_reset first.reset (own_literal g i)) → Form g j latch lit

module _ (g : Graph) (held reads : List ℕ) where
  -- a reading has one of these forms
  pub form : (j : ℕ) (latch : Latch) (lit : ℕ) → slice_get g.latches j ≡ Some latch → ReadsAs g held reads j latch lit → Form g j latch lit
  form j latch lit there (as_itself e) = latch_of j latch (omega arith) there (e ∙ sym (from_reset-twice latch.reset (own_literal g j)))
  form j latch lit there (as_constant may e) = constant e
  form j latch lit there (as_first i first less first_there may may_first own e) = latch_of i first (omega arith) first_there e

  -- of no later variable than the latch
  pub form-variable : (j : ℕ) (latch : Latch) (lit : ℕ) → Form g j latch lit → variable lit ≤ first_latch g + j
  form-variable j latch lit (constant e) = omega (arith, e, constant-even latch.reset)
  form-variable j latch lit (latch_of i first less there e) = omega (arith, e)

  length-own : length (table 0 (first_latch g) (λ v. 2 * v)) ≡ first_latch g
  length-own = length-table 0 (first_latch g) (λ v. 2 * v)

  -- one for each variable before the gates
  pub length-leaves : length (leaves g reads) ≡ first_latch g + length reads
  unfolding leaves
  length-leaves = omega (arith, length-append (table 0 (first_latch g) (λ v. 2 * v)) reads, length-own)

  -- the constant and the inputs stand for themselves
  pub leaf-low : (v : ℕ) → v < first_latch g → get_or (leaves g reads) v 0 ≡ 2 * v
  unfolding leaves
  leaf-low v h =
      get_or_append_left (table 0 (first_latch g) (λ w. 2 * w)) reads 0 v (omega (arith, length-own))
      ∙ table-at 0 (first_latch g) (λ w. 2 * w) v 0 h ∙ ap (λ (w : ℕ). 2 * w) (zero-add v)

  -- for a latch there stands what it reads as
  pub leaf-latch : (j : ℕ) → get_or (leaves g reads) (first_latch g + j) 0 ≡ read reads j
  unfolding leaves
  leaf-latch j =
      let place : first_latch g + j ≡ length (table 0 (first_latch g) (λ v. 2 * v)) + j = omega (arith, length-own) in
      ap (λ (w : ℕ). get_or (table 0 (first_latch g) (λ v. 2 * v) ++ reads) w 0) place ∙ get_or-append-add (table 0 (first_latch g) (λ v. 2 * v)) reads j 0

  -- what stands for a constant, and for a latch's literal
  pub replaced-constant : (lit : ℕ) → variable lit ≡ 0 → replaced (leaves g reads) lit ≡ lit
  replaced-constant lit e =
      let low : get_or (leaves g reads) (variable lit) 0 ≡ 2 * variable lit = leaf-low (variable lit) (omega arith) in
      ap (signed_as lit) low ∙ omega (arith, e)

  -- replaced, of a literal of a latch
  pub replaced-latch_literal : (lit i : ℕ) → variable lit ≡ first_latch g + i → replaced (leaves g reads) lit ≡ signed_as lit (read reads i)
  replaced-latch_literal lit i e = ap (λ (v : ℕ). signed_as lit (get_or (leaves g reads) v 0)) e ∙ ap (signed_as lit) (leaf-latch i)

  -- a reading may begin a run over the gates
  pub are-leaves : IsReading g held reads → AreLeaves g (leaves g reads)
  are-leaves reading = record {
    long = omega (arith, length-leaves, reading.long);
    below = λ v h. elim (cases_lt v (first_latch g)) [
      | inl low ↦ omega (arith, leaf-low v low)
      | inr past ↦ (
          let there = element g.latches (v - first_latch g) (omega arith) in
          let place : first_latch g + (v - first_latch g) ≡ v = omega arith in
          let lit : ℕ = read reads (v - first_latch g) in
          let here : get_or (leaves g reads) v 0 ≡ lit = ap (λ (w : ℕ). get_or (leaves g reads) w 0) (sym place) ∙ leaf-latch (v - first_latch g) in
          let least : variable lit ≤ first_latch g + (v - first_latch g) =
          form-variable (v - first_latch g) there.0 lit (form (v - first_latch g) there.0 lit there.1 (reading.each (v - first_latch g) there.0 there.1)) in
          omega (arith, here, least, place))
    ];
  }
