-- Each latch has at each step the value of what it reads as.
use Rattle.std.proofs.Common.{ℕ, ◌<◌, ◌≡◌, suc, zero, List, Bool, true, false, not, Some, slice_get, refl, arith, ap, sym, ◌∙◌, add-one}
use Rattle.std.proofs.Math.Bool.{not-not}
use Rattle.std.proofs.lemmas.Bool.{and_parts, not-true}
use Rattle.aig_graph.specs.declared.graph.Latch.{Latch}
use Rattle.aig_graph.specs.declared.graph.Reset.{Reset}
use Rattle.aig_graph.specs.declared.graph.Reset.TheVariants.{Zero, One, Free}
use Rattle.aig_graph.specs.Gates.{Respects, gates_of}
use Rattle.aig_graph.specs.Graph.{Graph, IsGraph, variable, variables_end, is_free, free_before}
use Rattle.aig_graph.specs.Value.{Inputs, Choice, value, signed, opening}
use Rattle.aig_graph.specs.Laws.{ValueLaws}
use Rattle.aig_graph.proofs.ValueLaws.{value_laws}
use Rattle.aig_graph.proofs.SignLaws.{value_signed_as}
use Rattle.aig_graph.specs.Marking.{has}
use Rattle.cleaned_circuits.specs.Latches.{constant_of}
use Rattle.cleaned_circuits.specs.Merged.{replaced}
use Rattle.cleaned_circuits.proofs.LatchLaws.{constant-even}
use Rattle.merged_circuits.specs.Readings.{own_literal, read, may_merge, from_reset, ReadsAs, as_itself, as_constant, as_first, substitutes_by}
use Rattle.merged_circuits.specs.Inductive.{Agrees, IsInductive, told}
use Rattle.merged_circuits.proofs.ShownLaws.{substitutes-value}

-- a value negated if the reset is 1
abbrev pub flipped : Reset → Bool → Bool
flipped reset b = signed (constant_of reset) b

-- negated twice it is itself
pub flipped-twice : (reset : Reset) (b : Bool) → flipped reset (flipped reset b) ≡ b
flipped-twice Zero b = refl
flipped-twice One b = not-not b
flipped-twice Free b = refl

-- a known latch begins with its reset
pub opening-known : (reset : Reset) (next : ℕ) (b : Bool) → is_free (record { next = next; reset = reset }) ≡ false → opening reset b ≡ flipped reset false
opening-known Zero next b known = refl
opening-known One next b known = refl
opening-known Free next b known = absurd (cc)

-- a latch that may be merged is known
pub may-known : (held : List ℕ) (j : ℕ) (latch : Latch) → may_merge held j latch ≡ true → is_free latch ≡ false
may-known held j latch may = not-true (is_free latch) (and_parts (not (is_free latch)) (not (has held j)) may).0

module _ (g : Graph) (held reads : List ℕ) (valid : IsGraph g) (kept : IsInductive g held reads) (x : Inputs) (f : Choice) where
  laws : ValueLaws g x f
  laws = value_laws g valid x f

  abbrev vals : ℕ → ℕ → Bool
  vals t lit = value g x f t lit

  from_reset-value : (t : ℕ) (reset : Reset) (lit : ℕ) → vals t (from_reset reset lit) ≡ flipped reset (vals t lit)
  from_reset-value t reset lit = value_signed_as (vals t) (laws.negation t) (constant_of reset) lit

  constant-value : (t : ℕ) (reset : Reset) → vals t (constant_of reset) ≡ flipped reset false
  constant-value t Zero = laws.constant t
  constant-value t One = laws.negation t 0 ∙ ap not (laws.constant t)
  constant-value t Free = laws.constant t

  respects : (t : ℕ) → Respects (gates_of g) (vals t)
  respects t = record { constant = laws.constant t; negation = laws.negation t; gates = laws.gate t }

  begins : (j : ℕ) (latch : Latch) → slice_get g.latches j ≡ Some latch → is_free latch ≡ false → vals 0 (own_literal g j) ≡ flipped latch.reset false
  begins j latch there known = laws.latch_at_start j latch there ∙ opening-known latch.reset latch.next (f (free_before g j)) known

  later : (t j : ℕ) (latch : Latch) → slice_get g.latches j ≡ Some latch → vals (suc t) (own_literal g j) ≡ vals t latch.next
  later t j latch there = ap (λ (n : ℕ). vals n (own_literal g j)) (sym (add-one t)) ∙ laws.latch_later t j latch there

  first-value : (t j i : ℕ) (latch first : Latch) (lit : ℕ) → lit ≡ from_reset latch.reset (from_reset first.reset (own_literal g i))
      → vals t lit ≡ flipped latch.reset (flipped first.reset (vals t (own_literal g i)))
  first-value t j i latch first lit e =
      ap (vals t) e ∙ from_reset-value t latch.reset (from_reset first.reset (own_literal g i))
      ∙ ap (flipped latch.reset) (from_reset-value t first.reset (own_literal g i))

  at-start : (j : ℕ) (latch : Latch) (lit : ℕ) → slice_get g.latches j ≡ Some latch → ReadsAs g held reads j latch lit → vals 0 lit ≡ vals 0 (own_literal g j)
  at-start j latch lit there (as_itself e) = ap (vals 0) e
  at-start j latch lit there (as_constant may e) = ap (vals 0) e ∙ constant-value 0 latch.reset ∙ sym (begins j latch there (may-known held j latch may))
  at-start j latch lit there (as_first i first less first_there may may_first own e) =
      first-value 0 j i latch first lit e
      ∙ ap (λ (b : Bool). flipped latch.reset (flipped first.reset b)) (begins i first first_there (may-known held i first may_first))
      ∙ ap (flipped latch.reset) (flipped-twice first.reset false)
      ∙ sym (begins j latch there (may-known held j latch may))

  at-later : (t : ℕ) → Agrees g reads (vals t) → (j : ℕ) (latch : Latch) (lit : ℕ) → slice_get g.latches j ≡ Some latch → read reads j ≡ lit → ReadsAs g held reads j latch lit
      → vals (suc t) lit ≡ vals (suc t) (own_literal g j)
  at-later t agree j latch lit there is (as_itself e) = ap (vals (suc t)) e
  at-later t agree j latch lit there is (as_constant may e) =
      let zero_told : vals t (told latch) ≡ vals t 0 = kept.constants j latch there (omega (arith, is, e, constant-even latch.reset)) (vals t) (respects t) agree in
      let stays : flipped latch.reset (vals t latch.next) ≡ false = sym (from_reset-value t latch.reset latch.next) ∙ zero_told ∙ laws.constant t in
      ap (vals (suc t)) e ∙ constant-value (suc t) latch.reset ∙ ap (flipped latch.reset) (sym stays)
      ∙ flipped-twice latch.reset (vals t latch.next) ∙ sym (later t j latch there)
  at-later t agree j latch lit there is (as_first i first less first_there may may_first own e) =
      let same : vals t (told latch) ≡ vals t (told first) = kept.alike j i latch first there first_there (omega (arith, is, e)) (vals t) (respects t) agree in
      let both : flipped first.reset (vals t first.next) ≡ flipped latch.reset (vals t latch.next) =
      sym (from_reset-value t first.reset first.next) ∙ sym same ∙ from_reset-value t latch.reset latch.next in
      first-value (suc t) j i latch first lit e
      ∙ ap (λ (b : Bool). flipped latch.reset (flipped first.reset b)) (later t i first first_there)
      ∙ ap (flipped latch.reset) both ∙ flipped-twice latch.reset (vals t latch.next) ∙ sym (later t j latch there)

  -- by induction on the steps
  pub agree-always : (t : ℕ) → Agrees g reads (vals t)
  agree-always zero = λ j latch there. at-start j latch (read reads j) there (kept.reading.each j latch there)
  agree-always (suc t) = λ j latch there. at-later t (agree-always t) j latch (read reads j) there refl (kept.reading.each j latch there)

  -- what stands for a literal has its value
  pub substitutes_by-value : (t lit : ℕ) → variable lit < variables_end g → value g x f t (replaced (substitutes_by g reads) lit) ≡ value g x f t lit
  substitutes_by-value t lit h = substitutes-value g held reads valid kept.reading (vals t) (respects t) (agree-always t) lit h
