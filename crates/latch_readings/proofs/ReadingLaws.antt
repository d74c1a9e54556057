-- What latches read as, one by one.
use Rattle.std.proofs.Common.{ℕ, ◌+◌, ◌<◌, ◌≡◌, List, length, Bool, true, false, not, nat_eq, Some, slice_get, get_or, arith, ap, sym, subst, ◌∙◌}
use Rattle.std.proofs.lemmas.List.{get_or_default}
use Rattle.std.proofs.lemmas.Option.{same_Some}
use Rattle.aig_graph.specs.declared.graph.Latch.{Latch}
use Rattle.aig_graph.specs.Graph.{Graph, first_latch, variable}
use Rattle.aig_graph.specs.Value.{signed_as}
use Rattle.cleaned_circuits.specs.Latches.{constant_of}
use Rattle.merged_circuits.specs.Lines.{is_merged, latch_line}
use Rattle.merged_circuits.specs.Readings.{ReadsAs, as_first, from_reset, may_merge, own_literal, read}
use Rattle.merged_circuits.proofs.ReadingLaws.{variable-from_reset}
use Rattle.latch_readings.specs.Judgements.{IsOfFirst}

-- what the loop reads
pub item-read : (reads : List ℕ) (k lit : ℕ) → k < length reads → lit ≡ get_or reads k lit → lit ≡ read reads k
item-read reads k lit h e = e ∙ get_or_default reads k lit 0 h

-- whether a latch reads as another
pub merged-is : (g : Graph) (reads : List ℕ) (k lit own : ℕ) (ne : Bool) → k < length reads → lit ≡ get_or reads k lit → own ≡ own_literal g k → ne ≡ not (nat_eq lit own) → ne ≡ is_merged (latch_line g reads k)
merged-is g reads k lit own ne h e is signature_ne =
    signature_ne ∙ ap (λ (n : ℕ). not (nat_eq n own)) (item-read reads k lit h e) ∙ ap (λ (n : ℕ). not (nat_eq (read reads k) n)) is

-- and by what line
pub line-is : (g : Graph) (reads : List ℕ) (k lit own v : ℕ) → k < length reads → lit ≡ get_or reads k lit → own ≡ own_literal g k → v ≡ variable own → record { latch = v; reads = lit } ≡ latch_line g reads k
line-is g reads k lit own v h e is at =
    let place : v ≡ first_latch g + k = omega (arith, at, is) in
    ap (λ (n : ℕ). record { latch = n; reads = lit }) place ∙ ap (λ (n : ℕ). record { latch = first_latch g + k; reads = n }) (item-read reads k lit h e)

-- a test has one answer
pub not-both : (b : Bool) → b ≡ false → b ≡ true → ⊥
not-both true e f = cc
not-both false e f = cc

-- the literal that is compared
pub first-literal : (g : Graph) (i : ℕ) (latch first : Latch) (own start started end last : ℕ) → own ≡ own_literal g i → start ≡ constant_of first.reset → started ≡ signed_as start own
    → end ≡ constant_of latch.reset → last ≡ signed_as end started → last ≡ from_reset latch.reset (from_reset first.reset (own_literal g i))
first-literal g i latch first own start started end last own_is start_is started_is end_is last_is =
    last_is ∙ ap (λ (n : ℕ). signed_as n started) end_is
    ∙ ap (signed_as (constant_of latch.reset)) (started_is ∙ ap (λ (n : ℕ). signed_as n own) start_is ∙ ap (signed_as (constant_of first.reset)) own_is)

-- an earlier latch that is its own reading has the literal, negated by both resets
pub first-reads : (g : Graph) (held reads : List ℕ) (j i : ℕ) (latch first : Latch) (own start started end last lit : ℕ) → i < j → slice_get g.latches i ≡ Some first
    → may_merge held i first ≡ true → read reads i ≡ own → own ≡ own_literal g i → start ≡ constant_of first.reset → started ≡ signed_as start own
    → end ≡ constant_of latch.reset → last ≡ signed_as end started → lit ≡ last → IsOfFirst g held reads j latch lit
first-reads g held reads j i latch first own start started end last lit less there may_first reads_own own_is start_is started_is end_is last_is is = record {
  i = i;
  first = first;
  less = less;
  there = there;
  may = may_first;
  own = reads_own ∙ own_is;
  is = is ∙ first-literal g i latch first own start started end last own_is start_is started_is end_is last_is;
}

module _ (g : Graph) (held reads : List ℕ) (j : ℕ) (latch : Latch) (lit : ℕ) where
  -- the literal is of that latch's variable
  pub of-first-variable : (f : IsOfFirst g held reads j latch lit) → variable lit ≡ first_latch g + f.i
  of-first-variable f =
      ap variable f.is ∙ variable-from_reset latch.reset (from_reset f.first.reset (own_literal g f.i)) ∙ variable-from_reset f.first.reset (own_literal g f.i) ∙ omega arith

  -- so it is told which latch it is
  pub of-first-at : (i : ℕ) (first : Latch) → variable lit ≡ first_latch g + i → slice_get g.latches i ≡ Some first → IsOfFirst g held reads j latch lit
      → (may_merge held i first ≡ true) × (read reads i ≡ own_literal g i) × (lit ≡ from_reset latch.reset (from_reset first.reset (own_literal g i)))
  of-first-at i first at there f =
      let place : f.i ≡ i = omega (arith, at, of-first-variable f) in
      let same : f.first ≡ first = same_Some f.first first (sym f.there ∙ ap (slice_get g.latches) place ∙ there) in
      subst (λ (x : Latch). (may_merge held i x ≡ true) × (read reads i ≡ own_literal g i) × (lit ≡ from_reset latch.reset (from_reset x.reset (own_literal g i)))) same
      (subst (λ (n : ℕ). (may_merge held n f.first ≡ true) × (read reads n ≡ own_literal g n) × (lit ≡ from_reset latch.reset (from_reset f.first.reset (own_literal g n)))) place (f.may, f.own, f.is))

  -- a latch that may be merged may read so
  pub as-of-first : may_merge held j latch ≡ true → IsOfFirst g held reads j latch lit → ReadsAs g held reads j latch lit
  as-of-first may f = as_first f.i f.first f.less f.there may f.may f.own f.is
