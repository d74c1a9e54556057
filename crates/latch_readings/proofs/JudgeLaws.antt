-- What the judge's answer about the merged graph says.
use Rattle.std.proofs.Common.{ℕ, ◌≡◌, List, Option, None, refl, arith, ap, sym, subst, ◌∙◌}
use Rattle.std.specs.Option.{IfNone}
use Rattle.std.proofs.lemmas.Option.{slice_get_within}
use Rattle.aig_graph.specs.declared.graph.Latch.{Latch}
use Rattle.aig_graph.specs.declared.graph.Reset.{Reset}
use Rattle.aig_graph.specs.declared.graph.Reset.TheVariants.{Zero, One, Free}
use Rattle.aig_graph.specs.Graph.{Graph, IsGraph}
use Rattle.aig_graph.specs.Value.{opening_literal, signed_as}
use Rattle.cleaned_circuits.specs.Latches.{constant_of}
use Rattle.cleaned_circuits.specs.Merged.{replaced, replaced_latch}
use Rattle.cleaned_circuits.proofs.MergedLaws.{replaced-first_latch, replaced-latch}
use Rattle.merged_circuits.specs.Inductive.{IsInductive}
use Rattle.merged_circuits.specs.Readings.{IsReading, read, signature, substitutes_by}
use Rattle.merged_circuits.specs.Shown.{merged_graph}
use Rattle.merged_circuits.proofs.ShownLaws.{shown-inductive}
use Rattle.unit_refutations.specs.Classes.{AreAlike, IsAlike, told}

same-constant : (reset : Reset) → opening_literal reset 0 ≡ constant_of reset
same-constant Zero = refl
same-constant One = refl
same-constant Free = refl

-- what a latch of the merged graph is told is its signature
told-signature : (substitutes : List ℕ) (latch : Latch) → told (replaced_latch substitutes latch) ≡ signature substitutes latch
told-signature substitutes latch = ap (λ (sign : ℕ). signed_as sign (replaced substitutes latch.next)) (same-constant latch.reset)

-- steps preserve a reading if each latch of the merged graph is told what that is told which it
-- reads as
pub judges-right : (g : Graph) (held reads : List ℕ) → IsGraph g → IsReading g held reads → AreAlike (merged_graph g reads) reads → IsInductive g held reads
judges-right g held reads valid reading alike = shown-inductive g held reads valid (record {
  reading = reading;
  constants = λ j latch there zero values respects.
      let here : IsAlike (merged_graph g reads) j (read reads j) = alike j (omega (arith, reading.long, slice_get_within g.latches j latch there)) in
      ap values (sym (told-signature (substitutes_by g reads) latch))
      ∙ here.constant (replaced_latch (substitutes_by g reads) latch) (replaced-latch (substitutes_by g reads) g j latch there) zero values respects;
  alike = λ j i latch first there first_there is values respects.
      let here : IsAlike (merged_graph g reads) j (read reads j) = alike j (omega (arith, reading.long, slice_get_within g.latches j latch there)) in
      ap values (sym (told-signature (substitutes_by g reads) latch))
      ∙ here.first i (replaced_latch (substitutes_by g reads) latch) (replaced_latch (substitutes_by g reads) first) (replaced-latch (substitutes_by g reads) g j latch there)
      (replaced-latch (substitutes_by g reads) g i first first_there) (omega (arith, is, replaced-first_latch (substitutes_by g reads) g)) values respects
      ∙ ap values (told-signature (substitutes_by g reads) first);
})

-- what holds if nothing is found
pub none-open : {A P : Type 0} (o : Option A) → o ≡ None → IfNone o P → P
none-open {A} {P} o e h = subst (λ (p : Option A). IfNone p P) e h
