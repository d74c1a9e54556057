-- The substitutes by a reading, entry by entry.
use Rattle.std.proofs.Common.{ℕ, ◌+◌, ◌<◌, ◌≡◌, List, [], ◌∷◌, ◌++◌, length, take, get_or, refl, arith, ap, sym, ◌∙◌, add-one}
use Rattle.std.proofs.Math.Seq.{take-suc}
use Rattle.aig_graph.specs.Graph.{Graph, first_latch, variables_end}
use Rattle.cleaned_circuits.specs.Merged.{merging_from, substitutes_after}
use Rattle.cleaned_circuits.proofs.SubstituteLaws.{length-merge_gates}
use Rattle.merged_circuits.specs.Readings.{leaves, substitutes_by}
use Rattle.merged_circuits.proofs.ReadingLaws.{length-leaves}
use Rattle.clean.specs.Substitutions.{from_first, own_literals}

-- for each variable there stands a literal
pub substitutes_by-long : (g : Graph) (reads : List ℕ) → length reads ≡ length g.latches → length (substitutes_by g reads) ≡ variables_end g
unfolding substitutes_after
substitutes_by-long g reads long = omega (arith, length-merge_gates g.gates (merging_from (leaves g reads)), length-leaves g [] reads, long)

-- what is known before the gates, as the substitution has it
pub leaves-is : (g : Graph) (reads : List ℕ) → from_first (first_latch g) reads ≡ leaves g reads
unfolding from_first own_literals leaves
leaves-is g reads = refl

-- one more element at the end
pub take-more : (xs : List ℕ) (k x : ℕ) → k < length xs → x ≡ get_or xs k x → take (k + 1) xs ≡ take k xs ++ x ∷ []
take-more xs k x h e = ap (λ (n : ℕ). take n xs) (add-one k) ∙ take-suc xs k x h ∙ ap (λ (z : ℕ). take k xs ++ z ∷ []) (sym e)
