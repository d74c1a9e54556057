use Rattle.std.proofs.Common.{ℕ, List, [], ◌∷◌, ◌++◌, ap, arith, ◌∙◌}
use Rattle.clean.proofs.KeptPlacesLaws.{range-next}
use Rattle.clean.proofs.places.all_places.Goals as goal

pub loop-place-preserved : goal.loop-place-preserved
loop-place-preserved c = record {
  few = omega (arith, c.loop-place.invariant.few, c.push_reserved.ensures.len);
  room = omega (arith, c.loop-place.invariant.room, c.push_reserved.ensures.capacity);
  filled = c.push_reserved.ensures.items ∙ ap (λ (xs : List ℕ). xs ++ c.loop-place.place ∷ []) c.loop-place.invariant.filled ∙ range-next c.loop-place.place;
}
