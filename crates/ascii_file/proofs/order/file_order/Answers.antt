use Rattle.std.proofs.Common.{ℕ, ◌∙◌, ◌++◌, ◌∷◌, [], List, sym, ap}
use Rattle.ascii_file.proofs.ReadyLaws.{range-push}
use Rattle.ascii_file.proofs.order.file_order.Goals as goal

pub loop-place-preserved : goal.loop-place-preserved
loop-place-preserved c = c.in_ok-push.ensures.items ∙ ap (λ (xs : List ℕ). xs ++ c.loop-place.place ∷ []) c.loop-place.invariant ∙ sym (range-push c.loop-place.place)
