use Rattle.std.proofs.Common.{ℕ, ◌≡◌, ◌++◌, ◌∙◌, List, [], ◌∷◌, ap, get_or, refl, suc, zero}
use Rattle.clean.proofs.kept.widen.Goals as goal

-- a 0 at the end is what is read past it
longer : (xs : List ℕ) (place : ℕ) → get_or (xs ++ 0 ∷ []) place 0 ≡ get_or xs place 0
longer [] zero = refl
longer [] (suc place) = refl
longer (x ∷ xs) zero = refl
longer (x ∷ xs) (suc place) = longer xs place

pub loop-preserved : goal.loop-preserved
loop-preserved c place = ap (λ (xs : List ℕ). get_or xs place 0) c.in_ok-push.ensures.items ∙ longer c.loop.lists.items place ∙ c.loop.invariant place
