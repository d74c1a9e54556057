-- The paths of a line of a list.
use Rattle.std.proofs.Common.{ℕ, ◌≡◌, ◌&&◌, Bool, true, false, not, cond, List, Some, None, refl}
use Rattle.circuit_files.specs.Lists.{Paths}

-- a test that doesn't hold
pub false_where_not : (b : Bool) → (b ≡ true → ⊥) → b ≡ false
false_where_not true never = absurd (never refl)
false_where_not false never = refl

abbrev two : List ℕ → List ℕ → Paths
two input output = record { input = input; output = output }

-- the paths, by the tests of them
pub both_texts : (input output i o : List ℕ) (t u v : Bool) → t ≡ false → Some i ≡ cond u (Some input) None → Some o ≡ cond v (Some output) None
    → Some (two i o) ≡ cond (not t && (u && v)) (Some (two input output)) None
both_texts input output i o false true true free first second = cc
both_texts input output i o false true false free first second = absurd (cc)
both_texts input output i o false false v free first second = absurd (cc)
both_texts input output i o true u v free first second = absurd (cc)
