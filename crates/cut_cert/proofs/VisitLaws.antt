-- How often walks come to a node.
use Rattle.std.proofs.Common.{◌≡◌, ℕ, ◌+◌, ◌≤◌, ◌==◌, Bool, true, false, cond, List, [], ◌∷◌, length, arith, refl, ap, ◌∙◌}
use Rattle.std.specs.List.{AllByRecursion}
use Rattle.cut_cert.specs.Walks.{here}
use Rattle.cut_cert.proofs.LoweringLaws.{here-zero}
use Rattle.cut_cert.specs.Steps.{steps_of, all_steps}
use Rattle.cut_cert.proofs.MarkLaws.{steps-next, steps-none, all-next, all-none}
use Rattle.cut_cert.proofs.WalkFlowLaws.{to_sink, all_to_sink}

-- how often a node stands in a list
abbrev pub times : ℕ → List ℕ → ℕ
times y [] = 0
times y (b ∷ nodes) = here y b + times y nodes

within : (b : Bool) (m : ℕ) → cond b m 0 ≤ m
within true m = omega arith
within false m = omega arith

-- a walk steps to a node at most as often as the node stands on it
pub steps-times : (a : ℕ) (ns : List ℕ) (x y : ℕ) → steps_of a ns x y ≤ times y ns
steps-times a [] x y = omega (arith, steps-none a x y)
steps-times a (b ∷ ns) x y = omega (arith, steps-next a b ns x y, within (x == a) (here y b), steps-times b ns x y)

-- a walk on to the sink comes once more to it, and to other nodes as often
pub times-sink : (y : ℕ) (ns : List ℕ) → times y (to_sink ns) ≡ times y ns + here y 1
times-sink y [] = omega arith
times-sink y (b ∷ ns) = omega (arith, times-sink y ns)

-- but for the sink, the steps are those to the last point
pub steps-inner : (a : ℕ) (ns : List ℕ) (x y : ℕ) → (y ≡ 1 → ⊥) → steps_of a (to_sink ns) x y ≡ steps_of a ns x y
steps-inner a [] x y other =
    let none : cond (x == a) (here y 1) 0 ≡ 0 = ap (λ (m : ℕ). cond (x == a) m 0) (here-zero y 1 other) ∙ nothing (x == a) in
    omega (arith, steps-next a 1 [] x y, steps-none 1 x y, steps-none a x y, none)
  where
    nothing : (b : Bool) → cond {A = ℕ} b 0 0 ≡ 0
    nothing true = refl
    nothing false = refl
steps-inner a (b ∷ ns) x y other = omega (arith, steps-next a b (to_sink ns) x y, steps-next a b ns x y, steps-inner b ns x y other)

-- but for the sink, the steps of walks on to it are those of the walks
pub all-inner : (ways : List (List ℕ)) (x y : ℕ) → (y ≡ 1 → ⊥) → all_steps (all_to_sink ways) x y ≡ all_steps ways x y
all-inner [] x y other = refl
all-inner (ns ∷ ways) x y other = omega (arith, all-next (to_sink ns) (all_to_sink ways) x y, all-next ns ways x y, steps-inner 0 ns x y other, all-inner ways x y other)

-- walks that come to a node at most once each
pub all-few : (ways : List (List ℕ)) (x y : ℕ) → AllByRecursion (λ ns. times y (to_sink ns) ≤ 1) ways → all_steps (all_to_sink ways) x y ≤ length ways
all-few [] x y all = omega (arith, all-none x y)
all-few (ns ∷ ways) x y all = omega (arith, all-next (to_sink ns) (all_to_sink ways) x y, steps-times 0 (to_sink ns) x y, all.0, all-few ways x y all.1)

abbrev pub all_times : ℕ → List (List ℕ) → ℕ
all_times y [] = 0
all_times y (ns ∷ ways) = times y ns + all_times y ways

-- walks step to a node at most as often as it stands on all of them
pub all-times : (ways : List (List ℕ)) (x y : ℕ) → all_steps ways x y ≤ all_times y ways
all-times [] x y = omega (arith, all-none x y)
all-times (ns ∷ ways) x y = omega (arith, all-next ns ways x y, steps-times 0 ns x y, all-times ways x y)
