-- Lists that stand one after another in one list, by where each of them ends.
use Rattle.std.proofs.Common.{◌≡◌, ℕ, zero, suc, ◌+◌, ◌-◌, ◌<◌, ◌≤◌, List, [], ◌∷◌, ◌++◌, length, take, drop, slice_index_or, arith, refl, ap, ap₂, sym, ◌∙◌}
use Rattle.std.proofs.lemmas.List.{take-append-drop, take-append-le, take_all, drop-append-le, drop-drop, drop_at, drop_all, length-drop}
use Rattle.frame_net.specs.declared.net.Point.{Point}
use Rattle.certificates.specs.Parts.{parts, AreEnds}
use Rattle.certificates.specs.Routes.{passed, all_passed}
use Rattle.certificates.proofs.PassedLaws.{passed-append, passed-none}

-- no ends, no lists
pub parts-none : (from : ℕ) (ps : List Point) → parts from [] ps ≡ []
unfolding parts
parts-none from ps = refl

-- if no list has ended, all points end where the first list would begin
pub ends-none : (from all : ℕ) → from ≡ all → AreEnds from [] all
unfolding AreEnds
ends-none from all e = e

-- there are as many lists as ends
pub parts-length : (from : ℕ) (ends : List ℕ) (ps : List Point) → length (parts from ends ps) ≡ length ends
unfolding parts
parts-length from [] ps = refl
parts-length from (end ∷ ends) ps = ap suc (parts-length end ends ps)

-- a list begins before it ends
pub ends-rise : (from : ℕ) (ends : List ℕ) (all k : ℕ) → AreEnds from ends all → k < length ends → slice_index_or (from ∷ ends) k 0 ≤ slice_index_or ends k 0
unfolding AreEnds
ends-rise from [] all k h l = absurd (omega (arith, l))
ends-rise from (end ∷ ends) all zero h l = h.0
ends-rise from (end ∷ ends) all (suc k) h l = ends-rise end ends all k h.1 (omega (arith, l))

-- where the lists begin is within the points
pub ends-from : (from : ℕ) (ends : List ℕ) (all : ℕ) → AreEnds from ends all → from ≤ all
unfolding AreEnds
ends-from from [] all h = omega (arith, h)
ends-from from (end ∷ ends) all h = omega (arith, h.0, ends-from end ends all h.1)

-- a list ends within the points
pub ends-within : (from : ℕ) (ends : List ℕ) (all k : ℕ) → AreEnds from ends all → k < length ends → slice_index_or ends k 0 ≤ all
unfolding AreEnds
ends-within from [] all k h l = absurd (omega (arith, l))
ends-within from (end ∷ ends) all zero h l = ends-from end ends all h.1
ends-within from (end ∷ ends) all (suc k) h l = ends-within end ends all k h.1 (omega (arith, l))

-- a list, by where it begins and ends
pub parts-at : (from : ℕ) (ends : List ℕ) (ps : List Point) (k : ℕ) (d : List Point) → k < length ends
    → slice_index_or (parts from ends ps) k d ≡ take (slice_index_or ends k 0 - slice_index_or (from ∷ ends) k 0) (drop (slice_index_or (from ∷ ends) k 0) ps)
unfolding parts
parts-at from [] ps k d l = absurd (omega (arith, l))
parts-at from (end ∷ ends) ps zero d l = refl
parts-at from (end ∷ ends) ps (suc k) d l = parts-at end ends ps k d (omega (arith, l))

-- one list more
pub ends-push : (from : ℕ) (ends : List ℕ) (all more : ℕ) → AreEnds from ends all → AreEnds from (ends ++ (all + more) ∷ []) (all + more)
unfolding AreEnds
ends-push from [] all more h = (omega (arith, h), refl)
ends-push from (end ∷ ends) all more h = (h.0, ends-push end ends all more h.1)

-- the lists with one more
pub parts-push : (from : ℕ) (ends : List ℕ) (ps qs : List Point) → AreEnds from ends (length ps)
    → parts from (ends ++ (length ps + length qs) ∷ []) (ps ++ qs) ≡ parts from ends ps ++ qs ∷ []
unfolding parts AreEnds
parts-push from [] ps qs h =
    let size : length ps + length qs - from ≡ length qs = omega (arith, h) in
    ap (λ (xs : List Point). xs ∷ []) (ap (λ (n : ℕ). take n (drop from (ps ++ qs))) size ∙ ap (λ (xs : List Point). take (length qs) xs) (drop_at ps qs from (sym h)) ∙ take_all (length qs) qs (omega arith))
parts-push from (end ∷ ends) ps qs h =
    let last : end ≤ length ps = ends-from end ends (length ps) h.1 in
    let start : from ≤ length ps = omega (arith, h.0, last) in
    ap₂ (λ (xs : List Point) (rest : List (List Point)). xs ∷ rest)
    (ap (λ (xs : List Point). take (end - from) xs) (drop-append-le from ps qs start)
    ∙ take-append-le (end - from) (drop from ps) qs (omega (arith, last, length-drop from ps)))
    (parts-push end ends ps qs h.1)

-- the lists pass what all points do, from where the first begins
pub parts-passed : (from : ℕ) (ends : List ℕ) (ps : List Point) → AreEnds from ends (length ps) → all_passed (parts from ends ps) ≡ passed (drop from ps)
unfolding parts AreEnds all_passed
parts-passed from [] ps h = sym (ap passed (drop_all from ps (omega (arith, h))) ∙ passed-none)
parts-passed from (end ∷ ends) ps h =
    let same : from + (end - from) ≡ end = omega (arith, h.0) in
    let rest : drop end ps ≡ drop (end - from) (drop from ps) = sym (drop-drop (end - from) from ps ∙ ap (λ (n : ℕ). drop n ps) same) in
    ap (λ (vs : List ℕ). passed (take (end - from) (drop from ps)) ++ vs) (parts-passed end ends ps h.1 ∙ ap passed rest)
    ∙ sym (passed-append (take (end - from) (drop from ps)) (drop (end - from) (drop from ps)))
    ∙ ap passed (take-append-drop (end - from) (drop from ps))
