-- Circuits of one shape have as many places.
use Rattle.std.proofs.Common.{ℕ, ◌+◌, ◌<◌, ◌≡◌, zero, suc, List, [], ◌∷◌, ◌++◌, length, length-append, map, get_or, refl, arith, ap, ap₂, sym, ◌∙◌}
use Rattle.std.specs.List.{flat_map}
use Rattle.aig_graph.specs.declared.properties.Props.{Props}
use Rattle.aig_graph.specs.Circuits.{Netlist}
use Rattle.aig_graph.specs.Streams.{SameShape, property_literals}

-- lists equal in number, each as long as the one at its place among the others, have equal lengths
pub same_sizes : {X : Type 0} (xs ys : List (List X)) → length xs ≡ length ys → ((i : ℕ) → i < length xs → length (get_or xs i []) ≡ length (get_or ys i [])) → map length xs ≡ map length ys
same_sizes [] [] long each = refl
same_sizes [] (y ∷ ys) long each = absurd (omega arith)
same_sizes (x ∷ xs) [] long each = absurd (omega arith)
same_sizes (x ∷ xs) (y ∷ ys) long each = ap₂ (λ (n : ℕ) ns. n ∷ ns) (each 0 (omega arith)) (same_sizes xs ys (omega arith) (λ i h. each (suc i) (omega arith)))

-- the k-th of the lengths of lists is the length of the k-th list, and 0 past the end
pub size_at : {X : Type 0} (xs : List (List X)) (k : ℕ) → get_or (map length xs) k 0 ≡ length (get_or xs k [])
size_at [] k = refl
size_at (x ∷ xs) zero = refl
size_at (x ∷ xs) (suc k) = size_at xs k

total : List ℕ → ℕ
total [] = 0
total (n ∷ ns) = n + total ns

joined-long : (xss : List (List ℕ)) → length (flat_map (λ xs. xs) xss) ≡ total (map length xss)
unfolding total
joined-long [] = refl
joined-long (xs ∷ xss) = length-append xs (flat_map (λ ys. ys) xss) ∙ ap (λ (n : ℕ). length xs + n) (joined-long xss)

-- circuits of one shape have as many properties
pub as-many : (c d : Netlist) → SameShape c d → length (property_literals d.props) ≡ length (property_literals c.props)
as-many c d same =
    let p = c.props in
    let q = d.props in
    let joined : length (flat_map (λ xs. xs) q.justice) ≡ length (flat_map (λ xs. xs) p.justice) = joined-long q.justice ∙ ap total same.justice ∙ sym (joined-long p.justice) in
    long q ∙ omega (arith, same.outputs, same.bad, same.constraints, same.fairness, joined) ∙ sym (long p)
  where
    long : (p : Props) → length (property_literals p) ≡ length p.outputs + length p.bad + length p.constraints + length (flat_map (λ xs. xs) p.justice) + length p.fairness
    long p =
        length-append (p.outputs ++ p.bad ++ p.constraints ++ flat_map (λ xs. xs) p.justice) p.fairness
        ∙ ap (λ (n : ℕ). n + length p.fairness) (length-append (p.outputs ++ p.bad ++ p.constraints) (flat_map (λ xs. xs) p.justice)
        ∙ ap (λ (n : ℕ). n + length (flat_map (λ xs. xs) p.justice)) (length-append (p.outputs ++ p.bad) p.constraints
        ∙ ap (λ (n : ℕ). n + length p.constraints) (length-append p.outputs p.bad)))
