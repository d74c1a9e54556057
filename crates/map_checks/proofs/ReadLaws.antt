-- Properties of two circuits have equal values, kind by kind, if all their values in one list are
-- equal.
use Rattle.std.proofs.Common.{ℕ, ◌+◌, ◌≡◌, Bool, List, [], ◌∷◌, ◌++◌, length, map, refl, arith, ap₂, sym, ◌∙◌, length-append}
use Rattle.std.specs.List.{flat_map}
use Rattle.std.proofs.lemmas.List.{length-map, map-append}
use Rattle.aig_graph.specs.declared.properties.Props.{Props}
use Rattle.aig_graph.specs.Circuits.{Netlist}
use Rattle.aig_graph.specs.Streams.{SameShape, property_literals}
use Rattle.aig_graph.specs.Value.{value_within}
use Rattle.state_maps.specs.States.{Digits, SameReads, State}

-- two lists joined are two others where their first parts are ls long: part by part
pub append-parts : (ls bs cs ds : List Bool) → length ls ≡ length bs → ls ++ cs ≡ bs ++ ds → (ls ≡ bs) × (cs ≡ ds)
append-parts [] [] cs ds long same = (refl, same)
append-parts [] (b ∷ bs) cs ds long same = absurd (omega (arith, long))
append-parts (a ∷ ls) [] cs ds long same = absurd (omega (arith, long))
append-parts (a ∷ ls) (b ∷ bs) cs ds long same =
    let head : a ≡ b = first-same a b (ls ++ cs) (bs ++ ds) same in
    let rest = append-parts ls bs cs ds (omega (arith, long)) (rest-same a b (ls ++ cs) (bs ++ ds) same) in
    (ap₂ (λ x xs. x ∷ xs) head rest.0, rest.1)
  where
    first-same : (x y : Bool) (xs ys : List Bool) → x ∷ xs ≡ y ∷ ys → x ≡ y
    first-same x y xs ys e = cc

    rest-same : (x y : Bool) (xs ys : List Bool) → x ∷ xs ≡ y ∷ ys → xs ≡ ys
    rest-same x y xs ys e = cc

-- lists joined
abbrev flat : List (List ℕ) → List ℕ
flat xss = flat_map (λ (xs : List ℕ). xs) xss

module _ (f g : ℕ → Bool) where
  -- so for lists that are mapped
  map-parts : (xs ys zs ws : List ℕ) → length xs ≡ length ys → map f (xs ++ zs) ≡ map g (ys ++ ws) → (map f xs ≡ map g ys) × (map f zs ≡ map g ws)
  map-parts xs ys zs ws long same =
      append-parts (map f xs) (map g ys) (map f zs) (map g ws) (length-map xs f ∙ long ∙ sym (length-map ys g)) (sym (map-append f xs zs) ∙ same ∙ map-append g ys ws)

  flat-many : (xss yss : List (List ℕ)) → map length xss ≡ map length yss → length (flat xss) ≡ length (flat yss)
  flat-many [] [] same = refl
  flat-many [] (ys ∷ yss) same = absurd (cc)
  flat-many (xs ∷ xss) [] same = absurd (cc)
  flat-many (xs ∷ xss) (ys ∷ yss) same =
      let one : length xs ≡ length ys = cc in
      let more : map length xss ≡ map length yss = cc in
      omega (arith, one, flat-many xss yss more, length-append xs (flat xss), length-append ys (flat yss))

  flat-parts : (xss yss : List (List ℕ)) → map length xss ≡ map length yss → map f (flat xss) ≡ map g (flat yss) → map (map f) xss ≡ map (map g) yss
  flat-parts [] [] many same = refl
  flat-parts [] (ys ∷ yss) many same = absurd (cc)
  flat-parts (xs ∷ xss) [] many same = absurd (cc)
  flat-parts (xs ∷ xss) (ys ∷ yss) many same =
      let one : length xs ≡ length ys = cc in
      let more : map length xss ≡ map length yss = cc in
      let parts = map-parts xs ys (flat xss) (flat yss) one same in
      ap₂ (λ (bs : List Bool) bss. bs ∷ bss) parts.0 (flat-parts xss yss more parts.1)

-- properties whose values in one list are equal are read alike
pub reads-of : (c d : Netlist) (x : Digits) (s t : State) → SameShape c d → map (value_within d.aig x t) (property_literals d.props) ≡ map (value_within c.aig x s) (property_literals c.props) → SameReads c d x s t
reads-of c d x s t shape same =
    let p : Props = d.props in
    let q : Props = c.props in
    let f : ℕ → Bool = value_within d.aig x t in
    let g : ℕ → Bool = value_within c.aig x s in
    let fs : List ℕ = flat p.justice in
    let gs : List ℕ = flat q.justice in
    let two_long : length (p.outputs ++ p.bad) ≡ length (q.outputs ++ q.bad) = omega (arith, length-append p.outputs p.bad, length-append q.outputs q.bad, shape.outputs, shape.bad) in
    let three_long : length (p.outputs ++ p.bad ++ p.constraints) ≡ length (q.outputs ++ q.bad ++ q.constraints) =
    omega (arith, length-append (p.outputs ++ p.bad) p.constraints, length-append (q.outputs ++ q.bad) q.constraints, two_long, shape.constraints) in
    let four_long : length (p.outputs ++ p.bad ++ p.constraints ++ fs) ≡ length (q.outputs ++ q.bad ++ q.constraints ++ gs) =
    omega (arith, length-append (p.outputs ++ p.bad ++ p.constraints) fs, length-append (q.outputs ++ q.bad ++ q.constraints) gs, three_long, flat-many f g p.justice q.justice shape.justice) in
    let four = map-parts f g (p.outputs ++ p.bad ++ p.constraints ++ fs) (q.outputs ++ q.bad ++ q.constraints ++ gs) p.fairness q.fairness four_long same in
    let three = map-parts f g (p.outputs ++ p.bad ++ p.constraints) (q.outputs ++ q.bad ++ q.constraints) fs gs three_long four.0 in
    let two = map-parts f g (p.outputs ++ p.bad) (q.outputs ++ q.bad) p.constraints q.constraints two_long three.0 in
    let one = map-parts f g p.outputs q.outputs p.bad q.bad shape.outputs two.0 in
    record { outputs = one.0; bad = one.1; constraints = two.1; justice = flat-parts f g p.justice q.justice shape.justice three.1; fairness = four.1 }
