-- The nodes of a walk, and their marks.
use Rattle.std.proofs.Common.{◌≡◌, ℕ, ◌<◌, ◌==◌, ◌||◌, ◌⊎◌, Bool, true, false, List, [], ◌∷◌, ◌++◌, length, replicate, append_assoc, set, slice_index_or, Option, Some, None, arith, refl, ap, sym, ◌∙◌, subst, inl, inr}
use Rattle.std.specs.List.{AllByRecursion, IsDistinct}
use Rattle.std.proofs.lemmas.Bool.{cases_Bool, cases_lt, cases_eq, eq-eqb, ne_eqb, eqb-true, or_parts, or_left, or_right, false≢true}
use Rattle.std.proofs.lemmas.List.{length-set, get_or-set_same, get_or-set_other, get_or_past, length-replicate, get_or-replicate}
use Rattle.aig_graph.specs.Marking.{has}
use Rattle.aig_graph.specs.Circuits.{Netlist}
use Rattle.frame_net.specs.declared.net.Point.{Point}
use Rattle.frame_net.specs.FlowNet.{FlowNet, node_count, point_of}
use Rattle.frame_net.specs.Cuts.{IsNetworkOf}
use Rattle.certificates.proofs.DistinctLaws.{distinct-none}
use Rattle.cut_cert.specs.Shown.{HasNoPointTwice}
use Rattle.cut_cert.specs.Walks.{AreOn, ComesTo, and_point, points_of}
use Rattle.cut_cert.proofs.ArcPointLaws.{one-point}
use Rattle.cut_cert.proofs.WalkLaws.{Distinct, distinct-cons}

-- ---- marks

absent : (v : ℕ) (xs : List ℕ) → AllByRecursion (λ w. (v == w) ≡ false) xs → has xs v ≡ false
absent v [] all = refl
absent v (x ∷ xs) all = elim (cases_Bool (x == v)) [
  | inl same ↦ absurd (false≢true (sym all.0 ∙ eq-eqb v x (sym (eqb-true x v same))))
  | inr other ↦ ap (λ (b : Bool). b || has xs v) other ∙ absent v xs all.1
]

-- the first of different nodes isn't among the others
pub not-later : (v : ℕ) (xs : List ℕ) → Distinct (v ∷ xs) → has xs v ≡ false
unfolding IsDistinct
not-later v xs d = absent v xs d.0

rest-distinct : (v : ℕ) (xs : List ℕ) → Distinct (v ∷ xs) → Distinct xs
unfolding IsDistinct
rest-distinct v xs d = d.1

-- a node of the trail is below the number of nodes
pub marked-in : (n : ℕ) (marks : List Bool) (trail : List ℕ) (v : ℕ) → AreOn n marks trail → has trail v ≡ true → v < n
marked-in n marks trail v on member = elim (cases_lt v (length marks)) [
  | inl less ↦ omega (arith, less, on.long)
  | inr past ↦ absurd (false≢true (sym (get_or_past marks v false past) ∙ on.each v ∙ member))
]

-- a node that isn't on the trail, once it is marked, may stand in front of it
pub on-push : (n : ℕ) (marks : List Bool) (trail : List ℕ) (v : ℕ) → v < n → has trail v ≡ false → AreOn n marks trail → AreOn n (set marks v true) (v ∷ trail)
on-push n marks trail v h new on = record {
  long = length-set marks v true ∙ on.long;
  each = λ w. elim (cases_eq w v) [
    | inl same ↦ (
        let marked : slice_index_or (set marks v true) w false ≡ true = ap (λ (u : ℕ). slice_index_or (set marks v true) u false) same ∙ get_or-set_same marks v true false (omega (arith, h, on.long)) in
        marked ∙ sym (or_left (v == w) (has trail w) (eq-eqb v w (sym same))))
    | inr other ↦ get_or-set_other marks v w true false other ∙ on.each w ∙ sym (ap (λ (b : Bool). b || has trail w) (ne_eqb v w (λ q. other (sym q))))
  ];
  apart = distinct-cons v trail new on.apart;
}

-- with the mark of its first node taken away, the rest is the trail
pub on-pop : (n : ℕ) (marks : List Bool) (trail : List ℕ) (v : ℕ) → AreOn n marks (v ∷ trail) → AreOn n (set marks v false) trail
on-pop n marks trail v on = record {
  long = length-set marks v false ∙ on.long;
  each = λ w. elim (cases_eq w v) [
    | inl same ↦ (
        let here : v < n = marked-in n marks (v ∷ trail) v on (or_left (v == v) (has trail v) (eq-eqb v v refl)) in
        ap (λ (u : ℕ). slice_index_or (set marks v false) u false) same ∙ get_or-set_same marks v false false (omega (arith, here, on.long))
        ∙ sym (ap (has trail) same ∙ not-later v trail on.apart))
    | inr other ↦ get_or-set_other marks v w false false other ∙ on.each w ∙ ap (λ (b : Bool). b || has trail w) (ne_eqb v w (λ q. other (sym q)))
  ];
  apart = rest-distinct v trail on.apart;
}

-- ---- a list that is read from its end

-- what isn't in two joined lists isn't in the second
pub suffix-absent : (xs ys : List ℕ) (v : ℕ) → has (xs ++ ys) v ≡ false → has ys v ≡ false
suffix-absent [] ys v e = e
suffix-absent (x ∷ xs) ys v e = suffix-absent xs ys v (or_parts (x == v) (has (xs ++ ys) v) e).1

-- what stands between two lists is in the list that they make with it
pub in-front : (xs ys : List ℕ) (v : ℕ) → has (xs ++ v ∷ ys) v ≡ true
in-front [] ys v = or_left (v == v) (has ys v) (eq-eqb v v refl)
in-front (x ∷ xs) ys v = elim (cases_Bool (x == v)) [
  | inl same ↦ or_left (x == v) (has (xs ++ v ∷ ys) v) same
  | inr other ↦ ap (λ (b : Bool). b || has (xs ++ v ∷ ys) v) other ∙ in-front xs ys v
]

-- ---- points of nodes

-- a node with a point puts it in front of the points of the others
pub points-cons : (net : FlowNet) (v : ℕ) (nodes : List ℕ) (p : Point) → point_of net v ≡ Some p → points_of net (v ∷ nodes) ≡ p ∷ points_of net nodes
points-cons net v nodes p e = ap (λ (o : Option Point). and_point o (points_of net nodes)) e

-- a node without a point adds none
pub points-skip : (net : FlowNet) (v : ℕ) (nodes : List ℕ) → point_of net v ≡ None → points_of net (v ∷ nodes) ≡ points_of net nodes
points-skip net v nodes e = ap (λ (o : Option Point). and_point o (points_of net nodes)) e

and-append : (o : Option Point) (ps qs : List Point) → and_point o ps ++ qs ≡ and_point o (ps ++ qs)
and-append None ps qs = refl
and-append (Some p) ps qs = refl

-- the points of joined lists of nodes are those of both, joined
pub points-append : (net : FlowNet) (xs ys : List ℕ) → points_of net (xs ++ ys) ≡ points_of net xs ++ points_of net ys
points-append net [] ys = refl
points-append net (x ∷ xs) ys = ap (and_point (point_of net x)) (points-append net xs ys) ∙ sym (and-append (point_of net x) (points_of net xs) (points_of net ys))

-- a node has a point or none
pub point-cases : (net : FlowNet) (v : ℕ) → (point_of net v ≡ None) ⊎ ((p : Point) × (point_of net v ≡ Some p))
point-cases net v = cases (point_of net v)
  where
    cases : (o : Option Point) → (o ≡ None) ⊎ ((p : Point) × (o ≡ Some p))
    cases None = inl refl
    cases (Some p) = inr (p, refl)

module _ (c : Netlist) (held : List ℕ) (net : FlowNet) (is : IsNetworkOf c held net) where
  others : (v : ℕ) (p : Point) (nodes : List ℕ) → v < node_count net → point_of net v ≡ Some p → AllByRecursion (λ w. (v == w) ≡ false) nodes → ((w : ℕ) → has nodes w ≡ true → w < node_count net)
      → AllByRecursion (λ q. p ≡ q → ⊥) (points_of net nodes)
  others v p [] h e all within = tt
  others v p (w ∷ nodes) h e all within =
      let rest : AllByRecursion (λ q. p ≡ q → ⊥) (points_of net nodes) = others v p nodes h e all.1 (λ u member. within u (or_right (w == u) (has nodes u) member)) in
      elim (point-cases net w) [
        | inl none ↦ subst (AllByRecursion (λ q. p ≡ q → ⊥)) (sym (points-skip net w nodes none)) rest
        | inr some ↦ subst (AllByRecursion (λ q. p ≡ q → ⊥)) (sym (points-cons net w nodes some.0 some.1)) (
          (λ same. false≢true (sym all.0
              ∙ eq-eqb v w (one-point c held net is v w p h (within w (or_left (w == w) (has nodes w) (eq-eqb w w refl))) e (some.1 ∙ ap (λ (q : Point). Some q) (sym same))))),
          rest,
        )
      ]

  -- different nodes of a network have no point twice
  pub once-each : (nodes : List ℕ) → Distinct nodes → ((w : ℕ) → has nodes w ≡ true → w < node_count net) → HasNoPointTwice (points_of net nodes)
  unfolding IsDistinct
  once-each [] d within = tt
  once-each (v ∷ nodes) d within =
      let rest : HasNoPointTwice (points_of net nodes) = once-each nodes d.1 (λ u member. within u (or_right (v == u) (has nodes u) member)) in
      elim (point-cases net v) [
        | inl none ↦ subst HasNoPointTwice (sym (points-skip net v nodes none)) rest
        | inr some ↦ subst HasNoPointTwice (sym (points-cons net v nodes some.0 some.1))
            (others v some.0 nodes (within v (or_left (v == v) (has nodes v) (eq-eqb v v refl))) some.1 d.0 (λ u member. within u (or_right (v == u) (has nodes u) member)), rest)
      ]

-- ---- the steps of the code

-- a table of no marks is that of an empty trail
pub none-on : (n : ℕ) → AreOn n (replicate n false) []
none-on n = record { long = length-replicate n false; each = unmarked; apart = distinct-none }
  where
    unmarked : (v : ℕ) → slice_index_or (replicate n false) v false ≡ false
    unmarked v = elim (cases_lt v n) [
      | inl less ↦ get_or-replicate n v false false less
      | inr past ↦ get_or_past (replicate n false) v false (omega (arith, past, length-replicate n false))
    ]

-- marks lent as a slice
pub on-lent : (n : ℕ) (marks lent : List Bool) → lent ≡ marks → AreOn n marks [] → AreOn (length lent) lent []
on-lent n marks lent same on =
    let on-lent' : AreOn n lent [] = subst (λ (ms : List Bool). AreOn n ms []) (sym same) on in
    subst (λ (k : ℕ). AreOn k lent []) (sym on-lent'.long) on-lent'

-- the first node of a trail is below the number of nodes
pub first-in : (n : ℕ) (marks : List Bool) (all trail : List ℕ) (v : ℕ) → all ≡ v ∷ trail → AreOn n marks all → v < n
first-in n marks all trail v e on = marked-in n marks all v on (ap (λ (vs : List ℕ). has vs v) e ∙ or_left (v == v) (has trail v) (eq-eqb v v refl))

-- if the trail's first node is the one come back to, the trail after it is what is left
pub cut-here : (front old cur new : List ℕ) (last node : ℕ) → old ≡ front ++ cur → cur ≡ last ∷ new → last ≡ node → Distinct cur → ComesTo node old new
cut-here front old cur new last node parts e same d = record {
  off = ap (has new) (sym same) ∙ not-later last new (subst Distinct e d);
  how = inr (front, parts ∙ ap (λ (vs : List ℕ). front ++ vs) (e ∙ ap (λ (v : ℕ). v ∷ new) same));
}

-- if the trail's first node isn't the one looked for, that one is among the others
pub still-there : (cur new : List ℕ) (last node : ℕ) → cur ≡ last ∷ new → (last == node) ≡ false → has cur node ≡ true → has new node ≡ true
still-there cur new last node e other member = sym (ap (λ (b : Bool). b || has new node) other) ∙ ap (λ (vs : List ℕ). has vs node) (sym e) ∙ member

-- the trail's first node goes over to what was cut off in front
pub longer-front : (front old cur new : List ℕ) (last : ℕ) → old ≡ front ++ cur → cur ≡ last ∷ new → (front' : List ℕ) × (old ≡ front' ++ new)
longer-front front old cur new last parts e = (front ++ last ∷ [], parts ∙ ap (λ (vs : List ℕ). front ++ vs) e ∙ sym (append_assoc front (last ∷ []) new))
