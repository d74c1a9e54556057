-- Marks of the arcs over which walks go.
use Rattle.std.proofs.Common.{◌≡◌, ℕ, suc, zero, ◌+◌, ◌<◌, ◌≤◌, ◌==◌, nat_lt, Bool, true, false, ◌||◌, cond, List, [], ◌∷◌, length, slice_index_or, slice_set, replicate, drop, drop-cons, Some, arith, refl, ap, ap₂, sym, ◌∙◌, subst, inl, inr}
use Rattle.std.proofs.lemmas.Bool.{cases_eq, cases_lt, cases_order, cond-true, cond-false, lt-ltb, le-ltb, eq-eqb, ne_eqb, or_right}
use Rattle.std.proofs.lemmas.List.{get_or-set_same, get_or-set_other, drop_all, get_or-replicate, get_or_past, length-replicate}
use Rattle.frame_net.specs.declared.net.Point.{Point}
use Rattle.frame_net.specs.FlowNet.{FlowNet, IsFlowNet, node_count, start, row_len, head, point_of}
use Rattle.cut_cert.proofs.SinkWalkLaws.{arc-in}
use Rattle.cut_cert.specs.Walks.{here}
use Rattle.cut_cert.proofs.LoweringLaws.{here-one, here-zero}
use Rattle.cut_cert.specs.Steps.{steps_of, all_steps, HasArc, IsWay, AreWays, is_used}

-- what stands after the first of the elements from a place on are those from the next place on
pub drop-rest : {A : Type 0} (xs : List A) (i : ℕ) (b : A) (ns : List A) → drop i xs ≡ b ∷ ns → drop (suc i) xs ≡ ns
drop-rest [] zero b ns e = absurd (cc)
drop-rest [] (suc i) b ns e = absurd (cc)
drop-rest (x ∷ xs) zero b ns e = cc
drop-rest (x ∷ xs) (suc i) b ns e = drop-rest xs i b ns e

-- the elements from a place on are the one there and those from the next place on
pub drop-head : {A : Type 0} (xs : List A) (i : ℕ) (d : A) → i < length xs → drop i xs ≡ slice_index_or xs i d ∷ drop (i + 1) xs
drop-head xs i d h =
    let same : suc i ≡ i + 1 = omega arith in
    drop-cons xs i d h ∙ ap (λ n. slice_index_or xs i d ∷ drop n xs) same

-- ---- the next node of a way

pub record Next (net : FlowNet) (a : ℕ) (now rest : List ℕ) (p : Point) (points : List Point) : Type 0 where
  -- the next node of the way
  pub node : ℕ
  -- what was left begins with it
  pub is : now ≡ node ∷ rest
  -- an arc leads to it
  pub leads : HasArc net a node
  -- it has the next point
  pub point : point_of net node ≡ Some p
  -- the rest of the way goes on from it
  pub way : IsWay net node rest points

next-of : (net : FlowNet) (a : ℕ) (nodes : List ℕ) (i : ℕ) (now : List ℕ) (p : Point) (points : List Point) → drop i nodes ≡ now → IsWay net a now (p ∷ points) → Next net a now (drop (i + 1) nodes) p points
next-of net a nodes i [] p points e way = absurd way
next-of net a nodes i (b ∷ ns) p points e way =
    let same : suc i ≡ i + 1 = omega arith in
    let rest : ns ≡ drop (i + 1) nodes = sym (drop-rest nodes i b ns e) ∙ ap (λ n. drop n nodes) same in
    record {
      node = b;
      is = ap (λ (xs : List ℕ). b ∷ xs) rest;
      leads = way.0;
      point = way.1.0;
      way = subst (λ (xs : List ℕ). IsWay net b xs points) rest way.1.1;
    }

-- if a point is left of a route, a node is left of its way
pub next : (net : FlowNet) (a : ℕ) (nodes : List ℕ) (i : ℕ) (points : List Point) (d : Point) → i < length points → IsWay net a (drop i nodes) (drop i points)
    → Next net a (drop i nodes) (drop (i + 1) nodes) (slice_index_or points i d) (drop (i + 1) points)
next net a nodes i points d h way =
    next-of net a nodes i (drop i nodes) (slice_index_or points i d) (drop (i + 1) points) refl (subst (λ (ps : List Point). IsWay net a (drop i nodes) ps) (drop-head points i d h) way)

ends-of : (net : FlowNet) (a : ℕ) (nodes : List ℕ) (points : List Point) → points ≡ [] → IsWay net a nodes points → nodes ≡ []
ends-of net a [] points e way = refl
ends-of net a (b ∷ nodes) points e way = absurd (subst (λ (ps : List Point). IsWay net a (b ∷ nodes) ps) e way)

-- if no point is left of a route, no node is left of its way
pub ends : (net : FlowNet) (a : ℕ) (nodes : List ℕ) (i : ℕ) (points : List Point) → length points ≤ i → IsWay net a (drop i nodes) (drop i points) → drop i nodes ≡ []
ends net a nodes i points h way = ends-of net a (drop i nodes) (drop i points) (drop_all i points h) way

-- ---- the next way

pub record NextWay (net : FlowNet) (now rest : List (List ℕ)) (route : List Point) (routes : List (List Point)) : Type 0 where
  -- the nodes of the next way
  pub nodes : List ℕ
  -- what was left begins with them
  pub is : now ≡ nodes ∷ rest
  -- they are the way of the next route
  pub way : IsWay net 0 nodes route
  -- the rest are the ways of the other routes
  pub ways : AreWays net rest routes

next-way-of : (net : FlowNet) (ways : List (List ℕ)) (i : ℕ) (now : List (List ℕ)) (route : List Point) (routes : List (List Point)) → drop i ways ≡ now → AreWays net now (route ∷ routes) → NextWay net now (drop (i + 1) ways) route routes
next-way-of net ways i [] route routes e are = absurd are
next-way-of net ways i (ns ∷ rest) route routes e are =
    let same : suc i ≡ i + 1 = omega arith in
    let tail : rest ≡ drop (i + 1) ways = sym (drop-rest ways i ns rest e) ∙ ap (λ n. drop n ways) same in
    record {
      nodes = ns;
      is = ap (λ (xs : List (List ℕ)). ns ∷ xs) tail;
      way = are.0;
      ways = subst (λ (xs : List (List ℕ)). AreWays net xs routes) tail are.1;
    }

-- if a route is left, so is its way
pub next-way : (net : FlowNet) (ways : List (List ℕ)) (i : ℕ) (routes : List (List Point)) (d : List Point) → i < length routes → AreWays net (drop i ways) (drop i routes)
    → NextWay net (drop i ways) (drop (i + 1) ways) (slice_index_or routes i d) (drop (i + 1) routes)
next-way net ways i routes d h are =
    next-way-of net ways i (drop i ways) (slice_index_or routes i d) (drop (i + 1) routes) refl (subst (λ (ps : List (List Point)). AreWays net (drop i ways) ps) (drop-head routes i d h) are)

ways-end-of : (net : FlowNet) (ways : List (List ℕ)) (routes : List (List Point)) → routes ≡ [] → AreWays net ways routes → ways ≡ []
ways-end-of net [] routes e are = refl
ways-end-of net (ns ∷ ways) routes e are = absurd (subst (λ (ps : List (List Point)). AreWays net (ns ∷ ways) ps) e are)

-- if no route is left, no way is
pub ways-end : (net : FlowNet) (ways : List (List ℕ)) (i : ℕ) (routes : List (List Point)) → length routes ≤ i → AreWays net (drop i ways) (drop i routes) → drop i ways ≡ []
ways-end net ways i routes h are = ways-end-of net (drop i ways) (drop i routes) (drop_all i routes h) are

-- ---- marks

positive : (m n : ℕ) → 0 < m → nat_lt 0 (m + n) ≡ true
positive m n h = lt-ltb 0 (m + n) (omega (arith, h))

-- a walk's steps are its first one, and those from there on
pub steps-next : (a b : ℕ) (ns : List ℕ) (x y : ℕ) → steps_of a (b ∷ ns) x y ≡ cond (x == a) (here y b) 0 + steps_of b ns x y
unfolding steps_of
steps-next a b ns x y = refl

-- a walk without nodes takes no step
pub steps-none : (a x y : ℕ) → steps_of a [] x y ≡ 0
unfolding steps_of
steps-none a x y = refl

-- the steps of walks are those of the first one, and of the others
pub all-next : (ns : List ℕ) (ways : List (List ℕ)) (x y : ℕ) → all_steps (ns ∷ ways) x y ≡ steps_of 0 ns x y + all_steps ways x y
unfolding all_steps
all-next ns ways x y = refl

-- no walks take no step
pub all-none : (x y : ℕ) → all_steps [] x y ≡ 0
unfolding all_steps
all-none x y = refl

module _ (net : FlowNet) (ok : IsFlowNet net) (used new : List Bool) (long : length used ≡ length net.heads) (node k b : ℕ) (h : node < node_count net) (l : k < row_len net node) (to : head net node k ≡ b)
    (set : new ≡ slice_set used (start net node + k) true) (ns : List ℕ) where
  off-row : (x j : ℕ) → x < node_count net → j < row_len net x → (x ≡ node → ⊥) → start net x + j ≡ start net node + k → ⊥
  off-row x j hx lj other same = elim (cases_lt x node) [
    | inl lt ↦ omega (arith, lj, same, ok.rows (x + 1) node (omega (arith, lt)) (omega (arith, h)))
    | inr ge ↦ omega (arith, l, same, other, ok.rows (node + 1) x (omega (arith, ge, other)) (omega (arith, hx)))
  ]

  unchanged : (x j : ℕ) → (start net x + j ≡ start net node + k → ⊥) → is_used net new x j ≡ is_used net used x j
  unchanged x j off = ap (λ (xs : List Bool). is_used net xs x j) set ∙ get_or-set_other used (start net node + k) (start net x + j) true false off

  marked : is_used net new node k ≡ true
  marked = ap (λ (xs : List Bool). is_used net xs node k) set ∙ get_or-set_same used (start net node + k) true false (omega (arith, long, arc-in net ok node k h l))

  same-arc : (j : ℕ) → j < row_len net node → head net node j ≡ b → j ≡ k
  same-arc j lj e = elim (cases_order j k) [
    | inl same ↦ same
    | inr other ↦ elim other [
      | inl lt ↦ absurd (omega (arith, ok.heads_rise node j k h lt l, e, to))
      | inr gt ↦ absurd (omega (arith, ok.heads_rise node k j h gt lj, e, to))
    ]
  ]

  stays : (x j : ℕ) → (start net x + j ≡ start net node + k → ⊥) → cond (x == node) (here (head net x j) b) 0 ≡ 0
      → (is_used net new x j || nat_lt 0 (steps_of b ns x (head net x j))) ≡ (is_used net used x j || nat_lt 0 (steps_of node (b ∷ ns) x (head net x j)))
  stays x j off none =
      let sum : steps_of b ns x (head net x j) ≡ steps_of node (b ∷ ns) x (head net x j) = omega (arith, none, steps-next node b ns x (head net x j)) in
      ap₂ (λ (u : Bool) (m : ℕ). u || nat_lt 0 m) (unchanged x j off) sum

  adds : (x j : ℕ) → x ≡ node → j ≡ k → (is_used net new x j || nat_lt 0 (steps_of b ns x (head net x j))) ≡ (is_used net used x j || nat_lt 0 (steps_of node (b ∷ ns) x (head net x j)))
  adds x j same place =
      let on : is_used net new x j ≡ true = ap₂ (is_used net new) same place ∙ marked in
      let one : here (head net x j) b ≡ 1 = here-one (head net x j) b (ap₂ (head net) same place ∙ to) in
      let counts : cond (x == node) (here (head net x j) b) 0 ≡ 1 = cond-true (x == node) _ _ (eq-eqb x node same) ∙ one in
      let some : nat_lt 0 (steps_of node (b ∷ ns) x (head net x j)) ≡ true = lt-ltb 0 _ (omega (arith, counts, steps-next node b ns x (head net x j))) in
      ap (λ (u : Bool). u || nat_lt 0 (steps_of b ns x (head net x j))) on ∙ sym (or_right (is_used net used x j) _ some)

  -- with the first step's arc marked, what is marked and what the walk's other steps use have one
  -- union
  pub mark-more : (x j : ℕ) → x < node_count net → j < row_len net x
      → (is_used net new x j || nat_lt 0 (steps_of b ns x (head net x j))) ≡ (is_used net used x j || nat_lt 0 (steps_of node (b ∷ ns) x (head net x j)))
  mark-more x j hx lj = elim (cases_eq x node) [
    | inr other ↦ stays x j (off-row x j hx lj other) (cond-false (x == node) _ _ (ne_eqb x node other))
    | inl same ↦ elim (cases_eq j k) [
      | inl place ↦ adds x j same place
      | inr away ↦ stays x j (λ e. away (omega (arith, e, ap (start net) same)))
          (cond-true (x == node) _ _ (eq-eqb x node same) ∙ here-zero (head net x j) b (λ e. away (same-arc j (subst (λ (v : ℕ). j < row_len net v) same lj) (ap (λ (v : ℕ). head net v j) (sym same) ∙ e))))
    ]
  ]

-- with no step more, an arc is used if it was marked
pub or-none : (u : Bool) (m : ℕ) → m ≡ 0 → (u || nat_lt 0 m) ≡ u
or-none u m e = ap (λ (n : ℕ). u || nat_lt 0 n) e ∙ last u
  where
    last : (u : Bool) → (u || nat_lt 0 0) ≡ u
    last true = refl
    last false = refl

-- an arc that is marked, or used by either of two walks, is marked or used by both together
pub or-sum : (u : Bool) (m n : ℕ) → ((u || nat_lt 0 m) || nat_lt 0 n) ≡ (u || nat_lt 0 (m + n))
or-sum true m n = refl
or-sum false m n = elim (cases_lt 0 m) [
  | inl some ↦ ap (λ (b : Bool). b || nat_lt 0 n) (lt-ltb 0 m some) ∙ sym (positive m n some)
  | inr none ↦ (
      let sum : n ≡ m + n = omega (arith, none) in
      ap (λ (b : Bool). b || nat_lt 0 n) (le-ltb 0 m none) ∙ ap (λ (j : ℕ). nat_lt 0 j) sum)
]

-- nothing is marked at the start
pub none-used : (net : FlowNet) (n : ℕ) (used : List Bool) → used ≡ replicate n false → (x k : ℕ) → is_used net used x k ≡ false
none-used net n used e x k = ap (λ (xs : List Bool). is_used net xs x k) e ∙ elim (cases_lt (start net x + k) n) [
  | inl less ↦ get_or-replicate n (start net x + k) false false less
  | inr past ↦ get_or_past (replicate n false) (start net x + k) false (omega (arith, past, length-replicate n false))
]
