-- Values by arc of which one is lowered by one.
use Rattle.std.proofs.Common.{◌≡◌, ℕ, ◌+◌, ◌-◌, ◌<◌, ◌≤◌, ◌==◌, false, cond, List, length, slice_index, if◌then◌else◌, arith, refl, ap, ap₂, sym, ◌∙◌, subst, inl, inr}
use Rattle.std.proofs.lemmas.Bool.{cases_eq, cases_order, cond-true, cond-false, eq-eqb, ne_eqb}
use Rattle.std.proofs.lemmas.List.{length-set, get_or-set_same, get_or-set_other}
use Rattle.frame_net.specs.Flow.{sum_below}
use Rattle.frame_net.proofs.SumLaws.{sum_below-add, sum_below-same}
use Rattle.frame_net.proofs.TheoryCutLaws.{sum_all_zero}
use Rattle.frame_net.proofs.SparseRowLaws.{sum_one}
use Rattle.frame_net.specs.FlowNet.{FlowNet, IsFlowNet, HasMate, node_count, start, row_len, head, mate}
use Rattle.pulse_parts.specs.Parts.{pair}
use Rattle.cut_cert.proofs.SinkWalkLaws.{arc-in, mate-pair}
use Rattle.cut_cert.specs.Walks.{out_of, into, total_outflow, Comes, lowered, here, IsPreflowAt}

-- ---- one place

-- there is 1 at the node itself
pub here-one : (v at : ℕ) → v ≡ at → here v at ≡ 1
unfolding here
here-one v at e = cond-true {A = ℕ} (v == at) 1 0 (eq-eqb v at e)

-- there is 0 at any other node
pub here-zero : (v at : ℕ) → (v ≡ at → ⊥) → here v at ≡ 0
unfolding here
here-zero v at e = cond-false {A = ℕ} (v == at) 1 0 (ne_eqb v at e)

-- 1 at a pair of nodes, 0 at all others
unfoldable pub spot : ℕ → ℕ → ℕ → ℕ → ℕ
spot u w x y = if x == u then here y w else 0

-- in the pair's own row there is 1 at its second node alone
pub spot-on : (u w x y : ℕ) → x ≡ u → spot u w x y ≡ here y w
unfolding spot
spot-on u w x y e = cond-true {A = ℕ} (x == u) (here y w) 0 (eq-eqb x u e)

spot-else : (u w x y : ℕ) → (x ≡ u → ⊥) → spot u w x y ≡ 0
unfolding spot
spot-else u w x y e = cond-false {A = ℕ} (x == u) (here y w) 0 (ne_eqb x u e)

-- at any other pair there is 0
pub spot-off : (u w x y : ℕ) → (x ≡ u → y ≡ w → ⊥) → spot u w x y ≡ 0
spot-off u w x y e = elim (cases_eq x u) [
  | inl same ↦ spot-on u w x y same ∙ here-zero y w (e same)
  | inr other ↦ spot-else u w x y other
]

-- over all nodes there is 1 in all
pub sum-here : (n w : ℕ) → w < n → sum_below n (λ y. here y w) ≡ 1
sum-here n w h = sum_one n w (λ y. here y w) h (λ i l d. here-zero i w d) ∙ here-one w w refl

row-spot : (n u w x : ℕ) → w < n → sum_below n (spot u w x) ≡ here x u
row-spot n u w x h = elim (cases_eq x u) [
  | inl same ↦ sum_below-same n (spot u w x) (λ y. here y w) (λ y l. spot-on u w x y same) ∙ sum-here n w h ∙ sym (here-one x u same)
  | inr other ↦ sum_all_zero n (spot u w x) (λ y l. spot-else u w x y other) ∙ sym (here-zero x u other)
]

column-spot : (n u w y : ℕ) → u < n → sum_below n (λ x. spot u w x y) ≡ here y w
column-spot n u w y h = sum_one n u (λ x. spot u w x y) h (λ i l d. spot-else u w i y d) ∙ spot-on u w u y refl

-- ---- an arc lowered by one

module _ (net : FlowNet) (ok : IsFlowNet net) (xs : List ℕ) (long : length xs ≡ length net.heads) (w k : ℕ) (comes : Comes net xs w k) where
  abbrev ys : List ℕ
  ys = lowered net xs w k

  -- the tail of the arc is a node
  pub tail-in : head net w k < node_count net
  tail-in = ok.heads_in w k comes.node comes.inside

  met : HasMate net w k
  met = ok.meets w k comes.node comes.inside

  mate-in : mate net w k < length xs
  mate-in = omega (arith, met.arc, arc-in net ok (head net w k) met.place tail-in met.inside, long)

  -- the pair of the arc carries what the arc does
  pub pair-comes : 0 < pair net xs (head net w k) w
  pair-comes = subst (λ (x : ℕ). 0 < x) (sym (mate-pair net ok xs w k comes.node comes.inside)) comes.some

  -- a place of a row that is the arc's is of its pair
  same-row : (x j : ℕ) → x < node_count net → j < row_len net x → start net x + j ≡ mate net w k → x ≡ head net w k
  same-row x j h l same = elim (cases_order x (head net w k)) [
    | inl e ↦ e
    | inr other ↦ elim other [
      | inl lt ↦ absurd (omega (arith, l, same, met.arc, ok.rows (x + 1) (head net w k) (omega (arith, lt)) (omega (arith, tail-in))))
      | inr gt ↦ absurd (omega (arith, same, met.arc, met.inside, ok.rows (head net w k + 1) x (omega (arith, gt)) (omega (arith, h))))
    ]
  ]

  same-head : (x j : ℕ) → x < node_count net → j < row_len net x → start net x + j ≡ mate net w k → head net x j ≡ w
  same-head x j h l same =
      let row : x ≡ head net w k = same-row x j h l same in
      let place : j ≡ met.place = omega (arith, same, met.arc, ap (start net) row) in
      ap₂ (head net) row place ∙ met.back

  term : (x y j : ℕ) → x < node_count net → (x ≡ head net w k → y ≡ w → ⊥) → j < row_len net x
      → cond (head net x j == y) (slice_index ys (start net x + j)) 0 ≡ cond (head net x j == y) (slice_index xs (start net x + j)) 0
  term x y j h off l = elim (cases_eq (start net x + j) (mate net w k)) [
    | inl same ↦ (
        let differs : (head net x j == y) ≡ false = ne_eqb (head net x j) y (λ q. off (same-row x j h l same) (sym q ∙ same-head x j h l same)) in
        cond-false {A = ℕ} (head net x j == y) (slice_index ys (start net x + j)) 0 differs ∙ sym (cond-false {A = ℕ} (head net x j == y) (slice_index xs (start net x + j)) 0 differs))
    | inr other ↦ ap (λ (v : ℕ). cond (head net x j == y) v 0) (get_or-set_other xs (mate net w k) (start net x + j) (slice_index xs (mate net w k) - 1) 0 other)
  ]

  -- the pair of the lowered arc carries one less, and every other pair what it did
  pub one-less : (x y : ℕ) → x < node_count net → pair net ys x y + spot (head net w k) w x y ≡ pair net xs x y
  one-less x y h = elim (cases_eq x (head net w k)) [
    | inl row ↦ elim (cases_eq y w) [
      | inl column ↦ (
          let old : pair net xs x y ≡ slice_index xs (mate net w k) = ap₂ (pair net xs) row column ∙ mate-pair net ok xs w k comes.node comes.inside in
          let new : pair net ys x y ≡ slice_index ys (mate net w k) = ap₂ (pair net ys) row column ∙ mate-pair net ok ys w k comes.node comes.inside in
          let less : slice_index ys (mate net w k) ≡ slice_index xs (mate net w k) - 1 = get_or-set_same xs (mate net w k) (slice_index xs (mate net w k) - 1) 0 mate-in in
          omega (arith, old, new, less, comes.some, spot-on (head net w k) w x y row, here-one y w column))
      | inr other ↦ omega (arith, spot-off (head net w k) w x y (λ p q. other q), unchanged x y h (λ p q. other q))
    ]
    | inr other ↦ omega (arith, spot-off (head net w k) w x y (λ p q. other p), unchanged x y h (λ p q. other p))
  ]
    where
      unchanged : (x y : ℕ) → x < node_count net → (x ≡ head net w k → y ≡ w → ⊥) → pair net ys x y ≡ pair net xs x y
      unchanged x y h off = sum_below-same (row_len net x) (λ j. cond (head net x j == y) (slice_index ys (start net x + j)) 0) (λ j. cond (head net x j == y) (slice_index xs (start net x + j)) 0)
          (λ j l. term x y j h off l)

  -- one less goes out of the arc's tail, and as much as before out of any other node
  pub out-less : (v : ℕ) → v < node_count net → out_of net ys v + here v (head net w k) ≡ out_of net xs v
  out-less v h = omega (
    arith,
    row-spot (node_count net) (head net w k) w v comes.node,
    sum_below-add (node_count net) (pair net ys v) (spot (head net w k) w v),
    sum_below-same (node_count net) (λ y. pair net ys v y + spot (head net w k) w v y) (pair net xs v) (λ y l. one-less v y h),
  )

  -- one less comes into the arc's head, and as much as before into any other node
  pub into-less : (v : ℕ) → into net ys v + here v w ≡ into net xs v
  into-less v = omega (
    arith,
    column-spot (node_count net) (head net w k) w v tail-in,
    sum_below-add (node_count net) (λ x. pair net ys x v) (λ x. spot (head net w k) w x v),
    sum_below-same (node_count net) (λ x. pair net ys x v + spot (head net w k) w x v) (λ x. pair net xs x v) (λ x l. one-less x v l),
  )

  -- one less is carried in all
  pub total-less : total_outflow net ys + 1 ≡ total_outflow net xs
  total-less = omega (
    arith,
    sum-here (node_count net) (head net w k) tail-in,
    sum_below-add (node_count net) (out_of net ys) (λ v. here v (head net w k)),
    sum_below-same (node_count net) (λ v. out_of net ys v + here v (head net w k)) (out_of net xs) (λ v l. out-less v l),
  )

  -- lowering an arc leaves values for as many arcs
  pub long-after : length ys ≡ length net.heads
  long-after = length-set xs (mate net w k) (slice_index xs (mate net w k) - 1) ∙ long

  -- no arc carries more
  pub none-more : (arc : ℕ) → slice_index ys arc ≤ slice_index xs arc
  none-more arc = elim (cases_eq arc (mate net w k)) [
    | inl same ↦ (
        let new : slice_index ys arc ≡ slice_index xs (mate net w k) - 1 = ap (slice_index ys) same ∙ get_or-set_same xs (mate net w k) (slice_index xs (mate net w k) - 1) 0 mate-in in
        omega (arith, new, ap (slice_index xs) same))
    | inr other ↦ omega (arith, get_or-set_other xs (mate net w k) arc (slice_index xs (mate net w k) - 1) 0 other)
  ]

-- ---- what a walk back keeps

-- a walk that goes back over an arc leaves at its tail what it left at its head
pub holds-step : (net : FlowNet) (ok : IsFlowNet net) (xs : List ℕ) (w k : ℕ) → IsPreflowAt net xs w → Comes net xs w k → IsPreflowAt net (lowered net xs w k) (head net w k)
holds-step net ok xs w k holds comes = record {
  long = long-after net ok xs holds.long w k comes;
  within = λ v y h l. omega (arith, one-less net ok xs holds.long w k comes v y h, holds.within v y h l);
  kept = λ v big h. omega (arith, holds.kept v big h, out-less net ok xs holds.long w k comes v h, into-less net ok xs holds.long w k comes v);
}

-- at the source or the sink nothing is owed
pub holds-free : (net : FlowNet) (xs : List ℕ) (at : ℕ) → at ≤ 1 → IsPreflowAt net xs at → IsPreflowAt net xs 1
holds-free net xs at low holds = record {
  long = holds.long;
  within = holds.within;
  kept = λ v big h. omega (arith, holds.kept v big h, here-zero v 1 (λ q. omega (arith, q, big)));
}
