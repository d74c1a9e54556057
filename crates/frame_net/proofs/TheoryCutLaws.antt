-- The excess outside a set and the residual that leaves it make up its cut: so the far side is the
-- greatest least cut.
use Rattle.std.proofs.Common.{◌≡◌, ℕ, suc, zero, ◌+◌, ◌*◌, ◌<◌, ◌≤◌, ◌==◌, ◌&&◌, not, cond, Bool, true, false, arith, refl, ap, sym, ◌∙◌, subst, inl, inr}
use Rattle.std.proofs.Math.Bool.{and_comm}
use Rattle.std.proofs.lemmas.Bool.{cases_lt, cases_Bool, false≢true, eq-eqb, eqb-true, cases_order, ne_eqb, cases_eq}
use Rattle.frame_net.specs.Flow.{State, sum_below, IsPreflow, IsValid, is_active, between, IsCut, cut_value, Walk, Reaches, IsSourceSide}
use Rattle.frame_net.specs.Laws.{IsGreatestLeastCut}
use Rattle.frame_net.proofs.SumLaws.{sum_below-add, sum_below-same, sum_below-zero, sum_below-swap, term-le-sum_below, sum_below-le_const}
use Rattle.frame_net.proofs.PushLaws.{is_active-true}

-- ---- sums over pairs

-- functions that agree on pairs of nodes have equal sums between two sets
pub between-same : (n : ℕ) (a b : ℕ → Bool) (f g : ℕ → ℕ → ℕ) → ((v w : ℕ) → v < n → w < n → f v w ≡ g v w) → between n a b f ≡ between n a b g
between-same n a b f g e = sum_below-same n (λ v. sum_below n (λ w. cond (a v && b w) (f v w) 0)) (λ v. sum_below n (λ w. cond (a v && b w) (g v w) 0))
    (λ v h. sum_below-same n (λ w. cond (a v && b w) (f v w) 0) (λ w. cond (a v && b w) (g v w) 0) (λ w k. ap (λ (x : ℕ). cond (a v && b w) x 0) (e v w h k)))

cond-add : (t : Bool) (x y : ℕ) → cond t (x + y) 0 ≡ cond t x 0 + cond t y 0
cond-add true x y = refl
cond-add false x y = refl

-- the sum of two functions between two sets is the sum of their sums
pub between-add : (n : ℕ) (a b : ℕ → Bool) (f g : ℕ → ℕ → ℕ) → between n a b (λ v w. f v w + g v w) ≡ between n a b f + between n a b g
between-add n a b f g =
    sum_below-same n (λ v. sum_below n (λ w. cond (a v && b w) (f v w + g v w) 0)) (λ v. sum_below n (λ w. cond (a v && b w) (f v w) 0) + sum_below n (λ w. cond (a v && b w) (g v w) 0))
    (λ v h. sum_below-same n (λ w. cond (a v && b w) (f v w + g v w) 0) (λ w. cond (a v && b w) (f v w) 0 + cond (a v && b w) (g v w) 0) (λ w k. cond-add (a v && b w) (f v w) (g v w))
    ∙ sum_below-add n (λ w. cond (a v && b w) (f v w) 0) (λ w. cond (a v && b w) (g v w) 0))
    ∙ sum_below-add n (λ v. sum_below n (λ w. cond (a v && b w) (f v w) 0)) (λ v. sum_below n (λ w. cond (a v && b w) (g v w) 0))

-- the sum between two sets of what each pair has the other way round is the sum between the sets in
-- the other order
pub between-swap : (n : ℕ) (a b : ℕ → Bool) (f : ℕ → ℕ → ℕ) → between n a b (λ v w. f w v) ≡ between n b a f
between-swap n a b f =
    sum_below-swap n n (λ v w. cond (a v && b w) (f w v) 0)
    ∙ sum_below-same n (λ w. sum_below n (λ v. cond (a v && b w) (f w v) 0)) (λ w. sum_below n (λ v. cond (b w && a v) (f w v) 0))
    (λ w h. sum_below-same n (λ v. cond (a v && b w) (f w v) 0) (λ v. cond (b w && a v) (f w v) 0) (λ v k. ap (λ (t : Bool). cond t (f w v) 0) (and_comm (a v) (b w))))

split_one : (x y : Bool) (m : ℕ) → cond x m 0 ≡ cond (x && y) m 0 + cond (x && not y) m 0
split_one true true m = omega arith
split_one true false m = omega arith
split_one false true m = refl
split_one false false m = refl

row_sum : (x : Bool) (n : ℕ) (g : ℕ → ℕ) → cond x (sum_below n g) 0 ≡ sum_below n (λ w. cond x (g w) 0)
row_sum true n g = refl
row_sum false n g = sym (sum_below-zero n)

row_split : (x : Bool) (n : ℕ) (b : ℕ → Bool) (g : ℕ → ℕ) → cond x (sum_below n g) 0 ≡ sum_below n (λ w. cond (x && b w) (g w) 0) + sum_below n (λ w. cond (x && not (b w)) (g w) 0)
row_split x n b g = row_sum x n g ∙ sum_below-same n (λ w. cond x (g w) 0) (λ w. cond (x && b w) (g w) 0 + cond (x && not (b w)) (g w) 0) (λ w h. split_one x (b w) (g w))
    ∙ sum_below-add n (λ w. cond (x && b w) (g w) 0) (λ w. cond (x && not (b w)) (g w) 0)

-- the rows of a set, split by where they end
pub between-split : (n : ℕ) (a b : ℕ → Bool) (f : ℕ → ℕ → ℕ)
    → sum_below n (λ v. cond (a v) (sum_below n (f v)) 0) ≡ between n a b f + between n a (λ w. not (b w)) f
between-split n a b f =
    sum_below-same n (λ v. cond (a v) (sum_below n (f v)) 0) (λ v. sum_below n (λ w. cond (a v && b w) (f v w) 0) + sum_below n (λ w. cond (a v && not (b w)) (f v w) 0))
    (λ v h. row_split (a v) n b (f v))
    ∙ sum_below-add n (λ v. sum_below n (λ w. cond (a v && b w) (f v w) 0)) (λ v. sum_below n (λ w. cond (a v && not (b w)) (f v w) 0))

-- ---- what a set's complement holds in excess, and the residual that leaves the set, are its cut

-- what the nodes off a set hold
abbrev pub held_off : ℕ → State → (ℕ → Bool) → ℕ
held_off n s side = sum_below n (λ v. cond (not (side v)) (s.excess v) 0)

one_row : (n : ℕ) (cap : ℕ → ℕ → ℕ) (s : State) (t : Bool) (v : ℕ) → IsPreflow n cap s → v < n → (v ≡ 0 → t ≡ false)
    → cond t (s.excess v) 0 + cond t (sum_below n (cap v)) 0 ≡ cond t (sum_below n (s.res v)) 0
one_row n cap s true v p h z = elim (cases_lt 0 v) [ inl pos ↦ p.conserved v pos h | inr low ↦ absurd (false≢true (sym (z (omega arith)))) ]
one_row n cap s false v p h z = refl

off_source : (side : ℕ → Bool) (v : ℕ) → side 0 ≡ true → v ≡ 0 → not (side v) ≡ false
off_source side v e z = rw (z, e) refl

rows_off : (n : ℕ) (cap : ℕ → ℕ → ℕ) (s : State) (side : ℕ → Bool) → IsPreflow n cap s → side 0 ≡ true
    → held_off n s side + sum_below n (λ v. cond (not (side v)) (sum_below n (cap v)) 0) ≡ sum_below n (λ v. cond (not (side v)) (sum_below n (s.res v)) 0)
rows_off n cap s side p src =
    sym (sum_below-add n (λ v. cond (not (side v)) (s.excess v) 0) (λ v. cond (not (side v)) (sum_below n (cap v)) 0))
    ∙ sum_below-same n (λ v. cond (not (side v)) (s.excess v) 0 + cond (not (side v)) (sum_below n (cap v)) 0) (λ v. cond (not (side v)) (sum_below n (s.res v)) 0)
    (λ v h. one_row n cap s (not (side v)) v p h (off_source side v src))

-- over any two sets, the residuals of both ways are the capacities of both ways
both_ways : (n : ℕ) (cap : ℕ → ℕ → ℕ) (s : State) (a b : ℕ → Bool) → IsPreflow n cap s
    → between n a b s.res + between n b a s.res ≡ between n a b cap + between n b a cap
both_ways n cap s a b p =
    let e : between n a b (λ v w. s.res v w + s.res w v) ≡ between n a b (λ v w. cap v w + cap w v) = between-same n a b (λ v w. s.res v w + s.res w v) (λ v w. cap v w + cap w v) (λ v w h k. p.paired v w h k) in
    omega (arith, e, between-add n a b s.res (λ v w. s.res w v), between-add n a b cap (λ v w. cap w v), between-swap n a b s.res, between-swap n a b cap)

-- the excess that the nodes off a set with the source hold, and the residual that leaves the set,
-- make up its cut
pub cut_identity : (n : ℕ) (cap : ℕ → ℕ → ℕ) (s : State) (side : ℕ → Bool) → IsPreflow n cap s → side 0 ≡ true
    → held_off n s side + between n side (λ w. not (side w)) s.res ≡ cut_value n cap side
cut_identity n cap s side p src =
    omega (
      arith,
      rows_off n cap s side p src,
      between-split n (λ v. not (side v)) side cap,
      between-split n (λ v. not (side v)) side s.res,
      both_ways n cap s (λ v. not (side v)) (λ v. not (side v)) p,
      both_ways n cap s side (λ v. not (side v)) p,
    )

-- ---- a node of label n can't reach the sink

-- every number up to its label is the label of some node, if it reaches the sink
label_met : (n : ℕ) (s : State) → IsValid n s → 1 < n → (k v j : ℕ) → v < n → Walk n s k v → j ≤ s.label v → (w : ℕ) × ((w < n) × (s.label w ≡ j))
label_met n s ok big zero v j h e le = (1, (big, omega (arith, ok.sink, subst (λ (x : ℕ). j ≤ s.label x) e le)))
label_met n s ok big (suc k) v j h walk le = elim (cases_order j (s.label v)) [
  | inl same ↦ (v, (h, sym same))
  | inr other ↦ elim other [
    | inl lt ↦ label_met n s ok big k walk.0 j walk.1.0 walk.1.1.1 (omega (arith, ok.steps v walk.0 h walk.1.0 walk.1.1.0))
    | inr gt ↦ absurd (omega arith)
  ]
]

none_below : (x m : ℕ) → m ≤ x → sum_below m (λ j. cond (x == j) 1 0) ≡ 0
none_below x zero h = refl
none_below x (suc m) h =
    let no : (x == m) ≡ false = ne_eqb x m (λ e. omega arith) in
    rw no (omega (arith, none_below x m (omega arith)))

-- a number stands at most once below m
pub hits_once : (x m : ℕ) → sum_below m (λ j. cond (x == j) 1 0) ≤ 1
hits_once x zero = omega arith
hits_once x (suc m) = elim (cases_Bool (x == m)) [
  | inl same ↦ rw same (omega (arith, none_below x m (omega (arith, eqb-true x m same))))
  | inr other ↦ rw other (omega (arith, hits_once x m))
]

-- n terms of at least 1 sum to at least n
pub sum_of_ones : (n : ℕ) (f : ℕ → ℕ) → ((i : ℕ) → i < n → 1 ≤ f i) → n ≤ sum_below n f
sum_of_ones zero f e = omega arith
sum_of_ones (suc n) f e = omega (arith, sum_of_ones n f (λ i h. e i (omega arith)), e n (omega arith))

-- a number that is some term's value is met at least once
pub met_once : (n : ℕ) (f : ℕ → ℕ) (w j : ℕ) → w < n → f w ≡ j → 1 ≤ sum_below n (λ x. cond (f x == j) 1 0)
met_once n f w j h e =
    let one : cond (f w == j) 1 0 ≡ suc zero = ap (λ (b : Bool). cond b 1 0) (eq-eqb (f w) j e) in
    omega (arith, one, term-le-sum_below n w (λ x. cond (f x == j) 1 0) h)

-- a node with the label n can't reach the sink
pub far_label : (n : ℕ) (s : State) → IsValid n s → 1 < n → (v : ℕ) → v < n → s.label v ≡ n → Reaches n s v → ⊥
far_label n s ok big v h top r =
    let many : suc n ≤ sum_below (suc n) (λ j. sum_below n (λ w. cond (s.label w == j) 1 0)) =
    sum_of_ones (suc n) (λ j. sum_below n (λ w. cond (s.label w == j) 1 0))
    (λ j lt. let m = label_met n s ok big r.0 v j h r.1 (omega (arith, top)) in met_once n s.label m.0 j m.1.0 m.1.1) in
    let few : sum_below n (λ w. sum_below (suc n) (λ j. cond (s.label w == j) 1 0)) ≤ n * 1 =
    sum_below-le_const n 1 (λ w. sum_below (suc n) (λ j. cond (s.label w == j) 1 0)) (λ w k. hits_once (s.label w) (suc n)) in
    omega (arith, many, few, sum_below-swap (suc n) n (λ j w. cond (s.label w == j) 1 0))

-- ---- the far side

zero_or_residual : (n : ℕ) (s : State) (side : ℕ → Bool) → IsSourceSide n s side → (v w : ℕ) → v < n → w < n → side v ≡ true → side w ≡ false → s.res v w ≡ 0
zero_or_residual n s side far v w h k sv sw = elim (cases_lt 0 (s.res v w)) [
  | inr z ↦ omega arith
  | inl pos ↦
      let r : Reaches n s w = (far w k).0 sw in
      let here : Reaches n s v = (suc r.0, (w, (k, (pos, r.1)))) in
      absurd (false≢true (sym ((far v h).1 here) ∙ sv))
]

-- a sum whose terms are all 0 is 0
pub sum_all_zero : (n : ℕ) (f : ℕ → ℕ) → ((i : ℕ) → i < n → f i ≡ 0) → sum_below n f ≡ 0
sum_all_zero n f e = sum_below-same n f (λ i. 0) e ∙ sum_below-zero n

-- what is 0 wherever the first test holds and the second doesn't is 0 under both conditions
pub cond_zero : (x y : Bool) (m : ℕ) → (x ≡ true → y ≡ false → m ≡ 0) → cond (x && not y) m 0 ≡ 0
cond_zero true true m h = refl
cond_zero true false m h = h refl refl
cond_zero false y m h = refl

no_residual : (n : ℕ) (s : State) (side : ℕ → Bool) → IsSourceSide n s side → between n side (λ w. not (side w)) s.res ≡ 0
no_residual n s side far = sum_all_zero n (λ v. sum_below n (λ w. cond (side v && not (side w)) (s.res v w) 0))
    (λ v h. sum_all_zero n (λ w. cond (side v && not (side w)) (s.res v w) 0)
    (λ w k. cond_zero (side v) (side w) (s.res v w) (zero_or_residual n s side far v w h k)))

-- off the far side only the sink holds something
held_at_sink : (n : ℕ) (s : State) → IsValid n s → 1 < n → ((v : ℕ) → v < n → is_active n s v ≡ false) → (side : ℕ → Bool) → IsSourceSide n s side
    → (v : ℕ) → v < n → 1 < v → side v ≡ false → s.excess v ≡ 0
held_at_sink n s ok big quiet side far v h inner off = elim (cases_lt 0 (s.excess v)) [
  | inr z ↦ omega arith
  | inl pos ↦ elim (cases_lt (s.label v) n) [
    | inl low ↦ absurd (false≢true (sym (quiet v h) ∙ is_active-true n s v inner pos low))
    | inr high ↦ absurd (far_label n s ok big v h (omega (arith, ok.small v h)) ((far v h).0 off))
  ]
]

-- the sink's excess is within what is held off any cut
pub sink-le-held : (n : ℕ) (s : State) (side : ℕ → Bool) → 1 < n → side 1 ≡ false → s.excess 1 ≤ held_off n s side
sink-le-held n s side big off =
    let l : cond (not (side 1)) (s.excess 1) 0 ≤ held_off n s side = term-le-sum_below n 1 (λ v. cond (not (side v)) (s.excess v) 0) big in
    rw off at l

-- a sum whose terms are 0 but at 1 is at most that term
pub one_term : (k : ℕ) (f : ℕ → ℕ) → ((i : ℕ) → i < k → (i ≡ 1 → ⊥) → f i ≡ 0) → sum_below k f ≤ f 1
one_term zero f e = omega arith
one_term (suc k) f e = elim (cases_eq k 1) [
  | inl same ↦
      let rest : sum_below k f ≡ 0 = sum_all_zero k f (λ i h. e i (omega arith) (λ q. omega arith)) in
      let here : f k ≡ f 1 = ap f same in
      omega (arith, rest, here)
  | inr other ↦ omega (arith, one_term k f (λ i h d. e i (omega arith) d), e k (omega arith) other)
]

held-le-sink : (n : ℕ) (s : State) → IsValid n s → 1 < n → ((v : ℕ) → v < n → is_active n s v ≡ false) → (side : ℕ → Bool) → IsSourceSide n s side → side 0 ≡ true
    → held_off n s side ≤ s.excess 1
held-le-sink n s ok big quiet side far src =
    let l : held_off n s side ≤ cond (not (side 1)) (s.excess 1) 0 = one_term n (λ v. cond (not (side v)) (s.excess v) 0) (λ v h d. off_term v h d) in
    omega (arith, l, cond_within (not (side 1)) (s.excess 1))
  where
    cond_within : (b : Bool) (x : ℕ) → cond b x 0 ≤ x
    cond_within true x = omega arith
    cond_within false x = omega arith

    off_term : (v : ℕ) → v < n → (v ≡ 1 → ⊥) → cond (not (side v)) (s.excess v) 0 ≡ 0
    off_term v h d = elim (cases_Bool (side v)) [
      | inl on ↦ rw on refl
      | inr off ↦ rw off (elim (cases_lt 1 v) [
        | inl inner ↦ held_at_sink n s ok big quiet side far v h inner off
        | inr low ↦ let z : v ≡ 0 = omega (arith, d) in absurd (false≢true (sym off ∙ (ap side z ∙ src)))
      ])
    ]

far_cut : (n : ℕ) (s : State) (side : ℕ → Bool) → IsValid n s → 1 < n → IsSourceSide n s side → IsCut side
far_cut n s side ok big far = record {
  with_source = elim (cases_Bool (side 0)) [ inl on ↦ on | inr off ↦ absurd (far_label n s ok big 0 (omega arith) ok.source ((far 0 (omega arith)).0 off)) ];
  without_sink = (far 1 big).1 (0, refl);
}

-- no residual leaves a cut of least value
closed_cut : (n : ℕ) (s : State) (other : ℕ → Bool) → between n other (λ w. not (other w)) s.res ≡ 0 → (v w : ℕ) → v < n → w < n → other v ≡ true → 0 < s.res v w → other w ≡ true
closed_cut n s other z v w h k on pos = elim (cases_Bool (other w)) [
  | inl there ↦ there
  | inr off ↦
      let inner : cond (other v && not (other w)) (s.res v w) 0 ≤ sum_below n (λ x. cond (other v && not (other x)) (s.res v x) 0) = term-le-sum_below n w (λ x. cond (other v && not (other x)) (s.res v x) 0) k in
      let outer : sum_below n (λ x. cond (other v && not (other x)) (s.res v x) 0) ≤ between n other (λ x. not (other x)) s.res = term-le-sum_below n v (λ y. sum_below n (λ x. cond (other y && not (other x)) (s.res y x) 0)) h in
      let is : cond (other v && not (other w)) (s.res v w) 0 ≡ s.res v w = rw (on, off) refl in
      absurd (omega (arith, inner, outer, is, z))
]

stays_inside : (n : ℕ) (s : State) (other : ℕ → Bool) → between n other (λ w. not (other w)) s.res ≡ 0 → other 1 ≡ false → (k v : ℕ) → v < n → other v ≡ true → Walk n s k v → ⊥
stays_inside n s other z off zero v h on e = false≢true (sym off ∙ (sym (ap other e) ∙ on))
stays_inside n s other z off (suc k) v h on walk = stays_inside n s other z off k walk.0 walk.1.0 (closed_cut n s other z v walk.0 h walk.1.0 on walk.1.1.0) walk.1.1.1

-- if no node is active, the nodes that can't reach the sink are the greatest least cut
pub source_side_greatest : (n : ℕ) (cap : ℕ → ℕ → ℕ) (s : State) (side : ℕ → Bool) → 1 < n → IsPreflow n cap s → IsValid n s
    → ((v : ℕ) → v < n → is_active n s v ≡ false) → IsSourceSide n s side → IsGreatestLeastCut n cap side
source_side_greatest n cap s side big p ok quiet far =
    let cut : IsCut side = far_cut n s side ok big far in
    let value : cut_value n cap side ≤ s.excess 1 =
    omega (arith, cut_identity n cap s side p cut.with_source, no_residual n s side far, held-le-sink n s ok big quiet side far cut.with_source) in
    record {
      is_cut = cut;
      least = λ other o. omega (arith, value, cut_identity n cap s other p o.with_source, sink-le-held n s other big o.without_sink);
      greatest = λ other o le v h on.
          let z : between n other (λ w. not (other w)) s.res ≡ 0 = omega (arith, value, le, cut_identity n cap s other p o.with_source, sink-le-held n s other big o.without_sink) in
          elim (cases_Bool (side v)) [
            | inl there ↦ there
            | inr off ↦ let r : Reaches n s v = (far v h).0 off in absurd (stays_inside n s other z o.without_sink r.0 v h on r.1)
          ];
    }
