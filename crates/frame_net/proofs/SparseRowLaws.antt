-- A sum over the arcs of a row with rising heads is the sum over all nodes.
use Rattle.std.proofs.Common.{◌≡◌, ℕ, suc, zero, ◌+◌, ◌-◌, ◌<◌, ◌≤◌, ◌==◌, ◌&&◌, nat_lt, min, cond, Bool, true, false, arith, refl, ap, sym, ◌∙◌, subst, inl, inr, ◌⊎◌}
use Rattle.std.proofs.lemmas.Bool.{cases_lt, cases_Bool, cases_order, cases_eq, eqb-true, lt-ltb, le-ltb, eq-eqb, ne_eqb}
use Rattle.frame_net.specs.Flow.{sum_below, least_below, State, push, admissible, is_active}
use Rattle.frame_net.proofs.SumLaws.{sum_below-same, sum_below-zero, sum_below-swap, least_below-le, least_below-le_start}
use Rattle.frame_net.specs.Rows.{sparse, Rises}

all_zero : (n : ℕ) (f : ℕ → ℕ) → ((i : ℕ) → i < n → f i ≡ 0) → sum_below n f ≡ 0
all_zero n f e = sum_below-same n f (λ i. 0) e ∙ sum_below-zero n

-- a sum with one term
pub sum_one : (n k : ℕ) (f : ℕ → ℕ) → k < n → ((i : ℕ) → i < n → (i ≡ k → ⊥) → f i ≡ 0) → sum_below n f ≡ f k
sum_one zero k f h e = absurd (omega arith)
sum_one (suc n) k f h e = elim (cases_eq k n) [
  | inl same ↦
      let rest : sum_below n f ≡ 0 = all_zero n f (λ i l. e i (omega arith) (λ q. omega arith)) in
      let here : f k ≡ f n = ap f same in omega (arith, rest, here)
  | inr other ↦ omega (arith, sum_one n k f (omega (arith, other)) (λ i l d. e i (omega arith) d), e n (omega arith) (λ q. other (sym q)))
]

sum_hit : (m x g : ℕ) → sum_below m (λ w. cond (x == w) g 0) ≡ cond (nat_lt x m) g 0
sum_hit m x g = elim (cases_lt x m) [
  | inl lt ↦
      let one : sum_below m (λ w. cond (x == w) g 0) ≡ cond (x == x) g 0 = sum_one m x (λ w. cond (x == w) g 0) lt
      (λ i h d. ap (λ (b : Bool). cond b g 0) (ne_eqb x i (λ q. d (sym q)))) in
      one ∙ (ap (λ (b : Bool). cond b g 0) (eq-eqb x x refl) ∙ sym (ap (λ (b : Bool). cond b g 0) (lt-ltb x m lt)))
  | inr ge ↦
      all_zero m (λ w. cond (x == w) g 0) (λ i h. ap (λ (b : Bool). cond b g 0) (ne_eqb x i (λ q. omega arith)))
      ∙ sym (ap (λ (b : Bool). cond b g 0) (le-ltb x m ge))
]

cond_in : (c : ℕ → Bool) (x w g : ℕ) → cond (c w) (cond (x == w) g 0) 0 ≡ cond (x == w) (cond (c x) g 0) 0
cond_in c x w g = elim (cases_Bool (x == w)) [
  | inl same ↦ let e : x ≡ w = eqb-true x w same in rw same (ap (λ (b : ℕ). cond (c b) g 0) (sym e))
  | inr other ↦ rw other (zero_both (c w))
]
  where
    zero_both : (b : Bool) → cond {A = ℕ} b 0 0 ≡ zero
    zero_both true = refl
    zero_both false = refl

cond_sum : (b : Bool) (n : ℕ) (f : ℕ → ℕ) → cond b (sum_below n f) 0 ≡ sum_below n (λ k. cond b (f k) 0)
cond_sum true n f = refl
cond_sum false n f = sym (sum_below-zero n)

-- a sum over heads is a sum over the arcs of the row
pub sparse-sum : (m len : ℕ) (c : ℕ → Bool) (h f : ℕ → ℕ) → sum_below m (λ w. cond (c w) (sparse len h f w) 0) ≡ sum_below len (λ j. cond (nat_lt (h j) m) (cond (c (h j)) (f j) 0) 0)
sparse-sum m len c h f =
    sum_below-same m (λ w. cond (c w) (sparse len h f w) 0) (λ w. sum_below len (λ j. cond (h j == w) (cond (c (h j)) (f j) 0) 0))
    (λ w l. cond_sum (c w) len (λ j. cond (h j == w) (f j) 0)
    ∙ sum_below-same len (λ j. cond (c w) (cond (h j == w) (f j) 0) 0) (λ j. cond (h j == w) (cond (c (h j)) (f j) 0) 0) (λ j k. cond_in c (h j) w (f j)))
    ∙ (sum_below-swap m len (λ w j. cond (h j == w) (cond (c (h j)) (f j) 0) 0)
    ∙ sum_below-same len (λ j. sum_below m (λ w. cond (h j == w) (cond (c (h j)) (f j) 0) 0)) (λ j. cond (nat_lt (h j) m) (cond (c (h j)) (f j) 0) 0)
    (λ j k. sum_hit m (h j) (cond (c (h j)) (f j) 0)))

-- at the head of an arc of a row with rising heads, the row's function has the value of that arc
pub sparse-at : (len : ℕ) (h f : ℕ → ℕ) (k : ℕ) → Rises len h → k < len → sparse len h f (h k) ≡ f k
sparse-at len h f k up l =
    sum_one len k (λ j. cond (h j == h k) (f j) 0) l (λ i a d. ap (λ (b : Bool). cond b (f i) 0) (ne_eqb (h i) (h k) (λ q. apart i a d q)))
    ∙ ap (λ (b : Bool). cond b (f k) 0) (eq-eqb (h k) (h k) refl)
  where
    apart : (i : ℕ) → i < len → (i ≡ k → ⊥) → h i ≡ h k → ⊥
    apart i a d q = elim (cases_order i k) [
      | inl same ↦ d same
      | inr r ↦ elim r [ inl lt ↦ omega (arith, up i k lt l) | inr gt ↦ omega (arith, up k i gt a) ]
    ]

-- if no arc of the row has this head, the row's function is 0
pub sparse-none : (len : ℕ) (h f : ℕ → ℕ) (w : ℕ) → ((k : ℕ) → k < len → h k ≡ w → ⊥) → sparse len h f w ≡ 0
sparse-none len h f w none = all_zero len (λ j. cond (h j == w) (f j) 0) (λ j l. ap (λ (b : Bool). cond b (f j) 0) (ne_eqb (h j) w (none j l)))

-- a number is the head of some arc of the row, or of none
pub find_head : (len : ℕ) (h : ℕ → ℕ) (w : ℕ) → ((k : ℕ) × ((k < len) × (h k ≡ w))) ⊎ ((k : ℕ) → k < len → h k ≡ w → ⊥)
find_head zero h w = inr (λ k l e. omega arith)
find_head (suc len) h w = elim (cases_eq (h len) w) [
  | inl same ↦ inl (len, (omega arith, same))
  | inr other ↦ elim (find_head len h w) [
    | inl found ↦ inl (found.0, (omega (arith, found.1.0), found.1.1))
    | inr none ↦ inr (λ k l e. elim (cases_lt k len) [ inl lt ↦ none k lt e | inr ge ↦ let q : k ≡ len = omega arith in other (sym (ap h q) ∙ e) ])
  ]
]

-- the arcs whose heads are below the k-th are those before it
below_rising : (len : ℕ) (h g : ℕ → ℕ) (k : ℕ) → Rises len h → k < len → sum_below len (λ j. cond (nat_lt (h j) (h k)) (g j) 0) ≡ sum_below k g
below_rising len h g k up l = go len up l
  where
    go : (m : ℕ) → Rises m h → k < m → sum_below m (λ j. cond (nat_lt (h j) (h k)) (g j) 0) ≡ sum_below k g
    go zero r a = absurd (omega arith)
    go (suc m) r a = elim (cases_eq k m) [
      | inl same ↦
          let off : nat_lt (h m) (h k) ≡ false = le-ltb (h m) (h k) (omega (arith, ap h same)) in
          let front : sum_below m (λ j. cond (nat_lt (h j) (h k)) (g j) 0) ≡ sum_below m g =
          sum_below-same m (λ j. cond (nat_lt (h j) (h k)) (g j) 0) g (λ j b. ap (λ (t : Bool). cond t (g j) 0) (lt-ltb (h j) (h k) (r j k (omega arith) a))) in
          let last : sum_below m g ≡ sum_below k g = ap (λ (x : ℕ). sum_below x g) (sym same) in
          rw off (omega (arith, front, last))
      | inr other ↦
          let off : nat_lt (h m) (h k) ≡ false = le-ltb (h m) (h k) (omega (arith, r k m (omega (arith, other)) (omega arith))) in
          rw off (omega (arith, go m (λ i j x y. r i j x (omega arith)) (omega (arith, other))))
    ]

-- a row of pushes by arcs is the pulse's pushes by heads
pub push-is_sparse : (n : ℕ) (s : State) (v len : ℕ) (h r p : ℕ → ℕ) → Rises len h
    → ((w : ℕ) → s.res v w ≡ sparse len h r w)
    → ((k : ℕ) → k < len → p k ≡ min (cond (is_active n s v && (s.label (h k) + 1 == s.label v)) (r k) 0) (s.excess v - sum_below k (λ j. cond (is_active n s v && (s.label (h j) + 1 == s.label v)) (r j) 0)))
    → (w : ℕ) → push n s v w ≡ sparse len h p w
push-is_sparse n s v len h r p up res is w = elim (find_head len h w) [
  | inl found ↦ at_head found.0 found.1.0 found.1.1
  | inr none ↦
      let zero_res : s.res v w ≡ 0 = res w ∙ sparse-none len h r w none in
      let zero_admissible : admissible n s v w ≡ 0 = ap (λ (x : ℕ). cond (is_active n s v && (s.label w + 1 == s.label v)) x 0) zero_res ∙ zero_both (is_active n s v && (s.label w + 1 == s.label v)) in
      omega (arith, zero_admissible, sparse-none len h p w none)
]
  where
    zero_both : (b : Bool) → cond {A = ℕ} b 0 0 ≡ zero
    zero_both true = refl
    zero_both false = refl

    c : ℕ → Bool
    c w = is_active n s v && (s.label w + 1 == s.label v)

    at_head : (k : ℕ) → k < len → h k ≡ w → push n s v w ≡ sparse len h p w
    at_head k l e =
        let here : admissible n s v (h k) ≡ cond (is_active n s v && (s.label (h k) + 1 == s.label v)) (r k) 0 = ap (λ (x : ℕ). cond (is_active n s v && (s.label (h k) + 1 == s.label v)) x 0) (res (h k) ∙ sparse-at len h r k up l) in
        let before : sum_below (h k) (admissible n s v) ≡ sum_below k (λ j. cond (is_active n s v && (s.label (h j) + 1 == s.label v)) (r j) 0) =
        sum_below-same (h k) (admissible n s v) (λ x. cond (is_active n s v && (s.label x + 1 == s.label v)) (sparse len h r x) 0) (λ x a. ap (λ (y : ℕ). cond (is_active n s v && (s.label x + 1 == s.label v)) y 0) (res x))
        ∙ (sparse-sum (h k) len (λ x. is_active n s v && (s.label x + 1 == s.label v)) h r ∙ below_rising len h (λ j. cond (is_active n s v && (s.label (h j) + 1 == s.label v)) (r j) 0) k up l) in
        subst (λ (x : ℕ). push n s v x ≡ sparse len h p x) e (omega (arith, here, before, is k l, sparse-at len h p k up l))

le-least_below : (n : ℕ) (f : ℕ → ℕ) (m d : ℕ) → d ≤ m → ((i : ℕ) → i < n → d ≤ f i) → d ≤ least_below n f m
le-least_below zero f m d h e = h
le-least_below (suc n) f m d h e = omega (arith, le-least_below n f m d h (λ i k. e i (omega arith)), e n (omega arith))

-- the least over heads is the least over the arcs of the row
pub sparse-least : (n len : ℕ) (h r l : ℕ → ℕ) → Rises len h → ((k : ℕ) → k < len → h k < n)
    → least_below n (λ w. cond (nat_lt 0 (sparse len h r w)) (l w + 1) n) n ≡ least_below len (λ k. cond (nat_lt 0 (r k)) (l (h k) + 1) n) n
sparse-least n len h r l up within = omega (arith, one, two)
  where
    at : (k : ℕ) → k < len → cond (nat_lt 0 (sparse len h r (h k))) (l (h k) + 1) n ≡ cond (nat_lt 0 (r k)) (l (h k) + 1) n
    at k a = ap (λ (x : ℕ). cond (nat_lt 0 x) (l (h k) + 1) n) (sparse-at len h r k up a)

    one : least_below n (λ w. cond (nat_lt 0 (sparse len h r w)) (l w + 1) n) n ≤ least_below len (λ k. cond (nat_lt 0 (r k)) (l (h k) + 1) n) n
    one = le-least_below len (λ k. cond (nat_lt 0 (r k)) (l (h k) + 1) n) n (least_below n (λ w. cond (nat_lt 0 (sparse len h r w)) (l w + 1) n) n)
        (least_below-le_start n (λ w. cond (nat_lt 0 (sparse len h r w)) (l w + 1) n) n)
        (λ k a. omega (arith, at k a, least_below-le n (h k) (λ w. cond (nat_lt 0 (sparse len h r w)) (l w + 1) n) n (within k a)))

    two : least_below len (λ k. cond (nat_lt 0 (r k)) (l (h k) + 1) n) n ≤ least_below n (λ w. cond (nat_lt 0 (sparse len h r w)) (l w + 1) n) n
    two = le-least_below n (λ w. cond (nat_lt 0 (sparse len h r w)) (l w + 1) n) n (least_below len (λ k. cond (nat_lt 0 (r k)) (l (h k) + 1) n) n)
        (least_below-le_start len (λ k. cond (nat_lt 0 (r k)) (l (h k) + 1) n) n)
        (λ w a. elim (find_head len h w) [
          | inl found ↦ subst (λ (x : ℕ). least_below len (λ k. cond (nat_lt 0 (r k)) (l (h k) + 1) n) n ≤ cond (nat_lt 0 (sparse len h r x)) (l x + 1) n) found.1.1
              (omega (arith, at found.0 found.1.0, least_below-le len found.0 (λ k. cond (nat_lt 0 (r k)) (l (h k) + 1) n) n found.1.0))
          | inr none ↦
              let z : nat_lt 0 (sparse len h r w) ≡ false = le-ltb 0 (sparse len h r w) (omega (arith, sparse-none len h r w none)) in
              rw z (least_below-le_start len (λ k. cond (nat_lt 0 (r k)) (l (h k) + 1) n) n)
        ])

-- two rows that hold each other's arcs: what w has for v, as v's row of mates
pub sparse-mate : (v w len len' : ℕ) (h h' q q' : ℕ → ℕ) → Rises len h → Rises len' h'
    → ((k : ℕ) → k < len → h k ≡ w → (j : ℕ) × ((j < len') × ((h' j ≡ v) × (q' j ≡ q k))))
    → ((j : ℕ) → j < len' → h' j ≡ v → (k : ℕ) × ((k < len) × (h k ≡ w)))
    → sparse len' h' q' v ≡ sparse len h q w
sparse-mate v w len len' h h' q q' up up' to back = elim (find_head len h w) [
  | inl found ↦
      let j = to found.0 found.1.0 found.1.1 in
      let there : sparse len' h' q' (h' j.0) ≡ q' j.0 = sparse-at len' h' q' j.0 up' j.1.0 in
      let here : sparse len h q (h found.0) ≡ q found.0 = sparse-at len h q found.0 up found.1.0 in
      sym (ap (λ (x : ℕ). sparse len' h' q' x) j.1.1.0) ∙ (there ∙ (j.1.1.1 ∙ (sym here ∙ ap (λ (x : ℕ). sparse len h q x) found.1.1)))
  | inr none ↦
      sparse-none len' h' q' v (λ j a e. let k = back j a e in none k.0 k.1.0 k.1.1) ∙ sym (sparse-none len h q w none)
]

-- a sum over nodes of a row by heads is the sum over the row
pub sparse-total : (n len : ℕ) (h q : ℕ → ℕ) → ((k : ℕ) → k < len → h k < n) → sum_below n (sparse len h q) ≡ sum_below len q
sparse-total n len h q within =
    sparse-sum n len (λ x. true) h q
    ∙ sum_below-same len (λ j. cond (nat_lt (h j) n) (q j) 0) q (λ j a. ap (λ (b : Bool). cond b (q j) 0) (lt-ltb (h j) n (within j a)))

-- rows with equal values on all arcs have equal values at each head
pub sparse-same : (len : ℕ) (h f g : ℕ → ℕ) (w : ℕ) → ((k : ℕ) → k < len → f k ≡ g k) → sparse len h f w ≡ sparse len h g w
sparse-same len h f g w e = sum_below-same len (λ j. cond (h j == w) (f j) 0) (λ j. cond (h j == w) (g j) 0) (λ j l. ap (λ (x : ℕ). cond (h j == w) x 0) (e j l))

-- what is given and taken arc by arc is given and taken head by head
pub sparse-given : (len : ℕ) (h r b o : ℕ → ℕ) (w : ℕ) → Rises len h → sparse len h (λ k. (r k + b k) - o k) w ≡ (sparse len h r w + sparse len h b w) - sparse len h o w
sparse-given len h r b o w up = elim (find_head len h w) [
  | inl found ↦ subst (λ (x : ℕ). sparse len h (λ k. (r k + b k) - o k) x ≡ (sparse len h r x + sparse len h b x) - sparse len h o x) found.1.1
      (omega (arith, sparse-at len h (λ k. (r k + b k) - o k) found.0 up found.1.0, sparse-at len h r found.0 up found.1.0, sparse-at len h b found.0 up found.1.0, sparse-at len h o found.0 up found.1.0))
  | inr none ↦ omega (arith, sparse-none len h (λ k. (r k + b k) - o k) w none, sparse-none len h r w none, sparse-none len h b w none, sparse-none len h o w none)
]
