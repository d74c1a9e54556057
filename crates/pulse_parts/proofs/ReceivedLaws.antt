-- What comes in at a node if the nodes that push are visited in place of its arcs.
use Rattle.std.proofs.Common.{◌≡◌, ℕ, suc, zero, ◌+◌, ◌-◌, ◌<◌, ◌≤◌, ◌^◌, List, length, slice_index, slice_set, refl, arith, sym, ap, ◌∙◌, subst, inl, inr, get_or-set_other, get_or-set_same}
use Rattle.std.proofs.lemmas.Bool.{cases_lt}
use Rattle.frame_net.specs.Flow.{sum_below}
use Rattle.frame_net.proofs.SumLaws.{sum_below-mono}
use Rattle.frame_net.specs.FlowNet.{FlowNet, node_count, start, row_len, head, mate, HasMate, IsFlowNet}
use Rattle.pulse_parts.specs.Delivering.{own, back, row_inflow}
use Rattle.pulse_parts.specs.Listing.{IsListed, IsRising}
use Rattle.pulse_parts.specs.Receiving.{ListsSenders, Receives, ReceivesPush, ReceivesNothing}

-- ---- one node

-- a row has one arc to a node
same_place : (net : FlowNet) (u i j : ℕ) → IsFlowNet net → u < node_count net → i < row_len net u → j < row_len net u → head net u i ≡ head net u j → i ≡ j
same_place net u i j ok un il jl e = elim (cases_lt i j) [
  | inl lt ↦ absurd (omega (arith, ok.heads_rise u i j un lt jl, e))
  | inr ge ↦ elim (cases_lt j i) [
    | inl gt ↦ absurd (omega (arith, ok.heads_rise u j i un gt il, e))
    | inr le ↦ omega (arith, ge, le)
  ]
]

-- the mate of u's arc to v is v's arc to u, and leads back
pub record Meets (net : FlowNet) (u v j : ℕ) : Type 0 where
  -- the place of v's arc to u in its row
  pub place : ℕ
  -- it is within the row
  pub inside : place < row_len net v
  -- the mate of u's arc is the arc at this place
  pub arc : mate net u j ≡ start net v + place
  -- its head is u
  pub sender : head net v place ≡ u
  -- its mate is u's arc
  pub leads : mate net v place ≡ start net u + j

-- an arc of u to v has a mate in v's row, which leads back
pub meets_at : (net : FlowNet) (u v j : ℕ) → IsFlowNet net → u < node_count net → v < node_count net → j < row_len net u → head net u j ≡ v → Meets net u v j
meets_at net u v j ok un vn jl e =
    let m : HasMate net u j = ok.meets u j un jl in
    let inside : m.place < row_len net v = subst (λ (w : ℕ). m.place < row_len net w) e m.inside in
    let sender : head net v m.place ≡ u = subst (λ (w : ℕ). head net w m.place ≡ u) e m.back in
    let r : HasMate net v m.place = ok.meets v m.place vn inside in
    let rin : r.place < row_len net u = subst (λ (w : ℕ). r.place < row_len net w) sender r.inside in
    let rarc : mate net v m.place ≡ start net u + r.place = subst (λ (w : ℕ). mate net v m.place ≡ start net w + r.place) sender r.arc in
    let rback : head net u r.place ≡ v = subst (λ (w : ℕ). head net w r.place ≡ v) sender r.back in
    let same : r.place ≡ j = same_place net u r.place j ok un rin jl (rback ∙ sym e) in
    record {
      place = m.place;
      inside = inside;
      arc = subst (λ (w : ℕ). mate net u j ≡ start net w + m.place) e m.arc;
      sender = sender;
      leads = rarc ∙ ap (λ (x : ℕ). start net u + x) same;
    }

-- met, by the heads of u's row
pub meets_row : (net : FlowNet) (u v j : ℕ) (heads : List ℕ) → IsFlowNet net → u < node_count net → v < node_count net → j < row_len net u → length heads ≡ row_len net u
    → ((k : ℕ) → k < row_len net u → slice_index heads k ≡ head net u k) → (j < length heads → slice_index heads j ≡ v) → Meets net u v j
meets_row net u v j heads ok un vn jl len each there = meets_at net u v j ok un vn jl (sym (each j jl) ∙ there (omega (arith, jl, len)))

-- what is pushed over u's arc to v comes back over the mate
pub push_back : (net : FlowNet) (xs : List ℕ) (u v j push : ℕ) → (m : Meets net u v j) → push ≡ own net xs u j → push ≡ back net xs v m.place
push_back net xs u v j push m e = e ∙ ap (slice_index xs) (sym m.leads)

-- adding what u pushes to the residual of v's arc to u makes v receive it
pub receives_push : (net : FlowNet) (xs : List ℕ) (u v j at push : ℕ) (old new : List ℕ) → (m : Meets net u v j) → push ≡ own net xs u j → at ≡ m.place → at < length old
    → new ≡ slice_set old at (slice_index old at + push) → Receives net xs u v old new push
receives_push net xs u v j at push old new m ep ea la en = inl record {
  place = m.place;
  inside = m.inside;
  sender = m.sender;
  pushed = push_back net xs u v j push m ep;
  added = subst (λ (k : ℕ). slice_index new k ≡ slice_index old k + push) ea (ap (λ (ys : List ℕ). slice_index ys at) en ∙ get_or-set_same old at (slice_index old at + push) 0 la);
  others = λ k ne. ap (λ (ys : List ℕ). slice_index ys k) en ∙ get_or-set_other old at k (slice_index old at + push) 0 (λ (e : k ≡ at). ne (e ∙ ea));
}

-- if u has no arc to v, v receives nothing from it
pub receives_nothing : (net : FlowNet) (xs : List ℕ) (u v : ℕ) (ys : List ℕ) → IsFlowNet net → v < node_count net → ((j : ℕ) → j < row_len net u → head net u j ≡ v → ⊥)
    → Receives net xs u v ys ys 0
receives_nothing net xs u v ys ok vn none = inr record {
  none = λ k kl e.
      let m : HasMate net v k = ok.meets v k vn kl in
      none m.place (subst (λ (w : ℕ). m.place < row_len net w) e m.inside) (subst (λ (w : ℕ). head net w m.place ≡ v) e m.back);
  pushed = refl;
  same = refl;
}

-- ---- the nodes of a list

-- The first `from` arcs of v's row have been given what comes in over them, by a visit of the first
-- i listed nodes. What comes in over the others is pushed by the listed nodes that are left.
pub record Adds (net : FlowNet) (xs : List ℕ) (list : List ℕ) (v i : ℕ) (old row : List ℕ) (inflow : ℕ) : Type 0 where
  -- the arc of v's row from which on nothing was added yet
  pub from : ℕ
  -- it is within the row, or at its end
  pub in_row : from ≤ row_len net v
  -- the arcs before it have got what comes in over them
  pub done : (j : ℕ) → j < from → slice_index row j ≡ slice_index old j + back net xs v j
  -- the arcs from it on are as they were
  pub rest : (j : ℕ) → from ≤ j → slice_index row j ≡ slice_index old j
  -- the inflow is what comes in over the arcs before it
  pub sum : inflow ≡ sum_below from (back net xs v)
  -- the heads of the arcs before it are below the listed nodes that are left
  pub passed : (j h : ℕ) → j < from → i ≤ h → h < length list → head net v j < slice_index list h
  -- a node that pushes over an arc from it on is among the listed nodes that are left
  pub ahead : (j : ℕ) → from ≤ j → j < row_len net v → 0 < back net xs v j → (h : ℕ) × ((i ≤ h) × ((h < length list) × (slice_index list h ≡ head net v j)))

-- nodes that push to v are listed
pub adds_none : (net : FlowNet) (xs list : List ℕ) (v : ℕ) (old : List ℕ) → IsFlowNet net → v < node_count net → ListsSenders net xs list → Adds net xs list v 0 old old 0
adds_none net xs list v old ok vn lists = record {
  from = 0;
  in_row = omega arith;
  done = λ j l. absurd (omega (arith, l));
  rest = λ j l. refl;
  sum = refl;
  passed = λ j h l. absurd (omega (arith, l));
  ahead = λ j lo hi some.
      let m : HasMate net v j = ok.meets v j vn hi in
      let at : IsListed list (head net v j) = lists (head net v j) m.place (ok.heads_in v j vn hi) m.inside (omega (arith, some, ap (slice_index xs) m.arc)) in
      (at.place, (omega arith, (at.inside, at.there)));
}

-- a sum doesn't grow over 0s
sum_flat : (m n : ℕ) (f : ℕ → ℕ) → m ≤ n → ((i : ℕ) → m ≤ i → i < n → f i ≡ 0) → sum_below n f ≡ sum_below m f
sum_flat m zero f le zeros = let e : zero ≡ m = omega (arith, le) in ap (λ (k : ℕ). sum_below k f) e
sum_flat m (suc n) f le zeros = elim (cases_lt n m) [
  | inl lt ↦ let e : suc n ≡ m = omega (arith, lt, le) in ap (λ (k : ℕ). sum_below k f) e
  | inr ge ↦ omega (arith, sum_flat m n f ge (λ i lo hi. zeros i lo (omega (arith, hi))), zeros n ge (omega arith))
]

-- the arc to the next listed node is no earlier one
pub ahead_of : (net : FlowNet) (xs list : List ℕ) (v i k : ℕ) (old row : List ℕ) (inflow : ℕ) → i < length list → head net v k ≡ slice_index list i → (a : Adds net xs list v i old row inflow) → a.from ≤ k
ahead_of net xs list v i k old row inflow hi e a = elim (cases_lt k a.from) [
  | inl lt ↦ absurd (omega (arith, a.passed k i lt (omega arith) hi, e))
  | inr ge ↦ ge
]

-- over the arcs before it nothing comes in
quiet_before : (net : FlowNet) (xs list : List ℕ) (v i k : ℕ) (old row : List ℕ) (inflow : ℕ) → IsFlowNet net → v < node_count net → IsRising list → k < row_len net v → head net v k ≡ slice_index list i
    → (a : Adds net xs list v i old row inflow) → (j : ℕ) → a.from ≤ j → j < k → back net xs v j ≡ 0
quiet_before net xs list v i k old row inflow ok vn up kl e a j lo hi = elim (cases_lt 0 (back net xs v j)) [
  | inl some ↦
      let at = a.ahead j lo (omega (arith, hi, kl)) some in
      let below : head net v j < head net v k = ok.heads_rise v j k vn hi kl in
      elim (cases_lt i at.0) [
        | inl gt ↦ absurd (omega (arith, up i at.0 gt at.1.1.0, at.1.1.1, below, e))
        | inr ge ↦ let same : at.0 ≡ i = omega (arith, ge, at.1.0) in absurd (omega (arith, at.1.1.1, ap (slice_index list) same, below, e))
      ]
  | inr none ↦ omega (arith, none)
]

adds_push : (net : FlowNet) (xs list : List ℕ) (v i : ℕ) (old mid new : List ℕ) (inflow push : ℕ) → IsFlowNet net → v < node_count net → IsRising list → i < length list
    → ReceivesPush net xs (slice_index list i) v mid new push → Adds net xs list v i old mid inflow → Adds net xs list v (i + 1) old new (inflow + push)
adds_push net xs list v i old mid new inflow push ok vn up hi r a = record {
  from = suc r.place;
  in_row = omega (arith, r.inside);
  done = λ j l. elim (cases_lt j r.place) [
    | inl lt ↦ r.others j (λ (e : j ≡ r.place). absurd (omega (arith, lt, e))) ∙ elim (cases_lt j a.from) [
      | inl before ↦ a.done j before
      | inr after ↦ omega (arith, a.rest j after, quiet j after lt)
    ]
    | inr ge ↦ let e : r.place ≡ j = omega (arith, ge, l) in subst (λ (k : ℕ). slice_index new k ≡ slice_index old k + back net xs v k) e (omega (arith, r.added, r.pushed, a.rest r.place low))
  ];
  rest = λ j l. r.others j (λ (e : j ≡ r.place). absurd (omega (arith, l, e))) ∙ a.rest j (omega (arith, l, low));
  sum = omega (arith, a.sum, r.pushed, sum_flat a.from r.place (back net xs v) low quiet);
  passed = λ j h l lo hl.
      let at_most : head net v j ≤ slice_index list i = elim (cases_lt j r.place) [
        | inl lt ↦ omega (arith, ok.heads_rise v j r.place vn lt r.inside, r.sender)
        | inr ge ↦ let e : j ≡ r.place = omega (arith, ge, l) in omega (arith, ap (head net v) e, r.sender)
      ] in
      omega (arith, at_most, up i h (omega (arith, lo)) hl);
  ahead = λ j lo jl some.
      let at = a.ahead j (omega (arith, lo, low)) jl some in
      elim (cases_lt i at.0) [
        | inl gt ↦ (at.0, (omega (arith, gt), at.1.1))
        | inr ge ↦ let same : at.0 ≡ i = omega (arith, ge, at.1.0) in absurd (omega (arith, at.1.1.1, ap (slice_index list) same, r.sender, ok.heads_rise v r.place j vn (omega (arith, lo)) jl))
      ];
}
  where
    low : a.from ≤ r.place
    low = ahead_of net xs list v i r.place old mid inflow hi r.sender a

    quiet : (j : ℕ) → a.from ≤ j → j < r.place → back net xs v j ≡ 0
    quiet = quiet_before net xs list v i r.place old mid inflow ok vn up r.inside r.sender a

adds_nothing : (net : FlowNet) (xs list : List ℕ) (v i : ℕ) (old mid new : List ℕ) (inflow push : ℕ)
    → ReceivesNothing net (slice_index list i) v mid new push → Adds net xs list v i old mid inflow → Adds net xs list v (i + 1) old new (inflow + push)
adds_nothing net xs list v i old mid new inflow push r a = record {
  from = a.from;
  in_row = a.in_row;
  done = λ j l. ap (λ (ys : List ℕ). slice_index ys j) r.same ∙ a.done j l;
  rest = λ j l. ap (λ (ys : List ℕ). slice_index ys j) r.same ∙ a.rest j l;
  sum = omega (arith, a.sum, r.pushed);
  passed = λ j h l lo hl. a.passed j h l (omega (arith, lo)) hl;
  ahead = λ j lo jl some.
      let at = a.ahead j lo jl some in
      elim (cases_lt i at.0) [
        | inl gt ↦ (at.0, (omega (arith, gt), at.1.1))
        | inr ge ↦ let same : at.0 ≡ i = omega (arith, ge, at.1.0) in absurd (r.none j jl (sym at.1.1.1 ∙ ap (slice_index list) same))
      ];
}

-- the next listed node, once v has received what it pushes, was visited
pub adds_more : (net : FlowNet) (xs list : List ℕ) (v i u : ℕ) (old mid new : List ℕ) (inflow push : ℕ) → IsFlowNet net → v < node_count net → IsRising list → i < length list → u ≡ slice_index list i
    → Receives net xs u v mid new push → Adds net xs list v i old mid inflow → Adds net xs list v (i + 1) old new (inflow + push)
adds_more net xs list v i u old mid new inflow push ok vn up hi eu r a = elim (subst (λ (w : ℕ). Receives net xs w v mid new push) eu r) [
  | inl some ↦ adds_push net xs list v i old mid new inflow push ok vn up hi some a
  | inr none ↦ adds_nothing net xs list v i old mid new inflow push none a
]

-- what came in so far is part of what comes in
pub adds_part : (net : FlowNet) (xs list : List ℕ) (v i : ℕ) (old row : List ℕ) (inflow : ℕ) → Adds net xs list v i old row inflow → inflow ≤ row_inflow net xs v
adds_part net xs list v i old row inflow a = omega (arith, a.sum, sum_below-mono a.from (row_len net v) (back net xs v) a.in_row)

-- there is room in the arc to the next listed node
pub adds_fit : (net : FlowNet) (xs list : List ℕ) (v i u : ℕ) (old row : List ℕ) (inflow : ℕ) → i < length list → u ≡ slice_index list i → Adds net xs list v i old row inflow
    → ((k : ℕ) → k < row_len net v → slice_index old k + back net xs v k < 2 ^ 32) → (k : ℕ) → k < row_len net v → head net v k ≡ u → slice_index row k + back net xs v k < 2 ^ 32
adds_fit net xs list v i u old row inflow hi eu a fits k kl e = omega (arith, fits k kl, a.rest k (ahead_of net xs list v i k old row inflow hi (e ∙ eu) a))

quiet_end : (net : FlowNet) (xs list : List ℕ) (v : ℕ) (old row : List ℕ) (inflow : ℕ) → (a : Adds net xs list v (length list) old row inflow) → (j : ℕ) → a.from ≤ j → j < row_len net v → back net xs v j ≡ 0
quiet_end net xs list v old row inflow a j lo hi = elim (cases_lt 0 (back net xs v j)) [
  | inl some ↦ let at = a.ahead j lo hi some in absurd (omega (arith, at.1.0, at.1.1.0))
  | inr none ↦ omega (arith, none)
]

-- past the last listed node the inflow is what comes in over the whole row
pub adds_inflow : (net : FlowNet) (xs list : List ℕ) (v i : ℕ) (old row : List ℕ) (inflow : ℕ) → i ≡ length list → Adds net xs list v i old row inflow → inflow ≡ row_inflow net xs v
adds_inflow net xs list v i old row inflow e b =
    let a : Adds net xs list v (length list) old row inflow = subst (λ (m : ℕ). Adds net xs list v m old row inflow) e b in
    a.sum ∙ sym (sum_flat a.from (row_len net v) (back net xs v) a.in_row (quiet_end net xs list v old row inflow a))

-- past the last listed node each arc of the row has got what comes in over it
pub adds_row : (net : FlowNet) (xs list : List ℕ) (v i : ℕ) (old row : List ℕ) (inflow : ℕ) → i ≡ length list → Adds net xs list v i old row inflow
    → (k : ℕ) → k < row_len net v → slice_index row k ≡ slice_index old k + back net xs v k
adds_row net xs list v i old row inflow e b k kl =
    let a : Adds net xs list v (length list) old row inflow = subst (λ (m : ℕ). Adds net xs list v m old row inflow) e b in
    elim (cases_lt k a.from) [
      | inl lt ↦ a.done k lt
      | inr ge ↦ omega (arith, a.rest k ge, quiet_end net xs list v old row inflow a k ge kl)
    ]

-- ---- a list that rises

-- nodes that rise up to a place rise up to the next place, if that one is above the one before
pub rising_more : (list : List ℕ) (i : ℕ) → (0 < i → slice_index list (i - 1) < slice_index list i) → ((a b : ℕ) → a < b → b < i → slice_index list a < slice_index list b)
    → (a b : ℕ) → a < b → b < i + 1 → slice_index list a < slice_index list b
rising_more list i last up a b ab bi = elim (cases_lt b i) [
  | inl lt ↦ up a b ab lt
  | inr ge ↦
      let e : i ≡ b = omega (arith, ge, bi) in
      subst (λ (m : ℕ). slice_index list a < slice_index list m) e (elim (cases_lt a (i - 1)) [
        | inl lt ↦ omega (arith, up a (i - 1) lt (omega (arith, e, ab)), last (omega (arith, e, ab)))
        | inr at ↦ let q : i - 1 ≡ a = omega (arith, at, e, ab) in subst (λ (m : ℕ). slice_index list m < slice_index list i) q (last (omega (arith, e, ab)))
      ])
]
