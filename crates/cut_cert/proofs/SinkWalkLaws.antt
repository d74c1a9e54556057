-- A walk backward from the sink marks the nodes that reach it: a sweep by falling number, and a
-- queue of those it is past.
use Rattle.std.proofs.Common.{ℕ, zero, suc, ◌+◌, ◌<◌, ◌≤◌, ◌≡◌, ◌⊎◌, ◌&&◌, inl, inr, Bool, List, length, true, false, not, nat_lt, Some, None, slice_get, slice_index, refl, arith, ap, ap₂, sym, ◌∙◌, subst}
use Rattle.std.proofs.lemmas.Bool.{cases_Bool, cases_eq, cases_lt, cond-true, cond-false, lt-ltb, le-ltb, not-false, not_from_true}
use Rattle.std.proofs.lemmas.List.{get_or-replicate}
use Rattle.frame_net.specs.Flow.{State, Walk, Reaches, IsSourceSide}
use Rattle.frame_net.specs.Rows.{Rises}
use Rattle.frame_net.proofs.SparseRowLaws.{sparse-at, sparse-none, find_head}
use Rattle.frame_net.specs.FlowNet.{FlowNet, IsFlowNet, HasMate, node_count, start, row_len, head, mate}
use Rattle.pulse_parts.specs.Parts.{pair}
use Rattle.cut_cert.specs.Fronts.{SearchFront, is_marked, mark_node, reach_node}
use Rattle.cut_cert.specs.SinkWalk.{reach_node_in_sweep, read_arc, read_arcs}
use Rattle.cut_cert.proofs.FrontLaws.{Grows, Sweeps, Goes, reach-long, reach-new, reach-marked, mark-long, mark-marked, mark-goes, grows-self, grows-then, marked-within, no_front, sweeps-none, sweeps-few, sweeps-next, sweeps-read, reach-goes}

-- ---- residuals of arcs and of pairs

module _ (net : FlowNet) (ok : IsFlowNet net) where
  -- each arc of a node's row is among all arcs
  pub arc-in : (w k : ℕ) → w < node_count net → k < row_len net w → start net w + k < length net.heads
  arc-in w k h l = omega (arith, h, l, ok.rows (w + 1) (node_count net) (omega (arith, h)) (omega arith), ok.last)

  rises : (v : ℕ) → v < node_count net → Rises (row_len net v) (head net v)
  rises v h = λ j k a b. ok.heads_rise v j k h a b

  -- the residual of the mate of w's arc to v is that of the pair of v and w
  pub mate-pair : (xs : List ℕ) (w k : ℕ) → w < node_count net → k < row_len net w → pair net xs (head net w k) w ≡ slice_index xs (mate net w k)
  mate-pair xs w k h l =
      let m : HasMate net w k = ok.meets w k h l in
      let v : ℕ = head net w k in
      let at : pair net xs v (head net v m.place) ≡ slice_index xs (start net v + m.place) =
      sparse-at (row_len net v) (head net v) (λ j. slice_index xs (start net v + j)) m.place (rises v (ok.heads_in w k h l)) m.inside in
      ap (λ (u : ℕ). pair net xs v u) (sym m.back) ∙ at ∙ ap (slice_index xs) (sym m.arc)

  -- a pair with a residual is that of the mate of some arc with tail w
  pub pair-mate : (xs : List ℕ) (v w : ℕ) → v < node_count net → w < node_count net → 0 < pair net xs v w
      → (k : ℕ) × ((k < row_len net w) × ((head net w k ≡ v) × (0 < slice_index xs (mate net w k))))
  pair-mate xs v w h l r = elim (find_head (row_len net v) (head net v) w) [
    | inl found ↦ (
        let j : ℕ = found.0 in
        let m : HasMate net v j = ok.meets v j h found.1.0 in
        let inside : m.place < row_len net w = subst (λ (u : ℕ). m.place < row_len net u) found.1.1 m.inside in
        let back : head net w m.place ≡ v = subst (λ (u : ℕ). head net u m.place ≡ v) found.1.1 m.back in
        let same : pair net xs v w ≡ slice_index xs (mate net w m.place) = ap (λ (u : ℕ). pair net xs u w) (sym back) ∙ mate-pair xs w m.place l inside in
        (m.place, (inside, (back, subst (λ (x : ℕ). 0 < x) same r))))
    | inr none ↦ (
        let zero_here : pair net xs v w ≡ 0 = sparse-none (row_len net v) (head net v) (λ j. slice_index xs (start net v + j)) w none in
        absurd (omega (arith, r, zero_here)))
  ]

-- ---- what reading an arc does

-- an inner node to which the sweep comes later is marked alone
pub sweep-mark : (b : ℕ) (r : SearchFront) (v : ℕ) → 1 < v → v < b → reach_node_in_sweep b r v ≡ mark_node r v
unfolding reach_node_in_sweep
sweep-mark b r v inner less = cond-true (nat_lt 1 v && nat_lt v b) (mark_node r v) (reach_node r v) (ap₂ (λ (x y : Bool). x && y) (lt-ltb 1 v inner) (lt-ltb v b less))

-- the sweep comes to inner nodes alone
pub sweep-outer : (b : ℕ) (r : SearchFront) (v : ℕ) → v ≤ 1 → reach_node_in_sweep b r v ≡ reach_node r v
unfolding reach_node_in_sweep
sweep-outer b r v outer = cond-false (nat_lt 1 v && nat_lt v b) (mark_node r v) (reach_node r v) (ap (λ (x : Bool). x && nat_lt v b) (le-ltb 1 v outer))

-- a node that the sweep is past is reached
pub sweep-past : (b : ℕ) (r : SearchFront) (v : ℕ) → 1 < v → b ≤ v → reach_node_in_sweep b r v ≡ reach_node r v
unfolding reach_node_in_sweep
sweep-past b r v inner past = cond-false (nat_lt 1 v && nat_lt v b) (mark_node r v) (reach_node r v) (ap₂ (λ (x y : Bool). x && y) (lt-ltb 1 v inner) (le-ltb v b past))

-- an inner node to which the sweep comes later is marked, any other reached
pub sweep-cases : (b : ℕ) (r : SearchFront) (v : ℕ) → ((1 < v) × ((v < b) × (reach_node_in_sweep b r v ≡ mark_node r v))) ⊎ (reach_node_in_sweep b r v ≡ reach_node r v)
sweep-cases b r v = elim (cases_lt 1 v) [
  | inr outer ↦ inr (sweep-outer b r v outer)
  | inl inner ↦ elim (cases_lt v b) [
    | inl less ↦ inl (inner, (less, sweep-mark b r v inner less))
    | inr past ↦ inr (sweep-past b r v inner past)
  ]
]

-- a node that is marked is left as it is
sweep-marked : (b : ℕ) (r : SearchFront) (v : ℕ) → is_marked r v ≡ true → reach_node_in_sweep b r v ≡ r
sweep-marked b r v e = elim (sweep-cases b r v) [
  | inl to_come ↦ to_come.1.1 ∙ mark-marked r v e
  | inr reached ↦ reached ∙ reach-marked r v e
]

sweep-long : (b : ℕ) (r : SearchFront) (v : ℕ) → length (reach_node_in_sweep b r v).marks ≡ length r.marks
sweep-long b r v = elim (sweep-cases b r v) [
  | inl to_come ↦ ap (λ (s : SearchFront). length s.marks) to_come.1.1 ∙ mark-long r v
  | inr reached ↦ ap (λ (s : SearchFront). length s.marks) reached ∙ reach-long r v
]

-- an arc whose mate has a residual makes its head reached, or marked for the sweep
pub arc-on : (net : FlowNet) (xs : List ℕ) (b w k : ℕ) (r : SearchFront) → nat_lt 0 (slice_index xs (mate net w k)) ≡ true → read_arc net xs b w k r ≡ reach_node_in_sweep b r (head net w k)
unfolding read_arc
arc-on net xs b w k r e = cond-true (nat_lt 0 (slice_index xs (mate net w k))) (reach_node_in_sweep b r (head net w k)) r e

-- an arc whose mate has no residual changes nothing
pub arc-off : (net : FlowNet) (xs : List ℕ) (b w k : ℕ) (r : SearchFront) → nat_lt 0 (slice_index xs (mate net w k)) ≡ false → read_arc net xs b w k r ≡ r
unfolding read_arc
arc-off net xs b w k r e = cond-false (nat_lt 0 (slice_index xs (mate net w k))) (reach_node_in_sweep b r (head net w k)) r e

-- reading no arcs changes nothing
pub arcs-none : (net : FlowNet) (xs : List ℕ) (b w : ℕ) (r : SearchFront) → read_arcs net xs b w 0 r ≡ r
unfolding read_arcs
arcs-none net xs b w r = refl

-- reading one arc more is reading it after those before it
pub arcs-more : (net : FlowNet) (xs : List ℕ) (b w k : ℕ) (r : SearchFront) → read_arcs net xs b w (suc k) r ≡ read_arc net xs b w k (read_arcs net xs b w k r)
unfolding read_arcs
arcs-more net xs b w k r = refl

-- reading an arc leaves as many marks
pub arc-long : (net : FlowNet) (xs : List ℕ) (b w k : ℕ) (r : SearchFront) → length (read_arc net xs b w k r).marks ≡ length r.marks
arc-long net xs b w k r = elim (cases_Bool (nat_lt 0 (slice_index xs (mate net w k)))) [
  | inl on ↦ ap (λ (s : SearchFront). length s.marks) (arc-on net xs b w k r on) ∙ sweep-long b r (head net w k)
  | inr off ↦ ap (λ (s : SearchFront). length s.marks) (arc-off net xs b w k r off)
]

-- reading arcs leaves as many marks
pub arcs-long : (net : FlowNet) (xs : List ℕ) (b w k : ℕ) (r : SearchFront) → length (read_arcs net xs b w k r).marks ≡ length r.marks
arcs-long net xs b w zero r = ap (λ (s : SearchFront). length s.marks) (arcs-none net xs b w r)
arcs-long net xs b w (suc k) r =
    ap (λ (s : SearchFront). length s.marks) (arcs-more net xs b w k r) ∙ arc-long net xs b w k (read_arcs net xs b w k r) ∙ arcs-long net xs b w k r

-- ---- what the walk keeps

module _ (n : ℕ) (s : State) where
  -- each node with a residual to w is marked
  abbrev pub HasRead : SearchFront → ℕ → Type 0
  HasRead r w = (v : ℕ) → v < n → 0 < s.res v w → is_marked r v ≡ true

  -- the sweep, which has come down to b, comes to w later, or w has been read
  abbrev pub IsSettled : ℕ → SearchFront → ℕ → Type 0
  IsSettled b r w = ((1 < w) × (w < b)) ⊎ HasRead r w

  settled-still : (b : ℕ) (r t : SearchFront) → Grows r t → (w : ℕ) → IsSettled b r w → IsSettled b t w
  settled-still b r t grows w settled = elim settled [
    | inl to_come ↦ inl to_come
    | inr read ↦ inr (λ v h some. grows.marks v (read v h some))
  ]

  -- each marked node reaches the sink, and waits or is settled
  abbrev pub SweepsBack : ℕ → SearchFront → ℕ → Type 0
  SweepsBack b r k = Sweeps n (λ v. Reaches n s v) (λ t w. IsSettled b t w) r k

  abbrev pub GoesBack : ℕ → ℕ → SearchFront → SearchFront → Type 0
  GoesBack b k r t = Goes n (λ v. Reaches n s v) (λ u w. IsSettled b u w) k r t

  -- reaching a node that reaches the sink keeps what the walk keeps, and marks it
  pub reach-back : (b : ℕ) (r : SearchFront) (k v : ℕ) → SweepsBack b r k → v < n → Reaches n s v → GoesBack b k r (reach_node r v) × (is_marked (reach_node r v) v ≡ true)
  reach-back b r k v sweep below way = reach-goes n (λ u. Reaches n s u) (λ t w. IsSettled b t w) (settled-still b) r k v sweep below way

  -- the code may have come further down than what is said of it
  pub sweep-back : (b c : ℕ) (r : SearchFront) (k v : ℕ) → b ≤ c → SweepsBack c r k → v < n → Reaches n s v → GoesBack c k r (reach_node_in_sweep b r v) × (is_marked (reach_node_in_sweep b r v) v ≡ true)
  sweep-back b c r k v low sweep below way =
      let P : SearchFront → Type 0 = λ t. GoesBack c k r t × (is_marked t v ≡ true) in
      elim (sweep-cases b r v) [
        | inl to_come ↦ subst P (sym to_come.1.1)
            (mark-goes n (λ u. Reaches n s u) (λ t w. IsSettled c t w) (settled-still c) r k v sweep below way (inl (to_come.0, omega (arith, to_come.1.0, low))))
        | inr reached ↦ subst P (sym reached) (reach-back c r k v sweep below way)
      ]

  -- the sink is marked, and the walk keeps what it keeps
  pub record Sweeping (b : ℕ) (r : SearchFront) (k : ℕ) : Type 0 where
    -- the walk has come to place k of the queue, and the sweep down to b
    pub sweeps : SweepsBack b r k
    -- the sink is marked
    pub sink : is_marked r 1 ≡ true

  -- with the sink reached the walk has begun
  pub sweeping-start : (b : ℕ) (r : SearchFront) → 1 < n → r ≡ reach_node (no_front n) 1 → Sweeping b r 0
  sweeping-start b r two e =
      let goes = reach-back b (no_front n) 0 1 (sweeps-none n (λ u. Reaches n s u) (λ t w. IsSettled b t w)) two (0, refl) in
      subst (λ (t : SearchFront). Sweeping b t 0) (sym e) (record { sweeps = goes.0.sweeps; sink = goes.1 })

  -- no more nodes are marked than there are
  pub sweeping-few : (b : ℕ) (r : SearchFront) (k : ℕ) → Sweeping b r k → length r.queue ≤ n
  sweeping-few b r k sweep = sweeps-few n (λ u. Reaches n s u) (λ t w. IsSettled b t w) r k sweep.sweeps

  -- the node at the queue's place k, once it is read, is behind the walk
  pub sweeping-next : (b : ℕ) (r : SearchFront) (k v : ℕ) → SweepsBack b r k → slice_get r.queue k ≡ Some v → HasRead r v → SweepsBack b r (k + 1)
  sweeping-next b r k v sweep there reads = sweeps-next n (λ u. Reaches n s u) (λ t w. IsSettled b t w) r k v sweep there (inr reads)

  -- what the sweep had still to come to is still to come, or has been read
  pub sweeping-to : (c b : ℕ) (r : SearchFront) (k : ℕ) → ((w : ℕ) → is_marked r w ≡ true → 1 < w → w < c → IsSettled b r w) → Sweeping c r k → Sweeping b r k
  sweeping-to c b r k each sweep = record {
    sweeps = record {
      as_long = sweep.sweeps.as_long;
      within = sweep.sweeps.within;
      counted = sweep.sweeps.counted;
      queued = sweep.sweeps.queued;
      pending = λ w e. elim (sweep.sweeps.pending w e) [
        | inl waits ↦ inl waits
        | inr settled ↦ elim settled [
          | inl to_come ↦ inr (each w e to_come.0 to_come.1)
          | inr read ↦ inr (inr read)
        ]
      ];
      inside = sweep.sweeps.inside;
    };
    sink = sweep.sink;
  }

  -- a node that isn't marked needs no reading
  pub sweeping-skip : (c : ℕ) (r : SearchFront) (k v : ℕ) → c ≤ v + 1 → is_marked r v ≡ false → Sweeping c r k → Sweeping v r k
  sweeping-skip c r k v last fresh = sweeping-to c v r k (λ w e inner less. elim (cases_eq w v) [
    | inl same ↦ (let clash : false ≡ true = sym fresh ∙ ap (is_marked r) (sym same) ∙ e in absurd (cc))
    | inr other ↦ inl (inner, omega (arith, less, last, other))
  ])

  -- if the queue is at its end, the marked nodes are those that reach the sink
  pub sweeping-end : (r : SearchFront) (k : ℕ) → Sweeping 2 r k → slice_get r.queue k ≡ None → IsSourceSide n s (λ v. not (is_marked r v))
  sweeping-end r k sweep last = λ v h. (
    (λ e. sweep.sweeps.inside v (not-false (is_marked r v) e)),
    (λ way. not_from_true (is_marked r v) (walk way.0 v h way.1)),
  )
    where
      read : (w : ℕ) → is_marked r w ≡ true → HasRead r w
      read w e = elim (sweeps-read n (λ u. Reaches n s u) (λ t u. IsSettled 2 t u) r k sweep.sweeps last w e) [
        | inl to_come ↦ absurd (omega (arith, to_come.0, to_come.1))
        | inr done ↦ done
      ]

      walk : (m v : ℕ) → v < n → Walk n s m v → is_marked r v ≡ true
      walk zero v h e = ap (is_marked r) e ∙ sweep.sink
      walk (suc m) v h t = read t.0 (walk m t.0 t.1.0 t.1.1.1) v h t.1.1.0

-- the sink stands first in the queue
pub sink-first : (n : ℕ) (r : SearchFront) → 1 < n → r ≡ reach_node (no_front n) 1 → slice_get r.queue 0 ≡ Some 1
sink-first n r two e =
    let fresh : is_marked (no_front n) 1 ≡ false = get_or-replicate n 1 false false two in
    ap (λ (t : SearchFront). slice_get t.queue 0) (e ∙ reach-new (no_front n) 1 fresh)

-- ---- the arcs of a node

module _ (net : FlowNet) (ok : IsFlowNet net) (xs excess labels : List ℕ) where
  abbrev pub state : State
  state = record { res = pair net xs; excess = slice_index excess; label = slice_index labels }

  -- the first k arcs of w are read
  pub record HasReadArcs (t : SearchFront) (w k : ℕ) : Type 0 where
    -- the heads of those whose mate has a residual are marked
    pub each : (j : ℕ) → j < k → 0 < slice_index xs (mate net w j) → is_marked t (head net w j) ≡ true

  arcs-go : (b c : ℕ) (r : SearchFront) (p w k : ℕ) → b ≤ c → SweepsBack (node_count net) state c r p → w < node_count net → Reaches (node_count net) state w → k ≤ row_len net w
      → GoesBack (node_count net) state c p r (read_arcs net xs b w k r) × HasReadArcs (read_arcs net xs b w k r) w k
  arcs-go b c r p w zero low sweep h way l =
      subst (λ (t : SearchFront). GoesBack (node_count net) state c p r t × HasReadArcs t w 0) (sym (arcs-none net xs b w r))
      (record { sweeps = sweep; grows = grows-self r }, record { each = λ j less. absurd (omega (arith, less)) })
  arcs-go b c r p w (suc k) low sweep h way l =
      let before : SearchFront = read_arcs net xs b w k r in
      let ih = arcs-go b c r p w k low sweep h way (omega (arith, l)) in
      let less : k < row_len net w = omega (arith, l) in
      let P : SearchFront → Type 0 = λ t. GoesBack (node_count net) state c p r t × HasReadArcs t w (suc k) in
      subst P (sym (arcs-more net xs b w k r)) (elim (cases_Bool (nat_lt 0 (slice_index xs (mate net w k)))) [
        | inl on ↦ (
            let some : 0 < slice_index xs (mate net w k) = above on in
            let pos : 0 < pair net xs (head net w k) w = subst (λ (x : ℕ). 0 < x) (sym (mate-pair net ok xs w k h less)) some in
            let one = sweep-back (node_count net) state b c before p (head net w k) low ih.0.sweeps (ok.heads_in w k h less) (suc way.0, (w, (h, (pos, way.1)))) in
            subst P (sym (arc-on net xs b w k before on)) (
              record { sweeps = one.0.sweeps; grows = grows-then r before (reach_node_in_sweep b before (head net w k)) ih.0.grows one.0.grows },
              record {
                each = λ j m q. elim (cases_eq j k) [
                  | inl same ↦ ap (λ (i : ℕ). is_marked (reach_node_in_sweep b before (head net w k)) (head net w i)) same ∙ one.1
                  | inr other ↦ one.0.grows.marks (head net w j) (ih.1.each j (omega (arith, m, other)) q)
                ];
              },
            ))
        | inr off ↦ subst P (sym (arc-off net xs b w k before off)) (
          ih.0,
          record {
            each = λ j m q. elim (cases_eq j k) [
              | inl same ↦ absurd (below off (subst (λ (i : ℕ). 0 < slice_index xs (mate net w i)) same q))
              | inr other ↦ ih.1.each j (omega (arith, m, other)) q
            ];
          },
        )
      ])
    where
      above : {m : ℕ} → nat_lt 0 m ≡ true → 0 < m
      above {m} e = elim (cases_lt 0 m) [ inl yes' ↦ yes' | inr no' ↦ (let clash : false ≡ true = sym (le-ltb 0 m no') ∙ e in absurd (cc)) ]

      below : {m : ℕ} → nat_lt 0 m ≡ false → 0 < m → ⊥
      below {m} e h = let clash : true ≡ false = sym (lt-ltb 0 m h) ∙ e in absurd (cc)

  -- all arcs of a marked node are read
  row-go : (b c : ℕ) (r : SearchFront) (p w : ℕ) → b ≤ c → SweepsBack (node_count net) state c r p → is_marked r w ≡ true
      → GoesBack (node_count net) state c p r (read_arcs net xs b w (row_len net w) r) × HasRead (node_count net) state (read_arcs net xs b w (row_len net w) r) w
  row-go b c r p w low sweep marked =
      let h : w < node_count net = omega (arith, marked-within r w marked, sweep.as_long) in
      let after : SearchFront = read_arcs net xs b w (row_len net w) r in
      let go = arcs-go b c r p w (row_len net w) low sweep h (sweep.inside w marked) (omega arith) in (
        go.0,
        (λ v l q.
            let m = pair-mate net ok xs v w l h q in
            subst (λ (u : ℕ). is_marked after u ≡ true) m.1.1.0 (go.1.each m.0 m.1.0 m.1.1.1)),
      )

  -- one more node of the queue is read
  pub sweeping-more : (b : ℕ) (r t : SearchFront) (k w : ℕ) → Sweeping (node_count net) state b r k → slice_get r.queue k ≡ Some w → t ≡ read_arcs net xs b w (row_len net w) r
      → Sweeping (node_count net) state b t (k + 1)
  sweeping-more b r t k w sweep there e =
      let after : SearchFront = read_arcs net xs b w (row_len net w) r in
      let go = row-go b b r k w (omega arith) sweep.sweeps (sweep.sweeps.queued k w there) in
      subst (λ (f : SearchFront). Sweeping (node_count net) state b f (k + 1)) (sym e) (record {
        sweeps = sweeping-next (node_count net) state b after k w go.0.sweeps (go.0.grows.queue k w there) go.1;
        sink = go.0.grows.marks 1 sweep.sink;
      })

  -- the sweep comes down to w and reads it
  pub sweeping-down : (c : ℕ) (r t : SearchFront) (k w : ℕ) → w ≤ c → c ≤ w + 1 → Sweeping (node_count net) state c r k → is_marked r w ≡ true → t ≡ read_arcs net xs w w (row_len net w) r
      → Sweeping (node_count net) state w t k
  sweeping-down c r t k w low last sweep marked e =
      let after : SearchFront = read_arcs net xs w w (row_len net w) r in
      let go = row-go w c r k w low sweep.sweeps marked in
      subst (λ (f : SearchFront). Sweeping (node_count net) state w f k) (sym e) (sweeping-to (node_count net) state c w after k
      (λ v m inner less. elim (cases_eq v w) [
        | inl same ↦ inr (subst (λ (u : ℕ). HasRead (node_count net) state after u) (sym same) go.1)
        | inr other ↦ inl (inner, omega (arith, less, last, other))
      ])
      (record { sweeps = go.0.sweeps; sink = go.0.grows.marks 1 sweep.sink }))

-- ---- a loop's next turn

-- a loop's turn over an arc whose mate has a residual reads one arc more
pub arcs-step-on : (net : FlowNet) (xs : List ℕ) (b w k : ℕ) (start before after : SearchFront) → nat_lt 0 (slice_index xs (mate net w k)) ≡ true → before ≡ read_arcs net xs b w k start
    → after ≡ reach_node_in_sweep b before (head net w k) → after ≡ read_arcs net xs b w (k + 1) start
arcs-step-on net xs b w k start before after on e step =
    let next : k + 1 ≡ suc k = omega arith in
    step ∙ sym (arc-on net xs b w k before on) ∙ ap (read_arc net xs b w k) e ∙ sym (arcs-more net xs b w k start) ∙ ap (λ (j : ℕ). read_arcs net xs b w j start) (sym next)

-- a loop's turn over an arc whose mate has no residual reads one arc more
pub arcs-step-off : (net : FlowNet) (xs : List ℕ) (b w k : ℕ) (start before after : SearchFront) → nat_lt 0 (slice_index xs (mate net w k)) ≡ false → before ≡ read_arcs net xs b w k start → after ≡ before
    → after ≡ read_arcs net xs b w (k + 1) start
arcs-step-off net xs b w k start before after off e step =
    let next : k + 1 ≡ suc k = omega arith in
    step ∙ sym (arc-off net xs b w k before off) ∙ ap (read_arc net xs b w k) e ∙ sym (arcs-more net xs b w k start) ∙ ap (λ (j : ℕ). read_arcs net xs b w j start) (sym next)

-- a head that is marked stays so, and no other is marked
pub arcs-step-marked : (net : FlowNet) (xs : List ℕ) (b w k : ℕ) (start before after : SearchFront) → is_marked before (head net w k) ≡ true → before ≡ read_arcs net xs b w k start → after ≡ before
    → after ≡ read_arcs net xs b w (k + 1) start
arcs-step-marked net xs b w k start before after marked e step = elim (cases_Bool (nat_lt 0 (slice_index xs (mate net w k)))) [
  | inl on ↦ arcs-step-on net xs b w k start before after on e (step ∙ sym (sweep-marked b before (head net w k) marked))
  | inr off ↦ arcs-step-off net xs b w k start before after off e step
]
