-- A walk over open arcs marks the nodes to which they lead from the source.
use Rattle.std.proofs.Common.{ℕ, zero, suc, ◌+◌, ◌<◌, ◌≤◌, ◌≡◌, inl, inr, List, length, Bool, true, false, not, ◌&&◌, ◌||◌, nat_lt, Some, None, slice_get, slice_index_or, refl, arith, ap, sym, ◌∙◌, subst}
use Rattle.std.proofs.lemmas.Bool.{cases_Bool, cases_eq, cond-true, cond-false, or_left}
use Rattle.frame_net.specs.FlowNet.{FlowNet, IsFlowNet, node_count, start, row_len, head, mate, cap_at, point_of}
use Rattle.cut_cert.specs.Fronts.{SearchFront, is_marked, reach_node}
use Rattle.cut_cert.specs.OpenWalk.{read_open}
use Rattle.cut_cert.specs.Steps.{is_open, is_used, is_behind, NoneOpen, IsOpenSide}
use Rattle.cut_cert.proofs.FrontLaws.{Grows, Sweeps, Goes, reach-long, grows-self, grows-then, marked-within, no_front, sweeps-none, sweeps-few, sweeps-next, sweeps-read, reach-goes}

-- ---- the heads of a row's open arcs

-- reading no arcs changes nothing
pub open-none : (net : FlowNet) (used : List Bool) (w : ℕ) (r : SearchFront) → read_open net used w 0 r ≡ r
unfolding read_open
open-none net used w r = refl

-- an open arc makes its head reached
pub open-on : (net : FlowNet) (used : List Bool) (w k : ℕ) (r : SearchFront) → is_open net used w k ≡ true → read_open net used w (suc k) r ≡ reach_node (read_open net used w k r) (head net w k)
unfolding read_open
open-on net used w k r e = cond-true (is_open net used w k) (reach_node (read_open net used w k r) (head net w k)) (read_open net used w k r) e

-- an arc that isn't open changes nothing
pub open-off : (net : FlowNet) (used : List Bool) (w k : ℕ) (r : SearchFront) → is_open net used w k ≡ false → read_open net used w (suc k) r ≡ read_open net used w k r
unfolding read_open
open-off net used w k r e = cond-false (is_open net used w k) (reach_node (read_open net used w k r) (head net w k)) (read_open net used w k r) e

-- reading arcs leaves as many marks
pub open-long : (net : FlowNet) (used : List Bool) (w k : ℕ) (r : SearchFront) → length (read_open net used w k r).marks ≡ length r.marks
open-long net used w zero r = ap (λ (s : SearchFront). length s.marks) (open-none net used w r)
open-long net used w (suc k) r = elim (cases_Bool (is_open net used w k)) [
  | inl on ↦ ap (λ (s : SearchFront). length s.marks) (open-on net used w k r on) ∙ reach-long (read_open net used w k r) (head net w k) ∙ open-long net used w k r
  | inr off ↦ ap (λ (s : SearchFront). length s.marks) (open-off net used w k r off) ∙ open-long net used w k r
]

-- ---- what the walk keeps

module _ (net : FlowNet) (used : List Bool) where
  -- the heads of the first open arcs of w's row are marked
  abbrev pub HaveRead : SearchFront → ℕ → ℕ → Type 0
  HaveRead r w m = (k : ℕ) → k < m → is_open net used w k ≡ true → is_marked r (head net w k) ≡ true

  -- the heads of all of them are
  abbrev pub HasRead : SearchFront → ℕ → Type 0
  HasRead r w = HaveRead r w (row_len net w)

  -- the node is in every set with the source that no open arc leaves
  abbrev pub Inside : ℕ → Type 0
  Inside v = (side : ℕ → Bool) → side 0 ≡ true → NoneOpen net used side → side v ≡ true

  read-still : (r t : SearchFront) → Grows r t → (w : ℕ) → HasRead r w → HasRead t w
  read-still r t grows w read k h on = grows.marks (head net w k) (read k h on)

  -- each marked node is in every such set
  abbrev pub SweepsOn : SearchFront → ℕ → Type 0
  SweepsOn r k = Sweeps (node_count net) (λ v. Inside v) (λ t w. HasRead t w) r k

  abbrev pub GoesOn : ℕ → SearchFront → SearchFront → Type 0
  GoesOn k r t = Goes (node_count net) (λ v. Inside v) (λ u w. HasRead u w) k r t

  -- reaching a node that each set has keeps what the walk keeps, and marks it
  pub reach-on : (r : SearchFront) (k v : ℕ) → SweepsOn r k → v < node_count net → Inside v → GoesOn k r (reach_node r v) × (is_marked (reach_node r v) v ≡ true)
  reach-on r k v sweep below way = reach-goes (node_count net) (λ u. Inside u) (λ t w. HasRead t w) read-still r k v sweep below way

  -- swept, with the source's mark, which the start makes
  pub record Swept (r : SearchFront) (k : ℕ) : Type 0 where
    -- the walk has come to place k of the queue
    pub sweeps : SweepsOn r k
    -- the source is marked
    pub source : is_marked r 0 ≡ true

  -- with the source reached the walk has begun
  pub sweeps-start : (r : SearchFront) → 0 < node_count net → r ≡ reach_node (no_front (node_count net)) 0 → Swept r 0
  sweeps-start r some e =
      let goes = reach-on (no_front (node_count net)) 0 0 (sweeps-none (node_count net) (λ u. Inside u) (λ t w. HasRead t w)) some (λ side on none. on) in
      subst (λ (t : SearchFront). Swept t 0) (sym e) (record { sweeps = goes.0.sweeps; source = goes.1 })

  -- no more nodes are marked than there are
  pub swept-few : (r : SearchFront) (k : ℕ) → Swept r k → length r.queue ≤ node_count net
  swept-few r k sweep = sweeps-few (node_count net) (λ u. Inside u) (λ t w. HasRead t w) r k sweep.sweeps

  module _ (ok : IsFlowNet net) where
    row-goes : (r : SearchFront) (p w k : ℕ) → SweepsOn r p → w < node_count net → Inside w → k ≤ row_len net w
        → GoesOn p r (read_open net used w k r) × HaveRead (read_open net used w k r) w k
    row-goes r p w zero sweep h way l =
        subst (λ (t : SearchFront). GoesOn p r t × HaveRead t w 0) (sym (open-none net used w r)) (record { sweeps = sweep; grows = grows-self r }, (λ j less. absurd (omega (arith, less))))
    row-goes r p w (suc k) sweep h way l =
        let before : SearchFront = read_open net used w k r in
        let ih = row-goes r p w k sweep h way (omega (arith, l)) in
        let less : k < row_len net w = omega (arith, l) in
        let P : SearchFront → Type 0 = λ t. GoesOn p r t × HaveRead t w (suc k) in
        elim (cases_Bool (is_open net used w k)) [
          | inl on ↦ (
              let one = reach-on before p (head net w k) ih.0.sweeps (ok.heads_in w k h less) (λ side source none. none w k h less (way side source none) on) in
              subst P (sym (open-on net used w k r on)) (
                record { sweeps = one.0.sweeps; grows = grows-then r before (reach_node before (head net w k)) ih.0.grows one.0.grows },
                (λ j b q. elim (cases_eq j k) [
                  | inl same ↦ ap (λ (i : ℕ). is_marked (reach_node before (head net w k)) (head net w i)) same ∙ one.1
                  | inr other ↦ one.0.grows.marks (head net w j) (ih.1 j (omega (arith, b, other)) q)
                ]),
              ))
          | inr off ↦ subst P (sym (open-off net used w k r off)) (
            ih.0,
            (λ j b q. elim (cases_eq j k) [
              | inl same ↦ (let clash : false ≡ true = sym off ∙ ap (is_open net used w) (sym same) ∙ q in absurd (cc))
              | inr other ↦ ih.1 j (omega (arith, b, other)) q
            ]),
          )
        ]

    -- one more node is read
    pub sweeps-more : (r t : SearchFront) (k w : ℕ) → Swept r k → slice_get r.queue k ≡ Some w → t ≡ read_open net used w (row_len net w) r → Swept t (k + 1)
    sweeps-more r t k w sweep there e =
        let marked : is_marked r w ≡ true = sweep.sweeps.queued k w there in
        let h : w < node_count net = omega (arith, marked-within r w marked, sweep.sweeps.as_long) in
        let go = row-goes r k w (row_len net w) sweep.sweeps h (sweep.sweeps.inside w marked) (omega arith) in
        subst (λ (f : SearchFront). Swept f (k + 1)) (sym e) (record {
          sweeps = sweeps-next (node_count net) (λ u. Inside u) (λ t u. HasRead t u) (read_open net used w (row_len net w) r) k w go.0.sweeps (go.0.grows.queue k w there) go.1;
          source = go.0.grows.marks 0 sweep.source;
        })

  -- if the queue is at its end, the marked nodes are those to which open arcs lead
  pub sweeps-end : (r : SearchFront) (k : ℕ) → Swept r k → slice_get r.queue k ≡ None → IsOpenSide net used (is_marked r)
  sweeps-end r k sweep last = record {
    with_source = sweep.source;
    none_open = λ x j h l on e. sweeps-read (node_count net) (λ u. Inside u) (λ t u. HasRead t u) r k sweep.sweeps last x on j l e;
    within = λ other source none v on. sweep.sweeps.inside v on other source none;
  }

-- ---- a loop's next turn

-- a loop's turn over an open arc reads one arc more
pub open-step : (net : FlowNet) (used : List Bool) (w k : ℕ) (start before after : SearchFront) → is_open net used w k ≡ true → before ≡ read_open net used w k start → after ≡ reach_node before (head net w k) → after ≡ read_open net used w (k + 1) start
open-step net used w k start before after on e step =
    let next : k + 1 ≡ suc k = omega arith in
    step ∙ ap (λ (f : SearchFront). reach_node f (head net w k)) e ∙ sym (open-on net used w k start on) ∙ ap (λ (j : ℕ). read_open net used w j start) (sym next)

-- a loop's turn over an arc that isn't open reads one arc more
pub open-skip : (net : FlowNet) (used : List Bool) (w k : ℕ) (start before after : SearchFront) → is_open net used w k ≡ false → before ≡ read_open net used w k start → after ≡ before → after ≡ read_open net used w (k + 1) start
open-skip net used w k start before after off e step =
    let next : k + 1 ≡ suc k = omega arith in
    step ∙ e ∙ sym (open-off net used w k start off) ∙ ap (λ (j : ℕ). read_open net used w j start) (sym next)

-- ---- whether an arc is open

-- an arc whose mate is used is open
pub open-back : (net : FlowNet) (used : List Bool) (w k : ℕ) → slice_index_or used (mate net w k) false ≡ true → is_open net used w k ≡ true
unfolding is_open
open-back net used w k e = or_left (slice_index_or used (mate net w k) false) _ e

-- an arc whose mate isn't used is open if it has a capacity, and isn't one to after a variable that
-- is used
pub open-else : (net : FlowNet) (used : List Bool) (w k : ℕ) → slice_index_or used (mate net w k) false ≡ false
    → is_open net used w k ≡ (nat_lt 0 (cap_at net (start net w + k)) && not (is_behind (point_of net (head net w k)) && is_used net used w k))
unfolding is_open
open-else net used w k e = ap (λ (b : Bool). b || (nat_lt 0 (cap_at net (start net w + k)) && not (is_behind (point_of net (head net w k)) && is_used net used w k))) e
