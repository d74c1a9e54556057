-- A delivery that visits the nodes of a list: the others have nothing to do, so Deliver of them
-- changes nothing.
use Rattle.std.proofs.Common.{◌≡◌, ℕ, ◌+◌, ◌-◌, ◌<◌, ◌≤◌, ◌&&◌, ◌⊎◌, nat_lt, false, List, [], ◌++◌, ◌∷◌, length, slice_index, refl, arith, sym, ap, ◌∙◌, subst, inl, inr}
use Rattle.std.proofs.lemmas.Bool.{cases_lt, cond-false, and_left}
use Rattle.frame_net.proofs.SumLaws.{sum_below-same, sum_below-zero}
use Rattle.frame_net.specs.FlowNet.{FlowNet, node_count, start, row_len, IsFlowNet}
use Rattle.pulse_parts.specs.declared.parts.FlowPart.{FlowPart}
use Rattle.pulse_parts.specs.Parts.{Cells, RangeFits, part_cells}
use Rattle.pulse_parts.specs.Delivering.{own, back, row_inflow, row_outflow, delivered_relabel, NodeDelivered, NodeKept, RangeDelivered, RangeSafe}
use Rattle.pulse_parts.specs.Listing.{active_by, AreWithin, HasTurning, IsListed, IsRising}
use Rattle.pulse_parts.specs.Visiting.{CoversWork, IsStill}
use Rattle.pulse_parts.proofs.NodeListLaws.{listed_last, listed_more, places, within_more}
use Rattle.pulse_parts.proofs.DeliveredRangeLaws.{lies, range_then}

-- ---- nodes that have nothing to do

no_outflow : (net : FlowNet) (labels xs : List ℕ) (v excess next : ℕ) → IsStill net labels xs v excess next → row_outflow net xs v ≡ 0
no_outflow net labels xs v excess next still = sum_below-same (row_len net v) (own net xs v) (λ j. 0) still.sends ∙ sum_below-zero (row_len net v)

no_inflow : (net : FlowNet) (labels xs : List ℕ) (v excess next : ℕ) → IsStill net labels xs v excess next → row_inflow net xs v ≡ 0
no_inflow net labels xs v excess next still = sum_below-same (row_len net v) (back net xs v) (λ j. 0) still.gets ∙ sum_below-zero (row_len net v)

still_given : (net : FlowNet) (labels xs : List ℕ) (v i s : ℕ) (c : Cells) → IsStill net labels xs v (slice_index c.excess i) (slice_index c.next i) → NodeDelivered net labels xs v i s c c
still_given net labels xs v i s c still = record {
  row = λ k l. omega (arith, still.sends k l, still.gets k l);
  excess = omega (arith, no_outflow net labels xs v (slice_index c.excess i) (slice_index c.next i) still, no_inflow net labels xs v (slice_index c.excess i) (slice_index c.next i) still);
  next = still.label ∙ sym (cond-false {A = ℕ} (active_by (node_count net) v (slice_index c.excess i) (slice_index labels v) && nat_lt (row_outflow net xs v) (slice_index c.excess i))
      (delivered_relabel net labels xs v (λ j. slice_index c.residuals (s + j))) (slice_index labels v)
      (and_left (active_by (node_count net) v (slice_index c.excess i) (slice_index labels v)) (nat_lt (row_outflow net xs v) (slice_index c.excess i)) still.inactive));
}

-- nodes that are all still are delivered as they are
pub stills : (net : FlowNet) (labels xs : List ℕ) (base first low high : ℕ) (c : Cells) → ((v : ℕ) → low ≤ v → v < high → IsStill net labels xs v (slice_index c.excess (v - first)) (slice_index c.next (v - first)))
    → RangeDelivered net labels xs base first low high c c
stills net labels xs base first low high c still = record {
  sizes = record { residuals = refl; excess = refl; next = refl };
  done = λ v i s w lo hi.
      let e : v - first ≡ i = omega (arith, w.at) in
      still_given net labels xs v i s c (subst (λ (x : ℕ). IsStill net labels xs v (slice_index c.excess x) (slice_index c.next x)) e (still v lo hi));
  kept = λ v i s w out. record { row = λ k l. refl; excess = refl; next = refl };
}

still_kept : (net : FlowNet) (labels xs : List ℕ) (v i s : ℕ) (a b : Cells) → NodeKept net v i s a b → IsStill net labels xs v (slice_index a.excess i) (slice_index a.next i)
    → IsStill net labels xs v (slice_index b.excess i) (slice_index b.next i)
still_kept net labels xs v i s a b k still =
    subst (λ (x : ℕ). IsStill net labels xs v x (slice_index b.next i)) (sym k.excess) (subst (λ (x : ℕ). IsStill net labels xs v (slice_index a.excess i) x) (sym k.next) still)

-- ---- nodes that were visited

-- the nodes below a bound were delivered, and those at the first places of the list lie below it,
-- the others from it on
pub record Visited (net : FlowNet) (labels xs : List ℕ) (base first end : ℕ) (list : List ℕ) (count : ℕ) (a b : Cells) : Type 0 where
  -- the bound
  pub bound : ℕ
  -- it is no lower than the first node
  pub low : first ≤ bound
  -- it is no higher than the end
  pub high : bound ≤ end
  -- the nodes below it were delivered
  pub done : RangeDelivered net labels xs base first first bound a b
  -- the listed nodes that were visited lie below it
  pub behind : (j : ℕ) → j < count → j < length list → slice_index list j < bound
  -- the listed nodes that are left lie from it on
  pub ahead : (j : ℕ) → count ≤ j → j < length list → bound ≤ slice_index list j

-- before the first listed node none was visited
pub visited_none : (net : FlowNet) (labels xs : List ℕ) (base first end : ℕ) (list : List ℕ) (a : Cells) → first ≤ end → AreWithin first end list → Visited net labels xs base first end list 0 a a
visited_none net labels xs base first end list a ordered within = record {
  bound = first;
  low = omega arith;
  high = ordered;
  done = stills net labels xs base first first first a (λ v lo hi. absurd (omega (arith, lo, hi)));
  behind = λ j h. absurd (omega (arith, h));
  ahead = λ j h l. (within j l).0;
}

-- the nodes that aren't listed need no visit
reach : (net : FlowNet) (labels xs : List ℕ) (base first end : ℕ) (list : List ℕ) (count m : ℕ) (a b : Cells) → IsFlowNet net → RangeFits net base first first end a → CoversWork net labels xs first end a.excess a.next list
    → (t : Visited net labels xs base first end list count a b) → t.bound ≤ m → m ≤ end → ((v : ℕ) → t.bound ≤ v → v < m → IsListed list v → ⊥) → RangeDelivered net labels xs base first first m a b
reach net labels xs base first end list count m a b ok fit work t bm me none =
    range_then net labels xs base first first t.bound m a b b t.low bm t.done
    (stills net labels xs base first t.bound m b (λ v lo hi. elim (work.rest v (omega (arith, t.low, lo)) (omega (arith, hi, me))) [
      | inl at ↦ absurd (none v lo hi at)
      | inr still ↦
          still_kept net labels xs v (v - first) (start net v - base) a b
          (t.done.kept v (v - first) (start net v - base) (lies net base first first end a v ok fit (omega (arith, t.low, lo)) (omega (arith, hi, me))).inside (inr lo)) still
    ]))

-- up to the next listed node all nodes were delivered, those that aren't listed by having nothing
-- to do
pub next_at : (net : FlowNet) (labels xs : List ℕ) (base first end : ℕ) (list : List ℕ) (i v : ℕ) (a b : Cells) → IsFlowNet net → RangeFits net base first first end a → CoversWork net labels xs first end a.excess a.next list
    → i < length list → v ≡ slice_index list i → Visited net labels xs base first end list i a b → RangeDelivered net labels xs base first first v a b
next_at net labels xs base first end list i v a b ok fit work hi ev t =
    reach net labels xs base first end list i v a b ok fit work t (omega (arith, ev, t.ahead i (omega arith) hi)) (omega (arith, ev, (work.within i hi).1))
    (λ u lo l at. elim (cases_lt at.place i) [
      | inl lt ↦ omega (arith, t.behind at.place lt at.inside, at.there, lo)
      | inr ge ↦ elim (cases_lt i at.place) [
        | inl gt ↦ omega (arith, work.rising i at.place gt at.inside, at.there, ev, l)
        | inr le ↦ omega (arith, ap (slice_index list) (let e : at.place ≡ i = omega (arith, ge, le) in e), at.there, ev, l)
      ]
    ])

-- the next listed node that is delivered was visited
pub visit_more : (net : FlowNet) (labels xs : List ℕ) (base first end : ℕ) (list : List ℕ) (i v : ℕ) (a b c : Cells) → IsFlowNet net → RangeFits net base first first end a → CoversWork net labels xs first end a.excess a.next list
    → i < length list → v ≡ slice_index list i → Visited net labels xs base first end list i a b → RangeDelivered net labels xs base first v (v + 1) b c → Visited net labels xs base first end list (i + 1) a c
visit_more net labels xs base first end list i v a b c ok fit work hi ev t d = record {
  bound = v + 1;
  low = omega (arith, ev, (work.within i hi).0);
  high = omega (arith, ev, (work.within i hi).1);
  done = range_then net labels xs base first first v (v + 1) a b c (omega (arith, ev, (work.within i hi).0)) (omega arith) (next_at net labels xs base first end list i v a b ok fit work hi ev t) d;
  behind = λ j h l. elim (cases_lt j i) [
    | inl lt ↦ omega (arith, t.behind j lt l, t.ahead i (omega arith) hi, ev)
    | inr ge ↦ omega (arith, ap (slice_index list) (let e : j ≡ i = omega (arith, h, ge) in e), ev)
  ];
  ahead = λ j h l. omega (arith, work.rising i j (omega (arith, h)) l, ev);
}

-- past the last listed node all nodes of the range were delivered
pub visited_all : (net : FlowNet) (labels xs : List ℕ) (base first end : ℕ) (list : List ℕ) (count : ℕ) (a b : Cells) → IsFlowNet net → RangeFits net base first first end a → CoversWork net labels xs first end a.excess a.next list
    → count ≡ length list → Visited net labels xs base first end list count a b → RangeDelivered net labels xs base first first end a b
visited_all net labels xs base first end list count a b ok fit work all t =
    reach net labels xs base first end list count end a b ok fit work t t.high (omega arith) (λ u lo l at. omega (arith, t.behind at.place (omega (arith, at.inside, all)) at.inside, at.there, lo))

-- ---- the list after the visits

-- after the visits the list has each node that is active, or whose label changes
pub turning_after : (net : FlowNet) (labels xs : List ℕ) (base first end : ℕ) (list : List ℕ) (a b : Cells) → IsFlowNet net → RangeFits net base first first end a → CoversWork net labels xs first end a.excess a.next list
    → RangeDelivered net labels xs base first first end a b → HasTurning (node_count net) labels first end b.excess b.next list
turning_after net labels xs base first end list a b ok fit work d = record {
  within = work.within;
  rising = work.rising;
  rest = λ v lo hi. elim (work.rest v lo hi) [
    | inl at ↦ inl at
    | inr still ↦
        let g : NodeDelivered net labels xs v (v - first) (start net v - base) a b = d.done v (v - first) (start net v - base) (lies net base first first end a v ok fit lo hi).inside lo hi in
        let k : NodeDelivered net labels xs v (v - first) (start net v - base) a a = still_given net labels xs v (v - first) (start net v - base) a still in
        let same : slice_index a.excess (v - first) ≡ slice_index b.excess (v - first) = k.excess ∙ sym g.excess in
        inr (subst (λ (x : ℕ). active_by (node_count net) v x (slice_index labels v) ≡ false) same still.inactive, (g.next ∙ sym k.next) ∙ still.label)
  ];
}

-- ---- a list made anew

pub record ListsFirst (n : ℕ) (labels : List ℕ) (first : ℕ) (excess next : List ℕ) (count : ℕ) (list : List ℕ) : Type 0 where
  -- the list lies within the first nodes
  pub within : AreWithin first (first + count) list
  -- it rises
  pub rising : IsRising list
  -- each of the first nodes is listed, or isn't active and keeps its label
  pub rest : (v : ℕ) → first ≤ v → v < first + count → IsListed list v
      ⊎ ((active_by n v (slice_index excess (v - first)) (slice_index labels v) ≡ false) × (slice_index next (v - first) ≡ slice_index labels v))

-- of no nodes none is listed
pub first_none : (n : ℕ) (labels : List ℕ) (first : ℕ) (excess next : List ℕ) (list : List ℕ) → list ≡ [] → ListsFirst n labels first excess next 0 list
first_none n labels first excess next list e = subst (λ (ys : List ℕ). ListsFirst n labels first excess next 0 ys) (sym e) record {
  within = λ i h. absurd (omega (arith, h));
  rising = λ i j h l. absurd (omega (arith, l));
  rest = λ v lo hi. absurd (omega (arith, lo, hi));
}

rising_more : (list : List ℕ) (v : ℕ) → ((i : ℕ) → i < length list → slice_index list i < v) → IsRising list → IsRising (list ++ v ∷ [])
rising_more list v below rising i j lt h = elim (places list v j h) [
  | inl old ↦ elim (places list v i (omega (arith, lt, h))) [
    | inl here ↦ omega (arith, here.1, old.1, rising i j lt old.0)
    | inr last ↦ absurd (omega (arith, last.0, lt, old.0))
  ]
  | inr end ↦ elim (places list v i (omega (arith, lt, h))) [
    | inl here ↦ omega (arith, here.1, end.1, below i here.0)
    | inr last ↦ absurd (omega (arith, last.0, lt, end.0))
  ]
]

-- a node that is added at the end is listed
pub first_on : (n : ℕ) (labels : List ℕ) (first : ℕ) (excess next : List ℕ) (i v : ℕ) (old new : List ℕ) → v ≡ first + i → new ≡ old ++ (v ∷ []) → ListsFirst n labels first excess next i old → ListsFirst n labels first excess next (i + 1) new
first_on n labels first excess next i v old new ev en l = subst (λ (ys : List ℕ). ListsFirst n labels first excess next (i + 1) ys) (sym en) record {
  within = within_more first (first + (i + 1)) v old (omega (arith, ev)) (omega (arith, ev)) (λ j h. ((l.within j h).0, omega (arith, (l.within j h).1)));
  rising = rising_more old v (λ j h. omega (arith, (l.within j h).1, ev)) l.rising;
  rest = λ u lo hi. elim (cases_lt u (first + i)) [
    | inl lt ↦ elim (l.rest u lo lt) [ inl at ↦ inl (listed_more old v u at) | inr quiet ↦ inr quiet ]
    | inr ge ↦ inl (listed_last old v u (omega (arith, hi, ge, ev)))
  ];
}

-- a node that isn't active and keeps its label needs no listing
pub first_off : (n : ℕ) (labels : List ℕ) (first : ℕ) (excess next : List ℕ) (i v : ℕ) (list : List ℕ) → v ≡ first + i → active_by n v (slice_index excess i) (slice_index labels v) ≡ false → slice_index next i ≡ slice_index labels v
    → ListsFirst n labels first excess next i list → ListsFirst n labels first excess next (i + 1) list
first_off n labels first excess next i v list ev off same l = record {
  within = λ j h. ((l.within j h).0, omega (arith, (l.within j h).1));
  rising = l.rising;
  rest = λ u lo hi. elim (cases_lt u (first + i)) [
    | inl lt ↦ l.rest u lo lt
    | inr ge ↦
        let eu : v ≡ u = omega (arith, hi, ge, ev) in
        let ei : i ≡ u - first = omega (arith, hi, ge) in
        inr (
          subst (λ (k : ℕ). active_by n u (slice_index excess k) (slice_index labels u) ≡ false) ei (subst (λ (w : ℕ). active_by n w (slice_index excess i) (slice_index labels w) ≡ false) eu off),
          subst (λ (k : ℕ). slice_index next k ≡ slice_index labels u) ei (subst (λ (w : ℕ). slice_index next i ≡ slice_index labels w) eu same),
        )
  ];
}

-- past the last node the list has each node that is active, or whose label changes
pub first_all : (n : ℕ) (labels : List ℕ) (first : ℕ) (excess next : List ℕ) (count : ℕ) (list : List ℕ) → count ≡ length excess → ListsFirst n labels first excess next count list
    → HasTurning n labels first (first + length excess) excess next list
first_all n labels first excess next count list e l0 =
    let l : ListsFirst n labels first excess next (length excess) list = subst (λ (m : ℕ). ListsFirst n labels first excess next m list) e l0 in
    record { within = l.within; rising = l.rising; rest = l.rest }

-- ---- a part

-- a part with another list in its spare room
pub spare_safe : (net : FlowNet) (xs : List ℕ) (n : ℕ) (q m : FlowPart) → n ≡ node_count net → m ≡ (record q { spare = m.spare }) → RangeSafe net xs q.base q.first 0 (node_count net) (part_cells q)
    → RangeSafe net xs m.base m.first 0 n (part_cells m)
spare_safe net xs n q m en e safe =
    subst (λ (x : ℕ). RangeSafe net xs m.base m.first 0 x (part_cells m)) (sym en)
    (subst (λ (p : FlowPart). RangeSafe net xs p.base p.first 0 (node_count net) (part_cells p)) (sym e) safe)
