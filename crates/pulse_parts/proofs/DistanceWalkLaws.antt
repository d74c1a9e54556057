-- A walk backward from the sink, nearest nodes first, finds the residual distances.
use Rattle.std.proofs.Common.{◌≡◌, ℕ, zero, suc, ◌+◌, ◌<◌, ◌≤◌, inl, inr, List, [], length, set, slice_index, nat_lt, cond, refl, arith, ap, sym, ◌∙◌, subst}
use Rattle.std.proofs.lemmas.Bool.{cases_lt, cases_eq, lt-ltb, le-ltb, cond-true, cond-false}
use Rattle.std.proofs.lemmas.List.{get_or-set_same, get_or-set_other}
use Rattle.frame_net.specs.Flow.{State, Walk, sum_below}
use Rattle.frame_net.specs.Laws.{IsDistance}
use Rattle.frame_net.proofs.SumLaws.{sum_below-same, sum_below-le_const}
use Rattle.frame_net.specs.FlowNet.{FlowNet, IsFlowNet, node_count, row_len, head, mate}
use Rattle.pulse_parts.specs.Parts.{Cells, pair, pairs}
use Rattle.pulse_parts.proofs.ArcLaws.{mate-pair, pair-mate}
use Rattle.pulse_parts.specs.Walks.{IsRead, Sweeps}

-- a sum of which one term has changed
sum_changed : (n v : ℕ) (f g : ℕ → ℕ) → v < n → ((i : ℕ) → (i ≡ v → ⊥) → g i ≡ f i) → sum_below n g + f v ≡ sum_below n f + g v
sum_changed zero v f g h e = absurd (omega (arith, h))
sum_changed (suc n) v f g h e = elim (cases_eq v n) [
  | inl same ↦ (
      let rest : sum_below n g ≡ sum_below n f = sum_below-same n g f (λ i l. e i (λ q. omega (arith, q, same, l))) in
      let fn : f v ≡ f n = ap f same in
      let gn : g v ≡ g n = ap g same in
      omega (arith, rest, fn, gn))
  | inr other ↦ omega (arith, sum_changed n v f g (omega (arith, h, other)) e, e n (λ q. other (sym q)))
]

has_yes : (n : ℕ) (d : ℕ → ℕ) (v : ℕ) → d v < n → cond {A = ℕ} (nat_lt (d v) n) 1 0 ≡ 1
has_yes n d v h = cond-true (nat_lt (d v) n) 1 0 (lt-ltb (d v) n h)

has_no : (n : ℕ) (d : ℕ → ℕ) (v : ℕ) → n ≤ d v → cond {A = ℕ} (nat_lt (d v) n) 1 0 ≡ 0
has_no n d v h = cond-false (nat_lt (d v) n) 1 0 (le-ltb (d v) n h)

has_few : (n : ℕ) (d : ℕ → ℕ) (v : ℕ) → cond {A = ℕ} (nat_lt (d v) n) 1 0 ≤ 1
has_few n d v = elim (cases_lt (d v) n) [ inl h ↦ omega (arith, has_yes n d v h) | inr h ↦ omega (arith, has_no n d v h) ]

-- terms of at most 1, one of them 0
few_sum : (n v : ℕ) (f : ℕ → ℕ) → v < n → ((i : ℕ) → f i ≤ 1) → f v ≡ 0 → sum_below n f < n
few_sum zero v f h most none = absurd (omega (arith, h))
few_sum (suc n) v f h most none = elim (cases_eq v n) [
  | inl same ↦ omega (arith, sum_below-le_const n 1 f (λ i l. most i), sym (ap f same) ∙ none)
  | inr other ↦ omega (arith, few_sum n v f (omega (arith, h, other)) most none, most n)
]

module _ (n : ℕ) (s : State) where
  -- nothing but the sink has a label
  pub sweeps_start : (d q : ℕ → ℕ) → 1 < n → d 1 ≡ 0 → ((v : ℕ) → v < n → (v ≡ 1 → ⊥) → d v ≡ n) → q 0 ≡ 1 → Sweeps n s d q 1 0
  sweeps_start d q two at others first = record {
    within = omega arith;
    small = λ v h. elim (cases_eq v 1) [
      | inl same ↦ omega (arith, ap d same, at)
      | inr other ↦ omega (arith, others v h other)
    ];
    sink = at;
    counted =
        let one : cond {A = ℕ} (nat_lt 1 n) 1 0 ≡ 1 = cond-true (nat_lt 1 n) 1 0 (lt-ltb 1 n two) in omega (arith, one_label n (omega arith), one);
    nodes = λ i l. omega (arith, two, subst (λ (k : ℕ). q k ≡ 1) (zero_is i l) first);
    labels = λ i l. omega (arith, at, ap d (subst (λ (k : ℕ). q k ≡ 1) (zero_is i l) first));
    rising = λ i j a b. (
        let qi : q i ≡ 1 = subst (λ (k : ℕ). q k ≡ 1) (zero_is i (omega (arith, a, b))) first in
        omega (arith, ap d qi, at));
    near = λ v h l p. omega (arith, ap d (only v h l), at);
    walks = λ v h l. (
        let e : v ≡ 1 = only v h l in
        let z : 0 ≡ d v = sym (ap d e ∙ at) in
        subst (λ (k : ℕ). Walk n s k v) z e);
    pending = λ v h l. inl (record { at = 0; from = omega arith; before = omega arith; there = first ∙ sym (only v h l) });
  }
    where
      zero_is : (i : ℕ) → i < 1 → 0 ≡ i
      zero_is i l = omega (arith, l)

      only : (v : ℕ) → v < n → d v < n → v ≡ 1
      only v h l = elim (cases_eq v 1) [ inl same ↦ same | inr other ↦ absurd (omega (arith, others v h other, l)) ]

      one_label : (m : ℕ) → m ≤ n → sum_below m (λ v. cond (nat_lt (d v) n) 1 0) ≡ cond {A = ℕ} (nat_lt 1 m) 1 0
      one_label zero l = refl
      one_label (suc m) l = elim (cases_eq m 1) [
        | inl same ↦ (
            let here : cond {A = ℕ} (nat_lt (d m) n) 1 0 ≡ 1 = has_yes n d m (omega (arith, ap d same, at, two)) in
            let before : cond {A = ℕ} (nat_lt 1 m) 1 0 ≡ 0 = cond-false (nat_lt 1 m) 1 0 (le-ltb 1 m (omega (arith, same))) in
            let after : cond {A = ℕ} (nat_lt 1 (suc m)) 1 0 ≡ 1 = cond-true (nat_lt 1 (suc m)) 1 0 (lt-ltb 1 (suc m) (omega (arith, same))) in
            omega (arith, one_label m (omega (arith, l)), here, before, after))
        | inr other ↦ (
            let here : cond {A = ℕ} (nat_lt (d m) n) 1 0 ≡ 0 = has_no n d m (omega (arith, others m (omega (arith, l)) other)) in
            let same : cond {A = ℕ} (nat_lt 1 m) 1 0 ≡ cond {A = ℕ} (nat_lt 1 (suc m)) 1 0 = elim (cases_lt 1 m) [
              | inl more ↦ cond-true (nat_lt 1 m) 1 0 (lt-ltb 1 m more) ∙ sym (cond-true (nat_lt 1 (suc m)) 1 0 (lt-ltb 1 (suc m) (omega (arith, more))))
              | inr less ↦ cond-false (nat_lt 1 m) 1 0 (le-ltb 1 m less) ∙ sym (cond-false (nat_lt 1 (suc m)) 1 0 (le-ltb 1 (suc m) (omega (arith, less, other))))
            ] in
            omega (arith, one_label m (omega (arith, l)), here, same))
      ]

  -- if a node has no label there is room in the queue
  pub sweeps_room : (d q : ℕ → ℕ) (count place v : ℕ) → Sweeps n s d q count place → v < n → d v ≡ n → count < n
  sweeps_room d q count place v w h e =
      let few : sum_below n (λ u. cond (nat_lt (d u) n) 1 0) < n = few_sum n v (λ u. cond (nat_lt (d u) n) 1 0) h (has_few n d) (has_no n d v (omega (arith, e))) in
      omega (arith, few, w.counted)

  -- no more nodes are queued than there are
  pub sweeps_few : (d q : ℕ → ℕ) (count place : ℕ) → Sweeps n s d q count place → count ≤ n
  sweeps_few d q count place w = omega (arith, sum_below-le_const n 1 (λ u. cond (nat_lt (d u) n) 1 0) (λ i l. has_few n d i), w.counted)

  -- a node with a residual to the one that is read gets its label and its place
  pub sweeps_new : (d e q p : ℕ → ℕ) (count place v : ℕ) → Sweeps n s d q count place → place < count → v < n → d v ≡ n → 0 < s.res v (q place)
      → e v ≡ d (q place) + 1 → ((u : ℕ) → (u ≡ v → ⊥) → e u ≡ d u) → p count ≡ v → ((i : ℕ) → (i ≡ count → ⊥) → p i ≡ q i) → Sweeps n s e p (count + 1) place
  sweeps_new d e q p count place v old now h none r new same last before = record {
    within = omega (arith, old.within);
    small = λ u l. elim (cases_eq u v) [
      | inl here ↦ omega (arith, ap e here, new_small)
      | inr other ↦ omega (arith, same u other, old.small u l)
    ];
    sink = same 1 (λ here. omega (arith, ap d here, old.sink, none, room)) ∙ old.sink;
    counted =
        let sums = sum_changed n v (λ u. cond (nat_lt (d u) n) 1 0) (λ u. cond (nat_lt (e u) n) 1 0) h (λ u other. ap (λ (x : ℕ). cond {A = ℕ} (nat_lt x n) 1 0) (same u other)) in
        omega (arith, sums, old.counted, has_no n d v (omega (arith, none)), has_yes n e v new_small);
    nodes = λ i l. elim (cases_eq i count) [
      | inl end ↦ omega (arith, ap p end, last, h)
      | inr other ↦ omega (arith, before i other, old.nodes i (omega (arith, l, other)))
    ];
    labels = λ i l. elim (cases_eq i count) [
      | inl end ↦ omega (arith, at_end i end, old.labels place now, now, end)
      | inr other ↦ omega (arith, at_old i (omega (arith, l, other)), old.labels i (omega (arith, l, other)))
    ];
    rising = λ i j a b. elim (cases_eq j count) [
      | inl end ↦ elim (cases_eq i count) [
        | inl here ↦ omega (arith, at_end i here, at_end j end)
        | inr other ↦
            let l : i < count = omega (arith, a, end, other) in
            omega (arith, at_old i l, at_end j end, old.near (q i) (old.nodes i l) (omega (arith, old.labels i l, l, room)) now)
      ]
      | inr other ↦
          let l : j < count = omega (arith, b, other) in
          omega (arith, at_old i (omega (arith, a, l)), at_old j l, old.rising i j a l)
    ];
    near = λ u l near' now'. elim (cases_eq u v) [
      | inl here ↦ omega (arith, ap e here, new, at_old place now)
      | inr other ↦ omega (arith, same u other, at_old place now, old.near u l (omega (arith, same u other, near')) now)
    ];
    walks = λ u l near'. elim (cases_eq u v) [
      | inl here ↦ (
          let way : Walk n s (suc (d (q place))) v = (q place, (old.nodes place now, (r, old.walks (q place) (old.nodes place now) (omega (arith, old.labels place now, now, room))))) in
          let long : suc (d (q place)) ≡ e u = omega (arith, ap e here, new) in
          subst (λ (x : ℕ). Walk n s (e u) x) (sym here) (subst (λ (k : ℕ). Walk n s k v) long way))
      | inr other ↦ subst (λ (k : ℕ). Walk n s k u) (sym (same u other)) (old.walks u l (omega (arith, same u other, near')))
    ];
    pending = λ u l near'. elim (cases_eq u v) [
      | inl here ↦ inl (record { at = count; from = old.within; before = omega arith; there = last ∙ sym here })
      | inr other ↦ elim (old.pending u l (omega (arith, same u other, near'))) [
        | inl waits ↦ inl (record { at = waits.at; from = waits.from; before = omega (arith, waits.before); there = before waits.at (λ end. omega (arith, end, waits.before)) ∙ waits.there })
        | inr read ↦ inr (λ t k some. omega (arith, falls t k, read t k some, same u other))
      ]
    ];
  }
    where
      room : count < n
      room = sweeps_room d q count place v old h none

      new_small : e v < n
      new_small = omega (arith, new, old.labels place now, now, room)

      at_end : (i : ℕ) → i ≡ count → e (p i) ≡ d (q place) + 1
      at_end i end = ap e (ap p end ∙ last) ∙ new

      at_old : (i : ℕ) → i < count → e (p i) ≡ d (q i)
      at_old i l =
          ap e (before i (λ end. omega (arith, end, l))) ∙ same (q i) (λ here. omega (arith, ap d here, none, old.labels i l, l, room))

      falls : (t : ℕ) → t < n → e t ≤ d t
      falls t k = elim (cases_eq t v) [
        | inl here ↦ omega (arith, ap e here, ap d here, new_small, none)
        | inr other ↦ omega (arith, same t other)
      ]

  -- the node at `place` has been read
  pub sweeps_next : (d q : ℕ → ℕ) (count place : ℕ) → Sweeps n s d q count place → place < count → IsRead n s d (q place) → Sweeps n s d q count (place + 1)
  sweeps_next d q count place old now read = record {
    within = omega (arith, now);
    small = old.small;
    sink = old.sink;
    counted = old.counted;
    nodes = old.nodes;
    labels = old.labels;
    rising = old.rising;
    near = λ v l near' more. omega (arith, old.near v l near' now, old.rising place (place + 1) (omega arith) more);
    walks = old.walks;
    pending = λ v l near'. elim (old.pending v l near') [
      | inl waits ↦ elim (cases_eq waits.at place) [
        | inl here ↦ inr (subst (λ (u : ℕ). IsRead n s d u) (sym (ap q here) ∙ waits.there) read)
        | inr other ↦ inl (record { at = waits.at; from = omega (arith, waits.from, other); before = waits.before; there = waits.there })
      ]
      | inr done ↦ inr done
    ];
  }

  -- if every queued node has been read the labels are the distances
  pub sweeps_end : (d q : ℕ → ℕ) (count place : ℕ) → Sweeps n s d q count place → count ≤ place → IsDistance n s d
  sweeps_end d q count place w over = record { small = w.small; walk = w.walks; least = λ v k h way. least k v h way }
    where
      read : (v : ℕ) → v < n → d v < n → IsRead n s d v
      read v h near = elim (w.pending v h near) [
        | inl waits ↦ absurd (omega (arith, waits.from, waits.before, over))
        | inr done ↦ done
      ]

      least : (k v : ℕ) → v < n → Walk n s k v → d v ≤ k
      least zero v h e = omega (arith, ap d e, w.sink)
      least (suc k) v h way =
          let rest : d way.0 ≤ k = least k way.0 way.1.0 way.1.1.1 in
          elim (cases_lt (d way.0) n) [
            | inl near ↦ omega (arith, read way.0 way.1.0 near v h way.1.1.0, rest)
            | inr far ↦ omega (arith, w.small v h, far, rest)
          ]

-- ---- the arcs of a node

-- the node w at `place` is read: its first k arcs have been
pub record Reading (net : FlowNet) (c : Cells) (d q : ℕ → ℕ) (count place w label k : ℕ) : Type 0 where
  -- the walk backward has come to this place of the queue
  pub sweeps : Sweeps (node_count net) (pairs net c []) d q count place
  -- the place is that of a queued node
  pub now : place < count
  -- the node that is read stands there
  pub here : q place ≡ w
  -- a label for its neighbours is one more than its own
  pub labelled : d w + 1 ≡ label
  -- of the first k arcs, if the mate has a residual, the head has at most that label
  pub arcs : (j : ℕ) → j < k → 0 < slice_index c.residuals (mate net w j) → d (head net w j) ≤ label

module _ (net : FlowNet) (ok : IsFlowNet net) (c : Cells) where
  -- an arc whose head has a label, or whose mate has no residual
  pub reading_past : (d q : ℕ → ℕ) (count place w label k : ℕ) → Reading net c d q count place w label k → w < node_count net → k < row_len net w
      → (d (head net w k) ≡ node_count net → 0 < slice_index c.residuals (mate net w k) → ⊥) → Reading net c d q count place w label (k + 1)
  reading_past d q count place w label k r h l past = record {
    sweeps = r.sweeps;
    now = r.now;
    here = r.here;
    labelled = r.labelled;
    arcs = λ j b some. elim (cases_eq j k) [
      | inl same ↦
          let v : ℕ = head net w k in
          let low : d v ≤ label = elim (cases_lt (d v) (node_count net)) [
            | inl near ↦ omega (arith, r.sweeps.near v (ok.heads_in w k h l) near r.now, ap d r.here, r.labelled)
            | inr far ↦ absurd (past (omega (arith, far, r.sweeps.small v (ok.heads_in w k h l))) (subst (λ (i : ℕ). 0 < slice_index c.residuals (mate net w i)) same some))
          ] in
          subst (λ (i : ℕ). d (head net w i) ≤ label) (sym same) low
      | inr other ↦ r.arcs j (omega (arith, b, other)) some
    ];
  }

  -- an arc whose head gets its label
  pub reading_new : (d e q p : ℕ → ℕ) (count place w label k : ℕ) → Reading net c d q count place w label k → w < node_count net → k < row_len net w
      → d (head net w k) ≡ node_count net → 0 < slice_index c.residuals (mate net w k)
      → e (head net w k) ≡ label → ((u : ℕ) → (u ≡ head net w k → ⊥) → e u ≡ d u) → p count ≡ head net w k → ((i : ℕ) → (i ≡ count → ⊥) → p i ≡ q i)
      → Reading net c e p (count + 1) place w label (k + 1)
  reading_new d e q p count place w label k r h l none some new same last before = record {
    sweeps = sweeps_new (node_count net) (pairs net c []) d e q p count place (head net w k) r.sweeps r.now (ok.heads_in w k h l) none
        (subst (λ (u : ℕ). 0 < pair net c.residuals (head net w k) u) (sym r.here) (subst (λ (x : ℕ). 0 < x) (sym (mate-pair net ok c.residuals w k h l)) some))
        (omega (arith, new, r.labelled, ap d r.here)) same last before;
    now = omega (arith, r.now);
    here = before place (λ end. omega (arith, end, r.now)) ∙ r.here;
    labelled = omega (arith, same w apart, r.labelled);
    arcs = λ j b at. elim (cases_eq j k) [
      | inl here ↦ omega (arith, ap (λ (i : ℕ). e (head net w i)) here, new)
      | inr other ↦
          let l' : j < k = omega (arith, b, other) in
          elim (cases_eq (head net w j) (head net w k)) [
            | inl one ↦ omega (arith, ap e one, new)
            | inr two ↦ omega (arith, same (head net w j) two, r.arcs j l' at)
          ]
    ];
  }
    where
      room : count < node_count net
      room = sweeps_room (node_count net) (pairs net c []) d q count place (head net w k) r.sweeps (ok.heads_in w k h l) none

      apart : w ≡ head net w k → ⊥
      apart one = omega (arith, ap d one, none, ap d r.here, r.sweeps.labels place r.now, r.now, room)

  -- the whole row
  pub reading_end : (d q : ℕ → ℕ) (count place w label : ℕ) → Reading net c d q count place w label (row_len net w) → w < node_count net → Sweeps (node_count net) (pairs net c []) d q count (place + 1)
  reading_end d q count place w label r h =
      sweeps_next (node_count net) (pairs net c []) d q count place r.sweeps r.now (subst (λ (u : ℕ). IsRead (node_count net) (pairs net c []) d u) (sym r.here) read)
    where
      read : IsRead (node_count net) (pairs net c []) d w
      read v l some =
          let m = pair-mate net ok c.residuals v w l h some in
          omega (arith, ap d m.1.1.0, r.arcs m.0 m.1.0 m.1.1.1, r.labelled)

  -- ---- the same over the lists

  -- if an arc leads to a node without a label, the queue has room for it
  pub room_for : (labels queue : List ℕ) (count place w label k v nodes : ℕ) → Reading net c (slice_index labels) (slice_index queue) count place w label k → w < node_count net → k < row_len net w
      → v ≡ head net w k → slice_index labels v ≡ nodes → nodes ≡ node_count net → count < node_count net
  room_for labels queue count place w label k v nodes r h l is none all =
      sweeps_room (node_count net) (pairs net c []) (slice_index labels) (slice_index queue) count place (head net w k) r.sweeps (ok.heads_in w k h l) (sym (ap (slice_index labels) is) ∙ none ∙ all)

  list_past : (labels queue ls qs : List ℕ) (count ct place w label k : ℕ) → ls ≡ labels → qs ≡ queue → ct ≡ count → Reading net c (slice_index labels) (slice_index queue) count place w label k
      → w < node_count net → k < row_len net w → (slice_index labels (head net w k) ≡ node_count net → 0 < slice_index c.residuals (mate net w k) → ⊥)
      → Reading net c (slice_index ls) (slice_index qs) ct place w label (k + 1)
  list_past labels queue ls qs count ct place w label k el eq ec r h l past =
      subst (λ (x : List ℕ). Reading net c (slice_index x) (slice_index qs) ct place w label (k + 1)) (sym el)
      (subst (λ (x : List ℕ). Reading net c (slice_index labels) (slice_index x) ct place w label (k + 1)) (sym eq)
      (subst (λ (x : ℕ). Reading net c (slice_index labels) (slice_index queue) x place w label (k + 1)) (sym ec)
      (reading_past (slice_index labels) (slice_index queue) count place w label k r h l past)))

  -- an arc whose head has a label
  pub head_labelled : (labels queue ls qs : List ℕ) (count ct place w label k v nodes : ℕ) → ls ≡ labels → qs ≡ queue → ct ≡ count → Reading net c (slice_index labels) (slice_index queue) count place w label k
      → w < node_count net → k < row_len net w → v ≡ head net w k → (slice_index labels v ≡ nodes → ⊥) → nodes ≡ node_count net
      → Reading net c (slice_index ls) (slice_index qs) ct place w label (k + 1)
  head_labelled labels queue ls qs count ct place w label k v nodes el eq ec r h l is some all =
      list_past labels queue ls qs count ct place w label k el eq ec r h l (λ none more. some (ap (slice_index labels) is ∙ none ∙ sym all))

  -- an arc whose mate has no residual
  pub mate_full : (labels queue ls qs : List ℕ) (count ct place w label k arc residual : ℕ) → ls ≡ labels → qs ≡ queue → ct ≡ count → Reading net c (slice_index labels) (slice_index queue) count place w label k
      → w < node_count net → k < row_len net w → arc ≡ mate net w k → residual ≡ slice_index c.residuals arc → residual ≤ 0
      → Reading net c (slice_index ls) (slice_index qs) ct place w label (k + 1)
  mate_full labels queue ls qs count ct place w label k arc residual el eq ec r h l is value full =
      list_past labels queue ls qs count ct place w label k el eq ec r h l (λ none more. omega (arith, more, ap (slice_index c.residuals) is, value, full))

  -- an arc whose head gets a label
  pub head_new : (labels queue ls qs : List ℕ) (count ct place w label k v arc residual nodes : ℕ) → ls ≡ set labels v label → qs ≡ set queue count v → ct ≡ count + 1
      → Reading net c (slice_index labels) (slice_index queue) count place w label k → w < node_count net → k < row_len net w → v ≡ head net w k → arc ≡ mate net w k
      → slice_index labels v ≡ nodes → nodes ≡ node_count net → residual ≡ slice_index c.residuals arc → 0 < residual → length labels ≡ node_count net → length queue ≡ node_count net
      → Reading net c (slice_index ls) (slice_index qs) ct place w label (k + 1)
  head_new labels queue ls qs count ct place w label k v arc residual nodes el eq ec r h l iv ia none all value some size room =
      subst (λ (x : List ℕ). Reading net c (slice_index x) (slice_index qs) ct place w label (k + 1)) (sym el)
      (subst (λ (x : List ℕ). Reading net c (slice_index (set labels v label)) (slice_index x) ct place w label (k + 1)) (sym eq)
      (subst (λ (x : ℕ). Reading net c (slice_index (set labels v label)) (slice_index (set queue count v)) x place w label (k + 1)) (sym ec)
      (reading_new (slice_index labels) (slice_index (set labels v label)) (slice_index queue) (slice_index (set queue count v)) count place w label k r h l
      (sym (ap (slice_index labels) iv) ∙ none ∙ all) (omega (arith, some, value, ap (slice_index c.residuals) ia))
      (ap (slice_index (set labels v label)) (sym iv) ∙ get_or-set_same labels v label 0 (omega (arith, iv, size, ok.heads_in w k h l)))
      (λ u other. get_or-set_other labels v u label 0 (λ e. other (e ∙ iv)))
      (get_or-set_same queue count v 0 (omega (arith, room, room_for labels queue count place w label k v nodes r h l iv none all)) ∙ iv)
      (λ i other. get_or-set_other queue count i v 0 other))))
