-- What a walk keeps that marks and queues nodes, whatever a marked node is and whatever its reading
-- marks.
use Rattle.std.proofs.Common.{ℕ, zero, ◌+◌, ◌<◌, ◌≤◌, ◌≡◌, ◌⊎◌, inl, inr, List, [], ◌∷◌, ◌++◌, length, replicate, Bool, true, false, cond, Some, None, slice_get, set, get_or, count_by, arith, ap, sym, ◌∙◌, subst}
use Rattle.std.proofs.lemmas.Bool.{cases_Bool, cases_eq, cases_lt, cond-true, cond-false}
use Rattle.std.proofs.lemmas.Option.{none-some, slice_get_within, same_Some}
use Rattle.std.proofs.lemmas.List.{length-set, get_or-set_same, get_or-set_other, get_or_past, set-get_or, length_push, length-replicate, get_or-replicate}
use Rattle.std.proofs.lemmas.List.Sums.{sum_by-set, count_by-le-length}
use Rattle.aig_graph.proofs.KindLaws.{element}
use Rattle.aig_graph.proofs.PlacesLaws.{slice_get_push, slice_get-append_left, slice_get-append_right}
use Rattle.cut_cert.specs.Fronts.{SearchFront, is_marked, mark_node, reach_node}

-- ---- one more node

abbrev pub reach_new : SearchFront → ℕ → SearchFront
reach_new r v = record { marks = set r.marks v true; queue = r.queue ++ v ∷ [] }

-- reaching a marked node changes nothing
pub reach-marked : (r : SearchFront) (v : ℕ) → is_marked r v ≡ true → reach_node r v ≡ r
unfolding reach_node
reach-marked r v e = cond-true (is_marked r v) r (reach_new r v) e

-- reaching a node that isn't marked marks and queues it
pub reach-new : (r : SearchFront) (v : ℕ) → is_marked r v ≡ false → reach_node r v ≡ reach_new r v
unfolding reach_node
reach-new r v e = cond-false (is_marked r v) r (reach_new r v) e

-- a mark that is there stays as it is
pub mark-marked : (r : SearchFront) (v : ℕ) → is_marked r v ≡ true → mark_node r v ≡ r
mark-marked r v e =
    let same : set r.marks v true ≡ r.marks = ap (λ (b : Bool). set r.marks v b) (sym e) ∙ set-get_or r.marks v false in
    ap (λ (marks : List Bool). record { marks = marks; queue = r.queue }) same

-- marking a node leaves as many marks
pub mark-long : (r : SearchFront) (v : ℕ) → length (mark_node r v).marks ≡ length r.marks
mark-long r v = length-set r.marks v true

-- the length of the marks stays
pub reach-long : (r : SearchFront) (v : ℕ) → length (reach_node r v).marks ≡ length r.marks
reach-long r v = elim (cases_Bool (is_marked r v)) [
  | inl marked ↦ ap (λ (s : SearchFront). length s.marks) (reach-marked r v marked)
  | inr fresh ↦ ap (λ (s : SearchFront). length s.marks) (reach-new r v fresh) ∙ length-set r.marks v true
]

-- what was marked stays so, and what was queued
pub record Grows (r s : SearchFront) : Type 0 where
  -- what was marked is marked
  pub marks : (v : ℕ) → is_marked r v ≡ true → is_marked s v ≡ true
  -- what was queued stands where it stood
  pub queue : (i v : ℕ) → slice_get r.queue i ≡ Some v → slice_get s.queue i ≡ Some v

-- marks that grow twice have grown
pub grows-then : (r s t : SearchFront) → Grows r s → Grows s t → Grows r t
grows-then r s t p q = record { marks = λ v e. q.marks v (p.marks v e); queue = λ i v e. q.queue i v (p.queue i v e) }

-- marks that stay have grown
pub grows-self : (r : SearchFront) → Grows r r
grows-self r = record { marks = λ v m. m; queue = λ i v m. m }

-- a marked node has a mark in the list
pub marked-within : (r : SearchFront) (v : ℕ) → is_marked r v ≡ true → v < length r.marks
marked-within r v e = elim (cases_lt v (length r.marks)) [
  | inl less ↦ less
  | inr past ↦ (let clash : false ≡ true = sym (get_or_past r.marks v false past) ∙ e in absurd (cc))
]

module _ (r : SearchFront) (w : ℕ) (within : w < length r.marks) where
  new-here : is_marked (reach_new r w) w ≡ true
  new-here = get_or-set_same r.marks w true false within

  new-other : (v : ℕ) → (v ≡ w → ⊥) → is_marked (reach_new r w) v ≡ is_marked r v
  new-other v other = get_or-set_other r.marks w v true false other

  new-cases : (v : ℕ) → is_marked (reach_new r w) v ≡ true → (v ≡ w) ⊎ (is_marked r v ≡ true)
  new-cases v e = elim (cases_eq v w) [
    | inl same ↦ inl same
    | inr other ↦ inr (sym (new-other v other) ∙ e)
  ]

  new-grows : Grows r (reach_new r w)
  new-grows = record {
    marks = λ v e. elim (cases_eq v w) [
      | inl same ↦ ap (is_marked (reach_new r w)) same ∙ new-here
      | inr other ↦ new-other v other ∙ e
    ];
    queue = λ i v e. slice_get-append_left r.queue (w ∷ []) i v e;
  }

  mark-grows : Grows r (mark_node r w)
  mark-grows = record { marks = new-grows.marks; queue = λ i v e. e }

-- ---- what the walk keeps

-- nothing is reached of n nodes
abbrev pub no_front : ℕ → SearchFront
no_front n = record { marks = replicate n false; queue = [] }

-- a node at place k of the queue, or after it
pub record Waits (queue : List ℕ) (k v : ℕ) : Type 0 where
  -- its place in the queue
  pub place : ℕ
  -- it is k or after it
  pub from : k ≤ place
  -- the node stands there
  pub there : slice_get queue place ≡ Some v

waits-end : (queue : List ℕ) (k v : ℕ) → slice_get queue k ≡ None → Waits queue k v → k ≤ length queue → ⊥
waits-end queue k v last waits within = elim (cases_lt k (length queue)) [
  | inl less ↦ (let there = element queue k less in none-some there.0 (sym last ∙ there.1))
  | inr past ↦ omega (arith, slice_get_within queue waits.place v waits.there, waits.from)
]

no-marks : (n v : ℕ) → is_marked (no_front n) v ≡ true → ⊥
no-marks n v e =
    let less : v < n = omega (arith, marked-within (no_front n) v e, length-replicate n false) in
    let clash : false ≡ true = sym (get_or-replicate n v false false less) ∙ e in
    absurd (cc)

-- a walk over n nodes: what holds of each marked node, and when a node is read
module _ (n : ℕ) (Inside : ℕ → Type 0) (HasRead : SearchFront → ℕ → Type 0) where
  -- the queue has marked nodes, no more of them than there are; each marked node waits at place k
  -- or after it, or is read
  pub record Sweeps (r : SearchFront) (k : ℕ) : Type 0 where
    -- there is a mark for each node
    pub as_long : length r.marks ≡ n
    -- the place is within the queue, or at its end
    pub within : k ≤ length r.queue
    -- no more nodes are queued than marked
    pub counted : length r.queue ≤ count_by (λ b. b) r.marks
    -- each queued node is marked
    pub queued : (i v : ℕ) → slice_get r.queue i ≡ Some v → is_marked r v ≡ true
    -- each marked node waits, or is read
    pub pending : (v : ℕ) → is_marked r v ≡ true → Waits r.queue k v ⊎ HasRead r v
    -- each marked node is of the kind
    pub inside : (v : ℕ) → is_marked r v ≡ true → Inside v

  -- what reaching keeps, and what it adds
  pub record Goes (k : ℕ) (r t : SearchFront) : Type 0 where
    -- the walk has come to place k of the queue
    pub sweeps : Sweeps t k
    -- marks and queue have grown
    pub grows : Grows r t

  -- a walk that changes nothing keeps what it keeps
  pub goes-self : (k : ℕ) (r : SearchFront) → Sweeps r k → Goes k r r
  goes-self k r sweep = record { sweeps = sweep; grows = grows-self r }

  -- nothing is marked at the start
  pub sweeps-none : Sweeps (no_front n) 0
  sweeps-none = record {
    as_long = length-replicate n false;
    within = omega arith;
    counted = omega arith;
    queued = λ i v e. absurd (none-some v e);
    pending = λ v e. absurd (no-marks n v e);
    inside = λ v e. absurd (no-marks n v e);
  }

  -- no more nodes are marked than there are
  pub sweeps-few : (r : SearchFront) (k : ℕ) → Sweeps r k → length r.queue ≤ n
  sweeps-few r k sweep = omega (arith, sweep.counted, sweep.as_long, count_by-le-length (λ (b : Bool). b) r.marks)

  -- the node at place k has been read
  pub sweeps-next : (r : SearchFront) (k v : ℕ) → Sweeps r k → slice_get r.queue k ≡ Some v → HasRead r v → Sweeps r (k + 1)
  sweeps-next r k v sweep there reads = record {
    as_long = sweep.as_long;
    within = omega (arith, slice_get_within r.queue k v there);
    counted = sweep.counted;
    queued = sweep.queued;
    pending = λ w e. elim (sweep.pending w e) [
      | inl waits ↦ elim (cases_eq waits.place k) [
        | inl same ↦ (
            let here : v ≡ w = same_Some v w (sym there ∙ ap (slice_get r.queue) (sym same) ∙ waits.there) in
            inr (subst (λ (u : ℕ). HasRead r u) here reads))
        | inr other ↦ inl (record { place = waits.place; from = omega (arith, waits.from); there = waits.there })
      ]
      | inr done ↦ inr done
    ];
    inside = sweep.inside;
  }

  -- if the queue is at its end, each marked node is read
  pub sweeps-read : (r : SearchFront) (k : ℕ) → Sweeps r k → slice_get r.queue k ≡ None → (v : ℕ) → is_marked r v ≡ true → HasRead r v
  sweeps-read r k sweep last v e = elim (sweep.pending v e) [
    | inl waits ↦ absurd (waits-end r.queue k v last waits sweep.within)
    | inr done ↦ done
  ]

  module _ (still : (r t : SearchFront) → Grows r t → (v : ℕ) → HasRead r v → HasRead t v) where
    sweeps-new : (r : SearchFront) (k w : ℕ) → Sweeps r k → Inside w → w < n → is_marked r w ≡ false → Sweeps (reach_new r w) k
    sweeps-new r k w sweep way below fresh =
        let h : w < length r.marks = omega (arith, sweep.as_long, below) in
        record {
          as_long = length-set r.marks w true ∙ sweep.as_long;
          within = omega (arith, length_push r.queue w, sweep.within);
          counted =
              let counts = sum_by-set (λ (b : Bool). cond b 1 0) r.marks w true false h in
              let before : cond {A = ℕ} (get_or r.marks w false) 1 0 ≡ zero = ap (λ (b : Bool). cond {A = ℕ} b 1 0) fresh in
              let old : length r.queue ≤ count_by (λ b. b) r.marks = sweep.counted in
              omega (arith, length_push r.queue w, counts, before, old);
          queued = λ i v e. elim (slice_get_push r.queue w i v e) [
            | inl before ↦ (new-grows r w h).marks v (sweep.queued i v before)
            | inr last ↦ ap (is_marked (reach_new r w)) last.1 ∙ new-here r w h
          ];
          pending = λ v e. elim (new-cases r w h v e) [
            | inl same ↦ inl (record {
              place = length r.queue + 0;
              from = omega (arith, sweep.within);
              there = slice_get-append_right r.queue (w ∷ []) 0 ∙ ap (λ (m : ℕ). Some m) (sym same);
            })
            | inr before ↦ elim (sweep.pending v before) [
              | inl waits ↦ inl (record { place = waits.place; from = waits.from; there = slice_get-append_left r.queue (w ∷ []) waits.place v waits.there })
              | inr read ↦ inr (still r (reach_new r w) (new-grows r w h) v read)
            ]
          ];
          inside = λ v e. elim (new-cases r w h v e) [
            | inl same ↦ subst (λ (u : ℕ). Inside u) (sym same) way
            | inr before ↦ sweep.inside v before
          ];
        }

    -- reaching a node of the kind keeps what the walk keeps, and marks it
    pub reach-goes : (r : SearchFront) (k v : ℕ) → Sweeps r k → v < n → Inside v → Goes k r (reach_node r v) × (is_marked (reach_node r v) v ≡ true)
    reach-goes r k v sweep below way = elim (cases_Bool (is_marked r v)) [
      | inl marked ↦ subst (λ (t : SearchFront). Goes k r t × (is_marked t v ≡ true)) (sym (reach-marked r v marked)) (goes-self k r sweep, marked)
      | inr fresh ↦ (
          let h : v < length r.marks = omega (arith, sweep.as_long, below) in
          subst (λ (t : SearchFront). Goes k r t × (is_marked t v ≡ true)) (sym (reach-new r v fresh))
          (record { sweeps = sweeps-new r k v sweep way below fresh; grows = new-grows r v h }, new-here r v h))
    ]

    sweeps-mark : (r : SearchFront) (k w : ℕ) → Sweeps r k → Inside w → w < n → HasRead (mark_node r w) w → Sweeps (mark_node r w) k
    sweeps-mark r k w sweep way below reads =
        let h : w < length r.marks = omega (arith, sweep.as_long, below) in
        record {
          as_long = mark-long r w ∙ sweep.as_long;
          within = sweep.within;
          counted =
              let counts = sum_by-set (λ (b : Bool). cond b 1 0) r.marks w true false h in
              let old : length r.queue ≤ count_by (λ b. b) r.marks = sweep.counted in
              omega (arith, counts, one (is_marked r w), old);
          queued = λ i v e. (new-grows r w h).marks v (sweep.queued i v e);
          pending = λ v e. elim (new-cases r w h v e) [
            | inl same ↦ inr (subst (λ (u : ℕ). HasRead (mark_node r w) u) (sym same) reads)
            | inr before ↦ elim (sweep.pending v before) [
              | inl waits ↦ inl waits
              | inr read ↦ inr (still r (mark_node r w) (mark-grows r w h) v read)
            ]
          ];
          inside = λ v e. elim (new-cases r w h v e) [
            | inl same ↦ subst (λ (u : ℕ). Inside u) (sym same) way
            | inr before ↦ sweep.inside v before
          ];
        }
      where
        one : (b : Bool) → cond {A = ℕ} b 1 0 ≤ 1
        one true = omega arith
        one false = omega arith

    -- a node that is marked alone counts as read
    pub mark-goes : (r : SearchFront) (k v : ℕ) → Sweeps r k → v < n → Inside v → HasRead (mark_node r v) v → Goes k r (mark_node r v) × (is_marked (mark_node r v) v ≡ true)
    mark-goes r k v sweep below way reads =
        let h : v < length r.marks = omega (arith, sweep.as_long, below) in
        (record { sweeps = sweeps-mark r k v sweep way below reads; grows = mark-grows r v h }, new-here r v h)
