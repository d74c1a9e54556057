-- The new labels of the parts, copied one part after another, become the labels.
use Rattle.std.proofs.Common.{◌≡◌, ℕ, ◌+◌, ◌-◌, ◌<◌, ◌≤◌, ◌≢◌, true, List, [], ◌∷◌, length, slice_index, slice_set, get_or, drop, get_or-set_other, get_or-set_same, refl, ap, arith, sym, ◌∙◌, subst, inl, inr, ◌⊎◌}
use Rattle.std.proofs.lemmas.Bool.{cases_eq, cases_lt}
use Rattle.std.proofs.lemmas.List.{length-set}
use Rattle.pulse_parts.specs.declared.parts.FlowPart.{FlowPart}
use Rattle.pulse_parts.specs.Listing.{IsListed}
use Rattle.pulse_parts.specs.Parts.{IsPiece, cells_of}
use Rattle.pulse_parts.specs.Labels.{HasLabels, AreLabelled, KeepLabels, KeepsLabels}
use Rattle.pulse_parts.proofs.PartsLeftLaws.{Left, left_all, left_more, left_here, left_at}
use Rattle.pulse_parts.proofs.JoinedPartLaws.{by_node}

label_piece : (n : ℕ) (q : FlowPart) → HasLabels n q → IsPiece (λ p. p.first) (λ p. p.end) (λ p. p.next.items) (λ v. v) n q
label_piece n q fit = record { ordered = fit.ordered; within = fit.within; sized = fit.sized }

-- the labels of the parts before the rest are the new ones
pub record Turned (n : ℕ) (olds labels : List ℕ) (all rest : List FlowPart) : Type 0 where
  -- the node at which the parts that are left begin
  pub from : ℕ
  -- these parts hold the nodes from there on
  pub left : Left (HasLabels n) (λ p. p.first) (λ p. p.end) (λ p. p.next.items) (λ x. x) n from all rest
  -- the labels of the nodes before are the new ones
  pub done : (v : ℕ) → v < from → slice_index labels v ≡ slice_index (cells_of all).next v
  -- the labels of the others are as they were
  pub ahead : (v : ℕ) → from ≤ v → slice_index labels v ≡ slice_index olds v

-- before the first part no label was turned
pub turned_none : (n : ℕ) (labels : List ℕ) (all : List FlowPart) → AreLabelled n 0 all → Turned n labels labels all all
turned_none n labels all cut = record {
  from = 0;
  left = left_all (HasLabels n) (λ p. p.first) (λ p. p.end) (λ p. p.next.items) (λ x. x) n all (by_node n) cut;
  done = λ v h. absurd (omega arith);
  ahead = λ v h. refl;
}

at_index : (n : ℕ) (olds labels : List ℕ) (all : List FlowPart) (i : ℕ) (p : FlowPart) → i < length all → p ≡ get_or all i p
    → Turned n olds labels all (drop i all) → Turned n olds labels all (p ∷ drop (i + 1) all)
at_index n olds labels all i p h e t = subst (λ (rest : List FlowPart). Turned n olds labels all rest) (left_at all i p h e) t

-- the next part has a new label for each of its nodes
pub turned_fits : (n : ℕ) (olds labels : List ℕ) (all : List FlowPart) (i : ℕ) (p : FlowPart) → i < length all → p ≡ get_or all i p → Turned n olds labels all (drop i all) → HasLabels n p
turned_fits n olds labels all i p h e t = (at_index n olds labels all i p h e t).left.cut.1.0

-- a part whose labels are all the new ones has been turned
pub turned_more : (n : ℕ) (olds labels new : List ℕ) (all : List FlowPart) (i : ℕ) (p : FlowPart) → i < length all → p ≡ get_or all i p → Turned n olds labels all (drop i all)
    → ((v : ℕ) → p.first ≤ v → v < p.end → slice_index new v ≡ slice_index p.next.items (v - p.first))
    → ((v : ℕ) → (v < p.first) ⊎ (p.end ≤ v) → slice_index new v ≡ slice_index labels v)
    → Turned n olds new all (drop (i + 1) all)
turned_more n olds labels new all i p h e t0 here others =
    let t = at_index n olds labels all i p h e t0 in
    record {
      from = p.end;
      left = left_more (HasLabels n) (λ q. q.first) (λ q. q.end) (λ q. q.next.items) (λ x. x) n t.from all p (drop (i + 1) all) (by_node n) (label_piece n) t.left;
      done = λ v l. elim (cases_lt v p.first) [
        | inl lt ↦ others v (inl lt) ∙ t.done v (omega (arith, t.left.cut.0))
        | inr ge ↦ here v ge l ∙ sym (left_here (HasLabels n) (λ q. q.first) (λ q. q.end) (λ q. q.next.items) (λ x. x) n t.from all p (drop (i + 1) all) (by_node n) (label_piece n) t.left v ge l)
      ];
      ahead = λ v l. others v (inr l) ∙ t.ahead v (omega (arith, l, t.left.cut.0, t.left.cut.1.0.ordered));
    }

-- past the last part all labels are the new ones
pub turned_all : (n : ℕ) (olds labels : List ℕ) (all rest : List FlowPart) → rest ≡ [] → Turned n olds labels all rest → (v : ℕ) → v < n → slice_index labels v ≡ slice_index (cells_of all).next v
turned_all n olds labels all rest e t v h =
    let end : AreLabelled n t.from [] = subst (λ (r : List FlowPart). AreLabelled n t.from r) e t.left.cut in
    t.done v (omega (arith, end))

-- ---- the turn of listed nodes

-- the labels of the nodes at the first places of a list are the new ones, and no others have
-- changed
pub record TurnedFirst (first : ℕ) (next list : List ℕ) (count : ℕ) (olds labels : List ℕ) : Type 0 where
  -- there are as many labels
  pub size : length labels ≡ length olds
  -- the labels of the first listed nodes are the new ones
  pub listed : (i : ℕ) → i < count → slice_index labels (slice_index list i) ≡ slice_index next (slice_index list i - first)
  -- the label of a node that isn't listed is as it was
  pub others : (v : ℕ) → IsListed list v ⊎ (slice_index labels v ≡ slice_index olds v)

-- of no listed nodes none was turned
pub first_none : (first : ℕ) (next list olds : List ℕ) → TurnedFirst first next list 0 olds olds
first_none first next list olds = record { size = refl; listed = λ i h. absurd (omega (arith, h)); others = λ v. inr refl }

-- a listed node whose label was set to the new one has been turned
pub first_more : (first : ℕ) (next list : List ℕ) (i v x : ℕ) (olds labels new : List ℕ) → i < length list → v ≡ slice_index list i → x ≡ slice_index next (v - first) → v < length labels → new ≡ slice_set labels v x
    → TurnedFirst first next list i olds labels → TurnedFirst first next list (i + 1) olds new
first_more first next list i v x olds labels new hi ev ex hl en t = record {
  size = ap length en ∙ (length-set labels v x ∙ t.size);
  listed = λ j h. ap (λ (ys : List ℕ). slice_index ys (slice_index list j)) en ∙ elim (cases_eq (slice_index list j) v) [
    | inl same ↦ ap (slice_index (slice_set labels v x)) same ∙ (get_or-set_same labels v x 0 hl ∙ (ex ∙ ap (λ (w : ℕ). slice_index next (w - first)) (sym same)))
    | inr other ↦
        let ne : slice_index list j ≢ v = other in
        get_or-set_other labels v (slice_index list j) x 0 ne ∙ t.listed j (elim (cases_lt j i) [ inl lt ↦ lt | inr ge ↦ absurd (other (ap (slice_index list) (let e : j ≡ i = omega (arith, h, ge) in e) ∙ sym ev)) ])
  ];
  others = λ w. elim (cases_eq w v) [
    | inl same ↦ inl record { place = i; inside = hi; there = sym ev ∙ sym same }
    | inr other ↦
        let ne : w ≢ v = other in
        elim (t.others w) [ inl at ↦ inl at | inr kept ↦ inr (ap (λ (ys : List ℕ). slice_index ys w) en ∙ (get_or-set_other labels v w x 0 ne ∙ kept)) ]
  ];
}

-- if the other nodes keep their labels all labels of the part are the new ones
pub listed_here : (olds labels next list : List ℕ) (q : FlowPart) → KeepsLabels olds q → next ≡ q.next.items → list ≡ q.active.nodes.items
    → ((i : ℕ) → i < length list → slice_index labels (slice_index list i) ≡ slice_index next (slice_index list i - q.first))
    → ((v : ℕ) → IsListed list v ⊎ (slice_index labels v ≡ slice_index olds v))
    → (v : ℕ) → q.first ≤ v → v < q.end → slice_index labels v ≡ slice_index q.next.items (v - q.first)
listed_here olds labels next list q keeps en el listed others v lo hi =
    elim (others v) [
      | inl at ↦ there at
      | inr kept ↦ elim (keeps.rest v lo hi) [
        | inl at ↦ there (record { place = at.place; inside = subst (λ (ys : List ℕ). at.place < length ys) (sym el) at.inside; there = ap (λ (ys : List ℕ). slice_index ys at.place) el ∙ at.there })
        | inr stays ↦ kept ∙ sym stays
      ]
    ]
  where
    there : IsListed list v → slice_index labels v ≡ slice_index q.next.items (v - q.first)
    there at =
        subst (λ (w : ℕ). slice_index labels w ≡ slice_index q.next.items (w - q.first)) at.there
        (listed at.place at.inside ∙ ap (λ (ys : List ℕ). slice_index ys (slice_index list at.place - q.first)) en)

-- turning the listed nodes of a part leaves the labels of other parts' nodes
pub listed_others : (olds labels list : List ℕ) (q : FlowPart) → KeepsLabels olds q → list ≡ q.active.nodes.items → ((v : ℕ) → IsListed list v ⊎ (slice_index labels v ≡ slice_index olds v))
    → (v : ℕ) → (v < q.first) ⊎ (q.end ≤ v) → slice_index labels v ≡ slice_index olds v
listed_others olds labels list q keeps el others v out = elim (others v) [
  | inl at ↦
      let w = keeps.within at.place (subst (λ (ys : List ℕ). at.place < length ys) el at.inside) in
      let e : slice_index q.active.nodes.items at.place ≡ v = ap (λ (ys : List ℕ). slice_index ys at.place) (sym el) ∙ at.there in
      elim out [ inl lt ↦ absurd (omega (arith, w.0, e, lt)) | inr ge ↦ absurd (omega (arith, w.1, e, ge)) ]
  | inr kept ↦ kept
]

-- the next part's nodes still have their labels
pub keeps_next : (n : ℕ) (olds labels : List ℕ) (all : List FlowPart) (i : ℕ) (p : FlowPart) → i < length all → p ≡ get_or all i p → KeepLabels olds all → Turned n olds labels all (drop i all) → p.active.complete ≡ true
    → KeepsLabels labels p
keeps_next n olds labels all i p h e keeps t0 done =
    let t = at_index n olds labels all i p h e t0 in
    let k : KeepsLabels olds p = subst (λ (q : FlowPart). KeepsLabels olds q) (sym e) (keeps i p h (subst (λ (q : FlowPart). q.active.complete ≡ true) e done)) in
    record {
      within = k.within;
      rest = λ v lo hi. elim (k.rest v lo hi) [ inl at ↦ inl at | inr same ↦ inr (same ∙ sym (t.ahead v (omega (arith, lo, t.left.cut.0)))) ];
    }
