-- How the nodes that a delivery visits are gathered.
use Rattle.std.proofs.Common.{◌≡◌, ℕ, ◌+◌, ◌-◌, ◌<◌, ◌≤◌, Bool, true, false, suc, zero, List, [], length, slice_index, get_or, arith, sym, ap, ◌∙◌, subst, inl, inr, ◌⊎◌}
use Rattle.std.proofs.lemmas.Bool.{cases_Bool, cases_lt, false≢true}
use Rattle.std.proofs.lemmas.List.{get_or_default}
use Rattle.frame_net.specs.FlowNet.{FlowNet, node_count, start, row_len, head, HasMate, IsFlowNet}
use Rattle.pulse_parts.specs.declared.node_list.NodeList.{NodeList}
use Rattle.pulse_parts.specs.declared.parts.FlowPart.{FlowPart}
use Rattle.pulse_parts.specs.declared.parts.PushPart.{PushPart}
use Rattle.pulse_parts.specs.Parts.{ArePushParts, FlowPartFits, PushPartFits, values_of}
use Rattle.pulse_parts.specs.Delivering.{own, back}
use Rattle.pulse_parts.specs.Listing.{active_by, AreWithin, Extends, IsListed, IsRising, ListPushing, ListsActive, ListsPushing}
use Rattle.pulse_parts.specs.Visiting.{AllPushesListed, CoversWork, HeadListed, IsStill, PushesListed}
use Rattle.pulse_parts.proofs.PartsLeftLaws.{Holds, find_part, left_all, part_fits, whole_at}
use Rattle.pulse_parts.proofs.PushPartLaws.{rising, push_piece}
use Rattle.pulse_parts.proofs.JoinedPartLaws.{pick}
use Rattle.pulse_parts.proofs.NodeListLaws.{Added, added_here, extends_add, extends_self, extends_then}

-- ---- the active nodes of a list

pub record GathersActive (n : ℕ) (labels : List ℕ) (first : ℕ) (excess listed : List ℕ) (count : ℕ) (old new : NodeList) : Type 0 where
  -- the list has grown, within the part's nodes
  pub extends : Extends first (first + length excess) old new
  -- if it is complete, it has each active one of the first listed nodes
  pub active : new.complete ≡ true → (j : ℕ) → j < count → active_by n (slice_index listed j) (slice_index excess (slice_index listed j - first)) (slice_index labels (slice_index listed j)) ≡ true
      → IsListed new.nodes.items (slice_index listed j)

-- of no nodes none is gathered
pub active_none : (n : ℕ) (labels : List ℕ) (first : ℕ) (excess listed : List ℕ) (old : NodeList) → GathersActive n labels first excess listed 0 old old
active_none n labels first excess listed old = record { extends = extends_self first (first + length excess) old; active = λ h j l. absurd (omega (arith, l)) }

-- a node that is added is gathered
pub active_on : (n : ℕ) (labels : List ℕ) (first : ℕ) (excess listed : List ℕ) (i v : ℕ) (old mid new : NodeList) → AreWithin first (first + length excess) listed → i < length listed → v ≡ slice_index listed i
    → Added v mid new → GathersActive n labels first excess listed i old mid → GathersActive n labels first excess listed (i + 1) old new
active_on n labels first excess listed i v old mid new within hi ev added g =
    let more : Extends first (first + length excess) mid new = extends_add first (first + length excess) v mid new (omega (arith, ev, (within i hi).0)) (omega (arith, ev, (within i hi).1)) added in
    record {
      extends = extends_then first (first + length excess) old mid new g.extends more;
      active = λ h j l on. elim (cases_lt j i) [
        | inl lt ↦ more.kept h (slice_index listed j) (g.active (more.complete h) j lt on)
        | inr ge ↦ added_here v (slice_index listed j) mid new (ap (slice_index listed) (let e : j ≡ i = omega (arith, l, ge) in e) ∙ sym ev) added h
      ];
    }

-- a node that isn't active needs no gathering
pub active_off : (n : ℕ) (labels : List ℕ) (first : ℕ) (excess listed : List ℕ) (i v had label : ℕ) (a : Bool) (old mid : NodeList) → v ≡ slice_index listed i → had ≡ slice_index excess (v - first) → label ≡ slice_index labels v
    → a ≡ active_by n v had label → a ≡ false → GathersActive n labels first excess listed i old mid → GathersActive n labels first excess listed (i + 1) old mid
active_off n labels first excess listed i v had label a old mid ev eh el ea off g = record {
  extends = g.extends;
  active = λ h j l on. elim (cases_lt j i) [
    | inl lt ↦ g.active h j lt on
    | inr ge ↦
        let same : slice_index listed j ≡ v = ap (slice_index listed) (let e : j ≡ i = omega (arith, l, ge) in e) ∙ sym ev in
        let there : active_by n v (slice_index excess (v - first)) (slice_index labels v) ≡ true = subst (λ (u : ℕ). active_by n u (slice_index excess (u - first)) (slice_index labels u) ≡ true) same on in
        let here : active_by n v had label ≡ true = ap (λ (x : ℕ). active_by n v x label) eh ∙ (ap (λ (x : ℕ). active_by n v (slice_index excess (v - first)) x) el ∙ there) in
        absurd (false≢true (sym off ∙ (ea ∙ here)))
  ];
}

-- ---- the heads of a node's pushes

pub record GathersHeads (net : FlowNet) (xs : List ℕ) (first end u count : ℕ) (old new : NodeList) : Type 0 where
  -- the list has grown, within the range
  pub extends : Extends first end old new
  -- if it is complete, the heads in the range of the first arcs over which u pushes are listed
  pub heads : new.complete ≡ true → (k : ℕ) → k < count → HeadListed net xs first end new.nodes.items u k

-- of no arcs no head is gathered
pub heads_none : (net : FlowNet) (xs : List ℕ) (first end u : ℕ) (old : NodeList) → GathersHeads net xs first end u 0 old old
heads_none net xs first end u old = record { extends = extends_self first end old; heads = λ h k l. absurd (omega (arith, l)) }

-- a head in the range that is added is gathered
pub heads_on : (net : FlowNet) (xs : List ℕ) (first end u k w : ℕ) (old mid new : NodeList) → w ≡ head net u k → first ≤ w → w < end → Added w mid new
    → GathersHeads net xs first end u k old mid → GathersHeads net xs first end u (k + 1) old new
heads_on net xs first end u k w old mid new ew lo hi added g =
    let more : Extends first end mid new = extends_add first end w mid new lo hi added in
    record {
      extends = extends_then first end old mid new g.extends more;
      heads = λ h j l some low high. elim (cases_lt j k) [
        | inl lt ↦ more.kept h (head net u j) (g.heads (more.complete h) j lt some low high)
        | inr ge ↦ added_here w (head net u j) mid new (ap (head net u) (let e : j ≡ k = omega (arith, l, ge) in e) ∙ sym ew) added h
      ];
    }

-- nothing is pushed over the arc, or its head lies elsewhere
pub heads_off : (net : FlowNet) (xs : List ℕ) (first end u k : ℕ) (old mid : NodeList) → (0 < own net xs u k → first ≤ head net u k → head net u k < end → ⊥)
    → GathersHeads net xs first end u k old mid → GathersHeads net xs first end u (k + 1) old mid
heads_off net xs first end u k old mid none g = record {
  extends = g.extends;
  heads = λ h j l some low high. elim (cases_lt j k) [
    | inl lt ↦ g.heads h j lt some low high
    | inr ge ↦
        let e : j ≡ k = omega (arith, l, ge) in
        absurd (none (subst (λ (i : ℕ). 0 < own net xs u i) e some) (subst (λ (i : ℕ). first ≤ head net u i) e low) (subst (λ (i : ℕ). head net u i < end) e high))
  ];
}

-- ---- the nodes of a list that push

-- what is listed of a node's pushes stays listed in a list that grows
pub pushes_kept : (net : FlowNet) (xs : List ℕ) (first end u : ℕ) (old new : NodeList) → Extends first end old new → new.complete ≡ true
    → PushesListed net xs first end old.nodes.items u → PushesListed net xs first end new.nodes.items u
pushes_kept net xs first end u old new more h p = record {
  here = λ lo hi. more.kept h u (p.here lo hi);
  heads = λ k l some lo hi. more.kept h (head net u k) (p.heads k l some lo hi);
}

pub record GathersPushes (net : FlowNet) (xs : List ℕ) (first end : ℕ) (from : List ℕ) (count : ℕ) (old new : NodeList) : Type 0 where
  -- the list has grown, within the range
  pub extends : Extends first end old new
  -- if it is complete, it has the first nodes and those that they push to, as far as they lie in
  -- the range
  pub listed : new.complete ≡ true → (i : ℕ) → i < count → PushesListed net xs first end new.nodes.items (slice_index from i)

-- of no nodes no push is gathered
pub pushes_none : (net : FlowNet) (xs : List ℕ) (first end : ℕ) (from : List ℕ) (old : NodeList) → GathersPushes net xs first end from 0 old old
pushes_none net xs first end from old = record { extends = extends_self first end old; listed = λ h i l. absurd (omega (arith, l)) }

-- a node whose pushes are listed is gathered
pub pushes_more : (net : FlowNet) (xs : List ℕ) (first end : ℕ) (from : List ℕ) (i u : ℕ) (old mid new : NodeList) → u ≡ slice_index from i → Extends first end mid new
    → (new.complete ≡ true → PushesListed net xs first end new.nodes.items u) → GathersPushes net xs first end from i old mid → GathersPushes net xs first end from (i + 1) old new
pushes_more net xs first end from i u old mid new eu more here g = record {
  extends = extends_then first end old mid new g.extends more;
  listed = λ h j l. elim (cases_lt j i) [
    | inl lt ↦ pushes_kept net xs first end (slice_index from j) mid new more h (g.listed (more.complete h) j lt)
    | inr ge ↦ subst (λ (w : ℕ). PushesListed net xs first end new.nodes.items w) (eu ∙ ap (slice_index from) (let e : i ≡ j = omega (arith, l, ge) in e)) (here h)
  ];
}

-- ---- all parts' lists

pub record GathersParts (net : FlowNet) (all : List PushPart) (first end count : ℕ) (old new : NodeList) : Type 0 where
  -- the list has grown, within the range
  pub extends : Extends first end old new
  -- if it is complete, so are the lists of the first parts
  pub complete : new.complete ≡ true → (j : ℕ) (d : PushPart) → j < count → j < length all → (get_or all j d).pushing.complete ≡ true
  -- if it is complete, it has the nodes of these and those that they push to, as far as they lie in
  -- the range
  pub listed : new.complete ≡ true → (j : ℕ) (d : PushPart) → j < count → j < length all → (i : ℕ) → i < length (get_or all j d).pushing.nodes.items
      → PushesListed net (values_of all) first end new.nodes.items (slice_index (get_or all j d).pushing.nodes.items i)

-- of no parts no push is gathered
pub parts_none : (net : FlowNet) (all : List PushPart) (first end : ℕ) (old : NodeList) → GathersParts net all first end 0 old old
parts_none net all first end old = record {
  extends = extends_self first end old;
  complete = λ h j d l. absurd (omega (arith, l));
  listed = λ h j d l. absurd (omega (arith, l));
}

-- a part of whose listed nodes all pushes are listed is gathered
pub parts_more : (net : FlowNet) (all : List PushPart) (first end i : ℕ) (p : PushPart) (from : List ℕ) (old mid new : NodeList) → i < length all → p ≡ get_or all i p → p.pushing.complete ≡ true → from ≡ p.pushing.nodes.items
    → Extends first end mid new → (new.complete ≡ true → (k : ℕ) → k < length from → PushesListed net (values_of all) first end new.nodes.items (slice_index from k))
    → GathersParts net all first end i old mid → GathersParts net all first end (i + 1) old new
parts_more net all first end i p from old mid new hi ep done ef more here g = record {
  extends = extends_then first end old mid new g.extends more;
  complete = λ h j d l la. elim (cases_lt j i) [
    | inl lt ↦ g.complete (more.complete h) j d lt la
    | inr ge ↦ let e : i ≡ j = omega (arith, l, ge) in subst (λ (q : PushPart). q.pushing.complete ≡ true) (at d j e) done
  ];
  listed = λ h j d l la k hk. elim (cases_lt j i) [
    | inl lt ↦ pushes_kept net (values_of all) first end (slice_index (get_or all j d).pushing.nodes.items k) mid new more h (g.listed (more.complete h) j d lt la k hk)
    | inr ge ↦
        let e : i ≡ j = omega (arith, l, ge) in
        let same : from ≡ (get_or all j d).pushing.nodes.items = ef ∙ ap (λ (q : PushPart). q.pushing.nodes.items) (at d j e) in
        subst (λ (ys : List ℕ). PushesListed net (values_of all) first end new.nodes.items (slice_index ys k)) same (here h k (subst (λ (ys : List ℕ). k < length ys) (sym same) hk))
  ];
}
  where
    at : (d : PushPart) (j : ℕ) → i ≡ j → p ≡ get_or all j d
    at d j e = ep ∙ (get_or_default all i p d hi ∙ ap (λ (x : ℕ). get_or all x d) e)

-- a node that pushes is in its part's list
pub all_listed : (net : FlowNet) (all : List PushPart) (first end : ℕ) (old new : NodeList) → IsFlowNet net → ArePushParts net 0 all → ListPushing net all → GathersParts net all first end (length all) old new
    → new.complete ≡ true → AllPushesListed net (values_of all) first end new.nodes.items
all_listed net all first end old new ok cut lists g h u k un kl some =
    let held : Holds (λ p. p.first) (λ p. p.end) all u = find_part (PushPartFits net) (λ p. p.first) (λ p. p.end) (node_count net) 0 all cut u (omega arith) un in
    at held.index (pick all held.index held.lt) held.lt (held.low (pick all held.index held.lt)) (held.high (pick all held.index held.lt))
  where
    at : (i : ℕ) (d : PushPart) → i < length all → (get_or all i d).first ≤ u → u < (get_or all i d).end → PushesListed net (values_of all) first end new.nodes.items u
    at i d l lo hi =
        let fit : PushPartFits net (get_or all i d) = part_fits (PushPartFits net) (λ p. p.first) (λ p. p.end) (node_count net) 0 all cut i d l in
        let low : start net (get_or all i d).first ≤ start net u = ok.rows (get_or all i d).first u lo (omega (arith, un)) in
        let top : start net (u + 1) ≤ start net (get_or all i d).end = ok.rows (u + 1) (get_or all i d).end (omega (arith, hi)) fit.within in
        let up : start net u ≤ start net (u + 1) = ok.rows u (u + 1) (omega arith) (omega (arith, un)) in
        let value : own net (values_of all) u k ≡ slice_index (get_or all i d).values.items (start net u + k - (get_or all i d).base) =
        whole_at (PushPartFits net) (λ p. p.first) (λ p. p.end) (λ p. p.values.items) (start net) (node_count net) (rising net ok) (push_piece net) 0 all all
        (left_all (PushPartFits net) (λ p. p.first) (λ p. p.end) (λ p. p.values.items) (start net) (node_count net) all (rising net ok) cut) i d l (start net u + k) (omega (arith, low)) (omega (arith, top, kl, up))
        ∙ ap (slice_index (get_or all i d).values.items) (let e : start net u + k - start net (get_or all i d).first ≡ start net u + k - (get_or all i d).base = omega (arith, fit.based) in e) in
        elim ((lists i d l).rest (g.complete h i d l l) u lo hi) [
          | inl listed ↦ subst (λ (w : ℕ). PushesListed net (values_of all) first end new.nodes.items w) listed.there (g.listed h i d l l listed.place listed.inside)
          | inr none ↦ absurd (omega (arith, some, value, none k kl))
        ]

-- parts of the network's pushes list the nodes that push
pub pushing_lists : (net : FlowNet) (all : List PushPart) → ArePushParts net 0 all → ListPushing net all
pushing_lists net all cut i d h = (part_fits (PushPartFits net) (λ p. p.first) (λ p. p.end) (node_count net) 0 all cut i d h).lists

-- the listed nodes of a part are nodes
pub from_nodes : (net : FlowNet) (all : List PushPart) (i : ℕ) (p : PushPart) (from : List ℕ) → ArePushParts net 0 all → ListPushing net all → i < length all → p ≡ get_or all i p → p.pushing.complete ≡ true
    → from ≡ p.pushing.nodes.items → AreWithin 0 (node_count net) from
from_nodes net all i p from cut lists hi ep done ef =
    let fit : PushPartFits net p = subst (λ (q : PushPart). PushPartFits net q) (sym ep) (part_fits (PushPartFits net) (λ q. q.first) (λ q. q.end) (node_count net) 0 all cut i p hi) in
    let listing : ListsPushing net p = subst (λ (q : PushPart). ListsPushing net q) (sym ep) (lists i p hi) in
    subst (λ (ys : List ℕ). AreWithin 0 (node_count net) ys) (sym ef) (λ k l. (omega arith, omega (arith, fit.within, (listing.within done k l).1)))

-- ---- what has nothing to do

-- some value below n isn't 0, or all are
some_below : (n : ℕ) (f : ℕ → ℕ) → ((k : ℕ) × (k < n) × (0 < f k)) ⊎ ((k : ℕ) → k < n → f k ≡ 0)
some_below zero f = inr (λ k l. absurd (omega (arith, l)))
some_below (suc n) f = elim (cases_lt 0 (f n)) [
  | inl some ↦ inl (n, omega arith, some)
  | inr none ↦ elim (some_below n f) [
    | inl found ↦ inl (found.0, omega (arith, found.1), found.2)
    | inr rest ↦ inr (λ k l. elim (cases_lt k n) [
      | inl lt ↦ rest k lt
      | inr ge ↦ let e : k ≡ n = omega (arith, l, ge) in omega (arith, ap f e, none)
    ])
  ]
]

-- a node that pushes or is pushed to is listed, and any other that isn't active is still
pub still_or_listed : (net : FlowNet) (labels xs : List ℕ) (first end : ℕ) (list : List ℕ) (v excess next : ℕ) → IsFlowNet net → AllPushesListed net xs first end list → v < node_count net → first ≤ v → v < end
    → active_by (node_count net) v excess (slice_index labels v) ≡ false → next ≡ slice_index labels v → IsListed list v ⊎ IsStill net labels xs v excess next
still_or_listed net labels xs first end list v excess next ok all vn lo hi off stays = elim (some_below (row_len net v) (own net xs v)) [
  | inl sends ↦ inl ((all v sends.0 vn sends.1 sends.2).here lo hi)
  | inr none ↦ elim (some_below (row_len net v) (back net xs v)) [
    | inl gets ↦
        let m : HasMate net v gets.0 = ok.meets v gets.0 vn gets.1 in
        let wn : head net v gets.0 < node_count net = ok.heads_in v gets.0 vn gets.1 in
        let some : 0 < own net xs (head net v gets.0) m.place = omega (arith, gets.2, ap (slice_index xs) m.arc) in
        inl (subst (λ (w : ℕ). IsListed list w) m.back
        ((all (head net v gets.0) m.place wn m.inside some).heads m.place m.inside some (omega (arith, m.back, lo)) (omega (arith, m.back, hi))))
    | inr quiet ↦ inr record { inactive = off; label = stays; sends = none; gets = quiet }
  ]
]

-- the lists that `gather` makes, one from the other
pub record Gathers (net : FlowNet) (labels xs : List ℕ) (q : FlowPart) (n : ℕ) (es listed : List ℕ) (a b c d : NodeList) : Type 0 where
  -- the first list begins empty
  pub empty : a.nodes.items ≡ []
  -- the second list extends it, within the part
  pub actives : Extends q.first (q.first + length es) a b
  -- if the second is complete, it has each active one of the part's listed nodes
  pub active : b.complete ≡ true → (i : ℕ) → i < length listed → active_by n (slice_index listed i) (slice_index es (slice_index listed i - q.first)) (slice_index labels (slice_index listed i)) ≡ true → IsListed b.nodes.items (slice_index listed i)
  -- the third list extends the second, within the part
  pub more : Extends q.first q.end b c
  -- if the third is complete, it has each node of the part that pushes or is pushed to
  pub pushes : c.complete ≡ true → AllPushesListed net xs q.first q.end c.nodes.items
  -- the fourth list is complete if the third is
  pub same : d.complete ≡ c.complete
  -- the fourth list rises
  pub rising : IsRising d.nodes.items
  -- the fourth list has each node that the third has
  pub kept : (v : ℕ) → IsListed c.nodes.items v → IsListed d.nodes.items v
  -- the fourth list lies in each range in which the third does
  pub within : (first end : ℕ) → AreWithin first end c.nodes.items → AreWithin first end d.nodes.items

-- a list that is gathered so, if it is complete, has each node of the part that isn't still
pub covers_work : (net : FlowNet) (labels xs : List ℕ) (q : FlowPart) (n : ℕ) (es listed : List ℕ) (a b c d : NodeList) → IsFlowNet net → FlowPartFits net q → ListsActive (node_count net) labels q → q.active.complete ≡ true
    → n ≡ node_count net → es ≡ q.excess.items → listed ≡ q.active.nodes.items → Gathers net labels xs q n es listed a b c d → d.complete ≡ true
    → CoversWork net labels xs q.first q.end q.excess.items q.next.items d.nodes.items
covers_work net labels xs q n es listed a b c d ok fit lists done en ee el g h = record {
  within = g.within q.first q.end (g.more.within hc (subst (λ (e : ℕ). AreWithin q.first e b.nodes.items) size (g.actives.within hb (subst (λ (ys : List ℕ). AreWithin q.first (q.first + length es) ys) (sym g.empty) (λ i l. absurd (omega (arith, l)))))));
  rising = g.rising;
  rest = λ v lo hi. elim (lists.rest done v lo hi) [
    | inl at ↦ elim (cases_Bool (active_by (node_count net) v (slice_index q.excess.items (v - q.first)) (slice_index labels v))) [
      | inl on ↦ inl (g.kept v (g.more.kept hc v (subst (λ (w : ℕ). IsListed b.nodes.items w) (there v at) (g.active hb at.place (subst (λ (ys : List ℕ). at.place < length ys) (sym el) at.inside) (here v at on)))))
      | inr off ↦ rest v lo hi off
    ]
    | inr off ↦ rest v lo hi off
  ];
}
  where
    size : q.first + length es ≡ q.end
    size = omega (arith, fit.nodes, ap length ee)

    hc : c.complete ≡ true
    hc = sym g.same ∙ h

    hb : b.complete ≡ true
    hb = g.more.complete hc

    there : (v : ℕ) (at : IsListed q.active.nodes.items v) → slice_index listed at.place ≡ v
    there v at = ap (λ (ys : List ℕ). slice_index ys at.place) el ∙ at.there

    here : (v : ℕ) (at : IsListed q.active.nodes.items v) → active_by (node_count net) v (slice_index q.excess.items (v - q.first)) (slice_index labels v) ≡ true
        → active_by n (slice_index listed at.place) (slice_index es (slice_index listed at.place - q.first)) (slice_index labels (slice_index listed at.place)) ≡ true
    here v at on =
        subst (λ (w : ℕ). active_by n w (slice_index es (w - q.first)) (slice_index labels w) ≡ true) (sym (there v at))
        (subst (λ (m : ℕ). active_by m v (slice_index es (v - q.first)) (slice_index labels v) ≡ true) (sym en)
        (subst (λ (ys : List ℕ). active_by (node_count net) v (slice_index ys (v - q.first)) (slice_index labels v) ≡ true) (sym ee) on))

    rest : (v : ℕ) → q.first ≤ v → v < q.end → active_by (node_count net) v (slice_index q.excess.items (v - q.first)) (slice_index labels v) ≡ false
        → IsListed d.nodes.items v ⊎ IsStill net labels xs v (slice_index q.excess.items (v - q.first)) (slice_index q.next.items (v - q.first))
    rest v lo hi off =
        elim (still_or_listed net labels xs q.first q.end c.nodes.items v (slice_index q.excess.items (v - q.first)) (slice_index q.next.items (v - q.first)) ok (g.pushes hc) (omega (arith, hi, fit.within)) lo hi off (lists.next done v lo hi)) [
          | inl at ↦ inl (g.kept v at)
          | inr still ↦ inr still
        ]
