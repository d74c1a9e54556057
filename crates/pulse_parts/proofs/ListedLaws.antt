-- A walk over a rising list that has all active nodes.
use Rattle.std.proofs.Common.{◌≡◌, ℕ, ◌+◌, ◌<◌, ◌≤◌, Bool, true, false, List, [], length, slice_index, get_or, arith, sym, ap, ◌∙◌, subst, inl, inr}
use Rattle.std.proofs.lemmas.Bool.{cases_Bool, cases_lt, false≢true}
use Rattle.frame_net.specs.FlowNet.{FlowNet, node_count, start, IsFlowNet}
use Rattle.pulse_parts.specs.declared.node_list.NodeList.{NodeList}
use Rattle.pulse_parts.specs.declared.parts.FlowPart.{FlowPart}
use Rattle.pulse_parts.specs.Listing.{IsListed, ListActive, ListsActive, ListsRange, active_by}
use Rattle.pulse_parts.specs.Parts.{AreFlowParts, Cells, cells_of}
use Rattle.pulse_parts.specs.Reading.{CoversActive, RowsAreZero, Walks, WalksActive, cells_active}
use Rattle.pulse_parts.proofs.JoinedPartLaws.{AtPart, at_part}
use Rattle.pulse_parts.proofs.WalkLaws.{walks_none, walks_past, walks_more}

-- the first nodes of the list lie below b, and no others
pub record IsBound (first end : ℕ) (list : List ℕ) (count b : ℕ) : Type 0 where
  -- the bound is no lower than the first node
  pub low : first ≤ b
  -- the bound is no higher than the end
  pub high : b ≤ end
  -- the first nodes of the list lie below it
  pub below : (j : ℕ) → j < count → slice_index list j < b
  -- the other nodes of the list lie from it on
  pub above : (j : ℕ) → count ≤ j → j < length list → b ≤ slice_index list j

-- the first nodes of the list were walked: the active nodes below each bound of them
abbrev pub WalksFirst : FlowNet → List ℕ → ℕ → ℕ → ℕ → Cells → List ℕ → ℕ → List ℕ → List ℕ → NodeList → ℕ → Type 0
WalksFirst net labels base first end c list count old new pushing walked =
    (b : ℕ) → IsBound first end list count b → WalksActive net labels base first b c old new pushing walked

-- a node between two bounds of one count isn't active
off_between : (net : FlowNet) (labels : List ℕ) (c : Cells) (first end : ℕ) (list : List ℕ) (count low high : ℕ) → CoversActive net labels c first end list → first ≤ low → high ≤ end
    → ((j : ℕ) → j < count → slice_index list j < low) → ((j : ℕ) → count ≤ j → j < length list → high ≤ slice_index list j)
    → (v : ℕ) → low ≤ v → v < high → cells_active net labels c v ≡ false
off_between net labels c first end list count low high covers fl he below above v lo hi = elim (cases_Bool (cells_active net labels c v)) [
  | inr off ↦ off
  | inl on ↦
      let at : IsListed list v = covers.all v (omega (arith, fl, lo)) (omega (arith, he, hi)) on in
      absurd (elim (cases_lt at.place count) [
        | inl lt ↦ omega (arith, below at.place lt, at.there, lo)
        | inr ge ↦ omega (arith, above at.place ge at.inside, at.there, hi)
      ])
]

-- of no listed nodes none was walked
pub first_none : (net : FlowNet) (labels : List ℕ) (base first end : ℕ) (c : Cells) (list xs : List ℕ) (pushing : NodeList) (walked : ℕ) → IsFlowNet net → base ≤ start net first → end ≤ node_count net → CoversActive net labels c first end list
    → RowsAreZero net base first end xs → pushing.nodes.items ≡ [] → walked ≡ 0 → WalksFirst net labels base first end c list 0 xs xs pushing walked
first_none net labels base first end c list xs pushing walked ok from en covers none empty nil b is =
    walks_past net labels base first first b end c xs xs pushing walked ok from (omega arith) is.low is.high en none
    (off_between net labels c first end list 0 first b covers (omega arith) is.high (λ j h. absurd (omega (arith, h))) is.above)
    (walks_none net labels base first c xs pushing walked empty nil)

-- the next listed node, walked if it is active and left if it isn't, comes to those before it
pub first_more : (net : FlowNet) (labels : List ℕ) (base first end v i : ℕ) (c : Cells) (list old mid new : List ℕ) (was now : NodeList) (before after : ℕ) → IsFlowNet net → base ≤ start net first → end ≤ node_count net → CoversActive net labels c first end list
    → RowsAreZero net base first end old → i < length list → v ≡ slice_index list i → WalksFirst net labels base first end c list i old mid was before
    → (cells_active net labels c v ≡ true → Walks net labels base v c mid new was now before after)
    → (cells_active net labels c v ≡ false → (new ≡ mid) × ((now ≡ was) × (after ≡ before)))
    → WalksFirst net labels base first end c list (i + 1) old new now after
first_more net labels base first end v i c list old mid new was now before after ok from en covers none il ev w on off b is =
    walks_past net labels base first (v + 1) b end c old new now after ok from (omega (arith, low)) past is.high en none
    (off_between net labels c first end list (i + 1) (v + 1) b covers (omega (arith, low)) is.high under is.above)
    (walks_more net labels base first v end c old mid new was now before after ok from low high en none (w v here) on off)
  where
    low : first ≤ v
    low = omega (arith, ev, (covers.within i il).0)

    high : v < end
    high = omega (arith, ev, (covers.within i il).1)

    past : v + 1 ≤ b
    past = omega (arith, ev, is.below i (omega arith))

    here : IsBound first end list i v
    here = record {
      low = low;
      high = omega (arith, high);
      below = λ j h. omega (arith, ev, covers.rising j i h il);
      above = λ j h l. elim (cases_lt i j) [
        | inl lt ↦ omega (arith, ev, covers.rising i j lt l)
        | inr ge ↦ let same : slice_index list i ≡ slice_index list j = ap (slice_index list) (omega (arith, h, ge)) in omega (arith, ev, same)
      ];
    }

    under : (j : ℕ) → j < i + 1 → slice_index list j < v + 1
    under j h = elim (cases_lt j i) [
      | inl lt ↦ omega (arith, ev, covers.rising j i lt il)
      | inr ge ↦ let same : slice_index list i ≡ slice_index list j = ap (slice_index list) (omega (arith, h, ge)) in omega (arith, ev, same)
    ]

-- past the last listed node all active nodes of the range were walked
pub first_all : (net : FlowNet) (labels : List ℕ) (base first end i : ℕ) (c : Cells) (list old new : List ℕ) (pushing : NodeList) (walked : ℕ) → first ≤ end → CoversActive net labels c first end list → length list ≤ i → i ≤ length list
    → WalksFirst net labels base first end c list i old new pushing walked → WalksActive net labels base first end c old new pushing walked
first_all net labels base first end i c list old new pushing walked fe covers all few w = w end record {
  low = fe;
  high = omega arith;
  below = λ j h. (covers.within j (omega (arith, h, few))).1;
  above = λ j h l. absurd (omega (arith, h, l, all));
}

-- the list of a part of the flow, as the list of a range
pub covers_range : (net : FlowNet) (labels : List ℕ) (qs : List FlowPart) (listed : Bool) (first end i : ℕ) (d : FlowPart) (list : List ℕ) → IsFlowNet net → AreFlowParts net 0 qs → (listed ≡ true → ListActive (node_count net) labels qs)
    → ListsRange qs listed first end i → list ≡ (get_or qs i d).active.nodes.items → CoversActive net labels (cells_of qs) first end list
covers_range net labels qs listed first end i d list ok cut lists r el =
    subst (λ (t : List ℕ). CoversActive net labels (cells_of qs) first end t) (sym el) record {
      within = λ j l. (omega (arith, (a.within (r.complete d) j l).0, r.same_first d), omega (arith, (a.within (r.complete d) j l).1, r.same_end d));
      rising = a.rising (r.complete d);
      all = λ v lo hi on. elim (a.rest (r.complete d) v (omega (arith, lo, r.same_first d)) (omega (arith, hi, r.same_end d))) [
        | inl at ↦ at
        | inr off ↦ absurd (false≢true (sym off ∙ (ap (λ (e : ℕ). active_by (node_count net) v e (slice_index labels v)) (sym (here v lo hi).excess) ∙ on)))
      ];
    }
  where
    a : ListsActive (node_count net) labels (get_or qs i d)
    a = lists r.is_listed i d r.inside

    here : (v : ℕ) → first ≤ v → v < end → AtPart net qs v (get_or qs i d)
    here v lo hi = at_part net qs v i d ok cut r.inside (omega (arith, lo, r.same_first d)) (omega (arith, hi, r.same_end d))
