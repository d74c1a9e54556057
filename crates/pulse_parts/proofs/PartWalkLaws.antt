-- Reads of a part, node after node.
use Rattle.std.proofs.Common.{◌≡◌, ℕ, ◌+◌, ◌-◌, ◌<◌, ◌≤◌, ◌⊎◌, min, max, true, false, List, [], length, slice_index, refl, arith, ap, sym, ◌∙◌, subst, inl, inr}
use Rattle.std.specs.Vec.{with_items}
use Rattle.std.proofs.lemmas.Bool.{cases_Bool, false≢true}
use Rattle.std.proofs.lemmas.List.{with_items_is}
use Rattle.frame_net.specs.FlowNet.{FlowNet, start, row_len, IsFlowNet}
use Rattle.pulse_parts.specs.declared.node_list.NodeList.{NodeList}
use Rattle.pulse_parts.specs.declared.parts.PushPart.{PushPart}
use Rattle.pulse_parts.specs.Parts.{Cells, HasRow, KeepsNodes, PushPartFits}
use Rattle.pulse_parts.specs.Reading.{CoversActive, HoldsZeros, IsCountedOn, PartReadOn, PartWalks, RowsRead, Walks, WalksActive, active_from, cells_active}
use Rattle.pulse_parts.proofs.CountLaws.{counted_in_part, counted_then}
use Rattle.pulse_parts.proofs.ListedLaws.{WalksFirst, first_all, first_more, first_none}
use Rattle.pulse_parts.proofs.ReadRangeLaws.{read_none, read_then}
use Rattle.pulse_parts.proofs.WalkLaws.{walks_none, walks_more}

-- a part that has only got other pushes keeps the base of its rows
pub same_base : (p r : PushPart) → KeepsNodes p r → r.base ≡ p.base
same_base p r same = ap (λ (q : PushPart). q.base) same

-- a part that has twice only got other pushes has only got other pushes
pub keeps_then : (p m r : PushPart) → KeepsNodes p m → KeepsNodes m r → KeepsNodes p r
keeps_then p m r one two = two ∙ ap (λ (q : PushPart). record q { values = r.values; pushing = r.pushing; walked = r.walked }) one

-- a part has room for the rows of its nodes
pub has_row : (net : FlowNet) (v : ℕ) (p r : PushPart) → IsFlowNet net → PushPartFits net p → KeepsNodes p r → length r.values.items ≡ length p.values.items → p.first ≤ v → v < p.end → HasRow net v r
has_row net v p r ok fit same sized lo hi = record {
  from = omega (arith, same_base p r same, fit.based, ok.rows p.first v lo (omega (arith, hi, fit.within)));
  to = omega (arith, same_base p r same, sized, fit.based, fit.sized, ok.rows (v + 1) p.end (omega (arith, hi)) fit.within);
}

-- ---- the nodes from low up to high

-- nothing but the pushes of a part has changed, its list isn't complete, and the nodes from low up
-- to high were read and counted
pub record PartReads (net : FlowNet) (labels : List ℕ) (low high : ℕ) (c : Cells) (old new : PushPart) : Type 0 where
  -- nothing but the pushes, and what was noted of them, has changed
  pub same : KeepsNodes old new
  -- its list isn't complete
  pub open_list : new.pushing.complete ≡ false
  -- the rows of the range are what Read writes
  pub rows : RowsRead net labels old.base low high c old.values.items new.values.items
  -- the rows walked were counted on by the active nodes of the range
  pub counted : IsCountedOn old.walked (active_from net labels c low high) new.walked

-- over an empty range a part is read as it is, but for an incomplete list
pub reads_none : (net : FlowNet) (labels : List ℕ) (low : ℕ) (c : Cells) (p : PushPart) (list : NodeList) → list.complete ≡ false → PartReads net labels low low c p (record p { pushing = list })
reads_none net labels low c p list off = record { same = refl; open_list = off; rows = read_none net labels p.base low c p.values.items; counted = omega arith }

-- with the next node read and counted, the range has one node more
pub reads_more : (net : FlowNet) (labels : List ℕ) (low v : ℕ) (c : Cells) (p m : PushPart) (was ws : List ℕ) (walked : ℕ) → IsFlowNet net → PushPartFits net p → p.first ≤ low → low ≤ v → v < p.end
    → PartReads net labels low v c p m → was ≡ m.values.items → length ws ≡ m.values.len → RowsRead net labels m.base v (v + 1) c was ws
    → IsCountedOn m.walked (active_from net labels c v (v + 1)) walked → PartReads net labels low (v + 1) c p (record m { values = with_items m.values ws; walked = walked })
reads_more net labels low v c p m was ws walked ok fit fl lv ve w ew len row count = record {
  same = keeps_then p m (record m { values = with_items m.values ws; walked = walked }) w.same refl;
  open_list = w.open_list;
  rows = read_then net labels p.base low v (v + 1) c p.values.items m.values.items (with_items m.values ws).items ok (omega (arith, fit.based, ok.rows p.first low fl (omega (arith, lv, ve, fit.within)))) lv (omega arith)
      (omega (arith, ve, fit.within)) w.rows (subst (λ (b : ℕ). RowsRead net labels b v (v + 1) c m.values.items (with_items m.values ws).items) (same_base p m w.same) put);
  counted = counted_then net labels c low v (v + 1) p.walked m.walked walked lv (omega arith) w.counted count;
}
  where
    put : RowsRead net labels m.base v (v + 1) c m.values.items (with_items m.values ws).items
    put = subst (λ (xs : List ℕ). RowsRead net labels m.base v (v + 1) c m.values.items xs) (sym (with_items_is m.values ws len)) (subst (λ (xs : List ℕ). RowsRead net labels m.base v (v + 1) c xs ws) ew row)

-- a part read over what it has of a range is read over the range
pub part_read : (net : FlowNet) (labels : List ℕ) (first end low high : ℕ) (c : Cells) (p r : PushPart) → IsFlowNet net → PushPartFits net p → low ≡ max first p.first → high ≡ min end p.end → low < high
    → PartReads net labels low high c p r → PartReadOn net labels first end c p r
part_read net labels first end low high c p r ok fit el eh some w = record {
  is_read = record {
    same_worker = ap (λ (q : PushPart). q.worker) w.same;
    same_first = ap (λ (q : PushPart). q.first) w.same;
    same_end = ap (λ (q : PushPart). q.end) w.same;
    same_base = same_base p r w.same;
    same_size = w.rows.same;
    lists = record { within = λ h. absurd (false≢true (sym w.open_list ∙ h)); rest = λ h. absurd (false≢true (sym w.open_list ∙ h)) };
    done = λ v k fv ve lo hi l. w.rows.done v k (omega arith) (omega arith) l;
    kept = λ v k out lo hi l. w.rows.kept (start net v + k - p.base) (apart v k out lo hi l);
  };
  walked = counted_in_part net labels c first end low high p r.walked el eh some w.counted;
}
  where
    apart : (v k : ℕ) → (v < first) ⊎ (end ≤ v) → p.first ≤ v → v < p.end → k < row_len net v
        → (p.base + (start net v + k - p.base) < start net low) ⊎ (start net high ≤ p.base + (start net v + k - p.base))
    apart v k out lo hi l =
        let from : start net p.first ≤ start net v = ok.rows p.first v lo (omega (arith, fit.within)) in
        elim out [
          | inl lt ↦ inl (omega (arith, fit.based, from, ok.rows (v + 1) low (omega arith) (omega (arith, fit.within))))
          | inr ge ↦ inr (omega (arith, fit.based, from, ok.rows high v (omega arith) (omega (arith, fit.within))))
        ]

-- ---- all active nodes

-- from rows of 0s the active nodes of a part below `high` were walked
pub record PartWalked (net : FlowNet) (labels : List ℕ) (c : Cells) (high : ℕ) (old new : PushPart) : Type 0 where
  -- nothing but the pushes, and what was noted of them, has changed
  pub same : KeepsNodes old new
  -- from rows of 0s the active nodes of the range were walked
  pub active : WalksActive net labels old.base old.first high c old.values.items new.values.items new.pushing new.walked

-- before the first node of a part none was walked
pub walked_none : (net : FlowNet) (labels : List ℕ) (c : Cells) (p : PushPart) (list : NodeList) → list.nodes.items ≡ [] → PartWalked net labels c p.first p (record p { pushing = list; walked = 0 })
walked_none net labels c p list empty = record { same = refl; active = walks_none net labels p.base p.first c p.values.items list 0 empty refl }

at_base : (net : FlowNet) (labels : List ℕ) (c : Cells) (v : ℕ) (p m r : PushPart) → KeepsNodes p m → PartWalks net labels v c m r
    → Walks net labels p.base v c m.values.items r.values.items m.pushing r.pushing m.walked r.walked
at_base net labels c v p m r same w = subst (λ (b : ℕ). Walks net labels b v c m.values.items r.values.items m.pushing r.pushing m.walked r.walked) (same_base p m same) w

as_it_was : (m r : PushPart) → r ≡ m → (r.values.items ≡ m.values.items) × ((r.pushing ≡ m.pushing) × (r.walked ≡ m.walked))
as_it_was m r e = (ap (λ (q : PushPart). q.values.items) e, (ap (λ (q : PushPart). q.pushing) e, ap (λ (q : PushPart). q.walked) e))

-- the next node, walked if it is active and left if it isn't, comes to those before it
pub walked_more : (net : FlowNet) (labels : List ℕ) (c : Cells) (v : ℕ) (p m r : PushPart) → IsFlowNet net → PushPartFits net p → HoldsZeros net p → p.first ≤ v → v < p.end
    → PartWalked net labels c v p m → KeepsNodes m r → (cells_active net labels c v ≡ true → PartWalks net labels v c m r) → (cells_active net labels c v ≡ false → r ≡ m)
    → PartWalked net labels c (v + 1) p r
walked_more net labels c v p m r ok fit zero lo hi w same on off = record {
  same = keeps_then p m r w.same same;
  active = walks_more net labels p.base p.first v p.end c p.values.items m.values.items r.values.items m.pushing r.pushing m.walked r.walked ok (omega (arith, fit.based)) lo hi fit.within zero w.active
      (λ a. at_base net labels c v p m r w.same (on a)) (λ i. as_it_was m r (off i));
}

-- ---- the listed nodes

-- from rows of 0s the first nodes of a list were walked
pub record PartListed (net : FlowNet) (labels : List ℕ) (c : Cells) (list : List ℕ) (count : ℕ) (old new : PushPart) : Type 0 where
  -- nothing but the pushes, and what was noted of them, has changed
  pub same : KeepsNodes old new
  -- there are as many pushes
  pub sized : length new.values.items ≡ length old.values.items
  -- the first nodes of the list were walked
  pub first : WalksFirst net labels old.base old.first old.end c list count old.values.items new.values.items new.pushing new.walked

-- before the first node of the list none was walked
pub listed_none : (net : FlowNet) (labels : List ℕ) (c : Cells) (list : List ℕ) (p : PushPart) (pushing : NodeList) → IsFlowNet net → PushPartFits net p → CoversActive net labels c p.first p.end list
    → HoldsZeros net p → pushing.nodes.items ≡ [] → PartListed net labels c list 0 p (record p { pushing = pushing; walked = 0 })
listed_none net labels c list p pushing ok fit covers zero empty = record {
  same = refl;
  sized = refl;
  first = first_none net labels p.base p.first p.end c list p.values.items pushing 0 ok (omega (arith, fit.based)) fit.within covers zero empty refl;
}

-- the next listed node, walked if it is active and left if it isn't, comes to those before it
pub listed_more : (net : FlowNet) (labels : List ℕ) (c : Cells) (list : List ℕ) (i v : ℕ) (p m r : PushPart) → IsFlowNet net → PushPartFits net p → CoversActive net labels c p.first p.end list → HoldsZeros net p
    → i < length list → v ≡ slice_index list i → PartListed net labels c list i p m → KeepsNodes m r
    → (cells_active net labels c v ≡ true → PartWalks net labels v c m r) → (cells_active net labels c v ≡ false → r ≡ m) → PartListed net labels c list (i + 1) p r
listed_more net labels c list i v p m r ok fit covers zero il ev w same on off = record {
  same = keeps_then p m r w.same same;
  sized = elim (cases_Bool (cells_active net labels c v)) [
    | inl a ↦ (on a).row.same ∙ w.sized
    | inr n ↦ ap (λ (q : PushPart). length q.values.items) (off n) ∙ w.sized
  ];
  first = first_more net labels p.base p.first p.end v i c list p.values.items m.values.items r.values.items m.pushing r.pushing m.walked r.walked ok (omega (arith, fit.based)) fit.within covers zero il ev w.first
      (λ a. at_base net labels c v p m r w.same (on a)) (λ n. as_it_was m r (off n));
}

-- past the last listed node all active nodes of the part were walked
pub listed_all : (net : FlowNet) (labels : List ℕ) (c : Cells) (list : List ℕ) (i : ℕ) (p r : PushPart) → PushPartFits net p → CoversActive net labels c p.first p.end list → length list ≤ i → i ≤ length list
    → PartListed net labels c list i p r → PartWalked net labels c p.end p r
listed_all net labels c list i p r fit covers all few w = record {
  same = w.same;
  active = first_all net labels p.base p.first p.end i c list p.values.items r.values.items r.pushing r.walked fit.ordered covers all few w.first;
}
