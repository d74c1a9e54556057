-- Deliveries of a part, node after node.
use Rattle.std.proofs.Common.{◌≡◌, ℕ, ◌+◌, ◌<◌, ◌≤◌, min, max, List, length, slice_index, get_or, refl, arith, ap, sym, ◌∙◌, subst}
use Rattle.std.proofs.lemmas.Grind.{get_or_default_zero}
use Rattle.frame_net.specs.FlowNet.{FlowNet, node_count, start, IsFlowNet}
use Rattle.pulse_parts.specs.declared.parts.FlowPart.{FlowPart}
use Rattle.pulse_parts.specs.Delivering.{KeepsLists, PartDelivered, PartSafe, RangeDelivered, RangeSafe, SameSizes}
use Rattle.pulse_parts.specs.Listing.{HasTurning, SparesTurning}
use Rattle.pulse_parts.specs.Parts.{Cells, FlowPartFits, RangeFits, part_cells}
use Rattle.pulse_parts.specs.Visiting.{ListsWork}
use Rattle.pulse_parts.proofs.PartLaws.{cells_same, given_clamped}
use Rattle.pulse_parts.proofs.DeliveredRangeLaws.{range_then, safe_after}
use Rattle.pulse_parts.proofs.VisitLaws.{Visited, next_at, stills, turning_after, visit_more, visited_all, visited_none}

-- nothing but the cells has changed, and the nodes from low up to high were delivered
pub record Stepped (net : FlowNet) (labels xs : List ℕ) (low high : ℕ) (old new : FlowPart) : Type 0 where
  -- nothing but the cells has changed
  pub same : KeepsLists old new
  -- the nodes of the range were delivered
  pub given : RangeDelivered net labels xs old.base old.first low high (part_cells old) (part_cells new)

-- a part that has only got other cells keeps its first node
pub same_first : (q r : FlowPart) → KeepsLists q r → r.first ≡ q.first
same_first q r same = ap (λ (p : FlowPart). p.first) same

-- a part that has only got other cells keeps its end
pub same_end : (q r : FlowPart) → KeepsLists q r → r.end ≡ q.end
same_end q r same = ap (λ (p : FlowPart). p.end) same

same_base : (q r : FlowPart) → KeepsLists q r → r.base ≡ q.base
same_base q r same = ap (λ (p : FlowPart). p.base) same

-- a part that has only got other cells keeps its spare list
pub same_list : (q r : FlowPart) → KeepsLists q r → r.spare.nodes.items ≡ q.spare.nodes.items
same_list q r same = ap (λ (p : FlowPart). p.spare.nodes.items) same

-- the i-th node of the list, which hasn't changed
pub listed_node : (q m : FlowPart) (i v : ℕ) → KeepsLists q m → i < length q.spare.nodes.items → v ≡ get_or m.spare.nodes.items i v → v ≡ slice_index q.spare.nodes.items i
listed_node q m i v same il e =
    e ∙ (get_or_default_zero m.spare.nodes.items i v (omega (arith, il, ap length (same_list q m same))) ∙ ap (λ (t : List ℕ). slice_index t i) (same_list q m same))

keeps_then : (q m r : FlowPart) → KeepsLists q m → KeepsLists m r → KeepsLists q r
keeps_then q m r one two = two ∙ ap (λ (p : FlowPart). record p { residuals = r.residuals; excess = r.excess; next = r.next }) one

-- a part that has only got other cells is one of the network
pub fits_after : (net : FlowNet) (q r : FlowPart) → KeepsLists q r → SameSizes (part_cells q) (part_cells r) → FlowPartFits net q → FlowPartFits net r
fits_after net q r same sizes fit = record {
  ordered = omega (arith, same_first q r same, same_end q r same, fit.ordered);
  within = omega (arith, same_end q r same, fit.within);
  based = same_base q r same ∙ (fit.based ∙ ap (λ (x : ℕ). start net x) (sym (same_first q r same)));
  sized = omega (arith, sizes.residuals, fit.sized, ap (λ (x : ℕ). start net x) (same_first q r same), ap (λ (x : ℕ). start net x) (same_end q r same));
  nodes = omega (arith, sizes.excess, fit.nodes, same_first q r same, same_end q r same);
  same = omega (arith, sizes.excess, sizes.next, fit.same);
}

-- the cells of a part hold its nodes
part_range : (net : FlowNet) (q : FlowPart) → FlowPartFits net q → RangeFits net q.base q.first q.first q.end (part_cells q)
part_range net q fit = record {
  within = fit.within;
  from_node = omega arith;
  to_node = omega (arith, fit.nodes);
  from_arc = omega (arith, fit.based);
  to_arc = omega (arith, fit.based, fit.sized);
  same = fit.same;
}

-- the cells hold each node of the part
pub node_fits : (net : FlowNet) (q : FlowPart) (v : ℕ) (rs es ns : List ℕ) → IsFlowNet net → FlowPartFits net q → rs ≡ q.residuals.items → es ≡ q.excess.items → ns ≡ q.next.items → q.first ≤ v → v < q.end
    → RangeFits net q.base q.first v (v + 1) (record { residuals = rs; excess = es; next = ns })
node_fits net q v rs es ns ok fit er ee en lo hi =
    let from : start net q.first ≤ start net v = ok.rows q.first v lo (omega (arith, hi, fit.within)) in
    let to : start net (v + 1) ≤ start net q.end = ok.rows (v + 1) q.end (omega (arith, hi)) fit.within in
    record {
      within = omega (arith, hi, fit.within);
      from_node = lo;
      to_node = omega (arith, hi, fit.nodes, ap length ee);
      from_arc = omega (arith, fit.based, from);
      to_arc = omega (arith, fit.based, fit.sized, to, ap length er);
      same = omega (arith, fit.same, ap length ee, ap length en);
    }

-- safe, of the cells of a part
pub cells_safe : (net : FlowNet) (xs : List ℕ) (v : ℕ) (q : FlowPart) (rs es ns : List ℕ) → rs ≡ q.residuals.items → es ≡ q.excess.items → ns ≡ q.next.items → PartSafe net xs v (v + 1) q
    → RangeSafe net xs q.base q.first v (v + 1) (record { residuals = rs; excess = es; next = ns })
cells_safe net xs v q rs es ns er ee en safe =
    subst (λ (m : Cells). RangeSafe net xs q.base q.first v (v + 1) m) (sym (cells_same rs es ns q.residuals.items q.excess.items q.next.items er ee en)) safe

-- ---- a range of nodes

-- a part that can be delivered over a range can be over what of the range it has
pub part_clamped : (net : FlowNet) (xs : List ℕ) (first end low high : ℕ) (q : FlowPart) → low ≡ max first q.first → high ≡ min end q.end → PartSafe net xs first end q → PartSafe net xs low high q
part_clamped net xs first end low high q el eh safe = λ v i s w lo hi. safe v i s w (omega (arith, el, lo)) (omega (arith, eh, hi))

-- over an empty range a part is delivered as it is
pub step_none : (net : FlowNet) (labels xs : List ℕ) (low : ℕ) (q : FlowPart) → Stepped net labels xs low low q q
step_none net labels xs low q = record { same = refl; given = stills net labels xs q.base q.first low low (part_cells q) (λ v lo hi. absurd (omega (arith, lo, hi))) }

given_from : (net : FlowNet) (labels xs : List ℕ) (low high : ℕ) (q m r : FlowPart) → KeepsLists q m → PartDelivered net labels xs low high m r
    → RangeDelivered net labels xs q.base q.first low high (part_cells m) (part_cells r)
given_from net labels xs low high q m r same d =
    subst (λ (b : ℕ). RangeDelivered net labels xs b q.first low high (part_cells m) (part_cells r)) (same_base q m same)
    (subst (λ (f : ℕ). RangeDelivered net labels xs m.base f low high (part_cells m) (part_cells r)) (same_first q m same) d.given)

-- with the next node delivered, the range has one node more
pub step_more : (net : FlowNet) (labels xs : List ℕ) (low v : ℕ) (q m r : FlowPart) → low ≤ v → Stepped net labels xs low v q m → KeepsLists m r → PartDelivered net labels xs v (v + 1) m r
    → Stepped net labels xs low (v + 1) q r
step_more net labels xs low v q m r lv s k d = record {
  same = keeps_then q m r s.same k;
  given = range_then net labels xs q.base q.first low v (v + 1) (part_cells q) (part_cells m) (part_cells r) lv (omega arith) s.given (given_from net labels xs v (v + 1) q m r s.same d);
}

-- the next node can be delivered after those before it
pub step_safe : (net : FlowNet) (labels xs : List ℕ) (low high v : ℕ) (q m : FlowPart) → low ≤ v → v < high → PartSafe net xs low high q → Stepped net labels xs low v q m → PartSafe net xs v (v + 1) m
step_safe net labels xs low high v q m lv vh safe s =
    subst (λ (b : ℕ). RangeSafe net xs b m.first v (v + 1) (part_cells m)) (sym (same_base q m s.same))
    (subst (λ (f : ℕ). RangeSafe net xs q.base f v (v + 1) (part_cells m)) (sym (same_first q m s.same))
    (safe_after net labels xs q.base q.first low high v (part_cells q) (part_cells m) lv vh safe s.given))

-- a part delivered over what it has of a range is delivered over the range
pub step_clamped : (net : FlowNet) (labels xs : List ℕ) (first end low high : ℕ) (q r : FlowPart) → FlowPartFits net q → low ≡ max first q.first → high ≡ min end q.end → Stepped net labels xs low high q r
    → PartDelivered net labels xs first end q r
step_clamped net labels xs first end low high q r fit el eh s = record {
  same_worker = ap (λ (p : FlowPart). p.worker) s.same;
  same_first = same_first q r s.same;
  same_end = same_end q r s.same;
  same_base = same_base q r s.same;
  given = given_clamped net labels xs q.base q.first q.end first end (part_cells q) (part_cells r) fit.nodes
      (subst (λ (x : ℕ). RangeDelivered net labels xs q.base q.first x (min end q.end) (part_cells q) (part_cells r)) el
      (subst (λ (x : ℕ). RangeDelivered net labels xs q.base q.first low x (part_cells q) (part_cells r)) eh s.given));
}

-- ---- the nodes of the spare list

-- nothing but the cells has changed, and the first nodes of the list were visited
pub record PartVisited (net : FlowNet) (labels xs : List ℕ) (count : ℕ) (old new : FlowPart) : Type 0 where
  -- nothing but the cells has changed
  pub same : KeepsLists old new
  -- the first nodes of the spare list were visited
  pub visited : Visited net labels xs old.base old.first old.end old.spare.nodes.items count (part_cells old) (part_cells new)

-- before the first node of the list none was visited
pub part_visited_none : (net : FlowNet) (labels xs : List ℕ) (q : FlowPart) → FlowPartFits net q → ListsWork net labels xs q → PartVisited net labels xs 0 q q
part_visited_none net labels xs q fit work = record {
  same = refl;
  visited = visited_none net labels xs q.base q.first q.end q.spare.nodes.items (part_cells q) fit.ordered work.within;
}

-- the nodes below the next one of the list were delivered
pub part_next_at : (net : FlowNet) (labels xs : List ℕ) (i v : ℕ) (q m : FlowPart) → IsFlowNet net → FlowPartFits net q → ListsWork net labels xs q → i < length q.spare.nodes.items
    → v ≡ slice_index q.spare.nodes.items i → PartVisited net labels xs i q m → Stepped net labels xs q.first v q m
part_next_at net labels xs i v q m ok fit work il ev t = record {
  same = t.same;
  given = next_at net labels xs q.base q.first q.end q.spare.nodes.items i v (part_cells q) (part_cells m) ok (part_range net q fit) work il ev t.visited;
}

-- a listed node that is delivered next was visited
pub part_visit_more : (net : FlowNet) (labels xs : List ℕ) (i v : ℕ) (q m r : FlowPart) → IsFlowNet net → FlowPartFits net q → ListsWork net labels xs q → i < length q.spare.nodes.items
    → v ≡ slice_index q.spare.nodes.items i → PartVisited net labels xs i q m → KeepsLists m r → PartDelivered net labels xs v (v + 1) m r → PartVisited net labels xs (i + 1) q r
part_visit_more net labels xs i v q m r ok fit work il ev t k d = record {
  same = keeps_then q m r t.same k;
  visited = visit_more net labels xs q.base q.first q.end q.spare.nodes.items i v (part_cells q) (part_cells m) (part_cells r) ok (part_range net q fit) work il ev t.visited
      (given_from net labels xs v (v + 1) q m r t.same d);
}

-- past the last node of the list all nodes of the part were delivered
pub part_visited_all : (net : FlowNet) (labels xs : List ℕ) (count : ℕ) (q r : FlowPart) → IsFlowNet net → FlowPartFits net q → ListsWork net labels xs q → count ≡ length q.spare.nodes.items
    → PartVisited net labels xs count q r → Stepped net labels xs q.first q.end q r
part_visited_all net labels xs count q r ok fit work all t = record {
  same = t.same;
  given = visited_all net labels xs q.base q.first q.end q.spare.nodes.items count (part_cells q) (part_cells r) ok (part_range net q fit) work all t.visited;
}

-- the list after the visits
pub part_turning : (net : FlowNet) (labels xs : List ℕ) (q r : FlowPart) → IsFlowNet net → FlowPartFits net q → ListsWork net labels xs q → Stepped net labels xs q.first q.end q r
    → SparesTurning (node_count net) labels r
part_turning net labels xs q r ok fit work s =
    subst (λ (x : ℕ). HasTurning (node_count net) labels x r.end r.excess.items r.next.items r.spare.nodes.items) (sym (same_first q r s.same))
    (subst (λ (x : ℕ). HasTurning (node_count net) labels q.first x r.excess.items r.next.items r.spare.nodes.items) (sym (same_end q r s.same))
    (subst (λ (t : List ℕ). HasTurning (node_count net) labels q.first q.end r.excess.items r.next.items t) (sym (same_list q r s.same))
    (turning_after net labels xs q.base q.first q.end q.spare.nodes.items (part_cells q) (part_cells r) ok (part_range net q fit) work s.given)))
