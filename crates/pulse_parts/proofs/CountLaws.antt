-- Counts of rows walked: over ranges end to end, and over those nodes of a part that lie in a
-- range.
use Rattle.std.proofs.Common.{◌≡◌, ℕ, List, ◌-◌, ◌<◌, ◌≤◌, min, max, cond, arith, refl, ap}
use Rattle.frame_net.proofs.SumLaws.{sum_below-mono}
use Rattle.frame_net.specs.FlowNet.{FlowNet}
use Rattle.pulse_parts.specs.declared.parts.PushPart.{PushPart}
use Rattle.pulse_parts.specs.Parts.{Cells, PushPartFits}
use Rattle.pulse_parts.specs.Reading.{IsCountedOn, PartReadOn, active_below, active_from, cells_active, clamped}

-- of more nodes no fewer are active
pub active_rising : (net : FlowNet) (labels : List ℕ) (c : Cells) (low high : ℕ) → low ≤ high → active_below net labels c low ≤ active_below net labels c high
active_rising net labels c low high le = sum_below-mono low high (λ u. cond (cells_active net labels c u) 1 0) le

-- counts over two ranges end to end are a count over both
pub counted_then : (net : FlowNet) (labels : List ℕ) (c : Cells) (low mid high a b d : ℕ) → low ≤ mid → mid ≤ high → IsCountedOn a (active_from net labels c low mid) b → IsCountedOn b (active_from net labels c mid high) d
    → IsCountedOn a (active_from net labels c low high) d
counted_then net labels c low mid high a b d lm mh p q = omega (arith, p, q, active_rising net labels c low mid lm, active_rising net labels c mid high mh)

-- the nodes of a part that lie in a range are counted if the range is cut down to the part's nodes
pub counted_in_part : (net : FlowNet) (labels : List ℕ) (c : Cells) (first end low high : ℕ) (p : PushPart) (walked : ℕ) → low ≡ max first p.first → high ≡ min end p.end → low < high
    → IsCountedOn p.walked (active_from net labels c low high) walked
    → IsCountedOn p.walked (active_from net labels c (clamped first end p.first) (clamped first end p.end)) walked
counted_in_part net labels c first end low high p walked el eh some counted =
    let from : clamped first end p.first ≡ low = omega (arith, el, eh, some) in
    let to : clamped first end p.end ≡ high = omega (arith, el, eh, some) in
    omega (arith, counted, ap (active_below net labels c) from, ap (active_below net labels c) to)

-- a part with no node in the range
pub part_unread : (net : FlowNet) (labels : List ℕ) (first end low high : ℕ) (c : Cells) (p : PushPart) → PushPartFits net p → low ≡ max first p.first → high ≡ min end p.end → high ≤ low
    → PartReadOn net labels first end c p p
part_unread net labels first end low high c p fit el eh none = record {
  is_read = record {
    same_worker = refl;
    same_first = refl;
    same_end = refl;
    same_base = refl;
    same_size = refl;
    lists = fit.lists;
    done = λ v k fv ve lo hi l. absurd (omega (arith, el, eh, none));
    kept = λ v k out lo hi l. refl;
  };
  walked =
      let same : clamped first end p.first ≡ clamped first end p.end = omega (arith, el, eh, none, fit.ordered) in
      omega (arith, ap (active_below net labels c) same);
}
