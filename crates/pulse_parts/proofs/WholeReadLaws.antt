-- Reads of each part are a read of the whole.
use Rattle.std.proofs.Common.{◌≡◌, ℕ, suc, ◌+◌, ◌-◌, ◌<◌, ◌≤◌, List, [], ◌∷◌, length, slice_index, get_or, arith, ap, sym, ◌∙◌, subst, ◌⊎◌}
use Rattle.frame_net.specs.FlowNet.{FlowNet, node_count, start, row_len, IsFlowNet}
use Rattle.pulse_parts.specs.declared.parts.PushPart.{PushPart}
use Rattle.pulse_parts.specs.Parts.{Cells, PushPartFits, ArePushParts, rows_walked, values_of}
use Rattle.pulse_parts.specs.Reading.{IsCountedOn, PartRead, PartReadOn, PartsRead, PartsReadOn, WholeRead, WholesRead, active_below, active_from, cells_push, clamped}
use Rattle.pulse_parts.specs.Delivering.{own}
use Rattle.pulse_parts.proofs.PartsLeftLaws.{left_all, Holds, find_part, part_fits, whole_at}
use Rattle.pulse_parts.proofs.PushPartLaws.{rising, push_piece}
use Rattle.pulse_parts.proofs.JoinedPartLaws.{pick}
use Rattle.pulse_parts.proofs.CountLaws.{active_rising}

fits_read : (net : FlowNet) (labels : List ℕ) (first end : ℕ) (c : Cells) (p r : PushPart) → PushPartFits net p → PartRead net labels first end c p r → PushPartFits net r
fits_read net labels first end c p r fit g = record {
  ordered = omega (arith, g.same_first, g.same_end, fit.ordered);
  within = omega (arith, g.same_end, fit.within);
  based = g.same_base ∙ (fit.based ∙ ap (λ (x : ℕ). start net x) (sym g.same_first));
  sized = omega (arith, g.same_size, fit.sized, ap (λ (x : ℕ). start net x) g.same_first, ap (λ (x : ℕ). start net x) g.same_end);
  lists = g.lists;
}

-- after a read the parts of pushes still hold the network's rows, end to end
pub cut_after_read : (net : FlowNet) (labels : List ℕ) (first end v : ℕ) (c : Cells) (ps rs : List PushPart) → ArePushParts net v ps → length rs ≡ length ps → PartsRead net labels first end c ps rs → ArePushParts net v rs
cut_after_read net labels first end v c [] [] cut len g = cut
cut_after_read net labels first end v c [] (r ∷ rs) cut len g = absurd (omega (arith, len))
cut_after_read net labels first end v c (p ∷ ps) [] cut len g = absurd (omega (arith, len))
cut_after_read net labels first end v c (p ∷ ps) (r ∷ rs) cut len g =
    let one : PartRead net labels first end c p r = g 0 p (omega arith) in (
      one.same_first ∙ cut.0,
      (
        fits_read net labels first end c p r cut.1.0 one,
        subst (λ (x : ℕ). ArePushParts net x rs) (sym one.same_end) (cut_after_read net labels first end p.end c ps rs cut.1.1 (omega (arith, len)) (λ i d h. g (suc i) d (omega arith))),
      ),
    )

-- the row of pushes of node v, in the part that holds it and in the whole
pub row_at : (net : FlowNet) (ps : List PushPart) (v k i : ℕ) (e : PushPart) → IsFlowNet net → ArePushParts net 0 ps → i < length ps → (get_or ps i e).first ≤ v → v < (get_or ps i e).end → k < row_len net v
    → own net (values_of ps) v k ≡ slice_index (get_or ps i e).values.items (start net v + k - (get_or ps i e).base)
row_at net ps v k i e ok cut h lo hi kl =
    let fit : PushPartFits net (get_or ps i e) = part_fits (PushPartFits net) (λ p. p.first) (λ p. p.end) (node_count net) 0 ps cut i e h in
    let low : start net (get_or ps i e).first ≤ start net v = ok.rows (get_or ps i e).first v lo (omega (arith, fit.within)) in
    let top : start net (v + 1) ≤ start net (get_or ps i e).end = ok.rows (v + 1) (get_or ps i e).end (omega (arith, hi)) fit.within in
    whole_at (PushPartFits net) (λ p. p.first) (λ p. p.end) (λ p. p.values.items) (start net) (node_count net) (rising net ok) (push_piece net) 0 ps ps
    (left_all (PushPartFits net) (λ p. p.first) (λ p. p.end) (λ p. p.values.items) (start net) (node_count net) ps (rising net ok) cut) i e h (start net v + k) (omega (arith, low)) (omega (arith, top, kl))
    ∙ ap (λ (x : ℕ). slice_index (get_or ps i e).values.items x) (let q : start net v + k - start net (get_or ps i e).first ≡ start net v + k - (get_or ps i e).base = omega (arith, fit.based) in q)

-- the row once the part was read
row_after : (net : FlowNet) (labels : List ℕ) (first end : ℕ) (c : Cells) (ps rs : List PushPart) (v k i : ℕ) (e : PushPart) → IsFlowNet net → ArePushParts net 0 ps → length rs ≡ length ps
    → PartsRead net labels first end c ps rs → i < length ps → (get_or ps i e).first ≤ v → v < (get_or ps i e).end → k < row_len net v
    → own net (values_of rs) v k ≡ slice_index (get_or rs i e).values.items (start net v + k - (get_or ps i e).base)
row_after net labels first end c ps rs v k i e ok cut len reads h lo hi kl =
    let g : PartRead net labels first end c (get_or ps i e) (get_or rs i e) = reads i e h in
    row_at net rs v k i e ok (cut_after_read net labels first end 0 c ps rs cut len reads) (omega (arith, h, len)) (omega (arith, g.same_first, lo)) (omega (arith, g.same_end, hi)) kl
    ∙ ap (λ (x : ℕ). slice_index (get_or rs i e).values.items (start net v + k - x)) g.same_base

-- a node of the range that the parts read has in the whole the row that Read writes
pub whole_read : (net : FlowNet) (labels : List ℕ) (first end : ℕ) (c : Cells) (ps rs : List PushPart) → IsFlowNet net → ArePushParts net 0 ps → length rs ≡ length ps → PartsRead net labels first end c ps rs
    → (v k : ℕ) → v < node_count net → first ≤ v → v < end → k < row_len net v → own net (values_of rs) v k ≡ cells_push net labels c v k
whole_read net labels first end c ps rs ok cut len reads v k vn fv ve kl =
    let h : Holds (λ p. p.first) (λ p. p.end) ps v = find_part (PushPartFits net) (λ p. p.first) (λ p. p.end) (node_count net) 0 ps cut v (omega arith) vn in
    let e : PushPart = pick ps h.index h.lt in
    row_after net labels first end c ps rs v k h.index e ok cut len reads h.lt (h.low e) (h.high e) kl
    ∙ (reads h.index e h.lt).done v k fv ve (h.low e) (h.high e) kl

-- the rows of other nodes are as they were
pub whole_unread : (net : FlowNet) (labels : List ℕ) (first end : ℕ) (c : Cells) (ps rs : List PushPart) → IsFlowNet net → ArePushParts net 0 ps → length rs ≡ length ps → PartsRead net labels first end c ps rs
    → (v k : ℕ) → v < node_count net → (v < first) ⊎ (end ≤ v) → k < row_len net v → own net (values_of rs) v k ≡ own net (values_of ps) v k
whole_unread net labels first end c ps rs ok cut len reads v k vn out kl =
    let h : Holds (λ p. p.first) (λ p. p.end) ps v = find_part (PushPartFits net) (λ p. p.first) (λ p. p.end) (node_count net) 0 ps cut v (omega arith) vn in
    let e : PushPart = pick ps h.index h.lt in
    row_after net labels first end c ps rs v k h.index e ok cut len reads h.lt (h.low e) (h.high e) kl
    ∙ ((reads h.index e h.lt).kept v k out (h.low e) (h.high e) kl ∙ sym (row_at net ps v k h.index e ok cut h.lt (h.low e) (h.high e) kl))

-- ---- Read of a range, counted

-- parts that were read and counted on were read
pub parts_read : (net : FlowNet) (labels : List ℕ) (first end : ℕ) (c : Cells) (ps rs : List PushPart) → PartsReadOn net labels first end c ps rs → PartsRead net labels first end c ps rs
parts_read net labels first end c ps rs reads = λ i e h. (reads i e h).is_read

-- the parts' counts of rows walked go on by the active nodes of the range that the parts hold,
-- which begin at node v
parts_walked : (net : FlowNet) (labels : List ℕ) (first end v : ℕ) (c : Cells) (ps rs : List PushPart) → ArePushParts net v ps → length rs ≡ length ps → PartsReadOn net labels first end c ps rs
    → IsCountedOn (rows_walked ps) (active_from net labels c (clamped first end v) (clamped first end (node_count net))) (rows_walked rs)
parts_walked net labels first end v c [] [] cut len reads = let e : active_below net labels c (clamped first end v) ≡ active_below net labels c (clamped first end (node_count net)) = ap (λ (x : ℕ). active_below net labels c (clamped first end x)) cut in omega (arith, e)
parts_walked net labels first end v c [] (r ∷ rs) cut len reads = absurd (omega (arith, len))
parts_walked net labels first end v c (p ∷ ps) [] cut len reads = absurd (omega (arith, len))
parts_walked net labels first end v c (p ∷ ps) (r ∷ rs) cut len reads =
    let one : PartReadOn net labels first end c p r = reads 0 p (omega arith) in
    let rest = parts_walked net labels first end p.end c ps rs cut.1.1 (omega (arith, len)) (λ i e h. reads (suc i) e (omega arith)) in
    let here : active_below net labels c (clamped first end p.first) ≡ active_below net labels c (clamped first end v) = ap (λ (x : ℕ). active_below net labels c (clamped first end x)) cut.0 in
    let up = active_rising net labels c (clamped first end p.first) (clamped first end p.end) (omega (arith, cut.1.0.ordered)) in
    let on = active_rising net labels c (clamped first end p.end) (clamped first end (node_count net)) (omega (arith, cut.1.0.within)) in
    omega (arith, one.walked, rest, here, up, on)

-- the rows walked were counted on by the active nodes of the range
pub range_walked : (net : FlowNet) (labels : List ℕ) (first end : ℕ) (c : Cells) (ps rs : List PushPart) → ArePushParts net 0 ps → length rs ≡ length ps → first ≤ end → end ≤ node_count net
    → PartsReadOn net labels first end c ps rs → IsCountedOn (rows_walked ps) (active_from net labels c first end) (rows_walked rs)
range_walked net labels first end c ps rs cut len ordered within reads =
    let low : clamped first end 0 ≡ first = omega (arith, ordered) in
    let high : clamped first end (node_count net) ≡ end = omega (arith, ordered, within) in
    omega (arith, parts_walked net labels first end 0 c ps rs cut len reads, ap (active_below net labels c) low, ap (active_below net labels c) high)

-- ---- Read of all

-- parts that were read whole were read from node 0 up to the last one
pub wholes_read : (net : FlowNet) (labels : List ℕ) (c : Cells) (ps rs : List PushPart) → WholesRead net labels c ps rs → PartsRead net labels 0 (node_count net) c ps rs
wholes_read net labels c ps rs reads = λ i e h. (reads i e h).is_read

-- the parts' counts of rows walked add up to the number of active nodes
pub wholes_walked : (net : FlowNet) (labels : List ℕ) (v : ℕ) (c : Cells) (ps rs : List PushPart) → ArePushParts net v ps → length rs ≡ length ps → WholesRead net labels c ps rs
    → rows_walked rs + active_below net labels c v ≡ active_below net labels c (node_count net)
wholes_walked net labels v c [] [] cut len reads = let e : active_below net labels c v ≡ active_below net labels c (node_count net) = ap (λ (x : ℕ). active_below net labels c x) cut in omega (arith, e)
wholes_walked net labels v c [] (r ∷ rs) cut len reads = absurd (omega (arith, len))
wholes_walked net labels v c (p ∷ ps) [] cut len reads = absurd (omega (arith, len))
wholes_walked net labels v c (p ∷ ps) (r ∷ rs) cut len reads =
    let one : WholeRead net labels c p r = reads 0 p (omega arith) in
    let rest = wholes_walked net labels p.end c ps rs cut.1.1 (omega (arith, len)) (λ i e h. reads (suc i) e (omega arith)) in
    omega (arith, one.walked, rest, ap (λ (x : ℕ). active_below net labels c x) cut.0)
