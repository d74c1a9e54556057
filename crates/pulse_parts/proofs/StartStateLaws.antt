-- Parts with the residuals and excess of the start are the start on pairs of nodes, however they
-- are parted.
use Rattle.std.proofs.Common.{◌≡◌, ℕ, suc, ◌+◌, ◌-◌, ◌<◌, ◌≤◌, ◌==◌, cond, Bool, true, false, zero, List, length, slice_index, get_or, arith, refl, sym, ap, ◌∙◌, subst, inl, inr}
use Rattle.std.proofs.lemmas.Bool.{cases_eq, eq-eqb, ne_eqb, lt-ltb, le-ltb}
use Rattle.frame_net.specs.Flow.{sum_below}
use Rattle.frame_net.specs.Laws.{started}
use Rattle.frame_net.proofs.SumLaws.{sum_below-le}
use Rattle.frame_net.proofs.StartLaws.{start_sound}
use Rattle.frame_net.specs.FlowNet.{FlowNet, node_count, start, row_len, head, mate, cap_at, IsFlowNet, IsStartable}
use Rattle.frame_net.specs.Rows.{sparse, Rises}
use Rattle.frame_net.proofs.SparseRowLaws.{find_head, sparse-at, sparse-none, sparse-same, sparse-total}
use Rattle.pulse_parts.specs.declared.parts.FlowPart.{FlowPart}
use Rattle.pulse_parts.specs.Parts.{Cells, LabelsFit, FlowPartFits, AreFlowParts, Agree, IsSound, pair, pairs, cells_of}
use Rattle.pulse_parts.specs.Delivering.{own, back}
use Rattle.pulse_parts.specs.Start.{start_res, start_excess, PartHolds, PartsHold, LabelsStart}
use Rattle.pulse_parts.proofs.PartsLeftLaws.{Holds, find_part, part_fits}
use Rattle.pulse_parts.proofs.MateLaws.{rises, from_mates}
use Rattle.pulse_parts.proofs.JoinedPartLaws.{AtPart, at_part, pick}
use Rattle.pulse_parts.proofs.AgreeingStateLaws.{sound_same}
use Rattle.pulse_parts.proofs.BorderLaws.{cut_weaker}

-- parts that hold residuals and excess of all nodes, end to end, are parts of a flow
pub held_cut : (net : FlowNet) (res exc : ℕ → ℕ) (qs : List FlowPart) → PartsHold net res exc (node_count net) qs → AreFlowParts net 0 qs
held_cut net res exc qs cut = cut_weaker (PartHolds net res exc) (FlowPartFits net) (λ q. q.first) (λ q. q.end) (node_count net) 0 qs (λ q s. s.fit) cut

-- the joined cells at a node
pub record CellsHold (net : FlowNet) (res exc : ℕ → ℕ) (qs : List FlowPart) (v : ℕ) : Type 0 where
  -- the node's residuals stand at its row
  pub row : (k : ℕ) → k < row_len net v → slice_index (cells_of qs).residuals (start net v + k) ≡ res (start net v + k)
  -- the node's excess stands at the node
  pub excess : slice_index (cells_of qs).excess v ≡ exc v

-- the joined parts have each node's residuals and excess at its place
pub cells_hold : (net : FlowNet) (res exc : ℕ → ℕ) (qs : List FlowPart) → IsFlowNet net → PartsHold net res exc (node_count net) qs → (v : ℕ) → v < node_count net → CellsHold net res exc qs v
cells_hold net res exc qs ok cut v vn =
    let h : Holds (λ p. p.first) (λ p. p.end) qs v = find_part (PartHolds net res exc) (λ p. p.first) (λ p. p.end) (node_count net) 0 qs cut v (omega arith) vn in
    let d : FlowPart = pick qs h.index h.lt in
    at h.index d h.lt (h.low d) (h.high d)
  where
    at : (i : ℕ) (d : FlowPart) → i < length qs → (get_or qs i d).first ≤ v → v < (get_or qs i d).end → CellsHold net res exc qs v
    at i d h lo hi =
        let s : PartHolds net res exc (get_or qs i d) = part_fits (PartHolds net res exc) (λ p. p.first) (λ p. p.end) (node_count net) 0 qs cut i d h in
        let a : AtPart net qs v (get_or qs i d) = at_part net qs v i d ok (held_cut net res exc qs cut) h lo hi in
        record {
          row = λ k l. a.res k l ∙ (s.residuals (start net v - (get_or qs i d).base + k) (omega (arith, a.within.in_rows, l))
              ∙ ap (λ (x : ℕ). res x) (let e : (get_or qs i d).base + (start net v - (get_or qs i d).base + k) ≡ start net v + k = omega (arith, a.within.row) in e));
          excess = a.excess ∙ (s.excess (v - (get_or qs i d).first) a.within.in_nodes ∙ ap (λ (x : ℕ). exc x) a.within.at);
        }

-- parts that were cut anew keep their state
pub parted_agrees : (net : FlowNet) (labels : List ℕ) (c : Cells) (qs : List FlowPart) → IsFlowNet net → PartsHold net (slice_index c.residuals) (slice_index c.excess) (node_count net) qs
    → Agree (node_count net) (pairs net c labels) (pairs net (cells_of qs) labels)
parted_agrees net labels c qs ok cut = record {
  res = λ v w vn wn. sparse-same (row_len net v) (head net v) (λ k. slice_index c.residuals (start net v + k)) (λ k. slice_index (cells_of qs).residuals (start net v + k)) w
      (λ k l. sym ((cells_hold net (slice_index c.residuals) (slice_index c.excess) qs ok cut v vn).row k l));
  excess = λ v vn. sym (cells_hold net (slice_index c.residuals) (slice_index c.excess) qs ok cut v vn).excess;
  label = λ v vn. refl;
}

-- residuals into the source have both capacities
sparse_both : (len : ℕ) (h a b : ℕ → ℕ) (w : ℕ) → Rises len h → sparse len h (λ k. cond (h k == 0) (a k + b k) (a k)) w ≡ cond (w == 0) (sparse len h a w + sparse len h b w) (sparse len h a w)
sparse_both len h a b w up = elim (find_head len h w) [
  | inl found ↦ subst (λ (x : ℕ). sparse len h (λ k. cond (h k == 0) (a k + b k) (a k)) x ≡ cond (x == 0) (sparse len h a x + sparse len h b x) (sparse len h a x)) found.1.1
      (sparse-at len h (λ k. cond (h k == 0) (a k + b k) (a k)) found.0 up found.1.0
      ∙ (ap (λ (x : ℕ). cond (h found.0 == 0) (x + b found.0) x) (sym (sparse-at len h a found.0 up found.1.0))
      ∙ ap (λ (y : ℕ). cond (h found.0 == 0) (sparse len h a (h found.0) + y) (sparse len h a (h found.0))) (sym (sparse-at len h b found.0 up found.1.0))))
  | inr none ↦ sparse-none len h (λ k. cond (h k == 0) (a k + b k) (a k)) w none
      ∙ (zero_choice (w == 0) ∙ (ap (λ (x : ℕ). cond (w == 0) (x + 0) x) (sym (sparse-none len h a w none)) ∙ ap (λ (y : ℕ). cond (w == 0) (sparse len h a w + y) (sparse len h a w)) (sym (sparse-none len h b w none))))
]
  where
    zero_choice : (t : Bool) → 0 ≡ cond {A = ℕ} t (0 + 0) 0
    zero_choice t = elim t as (λ b. 0 ≡ cond {A = ℕ} b (0 + 0) 0) [ true ↦ refl | false ↦ refl ]

-- the row of a node at the start
row_start : (net : FlowNet) (v w : ℕ) → IsFlowNet net → v < node_count net → w < node_count net
    → sparse (row_len net v) (head net v) (λ k. start_res net (start net v + k)) w ≡ (started (node_count net) (pair net net.caps)).res v w
row_start net v w ok vn wn = elim (cases_eq v 0) [
  | inl zero_v ↦
      let none : sparse (row_len net v) (head net v) (λ k. start_res net (start net v + k)) w ≡ sparse (row_len net v) (head net v) (λ k. 0) w =
      sparse-same (row_len net v) (head net v) (λ k. start_res net (start net v + k)) (λ k. 0) w
      (λ k l. ap (λ (b : Bool). cond b 0 (cond (head net v k == 0) (cap_at net (start net v + k) + cap_at net (mate net v k)) (cap_at net (start net v + k))))
      (lt-ltb (start net v + k) (start net 1) (omega (arith, l, ap (λ (x : ℕ). start net (x + 1)) zero_v)))) in
      none ∙ (all_none (row_len net v) (head net v) w
      ∙ sym (ap (λ (b : Bool). cond b 0 (cond (w == 0) (pair net net.caps v w + pair net net.caps w v) (pair net net.caps v w))) (eq-eqb v 0 zero_v)))
  | inr other ↦
      let same : sparse (row_len net v) (head net v) (λ k. start_res net (start net v + k)) w
      ≡ sparse (row_len net v) (head net v) (λ k. cond (head net v k == 0) (own net net.caps v k + back net net.caps v k) (own net net.caps v k)) w =
      sparse-same (row_len net v) (head net v) (λ k. start_res net (start net v + k)) (λ k. cond (head net v k == 0) (own net net.caps v k + back net net.caps v k) (own net net.caps v k)) w
      (λ k l. ap (λ (b : Bool). cond b 0 (cond (head net v k == 0) (cap_at net (start net v + k) + cap_at net (mate net v k)) (cap_at net (start net v + k))))
      (le-ltb (start net v + k) (start net 1) (omega (arith, ok.rows 1 v (omega (arith, other)) (omega arith))))) in
      same ∙ (sparse_both (row_len net v) (head net v) (own net net.caps v) (back net net.caps v) w (rises net ok v vn)
      ∙ (ap (λ (y : ℕ). cond (w == 0) (pair net net.caps v w + y) (pair net net.caps v w)) (sym (from_mates net net.caps ok v w vn wn))
      ∙ sym (ap (λ (b : Bool). cond b 0 (cond (w == 0) (pair net net.caps v w + pair net net.caps w v) (pair net net.caps v w))) (ne_eqb v 0 other))))
]
  where
    all_none : (len : ℕ) (h : ℕ → ℕ) (x : ℕ) → sparse len h (λ k. 0) x ≡ 0
    all_none len h x = sum_zero len (λ j. cond (h j == x) 0 0) (λ j. either (h j == x))
      where
        either : (t : Bool) → cond {A = ℕ} t 0 0 ≡ 0
        either t = elim t as (λ b. cond {A = ℕ} b 0 0 ≡ 0) [ true ↦ refl | false ↦ refl ]

        sum_zero : (m : ℕ) (f : ℕ → ℕ) → ((i : ℕ) → f i ≡ 0) → sum_below m f ≡ 0
        sum_zero zero f e = refl
        sum_zero (suc m) f e = omega (arith, sum_zero m f e, e m)

-- parts with the residuals, the excess and the labels of the start are the start on pairs of nodes
pub start_agrees : (net : FlowNet) (labels : List ℕ) (qs : List FlowPart) → IsFlowNet net → PartsHold net (start_res net) (start_excess net) (node_count net) qs → LabelsStart net labels
    → Agree (node_count net) (started (node_count net) (pair net net.caps)) (pairs net (cells_of qs) labels)
start_agrees net labels qs ok cut ls = record {
  res = λ v w vn wn. sym (sparse-same (row_len net v) (head net v) (λ k. slice_index (cells_of qs).residuals (start net v + k)) (λ k. start_res net (start net v + k)) w (cells_hold net (start_res net) (start_excess net) qs ok cut v vn).row
      ∙ row_start net v w ok vn wn);
  excess = λ v vn. sym ((cells_hold net (start_res net) (start_excess net) qs ok cut v vn).excess ∙ ap (λ (x : ℕ). cond (v == 0) 0 x) (sym (from_mates net net.caps ok v 0 vn (omega arith))));
  label = λ v vn. sym (ls v vn);
}

cond_le : (b : Bool) (x : ℕ) → cond b 0 x ≤ x
cond_le b x = elim b as (λ t. cond t 0 x ≤ x) [ true ↦ omega arith | false ↦ omega arith ]

-- the start on pairs of nodes is sound
pub started_sound : (net : FlowNet) → IsFlowNet net → IsStartable net → IsSound net (started (node_count net) (pair net net.caps))
started_sound net ok able =
    let two : 1 < node_count net = omega (arith, ok.two) in
    let loop : pair net net.caps 0 0 ≡ 0 = sparse-none (row_len net 0) (head net 0) (own net net.caps 0) 0 (λ k l e. omega (arith, able.no_loop k l, e)) in
    let s = start_sound (node_count net) (pair net net.caps) two loop in
    record {
      preflow = s.0;
      valid = s.1;
      total = omega (
        arith,
        able.source_fits,
        sparse-total (node_count net) (row_len net 0) (head net 0) (own net net.caps 0) (λ j l. ok.heads_in 0 j (omega (arith, two)) l),
        sum_below-le (node_count net) (started (node_count net) (pair net net.caps)).excess (pair net net.caps 0) (λ v h. cond_le (v == 0) (pair net net.caps 0 v)),
      );
    }

-- parts with the residuals, the excess and the labels of the start are a sound state
pub start_is_sound : (net : FlowNet) (labels : List ℕ) (qs : List FlowPart) → IsFlowNet net → IsStartable net → PartsHold net (start_res net) (start_excess net) (node_count net) qs → LabelsStart net labels → IsSound net (pairs net (cells_of qs) labels)
start_is_sound net labels qs ok able cut ls =
    sound_same net (started (node_count net) (pair net net.caps)) (pairs net (cells_of qs) labels) ok (start_agrees net labels qs ok cut ls) (started_sound net ok able)

-- the labels of the start are one for each node, none above the number of nodes
pub labels_fit : (net : FlowNet) (labels : List ℕ) → length labels ≡ node_count net → LabelsStart net labels → LabelsFit net labels
labels_fit net labels len ls = record { each = len; small = λ w h. omega (arith, ls w h, at_most (w == 0) (node_count net)) }
  where
    at_most : (b : Bool) (x : ℕ) → cond b x 0 ≤ x
    at_most b x = elim b as (λ t. cond t x 0 ≤ x) [ true ↦ omega arith | false ↦ omega arith ]
