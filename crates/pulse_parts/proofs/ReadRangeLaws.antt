-- Reads of a range, node after node, and of ranges end to end.
use Rattle.std.proofs.Common.{◌≡◌, ℕ, ◌+◌, ◌-◌, ◌<◌, ◌≤◌, List, length, slice_index, take, drop, arith, refl, ap, ◌∙◌, subst, inl, inr}
use Rattle.std.proofs.lemmas.Bool.{cases_lt}
use borrow.Rule.Slice.PartMut.{put_mid}
use Rattle.frame_net.specs.FlowNet.{FlowNet, node_count, start, row_len, IsFlowNet}
use Rattle.pulse_parts.specs.declared.parts.FlowPart.{FlowPart}
use Rattle.pulse_parts.specs.Parts.{Cells, HoldsNode}
use Rattle.pulse_parts.specs.Reading.{RowsRead, arc_push, cells_push}
use Rattle.pulse_parts.proofs.RowSliceLaws.{cut_at}
use Rattle.pulse_parts.proofs.PutLaws.{put_in, put_below, put_above, put_len}
use Rattle.pulse_parts.proofs.ReadNodeLaws.{push_rows}

-- one node's row is written
pub one_read : (net : FlowNet) (labels : List ℕ) (base v s e had : ℕ) (c : Cells) (q : FlowPart) (rs old row : List ℕ) → IsFlowNet net → v < node_count net
    → s ≡ start net v → e ≡ start net (v + 1) → base ≤ start net v → start net (v + 1) ≤ base + length old → HoldsNode net c v q
    → rs ≡ q.residuals.items → had ≡ slice_index q.excess.items (v - q.first) → length row ≡ row_len net v
    → ((k : ℕ) → k < row_len net v → slice_index row k ≡ arc_push net labels v (slice_index (take (e - q.base - (s - q.base)) (drop (s - q.base) rs))) had k)
    → RowsRead net labels base v (v + 1) c old (put_mid (s - base) (e - base - (s - base)) old row)
one_read net labels base v s e had c q rs old row ok vn es ee from to here ers eh len er = record {
  same = put_len (s - base) (e - base - (s - base)) old row fits lens;
  done = λ u k lo hi kl. at_v u k (omega arith) kl;
  kept = λ x out. elim out [
    | inl lt ↦ put_below (s - base) (e - base - (s - base)) old row x fits lens (omega arith)
    | inr ge ↦ put_above (s - base) (e - base - (s - base)) old row x fits lens (omega (arith, up))
  ];
}
  where
    up : start net v ≤ start net (v + 1)
    up = ok.rows v (v + 1) (omega arith) (omega arith)

    fits : (s - base) + (e - base - (s - base)) ≤ length old
    fits = omega (arith, up)

    lens : length row ≡ e - base - (s - base)
    lens = omega (arith, up)

    in_row : (k : ℕ) → k < row_len net v → slice_index (take (e - q.base - (s - q.base)) (drop (s - q.base) rs)) k ≡ slice_index c.residuals (start net v + k)
    in_row k l = cut_at rs (s - q.base) (e - q.base - (s - q.base)) k (omega (arith, ap length ers, here.in_arcs, here.from, up)) (omega (arith, here.from))
        ∙ (ap (λ (xs : List ℕ). slice_index xs (s - q.base + k)) ers
        ∙ (ap (λ (x : ℕ). slice_index q.residuals.items (x - q.base + k)) es ∙ here.residuals k l))

    read_v : (k : ℕ) → k < row_len net v → slice_index (put_mid (s - base) (e - base - (s - base)) old row) (start net v + k - base) ≡ cells_push net labels c v k
    read_v k l = ap (λ (z : ℕ). slice_index (put_mid (s - base) (e - base - (s - base)) old row) z) (let p : start net v + k - base ≡ s - base + k = omega arith in p)
        ∙ (put_in (s - base) (e - base - (s - base)) old row k fits lens (omega (arith, len))
        ∙ (er k l ∙ push_rows net labels v had (slice_index c.excess v) (slice_index (take (e - q.base - (s - q.base)) (drop (s - q.base) rs))) (λ j. slice_index c.residuals (start net v + j)) in_row (eh ∙ here.excess) k l))

    at_v : (u k : ℕ) → v ≡ u → k < row_len net u → slice_index (put_mid (s - base) (e - base - (s - base)) old row) (start net u + k - base) ≡ cells_push net labels c u k
    at_v u k p = subst (λ (x : ℕ). k < row_len net x → slice_index (put_mid (s - base) (e - base - (s - base)) old row) (start net x + k - base) ≡ cells_push net labels c x k) p (read_v k)

-- over an empty range rows are read as they are
pub read_none : (net : FlowNet) (labels : List ℕ) (base low : ℕ) (c : Cells) (xs : List ℕ) → RowsRead net labels base low low c xs xs
read_none net labels base low c xs = record { same = refl; done = λ v k lo hi l. absurd (omega arith); kept = λ x out. refl }

-- two ranges end to end
pub read_then : (net : FlowNet) (labels : List ℕ) (base low mid high : ℕ) (c : Cells) (xs ys zs : List ℕ) → IsFlowNet net → base ≤ start net low → low ≤ mid → mid ≤ high → high ≤ node_count net
    → RowsRead net labels base low mid c xs ys → RowsRead net labels base mid high c ys zs → RowsRead net labels base low high c xs zs
read_then net labels base low mid high c xs ys zs ok from lm mh hn p q = record {
  same = q.same ∙ p.same;
  done = λ v k lo hi l. elim (cases_lt v mid) [
    | inl lt ↦ q.kept (start net v + k - base) (inl (before v k lo lt l)) ∙ p.done v k lo lt l
    | inr ge ↦ q.done v k ge hi l
  ];
  kept = λ x out. q.kept x (elim out [ inl lt ↦ inl (omega (arith, ok.rows low mid lm (omega arith))) | inr ge ↦ inr ge ])
      ∙ p.kept x (elim out [ inl lt ↦ inl lt | inr ge ↦ inr (omega (arith, ok.rows mid high mh hn)) ]);
}
  where
    before : (v k : ℕ) → low ≤ v → v < mid → k < row_len net v → base + (start net v + k - base) < start net mid
    before v k lo lt l = omega (arith, ok.rows (v + 1) mid (omega arith) (omega arith), ok.rows low v lo (omega arith))
