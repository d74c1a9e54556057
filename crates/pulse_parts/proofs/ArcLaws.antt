-- Residuals of arcs and of pairs of nodes.
use Rattle.std.proofs.Common.{◌≡◌, ℕ, ◌+◌, ◌<◌, List, length, slice_index, arith, sym, ap, ◌∙◌, subst, inl, inr}
use Rattle.frame_net.proofs.SparseRowLaws.{sparse-at, sparse-none, find_head}
use Rattle.frame_net.specs.FlowNet.{FlowNet, IsFlowNet, HasMate, node_count, start, row_len, head, mate}
use Rattle.pulse_parts.specs.Parts.{pair}
use Rattle.pulse_parts.specs.Delivering.{back}
use Rattle.pulse_parts.proofs.MateLaws.{rises, from_mates}

module _ (net : FlowNet) (ok : IsFlowNet net) where
  -- each arc of a node's row is among all arcs
  pub arc-in : (w k : ℕ) → w < node_count net → k < row_len net w → start net w + k < length net.heads
  arc-in w k h l = omega (arith, h, l, ok.rows (w + 1) (node_count net) (omega (arith, h)) (omega arith), ok.last)

  -- the mate of each arc of a node's row is among all arcs
  pub mate-in : (w k : ℕ) → w < node_count net → k < row_len net w → mate net w k < length net.heads
  mate-in w k h l = let m : HasMate net w k = ok.meets w k h l in omega (arith, m.arc, arc-in (head net w k) m.place (ok.heads_in w k h l) m.inside)

  -- the residual of the mate of w's arc to v is that of the pair of v and w
  pub mate-pair : (xs : List ℕ) (w k : ℕ) → w < node_count net → k < row_len net w → pair net xs (head net w k) w ≡ slice_index xs (mate net w k)
  mate-pair xs w k h l =
      from_mates net xs ok w (head net w k) h (ok.heads_in w k h l) ∙ sparse-at (row_len net w) (head net w) (back net xs w) k (rises net ok w h) l

  -- a pair with a residual is that of the mate of some arc with tail w
  pub pair-mate : (xs : List ℕ) (v w : ℕ) → v < node_count net → w < node_count net → 0 < pair net xs v w
      → (k : ℕ) × ((k < row_len net w) × ((head net w k ≡ v) × (0 < slice_index xs (mate net w k))))
  pair-mate xs v w h l r = elim (find_head (row_len net w) (head net w) v) [
    | inl found ↦ (
        let k : ℕ = found.0 in
        let same : pair net xs v w ≡ slice_index xs (mate net w k) = ap (λ (u : ℕ). pair net xs u w) (sym found.1.1) ∙ mate-pair xs w k l found.1.0 in
        (k, (found.1.0, (found.1.1, subst (λ (x : ℕ). 0 < x) same r))))
    | inr none ↦ (
        let zero_here : pair net xs v w ≡ 0 = from_mates net xs ok w v l h ∙ sparse-none (row_len net w) (head net w) (back net xs w) v none in
        absurd (omega (arith, r, zero_here)))
  ]
