-- Pushes of a state are those of every state that agrees with it.
use Rattle.std.proofs.Common.{◌≡◌, ℕ, ◌+◌, ◌<◌, ◌≤◌, ◌==◌, ◌&&◌, cond, Bool, true, false, zero, List, slice_index, arith, refl, ap, sym, ◌∙◌, inl, inr}
use Rattle.std.proofs.lemmas.Bool.{cases_lt}
use Rattle.frame_net.specs.Flow.{push, admissible, is_active}
use Rattle.frame_net.specs.FlowNet.{FlowNet, node_count, start, row_len, head, IsFlowNet}
use Rattle.frame_net.proofs.SparseRowLaws.{sparse-none}
use Rattle.pulse_parts.specs.Parts.{Cells, Agree, pair, pairs}
use Rattle.pulse_parts.specs.Delivering.{HoldPushes}
use Rattle.pulse_parts.proofs.AgreeingStateLaws.{push_same}

zero_both : (b : Bool) → cond {A = ℕ} b 0 0 ≡ zero
zero_both b = elim b as (λ t. cond {A = ℕ} t 0 0 ≡ zero) [ true ↦ refl | false ↦ refl ]

-- nothing is pushed to a number that is no node
push_out : (net : FlowNet) (c : Cells) (labels : List ℕ) (v w : ℕ) → IsFlowNet net → v < node_count net → node_count net ≤ w → push (node_count net) (pairs net c labels) v w ≡ 0
push_out net c labels v w ok vn out =
    let none : pair net c.residuals v w ≡ 0 = sparse-none (row_len net v) (head net v) (λ k. slice_index c.residuals (start net v + k)) w (λ k l e. omega (arith, ok.heads_in v k vn l)) in
    let off : admissible (node_count net) (pairs net c labels) v w ≡ 0 =
    ap (λ (x : ℕ). cond (is_active (node_count net) (pairs net c labels) v && (slice_index labels w + 1 == slice_index labels v)) x 0) none
    ∙ zero_both (is_active (node_count net) (pairs net c labels) v && (slice_index labels w + 1 == slice_index labels v)) in
    omega (arith, off)

-- pushes of a state are those of a state that agrees with it
pub hold_same : (net : FlowNet) (c d : Cells) (labels xs : List ℕ) → IsFlowNet net → Agree (node_count net) (pairs net c labels) (pairs net d labels) → HoldPushes net (pairs net c labels) xs → HoldPushes net (pairs net d labels) xs
hold_same net c d labels xs ok a h = record {
  each = λ v w vn. h.each v w vn ∙ elim (cases_lt w (node_count net)) [
    | inl lt ↦ push_same (node_count net) (pairs net c labels) (pairs net d labels) a v w vn lt
    | inr ge ↦ push_out net c labels v w ok vn ge ∙ sym (push_out net d labels v w ok vn ge)
  ];
}
