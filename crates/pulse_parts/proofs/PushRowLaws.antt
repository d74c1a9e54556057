-- The row of pushes of a node, as a slice of its part's values.
use Rattle.std.proofs.Common.{◌≡◌, ℕ, ◌+◌, ◌-◌, ◌<◌, ◌≤◌, List, length, slice_index, take, drop, arith, ap, sym, ◌∙◌}
use Rattle.frame_net.specs.FlowNet.{FlowNet, node_count, start, row_len, IsFlowNet}
use Rattle.pulse_parts.specs.declared.parts.PushPart.{PushPart}
use Rattle.pulse_parts.specs.Parts.{values_of}
use Rattle.pulse_parts.specs.Delivering.{own}
use Rattle.pulse_parts.proofs.PushPartLaws.{Here}
use Rattle.pulse_parts.proofs.RowSliceLaws.{cut_len, cut_at}

-- the slice of a part's values at a node's row is as long as the row
pub row_len_here : (net : FlowNet) (v : ℕ) (all : List PushPart) (p : PushPart) (at next : ℕ) (xs : List ℕ) → IsFlowNet net → v < node_count net
    → at ≡ start net v → next ≡ start net (v + 1) → xs ≡ p.values.items → Here net v all p
    → length (take (next - p.base - (at - p.base)) (drop (at - p.base) xs)) ≡ row_len net v
row_len_here net v all p at next xs ok vn ea en ex h =
    cut_len xs (at - p.base) (next - p.base - (at - p.base)) (omega (arith, ap length ex, h.before, h.after, ok.rows v (v + 1) (omega arith) (omega arith)))
    ∙ (let e : next - p.base - (at - p.base) ≡ row_len net v = omega (arith, h.after) in e)

-- the slice of a part's values at a node's row has the pushes of the row
pub row_here : (net : FlowNet) (v : ℕ) (all : List PushPart) (p : PushPart) (at next : ℕ) (xs : List ℕ) → IsFlowNet net → v < node_count net
    → at ≡ start net v → next ≡ start net (v + 1) → xs ≡ p.values.items → Here net v all p
    → (k : ℕ) → k < row_len net v → slice_index (take (next - p.base - (at - p.base)) (drop (at - p.base) xs)) k ≡ own net (values_of all) v k
row_here net v all p at next xs ok vn ea en ex h k kl =
    let up : start net v ≤ start net (v + 1) = ok.rows v (v + 1) (omega arith) (omega arith) in
    cut_at xs (at - p.base) (next - p.base - (at - p.base)) k (omega (arith, ap length ex, h.before, h.after, up)) (omega (arith, h.after))
    ∙ (ap (λ (ys : List ℕ). slice_index ys (at - p.base + k)) ex
    ∙ (ap (λ (x : ℕ). slice_index p.values.items x) (let e : at - p.base + k ≡ start net v + k - p.base = omega (arith, h.after) in e)
    ∙ sym (h.value (start net v + k) (omega arith) (omega (arith, up)))))
