-- The excess that the start sends into a node fits a word.
use Rattle.std.proofs.Common.{◌≡◌, ℕ, zero, suc, ◌+◌, ◌<◌, ◌==◌, cond, Bool, true, false, ◌||◌, nat_lt, slice_index, arith, refl, sym, ap, ◌∙◌}
use Rattle.std.proofs.Math.Dec.{eqb-suc-zero}
use Rattle.std.proofs.lemmas.Bool.{eq-eqb, true≢false}
use Rattle.frame_net.specs.Flow.{sum_below}
use Rattle.frame_net.proofs.SumLaws.{sum_below-same, sum_below-zero}
use Rattle.frame_net.specs.FlowNet.{FlowNet, node_count, start, row_len, head, mate, cap_at, IsFlowNet}
use Rattle.pulse_parts.specs.Delivering.{back}
use Rattle.pulse_parts.specs.Start.{start_excess, start_res}

-- heads rise, so what comes from the source comes over the first arc of a row, if that leads to the
-- source
later_zero : (h x : ℕ) → 0 < h → cond (h == 0) x 0 ≡ 0
later_zero zero x above = absurd (omega (arith, above))
later_zero (suc h) x above = ap (λ (b : Bool). cond b x 0) (eqb-suc-zero h)

first_alone : (n : ℕ) (f : ℕ → ℕ) → ((k : ℕ) → 0 < k → k < n → f k ≡ 0) → 0 < n → sum_below n f ≡ f 0
first_alone zero f later some = absurd (omega (arith, some))
first_alone (suc zero) f later some = omega arith
first_alone (suc (suc n)) f later some = omega (arith, first_alone (suc n) f (λ k low high. later k low (omega arith)) (omega arith), later (suc n) (omega arith) (omega arith))

all_above : (net : FlowNet) (v : ℕ) → IsFlowNet net → v < node_count net → (0 < row_len net v → 0 < head net v 0) → (k : ℕ) → k < row_len net v → 0 < head net v k
all_above net v ok vn first zero inside = first inside
all_above net v ok vn first (suc k) inside = let rise : head net v 0 < head net v (suc k) = ok.heads_rise v 0 (suc k) vn (omega arith) inside in omega (arith, rise)

no_source : (v x : ℕ) → 0 < v → cond (v == 0) 0 x ≡ x
no_source zero x above = absurd (omega (arith, above))
no_source (suc v) x above = ap (λ (b : Bool). cond b 0 x) (eqb-suc-zero v)

-- if the first arc of a node's row leads to the source, its mate's capacity is the node's excess at
-- the start
pub source_excess : (net : FlowNet) (v x h m : ℕ) → IsFlowNet net → v < node_count net → 0 < v → 0 < row_len net v → h ≡ head net v 0 → h ≡ 0 → m ≡ mate net v 0
    → x ≡ cap_at net m → x ≡ start_excess net v
source_excess net v x h m ok vn above some eh ez em ex =
    let f : ℕ → ℕ = λ k. cond (head net v k == 0) (back net net.caps v k) 0 in
    let here : f 0 ≡ back net net.caps v 0 = ap (λ (b : Bool). cond b (back net net.caps v 0) 0) (eq-eqb (head net v 0) 0 (sym eh ∙ ez)) in
    let alone : sum_below (row_len net v) f ≡ f 0 = first_alone (row_len net v) f
    (λ k low high. later_zero (head net v k) (back net net.caps v k) (let rise : head net v 0 < head net v k = ok.heads_rise v 0 k vn low high in omega (arith, rise))) some in
    ex ∙ ap (λ (y : ℕ). cap_at net y) em ∙ sym here ∙ sym alone ∙ sym (no_source v (sum_below (row_len net v) f) above)

-- if the first arc of a node's row doesn't lead to the source, the node has no excess at the start
pub no_excess : (net : FlowNet) (v : ℕ) → IsFlowNet net → v < node_count net → 0 < v → (0 < row_len net v → 0 < head net v 0) → 0 ≡ start_excess net v
no_excess net v ok vn above first =
    let f : ℕ → ℕ = λ k. cond (head net v k == 0) (back net net.caps v k) 0 in
    let none : sum_below (row_len net v) f ≡ 0 = sum_below-same (row_len net v) f (λ k. 0)
    (λ k inside. later_zero (head net v k) (back net net.caps v k) (all_above net v ok vn first k inside)) ∙ sum_below-zero (row_len net v) in
    sym none ∙ sym (no_source v (sum_below (row_len net v) f) above)

two_off : (a b : Bool) (x y : ℕ) → (a || b) ≡ false → cond a 0 (cond b x y) ≡ y
two_off false false x y e = refl
two_off false true x y e = absurd (true≢false e)
two_off true b x y e = absurd (true≢false e)

-- away from the source the residual of the start is the capacity
pub stays : (net : FlowNet) (arc : ℕ) → (nat_lt arc (start net 1) || slice_index net.heads arc == 0) ≡ false → cap_at net arc ≡ start_res net arc
stays net arc off = sym (two_off (nat_lt arc (start net 1)) (slice_index net.heads arc == 0) (cap_at net arc + cap_at net (slice_index net.mates arc)) (cap_at net arc) off)
