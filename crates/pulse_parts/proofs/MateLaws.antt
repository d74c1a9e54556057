-- What comes in over a row's mates is what the pulse sends to its node.
use Rattle.std.proofs.Common.{◌≡◌, ℕ, ◌+◌, ◌<◌, ◌&&◌, nat_lt, cond, List, slice_index, arith, refl, ap, sym, ◌∙◌, subst}
use Rattle.frame_net.specs.Flow.{State, push, outflow, inflow, next_res, next_excess, next_label, relabelled}
use Rattle.frame_net.proofs.SumLaws.{sum_below-same}
use Rattle.frame_net.proofs.OrderLaws.{least_below-same}
use Rattle.frame_net.specs.FlowNet.{FlowNet, node_count, start, row_len, head, mate, HasMate, IsFlowNet}
use Rattle.frame_net.specs.Rows.{sparse, Rises}
use Rattle.frame_net.proofs.SparseRowLaws.{sparse-mate, sparse-total, sparse-given, sparse-least}
use Rattle.pulse_parts.specs.Parts.{pair}
use Rattle.pulse_parts.specs.Delivering.{HoldPushes, own, back, row_outflow, row_inflow, delivered_res, delivered_excess, delivered_relabel, delivered_label}

-- the heads of a node's row rise
pub rises : (net : FlowNet) → IsFlowNet net → (v : ℕ) → v < node_count net → Rises (row_len net v) (head net v)
rises net ok v h = λ j k a b. ok.heads_rise v j k h a b

-- what comes to v from w is w's value for v
pub from_mates : (net : FlowNet) (xs : List ℕ) → IsFlowNet net → (v w : ℕ) → v < node_count net → w < node_count net
    → pair net xs w v ≡ sparse (row_len net v) (head net v) (back net xs v) w
from_mates net xs ok v w vn wn =
    sparse-mate v w (row_len net v) (row_len net w) (head net v) (head net w) (back net xs v) (own net xs w) (rises net ok v vn) (rises net ok w wn) to from
  where
    to : (k : ℕ) → k < row_len net v → head net v k ≡ w → (j : ℕ) × ((j < row_len net w) × ((head net w j ≡ v) × (own net xs w j ≡ back net xs v k)))
    to k l e =
        let m : HasMate net v k = ok.meets v k vn l in
        let same : start net (head net v k) ≡ start net w = ap (λ (x : ℕ). start net x) e in
        let place : start net w + m.place ≡ mate net v k = omega (arith, m.arc, same) in
        (m.place, (subst (λ (x : ℕ). m.place < row_len net x) e m.inside, (subst (λ (x : ℕ). head net x m.place ≡ v) e m.back, ap (λ (x : ℕ). slice_index xs x) place)))

    from : (j : ℕ) → j < row_len net w → head net w j ≡ v → (k : ℕ) × ((k < row_len net v) × (head net v k ≡ w))
    from j l e = let m : HasMate net w j = ok.meets w j wn l in
        (m.place, (subst (λ (x : ℕ). m.place < row_len net x) e m.inside, subst (λ (x : ℕ). head net x m.place ≡ w) e m.back))

-- the pushes of a node's row sum to what the pulse lets it push
pub row_sent-is : (net : FlowNet) (s : State) (xs : List ℕ) → IsFlowNet net → HoldPushes net s xs → (v : ℕ) → v < node_count net → row_outflow net xs v ≡ outflow (node_count net) s v
row_sent-is net s xs ok h v vn =
    sym (sparse-total (node_count net) (row_len net v) (head net v) (own net xs v) (λ k l. ok.heads_in v k vn l))
    ∙ sum_below-same (node_count net) (pair net xs v) (push (node_count net) s v) (λ w l. h.each v w vn)

-- the pushes over the mates of a node's row sum to what the pulse sends to it
pub row_got-is : (net : FlowNet) (s : State) (xs : List ℕ) → IsFlowNet net → HoldPushes net s xs → (v : ℕ) → v < node_count net → row_inflow net xs v ≡ inflow (node_count net) s v
row_got-is net s xs ok h v vn =
    sym (sparse-total (node_count net) (row_len net v) (head net v) (back net xs v) (λ k l. ok.heads_in v k vn l))
    ∙ sum_below-same (node_count net) (sparse (row_len net v) (head net v) (back net xs v)) (λ w. push (node_count net) s w v)
    (λ w l. sym (from_mates net xs ok v w vn l) ∙ h.each w v l)

-- a row of residuals after delivery is the pulse's
pub given_res-is : (net : FlowNet) (s : State) (xs : List ℕ) (r : ℕ → ℕ) → IsFlowNet net → HoldPushes net s xs → (v w : ℕ) → v < node_count net → w < node_count net
    → s.res v w ≡ sparse (row_len net v) (head net v) r w
    → sparse (row_len net v) (head net v) (delivered_res net xs v r) w ≡ next_res (node_count net) s v w
given_res-is net s xs r ok h v w vn wn e =
    let in_place : sparse (row_len net v) (head net v) (back net xs v) w ≡ push (node_count net) s w v = sym (from_mates net xs ok v w vn wn) ∙ h.each w v wn in
    let out_place : sparse (row_len net v) (head net v) (own net xs v) w ≡ push (node_count net) s v w = h.each v w vn in
    sparse-given (row_len net v) (head net v) r (back net xs v) (own net xs v) w (rises net ok v vn) ∙ rw (← e, in_place, out_place) refl

-- a node's excess after delivery is its excess after the pulse
pub given_excess-is : (net : FlowNet) (s : State) (xs : List ℕ) → IsFlowNet net → HoldPushes net s xs → (v : ℕ) → v < node_count net
    → delivered_excess net xs v (s.excess v) ≡ next_excess (node_count net) s v
given_excess-is net s xs ok h v vn = omega (arith, row_sent-is net s xs ok h v vn, row_got-is net s xs ok h v vn)

-- the label that a delivery lifts a node to is the pulse's
pub given_lift-is : (net : FlowNet) (s : State) (labels xs : List ℕ) (r : ℕ → ℕ) → IsFlowNet net → HoldPushes net s xs → (v : ℕ) → v < node_count net
    → ((w : ℕ) → s.res v w ≡ sparse (row_len net v) (head net v) r w) → ((w : ℕ) → w < node_count net → slice_index labels w ≡ s.label w)
    → delivered_relabel net labels xs v r ≡ relabelled (node_count net) s v
given_lift-is net s labels xs r ok h v vn e el =
    sym (sparse-least (node_count net) (row_len net v) (head net v) (delivered_res net xs v r) (λ w. slice_index labels w) (rises net ok v vn) (λ k l. ok.heads_in v k vn l))
    ∙ least_below-same (node_count net)
    (λ w. cond (nat_lt 0 (sparse (row_len net v) (head net v) (delivered_res net xs v r) w)) (slice_index labels w + 1) (node_count net))
    (λ w. cond (nat_lt 0 (next_res (node_count net) s v w)) (s.label w + 1) (node_count net)) (node_count net)
    (λ w l. ap (λ (x : ℕ). cond (nat_lt 0 x) (slice_index labels w + 1) (node_count net)) (given_res-is net s xs r ok h v w vn l (e w))
    ∙ ap (λ (y : ℕ). cond (nat_lt 0 (next_res (node_count net) s v w)) (y + 1) (node_count net)) (el w l))

label_choice : (n v : ℕ) (e l a b x y : ℕ) → a ≡ b → x ≡ y → cond (nat_lt 1 v && nat_lt 0 e && nat_lt l n && nat_lt a e) x l ≡ cond (nat_lt 1 v && nat_lt 0 e && nat_lt l n && nat_lt b e) y l
label_choice n v e l a b x y p q = cc

-- a node's label after delivery is its label after the pulse
pub given_label-is : (net : FlowNet) (s : State) (labels xs : List ℕ) (r : ℕ → ℕ) → IsFlowNet net → HoldPushes net s xs → (v : ℕ) → v < node_count net
    → ((w : ℕ) → s.res v w ≡ sparse (row_len net v) (head net v) r w) → ((w : ℕ) → w < node_count net → slice_index labels w ≡ s.label w)
    → delivered_label net labels xs v r (s.excess v) ≡ next_label (node_count net) s v
given_label-is net s labels xs r ok h v vn e el =
    ap (λ (l : ℕ). cond (nat_lt 1 v && nat_lt 0 (s.excess v) && nat_lt l (node_count net) && nat_lt (row_outflow net xs v) (s.excess v)) (delivered_relabel net labels xs v r) l) (el v vn)
    ∙ label_choice (node_count net) v (s.excess v) (s.label v) (row_outflow net xs v) (outflow (node_count net) s v) (delivered_relabel net labels xs v r) (relabelled (node_count net) s v)
    (row_sent-is net s xs ok h v vn) (given_lift-is net s labels xs r ok h v vn e el)
