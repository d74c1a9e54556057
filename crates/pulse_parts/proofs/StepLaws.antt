-- Cells that were delivered by the pushes of a sound state are the pulse's, and no sum wraps.
use Rattle.std.proofs.Common.{◌≡◌, ℕ, ◌+◌, ◌-◌, ◌<◌, ◌≤◌, ◌^◌, List, length, slice_index, arith, refl, ap, sym, ◌∙◌}
use Rattle.frame_net.specs.Flow.{State, push, next_res, next_excess, pulse}
use Rattle.frame_net.proofs.SumLaws.{term-le-sum_below}
use Rattle.frame_net.proofs.PushLaws.{push-le-res, outflow-le-excess}
use Rattle.frame_net.proofs.TotalLaws.{total_kept}
use Rattle.frame_net.specs.FlowNet.{FlowNet, node_count, start, row_len, head, mate, cap_at, HasMate, IsFlowNet}
use Rattle.frame_net.proofs.SparseRowLaws.{sparse-at, sparse-same, push-is_sparse}
use Rattle.pulse_parts.specs.declared.parts.FlowPart.{FlowPart}
use Rattle.pulse_parts.specs.Parts.{Cells, pair, pairs, Agree, IsSound, FlowPartFits, AreFlowParts, cells_of}
use Rattle.pulse_parts.specs.Reading.{arc_push}
use Rattle.pulse_parts.specs.Delivering.{own, delivered_res, NodeSafe, NodeDelivered, PartsSafe}
use Rattle.pulse_parts.specs.Delivering.{HoldPushes}
use Rattle.pulse_parts.proofs.MateLaws.{row_sent-is, given_res-is, given_excess-is, given_label-is, rises}
use Rattle.pulse_parts.proofs.DeliveredRangeLaws.{safe_rows}
use Rattle.pulse_parts.proofs.JoinedPartLaws.{AtPart, at_part}
use Rattle.std.proofs.Common.{get_or}
use Rattle.pulse_parts.proofs.PartsLeftLaws.{part_fits}

-- what each row was read to hold is what each node pushes
pub hold_pushes : (net : FlowNet) (c : Cells) (labels xs : List ℕ) → IsFlowNet net
    → ((v k : ℕ) → v < node_count net → k < row_len net v → own net xs v k ≡ arc_push net labels v (λ j. slice_index c.residuals (start net v + j)) (slice_index c.excess v) k)
    → HoldPushes net (pairs net c labels) xs
hold_pushes net c labels xs ok rows = record {
  each = λ v w vn.
      sym (push-is_sparse (node_count net) (pairs net c labels) v (row_len net v) (head net v) (λ k. slice_index c.residuals (start net v + k)) (own net xs v)
      (rises net ok v vn) (λ x. refl) (λ k l. rows v k vn l) w);
}

-- delivered cells are the pulse's state
pub given_is_pulse : (net : FlowNet) (c d : Cells) (labels next xs : List ℕ) → IsFlowNet net → HoldPushes net (pairs net c labels) xs
    → ((v : ℕ) → v < node_count net → NodeDelivered net labels xs v v (start net v) c d) → ((v : ℕ) → v < node_count net → slice_index next v ≡ slice_index d.next v)
    → Agree (node_count net) (pulse (node_count net) (pairs net c labels)) (pairs net d next)
given_is_pulse net c d labels next xs ok h g turned = record {
  res = λ v w vn wn. sym (sparse-same (row_len net v) (head net v) (λ k. slice_index d.residuals (start net v + k)) (delivered_res net xs v (λ j. slice_index c.residuals (start net v + j))) w (g v vn).row
      ∙ given_res-is net (pairs net c labels) xs (λ j. slice_index c.residuals (start net v + j)) ok h v w vn wn refl);
  excess = λ v vn. sym ((g v vn).excess ∙ given_excess-is net (pairs net c labels) xs ok h v vn);
  label = λ v vn. sym (turned v vn ∙ ((g v vn).next ∙ given_label-is net (pairs net c labels) labels xs (λ j. slice_index c.residuals (start net v + j)) ok h v vn (λ w. refl) (λ w l. refl)));
}

-- ---- each node of a sound state can be delivered

caps_pair : (net : FlowNet) (v k : ℕ) → IsFlowNet net → v < node_count net → k < row_len net v → pair net net.caps v (head net v k) + pair net net.caps (head net v k) v < 2 ^ 32
caps_pair net v k ok vn kl =
    let m : HasMate net v k = ok.meets v k vn kl in
    let hn : head net v k < node_count net = ok.heads_in v k vn kl in
    let here : pair net net.caps v (head net v k) ≡ cap_at net (start net v + k) = sparse-at (row_len net v) (head net v) (λ j. slice_index net.caps (start net v + j)) k (rises net ok v vn) kl in
    let there : pair net net.caps (head net v k) (head net (head net v k) m.place) ≡ cap_at net (start net (head net v k) + m.place) =
    sparse-at (row_len net (head net v k)) (head net (head net v k)) (λ j. slice_index net.caps (start net (head net v k) + j)) m.place (rises net ok (head net v k) hn) m.inside in
    let back_is : pair net net.caps (head net v k) v ≡ cap_at net (mate net v k) =
    ap (λ (x : ℕ). pair net net.caps (head net v k) x) (sym m.back) ∙ (there ∙ ap (λ (x : ℕ). cap_at net x) (sym m.arc)) in
    omega (arith, ok.caps_fit v k vn kl, here, back_is)

-- each node of a sound state can be delivered, with no number leaving its type
pub node_safe : (net : FlowNet) (c : Cells) (labels xs : List ℕ) → IsFlowNet net → IsSound net (pairs net c labels) → HoldPushes net (pairs net c labels) xs
    → (v : ℕ) → v < node_count net → NodeSafe net xs v (λ j. slice_index c.residuals (start net v + j)) (slice_index c.excess v)
node_safe net c labels xs ok sound h v vn = record {
  owns = λ k l. let o = own_is k l in let r = res_is k l in omega (arith, o, r, push-le-res (node_count net) s v (head net v k));
  residuals_fit = λ k l.
      let hn : head net v k < node_count net = ok.heads_in v k vn l in
      let g : delivered_res net xs v row k ≡ next_res (node_count net) s v (head net v k) =
      sym (sparse-at (row_len net v) (head net v) (delivered_res net xs v row) k (rises net ok v vn) l) ∙ given_res-is net s xs row ok h v (head net v k) vn hn refl in
      omega (arith, g, push-le-res (node_count net) s (head net v k) v, sound.preflow.paired v (head net v k) vn hn, caps_pair net v k ok vn l);
  sends = omega (arith, row_sent-is net s xs ok h v vn, outflow-le-excess (node_count net) s v);
  excess_fits = omega (arith, given_excess-is net s xs ok h v vn, term-le-sum_below (node_count net) v (next_excess (node_count net) s) vn, total_kept (node_count net) s, sound.total);
}
  where
    s : State
    s = pairs net c labels

    row : ℕ → ℕ
    row j = slice_index c.residuals (start net v + j)

    own_is : (k : ℕ) → k < row_len net v → own net xs v k ≡ push (node_count net) (pairs net c labels) v (head net v k)
    own_is k l = sym (sparse-at (row_len net v) (head net v) (own net xs v) k (rises net ok v vn) l) ∙ h.each v (head net v k) vn

    res_is : (k : ℕ) → k < row_len net v → slice_index c.residuals (start net v + k) ≡ (pairs net c labels).res v (head net v k)
    res_is k l = sym (sparse-at (row_len net v) (head net v) (λ j. slice_index c.residuals (start net v + j)) k (rises net ok v vn) l)

fits_at : (net : FlowNet) (qs : List FlowPart) (i : ℕ) (d : FlowPart) → AreFlowParts net 0 qs → i < length qs → FlowPartFits net (get_or qs i d)
fits_at net qs i d cut l = part_fits (FlowPartFits net) (λ p. p.first) (λ p. p.end) (node_count net) 0 qs cut i d l

-- if each node of a range can be delivered, each part can over that range
pub parts_safe_by : (net : FlowNet) (qs : List FlowPart) (xs : List ℕ) (first end : ℕ) → IsFlowNet net → AreFlowParts net 0 qs
    → ((v : ℕ) → v < node_count net → first ≤ v → v < end → NodeSafe net xs v (λ j. slice_index (cells_of qs).residuals (start net v + j)) (slice_index (cells_of qs).excess v))
    → PartsSafe net xs first end qs
parts_safe_by net qs xs first end ok cut safe i d l v p s w lo hi =
    let a : AtPart net qs v (get_or qs i d) = at_part net qs v i d ok cut l (omega (arith, w.at)) (omega (arith, w.at, w.in_nodes, fit)) in
    let es : start net v - (get_or qs i d).base ≡ s = omega (arith, w.row) in
    let ep : v - (get_or qs i d).first ≡ p = omega (arith, w.at) in
    safe_rows net xs v (slice_index (cells_of qs).excess v) (slice_index (get_or qs i d).excess.items p) (λ j. slice_index (cells_of qs).residuals (start net v + j)) (λ j. slice_index (get_or qs i d).residuals.items (s + j))
    (λ j b. a.res j b ∙ ap (λ (x : ℕ). slice_index (get_or qs i d).residuals.items (x + j)) es)
    (a.excess ∙ ap (λ (x : ℕ). slice_index (get_or qs i d).excess.items x) ep)
    (safe v w.node lo hi)
  where
    fit : length (get_or qs i d).excess.items + (get_or qs i d).first ≡ (get_or qs i d).end
    fit = (fits_at net qs i d cut l).nodes

-- parts of a sound state can all be delivered
pub parts_safe : (net : FlowNet) (qs : List FlowPart) (labels xs : List ℕ) → IsFlowNet net → AreFlowParts net 0 qs → IsSound net (pairs net (cells_of qs) labels) → HoldPushes net (pairs net (cells_of qs) labels) xs
    → PartsSafe net xs 0 (node_count net) qs
parts_safe net qs labels xs ok cut sound h = parts_safe_by net qs xs 0 (node_count net) ok cut (λ v vn lo hi. node_safe net (cells_of qs) labels xs ok sound h v vn)
