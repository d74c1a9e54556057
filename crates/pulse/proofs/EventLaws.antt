-- Reads and deliveries of a range of nodes, over the fields of a flow and of pushes.
use Rattle.std.proofs.Common.{◌≡◌, ℕ, ◌<◌, ◌≤◌, Bool, arith, false, List, length, slice_index_or, refl, sym, ap, ◌∙◌, subst}
use Rattle.frame_net.specs.FlowNet.{FlowNet, node_count, IsFlowNet}
use Rattle.pulse_parts.specs.declared.parts.FlowPart.{FlowPart}
use Rattle.pulse_parts.specs.declared.parts.PushPart.{PushPart}
use Rattle.pulse_parts.specs.Parts.{Cells, AreFlowParts, ArePushParts, cells_of, values_of}
use Rattle.pulse_parts.specs.Reading.{PartsRead, PartsReadOn}
use Rattle.pulse_parts.specs.Delivering.{PartsDelivered, PartsSafe}
use Rattle.pulse_parts.specs.Marks.{and_range, NoneMarked, DeliveredSoFar, IsPartlyDelivered}
use Rattle.pulse_parts.proofs.WholeDeliveryLaws.{cut_after_give, whole_kept}
use Rattle.pulse_parts.proofs.WholeReadLaws.{cut_after_read, parts_read, range_walked, whole_read, whole_unread}
use Rattle.pulse_parts.proofs.MarkLaws.{give_more, give_safe}
use Rattle.pulse.specs.Values.{flow_state, push_state}
use Rattle.pulse.specs.Conditions.{IsFlowOf, ArePushesOf, is_marked}
use Rattle.pulse.specs.Phases.{RangeRead, RangeDelivered}
use Rattle.pulse.proofs.FlowLaws.{parts_of, flow_with, pushes_with}

-- parts read over a range of nodes are the pushes of a flow read over that range
pub range_read : (net : FlowNet) (first end : ℕ) (qs seen : List FlowPart) (ls lseen : List ℕ) (ds : List Bool) (cs : List ℕ) (b : Bool) (ps was rs now : List PushPart) (s : Bool) → IsFlowNet net
    → seen ≡ qs → lseen ≡ ls → was ≡ ps → now ≡ rs → s ≡ false → ArePushParts net 0 ps → length rs ≡ length was → first ≤ end → end ≤ node_count net → PartsReadOn net lseen first end (cells_of seen) was rs
    → RangeRead net (flow_state qs ls ds cs b) first end (push_state ps s) (push_state now s)
range_read net first end qs seen ls lseen ds cs b ps was rs now s ok eq el ew en es cut len0 ordered within reads0 =
    subst (λ (x : List PushPart). RangeRead net (flow_state qs ls ds cs b) first end (push_state ps s) (push_state x s)) (sym en)
    record {
      fits = subst (λ (x : Bool). ArePushesOf net (push_state rs x)) (sym es) (pushes_with net rs ok (cut_after_read net ls first end 0 (cells_of qs) ps rs cut len reads));
      unspent = es;
      done = λ v k vn lo hi kl. whole_read net ls first end (cells_of qs) ps rs ok cut len reads v k vn lo hi kl;
      kept = λ v k vn out kl. whole_unread net ls first end (cells_of qs) ps rs ok cut len reads v k vn out kl;
      walked = omega (arith, range_walked net ls first end (cells_of qs) ps rs cut len ordered within reads_on);
    }
  where
    len : length rs ≡ length ps
    len = len0 ∙ ap length ew

    reads_on : PartsReadOn net ls first end (cells_of qs) ps rs
    reads_on = subst (λ (x : List ℕ). PartsReadOn net x first end (cells_of qs) ps rs) el
        (subst (λ (x : List FlowPart). PartsReadOn net lseen first end (cells_of x) ps rs) eq (subst (λ (x : List PushPart). PartsReadOn net lseen first end (cells_of seen) x rs) ew reads0))

    reads : PartsRead net ls first end (cells_of qs) ps rs
    reads = parts_read net ls first end (cells_of qs) ps rs reads_on

so_far_same : (net : FlowNet) (labels xs : List ℕ) (m k : ℕ → Bool) (c d : Cells) → ((v : ℕ) → v < node_count net → k v ≡ m v) → DeliveredSoFar net labels xs m c d → DeliveredSoFar net labels xs k c d
so_far_same net labels xs m k c d e g = record { given = λ v vn h. g.given v vn (sym (e v vn) ∙ h); kept = λ v vn h. g.kept v vn (sym (e v vn) ∙ h) }

-- what a delivery of a range asks
pub range_safe : (net : FlowNet) (first end : ℕ) (qs seen : List FlowPart) (ls : List ℕ) (ds : List Bool) (cs : List ℕ) (b : Bool) (ps pseen : List PushPart) (s : Bool) → IsFlowNet net → seen ≡ qs → pseen ≡ ps
    → AreFlowParts net 0 qs → NoneMarked (is_marked (flow_state qs ls ds cs b)) first end
    → IsPartlyDelivered net ls (values_of ps) (is_marked (flow_state qs ls ds cs b)) (cells_of qs) → PartsSafe net (values_of pseen) first end seen
range_safe net first end qs seen ls ds cs b ps pseen s ok eq ep cut none mid =
    subst (λ (x : List PushPart). PartsSafe net (values_of x) first end seen) (sym ep)
    (subst (λ (x : List FlowPart). PartsSafe net (values_of ps) first end x) (sym eq) (give_safe net ls (values_of ps) (is_marked (flow_state qs ls ds cs b)) first end qs ok cut none mid))

-- parts delivered over a range of nodes, and marks of that range, are a flow delivered over it
pub range_delivered : (net : FlowNet) (first end : ℕ) (qs seen us now : List FlowPart) (ls lseen : List ℕ) (ds dseen es dnow : List Bool) (cs : List ℕ) (b : Bool) (ps pseen : List PushPart) (s : Bool) → IsFlowNet net
    → seen ≡ qs → lseen ≡ ls → pseen ≡ ps → now ≡ us → dseen ≡ ds → dnow ≡ es → b ≡ false → IsFlowOf net (flow_state qs ls ds cs b) → NoneMarked (is_marked (flow_state qs ls ds cs b)) first end
    → length us ≡ length seen → PartsDelivered net lseen (values_of pseen) first end seen us
    → length es ≡ length dseen → ((v : ℕ) → v < length dseen → slice_index_or es v false ≡ and_range (λ u. slice_index_or dseen u false) first end v)
    → RangeDelivered net (push_state ps s) first end (flow_state qs ls ds cs b) (flow_state now ls dnow cs b)
range_delivered net first end qs seen us now ls lseen ds dseen es dnow cs b ps pseen s ok eq el ep en ed em eb fits none len0 gives0 size0 marks0 =
    subst (λ (x : List FlowPart). RangeDelivered net (push_state ps s) first end (flow_state qs ls ds cs b) (flow_state x ls dnow cs b)) (sym en)
    (subst (λ (x : List Bool). RangeDelivered net (push_state ps s) first end (flow_state qs ls ds cs b) (flow_state us ls x cs b)) (sym em)
    record {
      fits = subst (λ (x : Bool). IsFlowOf net (flow_state us ls es cs x)) (sym eb)
          (flow_with net (flow_state qs ls ds cs b) us ls es ok fits (cut_after_give net ls (values_of ps) first end 0 qs us cut len gives) fits.labelled (size ∙ fits.marks));
      unspent = eb;
      labels = refl;
      marks = marks;
      delivered = λ opening g. so_far_same net ls (values_of ps) (and_range (is_marked (flow_state qs ls ds cs b)) first end) (is_marked (flow_state us ls es cs b)) opening (cells_of us) marks
          (give_more net ls (values_of ps) (is_marked (flow_state qs ls ds cs b)) first end opening qs us ok cut len gives none g);
      kept = λ v vn out. whole_kept net ls (values_of ps) first end qs us ok cut len gives v vn out;
    })
  where
    cut : AreFlowParts net 0 qs
    cut = parts_of net (flow_state qs ls ds cs b) qs ls ds cs b refl eb fits

    len : length us ≡ length qs
    len = len0 ∙ ap length eq

    gives : PartsDelivered net ls (values_of ps) first end qs us
    gives = subst (λ (x : List ℕ). PartsDelivered net x (values_of ps) first end qs us) el
        (subst (λ (x : List PushPart). PartsDelivered net lseen (values_of x) first end qs us) ep (subst (λ (x : List FlowPart). PartsDelivered net lseen (values_of pseen) first end x us) eq gives0))

    size : length es ≡ length ds
    size = size0 ∙ ap length ed

    marks : (v : ℕ) → v < node_count net → slice_index_or es v false ≡ and_range (λ u. slice_index_or ds u false) first end v
    marks v vn = marks0 v (subst (λ (x : List Bool). v < length x) (sym ed) (subst (λ (x : ℕ). v < x) (sym fits.marks) vn))
        ∙ ap (λ (x : List Bool). and_range (λ u. slice_index_or x u false) first end v) ed
