-- What the workers of a phase leave in their parts, together.
use Rattle.std.proofs.Common.{◌≡◌, ℕ, ◌+◌, ◌-◌, ◌<◌, ◌≤◌, true, false, List, length, slice_index, get_or, refl, arith, sym, ap, ◌∙◌, subst, inl, inr}
use Rattle.frame_net.specs.Flow.{pulse}
use Rattle.frame_net.specs.FlowNet.{FlowNet, node_count, IsFlowNet}
use Rattle.pulse_parts.specs.declared.parts.FlowPart.{FlowPart}
use Rattle.pulse_parts.specs.declared.parts.PushPart.{PushPart}
use Rattle.pulse_parts.specs.Parts.{AreFlowParts, ArePushParts, Agree, IsSound, cells_of, pairs, rows_walked, values_of}
use Rattle.pulse_parts.specs.Reading.{WholesRead, active_below}
use Rattle.pulse_parts.specs.Delivering.{PartsDelivered, PartsSafe}
use Rattle.pulse_parts.specs.Listing.{HasTurning, ListActive, ListsActive, active_by}
use Rattle.pulse_parts.specs.Visiting.{WholeDelivered, WholesDelivered}
use Rattle.pulse_parts.proofs.JoinedPartLaws.{AtPart, at_part}
use Rattle.pulse_parts.specs.Labels.{AreLabelled, KeepLabels, KeepsLabels}
use Rattle.pulse_parts.specs.Runs.{AreRead, ArePulsed}
use Rattle.pulse_parts.specs.Start.{PushesNumbered}
use Rattle.pulse_parts.proofs.AgreeingStateLaws.{agree_pulse, agree_then, sound_same}
use Rattle.pulse_parts.proofs.HoldLaws.{hold_same}
use Rattle.pulse_parts.proofs.LabelLaws.{labelled_parts}
use Rattle.pulse_parts.proofs.NumberLaws.{numbered_read}
use Rattle.pulse_parts.proofs.PulseLaws.{ready, ready_safe, Pulsed, pulsed}
use Rattle.pulse_parts.proofs.WholeDeliveryLaws.{cut_after_give}
use Rattle.pulse_parts.proofs.WholeReadLaws.{wholes_read, wholes_walked}

-- every node read, over the elements of a vector
pub all_read : (net : FlowNet) (labels : List ℕ) (qs : List FlowPart) (ps was rs now : List PushPart) → IsFlowNet net → was ≡ ps → now ≡ rs
    → ArePushParts net 0 ps → length rs ≡ length was → WholesRead net labels (cells_of qs) was rs → AreRead net labels qs now
all_read net labels qs ps was rs now ok ew en cut len reads =
    subst (λ (x : List PushPart). AreRead net labels qs x) (sym en)
    (ready net (node_count net) labels qs was rs ok refl (subst (λ (x : List PushPart). ArePushParts net 0 x) (sym ew) cut) len (wholes_read net labels (cells_of qs) was rs reads))

-- together the workers of a whole Read walk as many rows as there are active nodes
pub all_walked : (net : FlowNet) (labels : List ℕ) (qs : List FlowPart) (ps was rs now : List PushPart) → was ≡ ps → now ≡ rs
    → ArePushParts net 0 ps → length rs ≡ length was → WholesRead net labels (cells_of qs) was rs → rows_walked now ≡ active_below net labels (cells_of qs) (node_count net)
all_walked net labels qs ps was rs now ew en cut len reads =
    let sum : rows_walked rs + active_below net labels (cells_of qs) 0 ≡ active_below net labels (cells_of qs) (node_count net) =
    wholes_walked net labels 0 (cells_of qs) was rs (subst (λ (x : List PushPart). ArePushParts net 0 x) (sym ew) cut) len reads in
    omega (arith, sum, ap rows_walked en)

-- the parts stay the workers' in their order
pub all_numbered : (net : FlowNet) (labels : List ℕ) (qs : List FlowPart) (ps was rs now : List PushPart) → was ≡ ps → now ≡ rs → length rs ≡ length was → WholesRead net labels (cells_of qs) was rs → PushesNumbered ps → PushesNumbered now
all_numbered net labels qs ps was rs now ew en len reads n =
    subst (λ (x : List PushPart). PushesNumbered x) (sym en)
    (numbered_read net labels 0 (node_count net) (cells_of qs) was rs len (wholes_read net labels (cells_of qs) was rs reads) (subst (λ (x : List PushPart). PushesNumbered x) (sym ew) n))

-- after a whole Read each part can be delivered, with no number leaving its type
pub all_safe : (net : FlowNet) (m : ℕ) (labels : List ℕ) (qs was : List FlowPart) (rs : List PushPart) → IsFlowNet net → m ≡ node_count net → was ≡ qs → AreFlowParts net 0 qs → IsSound net (pairs net (cells_of qs) labels)
    → AreRead net labels qs rs → PartsSafe net (values_of rs) 0 m was
all_safe net m labels qs was rs ok em ew cut sound r =
    subst (λ (x : List FlowPart). PartsSafe net (values_of rs) 0 m x) (sym ew) (ready_safe net m labels qs rs ok em cut sound r)

-- a delivery over the elements of vectors is one over the parts that they are
pub all_delivered : (net : FlowNet) (labels xs : List ℕ) (qs was us now : List FlowPart) → was ≡ qs → now ≡ us → WholesDelivered net labels xs was us → WholesDelivered net labels xs qs now
all_delivered net labels xs qs was us now ew en gives =
    subst (λ (x : List FlowPart). WholesDelivered net labels xs qs x) (sym en) (subst (λ (x : List FlowPart). WholesDelivered net labels xs x us) ew gives)

-- parts that were delivered whole were delivered from node 0 up to the last one
pub parts_delivered : (net : FlowNet) (labels xs : List ℕ) (qs us : List FlowPart) → WholesDelivered net labels xs qs us → PartsDelivered net labels xs 0 (node_count net) qs us
parts_delivered net labels xs qs us gives i d h = (gives i d h).is_delivered

-- ---- a delivery over parts that were cut anew

-- a sound state stays sound in parts that were cut anew
pub sound_anew : (net : FlowNet) (labels : List ℕ) (qs us : List FlowPart) → IsFlowNet net → Agree (node_count net) (pairs net (cells_of qs) labels) (pairs net (cells_of us) labels)
    → IsSound net (pairs net (cells_of qs) labels) → IsSound net (pairs net (cells_of us) labels)
sound_anew net labels qs us ok agree sound = sound_same net (pairs net (cells_of qs) labels) (pairs net (cells_of us) labels) ok agree sound

-- pushes that were read before the parts were cut anew are right for the new parts
pub read_anew : (net : FlowNet) (labels : List ℕ) (qs us : List FlowPart) (rs : List PushPart) → IsFlowNet net → Agree (node_count net) (pairs net (cells_of qs) labels) (pairs net (cells_of us) labels)
    → AreRead net labels qs rs → AreRead net labels us rs
read_anew net labels qs us rs ok agree r = record { cut = r.cut; holds = hold_same net (cells_of qs) (cells_of us) labels (values_of rs) ok agree r.holds }

-- after a whole delivery the parts hold a new label for each node
pub labels_ready : (net : FlowNet) (n : ℕ) (labels xs : List ℕ) (qs us seen : List FlowPart) → n ≡ node_count net → AreFlowParts net 0 qs → length us ≡ length qs
    → WholesDelivered net labels xs qs us → seen ≡ us → AreLabelled n 0 seen
labels_ready net n labels xs qs us seen en cut len gives es =
    subst (λ (x : List FlowPart). AreLabelled n 0 x) (sym es) (labelled_parts net n us en (cut_after_give net labels xs 0 (node_count net) 0 qs us cut len (parts_delivered net labels xs qs us gives)))

-- after a whole Read, a whole delivery and the turn of the labels, the parts hold the state after
-- the pulse
pub all_pulsed : (net : FlowNet) (labels next : List ℕ) (qs ms us seen : List FlowPart) (rs : List PushPart) → IsFlowNet net → AreFlowParts net 0 ms → Agree (node_count net) (pairs net (cells_of qs) labels) (pairs net (cells_of ms) labels)
    → IsSound net (pairs net (cells_of qs) labels) → AreRead net labels qs rs → length us ≡ length ms → WholesDelivered net labels (values_of rs) ms us → seen ≡ us
    → length labels ≡ node_count net → length next ≡ length labels → ((v : ℕ) → v < length labels → slice_index next v ≡ slice_index (cells_of seen).next v)
    → ArePulsed net labels next qs us
all_pulsed net labels next qs ms us seen rs ok cut agree sound r len gives es size same turned =
    let p : Pulsed net labels next ms us rs = pulsed net (node_count net) labels next ms us rs ok refl cut (sound_anew net labels qs ms ok agree sound) (read_anew net labels qs ms rs ok agree r) len (parts_delivered net labels (values_of rs) ms us gives) (same ∙ size)
    (λ v vn. subst (λ (x : List FlowPart). slice_index next v ≡ slice_index (cells_of x).next v) es (turned v (subst (λ (k : ℕ). v < k) (sym size) vn))) in
    record {
      flow = p.fit.flow;
      labelled = p.fit.labelled;
      agree = agree_then (node_count net) (pulse (node_count net) (pairs net (cells_of qs) labels)) (pulse (node_count net) (pairs net (cells_of ms) labels)) (pairs net (cells_of us) next)
          (agree_pulse (node_count net) (pairs net (cells_of qs) labels) (pairs net (cells_of ms) labels) agree) p.agree;
    }

-- ---- lists

-- the lists of a delivery hold all nodes whose labels change
pub keep_labels : (net : FlowNet) (labels xs : List ℕ) (qs us seen : List FlowPart) → length us ≡ length qs → WholesDelivered net labels xs qs us → seen ≡ us → KeepLabels labels seen
keep_labels net labels xs qs us seen len gives es = subst (λ (x : List FlowPart). KeepLabels labels x) (sym es) (λ i d h done. of_part i d h done)
  where
    of_part : (i : ℕ) (d : FlowPart) → i < length us → (get_or us i d).active.complete ≡ true → KeepsLabels labels (get_or us i d)
    of_part i d h done =
        let t : HasTurning (node_count net) labels (get_or us i d).first (get_or us i d).end (get_or us i d).excess.items (get_or us i d).next.items (get_or us i d).active.nodes.items =
        (gives i d (subst (λ (m : ℕ). i < m) len h)).turning done in
        record { within = t.within; rest = λ v lo hi. elim (t.rest v lo hi) [ inl at ↦ inl at | inr quiet ↦ inr quiet.1 ] }

-- after the turn they hold all active nodes
pub lists_turned : (net : FlowNet) (labels xs next : List ℕ) (qs us seen : List FlowPart) → IsFlowNet net → AreFlowParts net 0 qs → length us ≡ length qs → WholesDelivered net labels xs qs us → seen ≡ us → length labels ≡ node_count net
    → length next ≡ length labels → ((v : ℕ) → v < length labels → slice_index next v ≡ slice_index (cells_of seen).next v) → ListActive (length next) next us
lists_turned net labels xs next qs us seen ok cut len gives es each size turned0 =
    subst (λ (n : ℕ). ListActive n next us) (sym (size ∙ each)) (λ i d h. of_part i d h)
  where
    cut2 : AreFlowParts net 0 us
    cut2 = cut_after_give net labels xs 0 (node_count net) 0 qs us cut len (parts_delivered net labels xs qs us gives)

    now : (i : ℕ) (d : FlowPart) → i < length us → (v : ℕ) → (get_or us i d).first ≤ v → v < (get_or us i d).end → slice_index next v ≡ slice_index (get_or us i d).next.items (v - (get_or us i d).first)
    now i d h v lo hi =
        let a : AtPart net us v (get_or us i d) = at_part net us v i d ok cut2 h lo hi in
        turned0 v (omega (arith, hi, a.fit.within, each)) ∙ (ap (λ (x : List FlowPart). slice_index (cells_of x).next v) es ∙ a.next)

    of_part : (i : ℕ) (d : FlowPart) → i < length us → ListsActive (node_count net) next (get_or us i d)
    of_part i d h =
        let w : WholeDelivered net labels xs (get_or qs i d) (get_or us i d) = gives i d (subst (λ (m : ℕ). i < m) len h) in
        record {
          within = λ done. (w.turning done).within;
          rising = λ done. (w.turning done).rising;
          rest = λ done v lo hi. elim ((w.turning done).rest v lo hi) [
            | inl at ↦ inl at
            | inr quiet ↦ inr (subst (λ (l : ℕ). active_by (node_count net) v (slice_index (get_or us i d).excess.items (v - (get_or us i d).first)) l ≡ false) (sym (now i d h v lo hi ∙ quiet.1)) quiet.0)
          ];
          next = λ done v lo hi. sym (now i d h v lo hi);
        }

-- lists seen, of slices, for the number of nodes
pub lists_seen : (net : FlowNet) (ls lseen : List ℕ) (qs seen : List FlowPart) → length ls ≡ node_count net → lseen ≡ ls → seen ≡ qs → ListActive (length ls) ls qs → ListActive (node_count net) lseen seen
lists_seen net ls lseen qs seen size el es lists =
    subst (λ (x : List FlowPart). ListActive (node_count net) lseen x) (sym es)
    (subst (λ (x : List ℕ). ListActive (node_count net) x qs) (sym el) (subst (λ (n : ℕ). ListActive n ls qs) size lists))
