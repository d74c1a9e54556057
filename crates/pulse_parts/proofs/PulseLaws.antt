-- All parts read, delivered and turned are the state after the pulse.
use Rattle.std.proofs.Common.{◌≡◌, ℕ, ◌<◌, List, length, slice_index, arith, sym, subst}
use Rattle.frame_net.specs.Flow.{pulse, IsValid}
use Rattle.frame_net.proofs.PulseLaws.{next_valid}
use Rattle.frame_net.specs.FlowNet.{FlowNet, node_count, IsFlowNet}
use Rattle.pulse_parts.specs.declared.parts.FlowPart.{FlowPart}
use Rattle.pulse_parts.specs.declared.parts.PushPart.{PushPart}
use Rattle.pulse_parts.specs.Parts.{pairs, Agree, IsSound, AreFlowParts, ArePushParts, cells_of, values_of}
use Rattle.pulse_parts.specs.Reading.{PartsRead}
use Rattle.pulse_parts.specs.Delivering.{PartsDelivered, PartsSafe}
use Rattle.pulse_parts.specs.Runs.{PartsFit, AreRead}
use Rattle.pulse_parts.proofs.WholeDeliveryLaws.{cut_after_give, whole_given}
use Rattle.pulse_parts.proofs.WholeReadLaws.{cut_after_read, whole_read}
use Rattle.pulse_parts.proofs.StepLaws.{hold_pushes, given_is_pulse, parts_safe}

-- parts of pushes that read all nodes hold what each node pushes
pub ready : (net : FlowNet) (m : ℕ) (labels : List ℕ) (qs : List FlowPart) (ps rs : List PushPart) → IsFlowNet net → m ≡ node_count net → ArePushParts net 0 ps → length rs ≡ length ps
    → PartsRead net labels 0 m (cells_of qs) ps rs → AreRead net labels qs rs
ready net m labels qs ps rs ok em cut len reads0 =
    let reads : PartsRead net labels 0 (node_count net) (cells_of qs) ps rs = subst (λ (x : ℕ). PartsRead net labels 0 x (cells_of qs) ps rs) em reads0 in
    record {
      cut = cut_after_read net labels 0 (node_count net) 0 (cells_of qs) ps rs cut len reads;
      holds = hold_pushes net (cells_of qs) labels (values_of rs) ok (λ v k vn kl. whole_read net labels 0 (node_count net) (cells_of qs) ps rs ok cut len reads v k vn (omega arith) vn kl);
    }

-- once all nodes were read, each part can be delivered
pub ready_safe : (net : FlowNet) (m : ℕ) (labels : List ℕ) (qs : List FlowPart) (rs : List PushPart) → IsFlowNet net → m ≡ node_count net → AreFlowParts net 0 qs → IsSound net (pairs net (cells_of qs) labels)
    → AreRead net labels qs rs → PartsSafe net (values_of rs) 0 m qs
ready_safe net m labels qs rs ok em cut sound r =
    subst (λ (x : ℕ). PartsSafe net (values_of rs) 0 x qs) (sym em) (parts_safe net qs labels (values_of rs) ok cut sound r.holds)

-- the state once every part was delivered and the labels were turned
pub record Pulsed (net : FlowNet) (labels next : List ℕ) (qs us : List FlowPart) (rs : List PushPart) : Type 0 where
  -- the parts and the new labels are those of the network
  pub fit : PartsFit net next us rs
  -- the state is the one after a pulse
  pub agree : Agree (node_count net) (pulse (node_count net) (pairs net (cells_of qs) labels)) (pairs net (cells_of us) next)

-- reading, delivering and turning all parts makes the state after a pulse
pub pulsed : (net : FlowNet) (m : ℕ) (labels next : List ℕ) (qs us : List FlowPart) (rs : List PushPart) → IsFlowNet net → m ≡ node_count net → AreFlowParts net 0 qs
    → IsSound net (pairs net (cells_of qs) labels) → AreRead net labels qs rs → length us ≡ length qs → PartsDelivered net labels (values_of rs) 0 m qs us
    → length next ≡ node_count net → ((v : ℕ) → v < node_count net → slice_index next v ≡ slice_index (cells_of us).next v)
    → Pulsed net labels next qs us rs
pulsed net m labels next qs us rs ok em cut sound r len gives0 size turned =
    let gives : PartsDelivered net labels (values_of rs) 0 (node_count net) qs us = subst (λ (x : ℕ). PartsDelivered net labels (values_of rs) 0 x qs us) em gives0 in
    let agree : Agree (node_count net) (pulse (node_count net) (pairs net (cells_of qs) labels)) (pairs net (cells_of us) next) =
    given_is_pulse net (cells_of qs) (cells_of us) labels next (values_of rs) ok r.holds (λ v vn. whole_given net labels (values_of rs) 0 (node_count net) qs us ok cut len gives v vn (omega arith) vn) turned in
    let valid : IsValid (node_count net) (pulse (node_count net) (pairs net (cells_of qs) labels)) = next_valid (node_count net) (pairs net (cells_of qs) labels) sound.valid in
    record {
      agree = agree;
      fit = record {
        flow = cut_after_give net labels (values_of rs) 0 (node_count net) 0 qs us cut len gives;
        labelled = record { each = size; small = λ w h. omega (arith, agree.label w h, valid.small w h) };
        pushes = r.cut;
      };
    }
