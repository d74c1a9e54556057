-- Phases over the fields of a flow and of pushes.
use Rattle.std.proofs.Common.{◌≡◌, ℕ, ◌-◌, ◌^◌, min, Bool, true, false, List, length, arith, refl, sym, ap, ◌∙◌, subst}
use Rattle.frame_net.specs.FlowNet.{FlowNet, node_count, IsFlowNet}
use Rattle.pulse_parts.specs.declared.parts.FlowPart.{FlowPart}
use Rattle.pulse_parts.specs.declared.parts.PushPart.{PushPart}
use Rattle.pulse_parts.specs.Listing.{ListActive}
use Rattle.pulse_parts.specs.Parts.{LabelsFit, cells_of, rows_walked}
use Rattle.pulse_parts.specs.Reading.{active_below}
use Rattle.pulse_parts.proofs.WalkLaws.{active_few}
use Rattle.pulse_parts.specs.Runs.{AreRead, ArePulsed}
use Rattle.pulse.specs.Values.{FlowState, PushState, flow_state, push_state}
use Rattle.pulse.specs.Conditions.{IsFlowOf, ArePushesOf, IsBetween, active_count}
use Rattle.pulse.specs.Phases.{AfterPulse, AfterDelivery, AfterRefusal, IsReadPhase}
use Rattle.pulse.proofs.FlowLaws.{flow_spent, pushes_with}
use Rattle.pulse.proofs.RangeLaws.{push_parts}
use Rattle.pulse.proofs.TurnLaws.{after_pulse}

-- pushes of parts that were all read are pushes of the network
pub read_fits : (net : FlowNet) (labels : List ℕ) (qs : List FlowPart) (rs : List PushPart) (s : Bool) → IsFlowNet net → s ≡ false → AreRead net labels qs rs → ArePushesOf net (push_state rs s)
read_fits net labels qs rs s ok es r = subst (λ (x : Bool). ArePushesOf net (push_state rs x)) (sym es) (pushes_with net rs ok r.cut)

-- the rows that a phase walked are the active nodes'
pub read_walked : (net : FlowNet) (f : FlowState) (qs seen : List FlowPart) (ls lseen : List ℕ) (ds : List Bool) (cs : List ℕ) (b : Bool) (rs : List PushPart) → IsFlowNet net → flow_state qs ls ds cs b ≡ f → seen ≡ qs → lseen ≡ ls
    → rows_walked rs ≡ active_below net lseen (cells_of seen) (node_count net) → min (rows_walked rs) (2 ^ 32 - 1) ≡ active_count net f
read_walked net f qs seen ls lseen ds cs b rs ok ef es el sum =
    let there : active_below net ls (cells_of qs) (node_count net) ≡ active_count net f = ap (active_count net) ef in
    let parts : active_below net lseen (cells_of seen) (node_count net) ≡ active_below net lseen (cells_of qs) (node_count net) = ap (λ (x : List FlowPart). active_below net lseen (cells_of x) (node_count net)) es in
    let labels : active_below net lseen (cells_of qs) (node_count net) ≡ active_below net ls (cells_of qs) (node_count net) = ap (λ (x : List ℕ). active_below net x (cells_of qs) (node_count net)) el in
    omega (arith, sum, parts, labels, there, active_few net ls (cells_of qs) (node_count net), ok.short)

-- what a flow's parts list, over slices
pub listed_seen : (net : FlowNet) (f : FlowState) (qs seen : List FlowPart) (ls lseen : List ℕ) (ds : List Bool) (cs : List ℕ) (b listed : Bool) → flow_state qs ls ds cs b ≡ f → seen ≡ qs → lseen ≡ ls → IsFlowOf net f
    → (listed ≡ true → ListActive (length ls) ls qs) → listed ≡ true → ListActive (node_count net) lseen seen
listed_seen net f qs seen ls lseen ds cs b listed ef es el fits lists on =
    let size : length ls ≡ node_count net = (subst (λ (g : FlowState). IsFlowOf net g) (sym ef) fits).labelled.each in
    subst (λ (x : List FlowPart). ListActive (node_count net) lseen x) (sym es) (subst (λ (x : List ℕ). ListActive (node_count net) x qs) (sym el) (subst (λ (n : ℕ). ListActive n ls qs) size (lists on)))

fields : (net : FlowNet) (f : FlowState) (p : PushState) (qs : List FlowPart) (ls : List ℕ) (ds : List Bool) (cs : List ℕ) (b : Bool) (ps : List PushPart) (s : Bool) → flow_state qs ls ds cs b ≡ f → push_state ps s ≡ p
    → IsReadPhase net f p → IsReadPhase net (flow_state qs ls ds cs b) (push_state ps s)
fields net f p qs ls ds cs b ps s ef ep r =
    subst (λ (g : FlowState). IsReadPhase net g (push_state ps s)) (sym ef) (subst (λ (q : PushState). IsReadPhase net f q) (sym ep) r)

-- the pushes that a delivery phase is given
pub phase_read : (net : FlowNet) (f : FlowState) (p : PushState) (qs : List FlowPart) (ls lseen : List ℕ) (ds : List Bool) (cs : List ℕ) (b : Bool) (ps seen : List PushPart) (s : Bool) → flow_state qs ls ds cs b ≡ f → push_state ps s ≡ p
    → lseen ≡ ls → seen ≡ ps → s ≡ false → ArePushesOf net p → IsReadPhase net f p → AreRead net lseen qs seen
phase_read net f p qs ls lseen ds cs b ps seen s ef ep el es eb fits r =
    subst (λ (x : List PushPart). AreRead net lseen qs x) (sym es) (subst (λ (x : List ℕ). AreRead net x qs ps) (sym el)
    record { cut = push_parts net 0 ps ((subst (λ (q : PushState). ArePushesOf net q) (sym ep) fits).ranges eb); holds = (fields net f p qs ls ds cs b ps s ef ep r).holds })

-- a delivery phase over the pushes of a read phase leaves the flow after a pulse
pub phase_delivered : (net : FlowNet) (f : FlowState) (p : PushState) (qs us : List FlowPart) (ls lseen next lnow : List ℕ) (ds : List Bool) (cs : List ℕ) (b : Bool) (ps : List PushPart) (s : Bool) → IsFlowNet net
    → flow_state qs ls ds cs b ≡ f → push_state ps s ≡ p → b ≡ false → s ≡ false → IsReadPhase net f p → lseen ≡ ls → lnow ≡ next → ArePulsed net lseen next qs us
    → AfterDelivery net f (flow_state us lnow ds cs b) p
phase_delivered net f p qs us ls lseen next lnow ds cs b ps s ok ef ep eb es r el en pulsed0 =
    let old : IsBetween net (flow_state qs ls ds cs false) = subst (λ (x : Bool). IsBetween net (flow_state qs ls ds cs x)) eb (fields net f p qs ls ds cs b ps s ef ep r).between in
    let pulsed : ArePulsed net ls next qs us = subst (λ (x : List ℕ). ArePulsed net x next qs us) el pulsed0 in
    let after : AfterPulse net (flow_state qs ls ds cs b) (flow_state us lnow ds cs b) = subst (λ (x : Bool). AfterPulse net (flow_state qs ls ds cs x) (flow_state us lnow ds cs x)) (sym eb) (after_pulse net qs us ls next lnow ds cs ok old en pulsed) in
    record {
      before = sym (ap (λ (g : FlowState). g.spent) ef) ∙ eb;
      pushes = sym (ap (λ (q : PushState). q.spent) ep) ∙ es;
      pulse = subst (λ (g : FlowState). AfterPulse net g (flow_state us lnow ds cs b)) ef after;
    }

-- a refused delivery
pub phase_refused : (net : FlowNet) (f : FlowState) (qs us : List FlowPart) (ls lnow : List ℕ) (ds : List Bool) (cs : List ℕ) (b : Bool) → flow_state qs ls ds cs b ≡ f → lnow ≡ ls → IsFlowOf net f → IsFlowOf net (flow_state us lnow ds cs true)
phase_refused net f qs us ls lnow ds cs b ef en fits0 =
    let fits : IsFlowOf net (flow_state qs ls ds cs b) = subst (λ (g : FlowState). IsFlowOf net g) (sym ef) fits0 in
    flow_spent net (flow_state qs ls ds cs b) us lnow fits (subst (λ (x : List ℕ). LabelsFit net x) (sym en) fits.labelled)

-- what it leaves
pub left_refused : (f : FlowState) (qs us : List FlowPart) (ls lnow : List ℕ) (ds : List Bool) (cs : List ℕ) (b : Bool) → flow_state qs ls ds cs b ≡ f → lnow ≡ ls → AfterRefusal f (flow_state us lnow ds cs true)
left_refused f qs us ls lnow ds cs b ef en = record {
  spent = refl;
  labels = en ∙ ap (λ (g : FlowState). g.labels) ef;
  delivered = ap (λ (g : FlowState). g.delivered) ef;
  caps = ap (λ (g : FlowState). g.caps) ef;
}
