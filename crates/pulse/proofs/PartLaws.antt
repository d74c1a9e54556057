-- A flow that is parted anew between two pulses.
use Rattle.std.proofs.Common.{◌≡◌, ℕ, Bool, false, List, length, sym, ap, ◌∙◌, subst}
use Rattle.frame_net.specs.Flow.{pulse}
use Rattle.frame_net.specs.FlowNet.{FlowNet, node_count, IsFlowNet}
use Rattle.pulse_parts.specs.declared.parts.FlowPart.{FlowPart}
use Rattle.pulse_parts.specs.Listing.{ListActive}
use Rattle.pulse_parts.specs.Parts.{Agree, AreFlowParts, cells_of, pairs}
use Rattle.pulse_parts.proofs.AgreeingStateLaws.{agree_then, sound_same}
use Rattle.pulse.specs.Values.{FlowState, flow_state}
use Rattle.pulse.specs.Conditions.{IsBetween, IsFlowOf, state_of}
use Rattle.pulse.specs.Phases.{AfterPulse}
use Rattle.pulse.proofs.FlowLaws.{parts_of, flow_unspent, flow_with}

-- a state in other parts
pub record IsParting (net : FlowNet) (old new : FlowState) : Type 0 where
  -- the flow is between two pulses
  pub between : IsBetween net new
  -- its state is the one before
  pub agree : Agree (node_count net) (state_of net old) (state_of net new)

-- a flow between two pulses has parts that hold the network's nodes, end to end
pub between_parts : (net : FlowNet) (f : FlowState) (qs : List FlowPart) (ls : List ℕ) (ds : List Bool) (cs : List ℕ) (b : Bool) → flow_state qs ls ds cs b ≡ f → IsBetween net f → AreFlowParts net 0 qs
between_parts net f qs ls ds cs b ef between = parts_of net f qs ls ds cs b ef (flow_unspent f qs ls ds cs b ef between.unspent) between.fits

-- a flow whose parts were cut anew, with its state, is between two pulses
pub parted_state : (net : FlowNet) (f : FlowState) (qs us : List FlowPart) (ls lseen : List ℕ) (ds : List Bool) (cs : List ℕ) (b : Bool) → IsFlowNet net → flow_state qs ls ds cs b ≡ f → lseen ≡ ls → IsBetween net f
    → AreFlowParts net 0 us → Agree (node_count net) (pairs net (cells_of qs) lseen) (pairs net (cells_of us) lseen) → IsParting net f (flow_state us ls ds cs b)
parted_state net f qs us ls lseen ds cs b ok ef el between cut agree0 =
    let eb : b ≡ false = flow_unspent f qs ls ds cs b ef between.unspent in
    let here : IsBetween net (flow_state qs ls ds cs b) = subst (λ (g : FlowState). IsBetween net g) (sym ef) between in
    let agree : Agree (node_count net) (pairs net (cells_of qs) ls) (pairs net (cells_of us) ls) =
    subst (λ (x : List ℕ). Agree (node_count net) (pairs net (cells_of qs) x) (pairs net (cells_of us) x)) el agree0 in
    record {
      between = record {
        fits = subst (λ (x : Bool). IsFlowOf net (flow_state us ls ds cs x)) (sym eb) (flow_with net (flow_state qs ls ds cs b) us ls ds ok here.fits cut here.fits.labelled here.fits.marks);
        unspent = eb;
        none = here.none;
        sound = sound_same net (pairs net (cells_of qs) ls) (pairs net (cells_of us) ls) ok agree here.sound;
      };
      agree = subst (λ (g : FlowState). Agree (node_count net) (state_of net g) (pairs net (cells_of us) ls)) ef agree;
    }

-- if cutting anew keeps lists of the active nodes, a flow's parts still list them
pub parted_lists : (net : FlowNet) (f : FlowState) (qs us : List FlowPart) (ls lseen : List ℕ) (ds : List Bool) (cs : List ℕ) (b : Bool) → flow_state qs ls ds cs b ≡ f → lseen ≡ ls → IsBetween net f
    → (ListActive (node_count net) lseen qs → ListActive (node_count net) lseen us) → ListActive (length ls) ls qs → ListActive (length ls) ls us
parted_lists net f qs us ls lseen ds cs b ef el between anew lists =
    let all : length ls ≡ node_count net = ap (λ (g : FlowState). length g.labels) ef ∙ between.fits.labelled.each in
    subst (λ (n : ℕ). ListActive n ls us) (sym all)
    (subst (λ (x : List ℕ). ListActive (node_count net) x us) el
    (anew (subst (λ (x : List ℕ). ListActive (node_count net) x qs) (sym el) (subst (λ (n : ℕ). ListActive n ls qs) all lists))))

-- after a pulse the flow may be in other parts
pub pulse_parted : (net : FlowNet) (f g h : FlowState) → AfterPulse net f g → IsBetween net h → Agree (node_count net) (state_of net g) (state_of net h) → AfterPulse net f h
pulse_parted net f g h after between agree = record {
  between = between;
  agree = agree_then (node_count net) (pulse (node_count net) (state_of net f)) (state_of net g) (state_of net h) after.agree agree;
}
