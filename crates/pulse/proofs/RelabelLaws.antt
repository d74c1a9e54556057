-- A flow whose labels become exact, and when that is due.
use Rattle.std.proofs.Common.{◌≡◌, ℕ, ◌<◌, ◌≤◌, ◌%◌, ◌==◌, Bool, true, false, List, length, slice_index, refl, sym, ap, ◌∙◌, subst}
use Rattle.std.proofs.lemmas.Bool.{eq-eqb, ne_eqb, and_from, and_left, and_right}
use Rattle.frame_net.specs.Flow.{State}
use Rattle.frame_net.specs.Laws.{IsDistance}
use Rattle.frame_net.proofs.ExactLabelLaws.{exact-rises}
use Rattle.frame_net.specs.FlowNet.{FlowNet, node_count, IsFlowNet}
use Rattle.pulse_parts.specs.declared.parts.FlowPart.{FlowPart}
use Rattle.pulse_parts.specs.Listing.{ListActive}
use Rattle.pulse_parts.specs.Parts.{Agree, AreFlowParts, IsSound, cells_of, pairs}
use Rattle.pulse_parts.specs.Labels.{AreLabelled, HoldLabels}
use Rattle.pulse_parts.specs.Runs.{any_active}
use Rattle.pulse_parts.proofs.AgreeingStateLaws.{agree_self, sound_same}
use Rattle.pulse_parts.proofs.HoldingLaws.{held_cut, held_lists, held_state}
use Rattle.pulse_parts.proofs.LabelLaws.{labelled_parts}
use Rattle.pulse_parts.specs.Distances.{exact}
use Rattle.pulse_parts.specs.ExactRuns.{after_pulse}
use Rattle.pulse_parts.proofs.DistanceLaws.{exact_is}
use Rattle.pulse_parts.proofs.RunLaws.{exact_sound, after-due, after-not}
use Rattle.pulse.specs.Values.{FlowState, flow_state}
use Rattle.pulse.specs.Conditions.{IsBetween, IsFlowOf, state_of}
use Rattle.pulse.proofs.FlowLaws.{parts_of, flow_unspent, flow_with}

-- a flow whose labels have become exact
pub record IsRelabelled (net : FlowNet) (old new : FlowState) : Type 0 where
  -- the flow is between two pulses
  pub between : IsBetween net new
  -- its state is the one before, with exact labels
  pub agree : Agree (node_count net) (exact (node_count net) (state_of net old)) (state_of net new)

relabelled_of : (net : FlowNet) (qs : List FlowPart) (ls next : List ℕ) (ds : List Bool) (cs : List ℕ) → IsFlowNet net → IsBetween net (flow_state qs ls ds cs false) → length next ≡ length ls
    → IsDistance (node_count net) (pairs net (cells_of qs) ls) (slice_index next) → IsRelabelled net (flow_state qs ls ds cs false) (flow_state qs next ds cs false)
relabelled_of net qs ls next ds cs ok old size far = record {
  between = record {
    fits = flow_with net (flow_state qs ls ds cs false) qs next ds ok old.fits (parts_of net (flow_state qs ls ds cs false) qs ls ds cs false refl refl old.fits)
        (record { each = size ∙ old.fits.labelled.each; small = far.small }) old.fits.marks;
    unspent = refl;
    none = old.none;
    sound = sound_same net (exact (node_count net) (pairs net (cells_of qs) ls)) (pairs net (cells_of qs) next) ok agree (exact_sound net (pairs net (cells_of qs) ls) ok old.sound);
  };
  agree = agree;
}
  where
    agree : Agree (node_count net) (exact (node_count net) (pairs net (cells_of qs) ls)) (pairs net (cells_of qs) next)
    agree = exact_is (node_count net) (pairs net (cells_of qs) ls) (pairs net (cells_of qs) next) (λ v w h l. refl) (λ v h. refl) far

-- a flow whose labels become the residual distances to the sink has become exact
pub relabelled : (net : FlowNet) (f : FlowState) (qs seen : List FlowPart) (ls lseen next lnow : List ℕ) (ds : List Bool) (cs : List ℕ) (b : Bool) → IsFlowNet net → flow_state qs ls ds cs b ≡ f
    → seen ≡ qs → lseen ≡ ls → lnow ≡ next → length next ≡ length lseen → IsBetween net f
    → IsDistance (node_count net) (pairs net (cells_of seen) lseen) (slice_index next) → IsRelabelled net f (flow_state qs lnow ds cs b)
relabelled net f qs seen ls lseen next lnow ds cs b ok ef es el en size between far =
    let eb : b ≡ false = flow_unspent f qs ls ds cs b ef between.unspent in
    let here : flow_state qs ls ds cs false ≡ f = ap (λ (x : Bool). flow_state qs ls ds cs x) (sym eb) ∙ ef in
    let old : IsBetween net (flow_state qs ls ds cs false) = subst (λ (g : FlowState). IsBetween net g) (sym here) between in
    let far' : IsDistance (node_count net) (pairs net (cells_of qs) ls) (slice_index next) =
    subst (λ (x : List ℕ). IsDistance (node_count net) (pairs net (cells_of qs) x) (slice_index next)) el
    (subst (λ (x : List FlowPart). IsDistance (node_count net) (pairs net (cells_of x) lseen) (slice_index next)) es far) in
    let done : IsRelabelled net (flow_state qs ls ds cs false) (flow_state qs next ds cs false) = relabelled_of net qs ls next ds cs ok old (size ∙ ap length el) far' in
    subst (λ (g : FlowState). IsRelabelled net g (flow_state qs lnow ds cs b)) here
    (subst (λ (x : Bool). IsRelabelled net (flow_state qs ls ds cs false) (flow_state qs lnow ds cs x)) (sym eb)
    (subst (λ (x : List ℕ). IsRelabelled net (flow_state qs ls ds cs false) (flow_state qs x ds cs false)) (sym en) done))

-- ---- whether exact labels are due

-- after each N-th pulse that leaves a node active, exact labels are what the run asks
pub when_due : (n k m : ℕ) (s t : State) → m ≡ n → k % m ≡ 0 → true ≡ any_active n s → Agree n (exact n s) t → Agree n (after_pulse n k s) t
when_due n k m s t em due on agree =
    let e : k % n == 0 ≡ true = eq-eqb (k % n) 0 (ap (λ (x : ℕ). k % x) (sym em) ∙ due) in
    subst (λ (x : State). Agree n x t) (sym (after-due n k s (and_from (k % n == 0) (any_active n s) e (sym on)))) agree

-- after a pulse that is no N-th one the run asks no other labels
pub when_not_due : (n k m : ℕ) (s : State) → m ≡ n → (k % m ≡ 0 → ⊥) → Agree n (after_pulse n k s) s
when_not_due n k m s em other =
    let e : k % n == 0 ≡ false = ne_eqb (k % n) 0 (λ h. other (ap (λ (x : ℕ). k % x) em ∙ h)) in
    subst (λ (x : State). Agree n x s) (sym (after-not n k s (and_left (k % n == 0) (any_active n s) e))) (agree_self n s)

-- after a pulse that leaves no node active the run asks no other labels
pub when_ended : (n k : ℕ) (s : State) → false ≡ any_active n s → Agree n (after_pulse n k s) s
when_ended n k s off =
    subst (λ (x : State). Agree n x s) (sym (after-not n k s (and_right (k % n == 0) (any_active n s) (sym off)))) (agree_self n s)

-- ---- parts that hold the exact labels

-- a flow in parts that hold the labels
pub held_flow : (net : FlowNet) (f : FlowState) (labels ls : List ℕ) (qs us : List FlowPart) (ds : List Bool) (cs : List ℕ) (b : Bool) → IsFlowNet net → length us ≡ length qs → HoldLabels labels qs us
    → IsRelabelled net f (flow_state qs ls ds cs b) → IsRelabelled net f (flow_state us ls ds cs b)
held_flow net f labels ls qs us ds cs b ok len h r =
    let eb : b ≡ false = r.between.unspent in
    let cut : AreFlowParts net 0 us = held_cut net labels 0 qs us len h (parts_of net (flow_state qs ls ds cs b) qs ls ds cs b refl eb r.between.fits) in
    let same : pairs net (cells_of us) ls ≡ pairs net (cells_of qs) ls = held_state net labels ls qs us len h in
    record {
      between = record {
        fits = subst (λ (x : Bool). IsFlowOf net (flow_state us ls ds cs x)) (sym eb) (flow_with net (flow_state qs ls ds cs b) us ls ds ok r.between.fits cut r.between.fits.labelled r.between.fits.marks);
        unspent = eb;
        none = r.between.none;
        sound = subst (λ (s : State). IsSound net s) (sym same) r.between.sound;
      };
      agree = subst (λ (s : State). Agree (node_count net) (exact (node_count net) (state_of net f)) s) (sym same) r.agree;
    }

-- parts that hold labels by slices hold them by the vectors that these are of
pub holds_seen : (labels lseen : List ℕ) (qs seen us new : List FlowPart) → lseen ≡ labels → seen ≡ qs → us ≡ new → HoldLabels lseen seen new → HoldLabels labels qs us
holds_seen labels lseen qs seen us new el es eu h =
    subst (λ (x : List FlowPart). HoldLabels labels qs x) (sym eu) (subst (λ (x : List FlowPart). HoldLabels labels x new) es (subst (λ (x : List ℕ). HoldLabels x seen new) el h))

-- the parts can hold the labels
pub hold_ready : (net : FlowNet) (f : FlowState) (qs seen : List FlowPart) (ls lseen next lnow held : List ℕ) (ds : List Bool) (cs : List ℕ) (b : Bool) → flow_state qs ls ds cs b ≡ f → seen ≡ qs → lseen ≡ ls → lnow ≡ next → held ≡ lnow
    → length next ≡ length lseen → IsBetween net f → AreLabelled (length held) 0 seen
hold_ready net f qs seen ls lseen next lnow held ds cs b ef es el en eh size between =
    let here : IsBetween net (flow_state qs ls ds cs b) = subst (λ (g : FlowState). IsBetween net g) (sym ef) between in
    let all : length held ≡ node_count net = ap length eh ∙ (ap length en ∙ (size ∙ (ap length el ∙ here.fits.labelled.each))) in
    subst (λ (x : List FlowPart). AreLabelled (length held) 0 x) (sym es)
    (labelled_parts net (length held) qs all (parts_of net f qs ls ds cs b ef (flow_unspent f qs ls ds cs b ef between.unspent) between.fits))

-- the lists of active nodes hold on, since no label falls
pub lists_relabelled : (net : FlowNet) (f : FlowState) (qs seen us : List FlowPart) (ls lseen next lnow : List ℕ) (ds : List Bool) (cs : List ℕ) (b : Bool) → flow_state qs ls ds cs b ≡ f → seen ≡ qs → lseen ≡ ls → lnow ≡ next
    → length next ≡ length lseen → IsBetween net f → IsDistance (node_count net) (pairs net (cells_of seen) lseen) (slice_index next) → length us ≡ length qs → HoldLabels lnow qs us
    → ListActive (length ls) ls qs → ListActive (length lnow) lnow us
lists_relabelled net f qs seen us ls lseen next lnow ds cs b ef es el en size between far len h lists =
    let here : IsBetween net (flow_state qs ls ds cs b) = subst (λ (g : FlowState). IsBetween net g) (sym ef) between in
    let cut : AreFlowParts net 0 qs = parts_of net f qs ls ds cs b ef (flow_unspent f qs ls ds cs b ef between.unspent) between.fits in
    let far' : IsDistance (node_count net) (pairs net (cells_of qs) ls) (slice_index next) =
    subst (λ (x : List ℕ). IsDistance (node_count net) (pairs net (cells_of qs) x) (slice_index next)) el
    (subst (λ (x : List FlowPart). IsDistance (node_count net) (pairs net (cells_of x) lseen) (slice_index next)) es far) in
    let up : (v : ℕ) → v < node_count net → slice_index ls v ≤ slice_index lnow v = λ v vn.
    subst (λ (x : List ℕ). slice_index ls v ≤ slice_index x v) (sym en) (exact-rises (node_count net) (pairs net (cells_of qs) ls) (slice_index next) here.sound.valid far' v vn) in
    let same : length ls ≡ length lnow = sym (ap length en ∙ (size ∙ ap length el)) in
    subst (λ (n : ℕ). ListActive n lnow us) same (held_lists net (length ls) lnow ls qs us cut len h up lists)
