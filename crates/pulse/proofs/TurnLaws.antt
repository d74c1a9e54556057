-- The turn of the labels, and the start, over the fields of a flow.
use Rattle.std.proofs.Common.{◌≡◌, ℕ, ◌<◌, Bool, false, List, length, slice_index, slice_index_or, refl, sym, ap, ◌∙◌, subst, arith}
use Rattle.frame_net.specs.Flow.{State, pulse, IsValid}
use Rattle.frame_net.proofs.PulseLaws.{next_valid}
use Rattle.frame_net.specs.FlowNet.{FlowNet, node_count, cap_at, IsFlowNet, IsStartable}
use Rattle.pulse_parts.specs.declared.parts.FlowPart.{FlowPart}
use Rattle.pulse_parts.specs.Parts.{AreFlowParts, Agree, IsSound, LabelsFit, cells_of, pairs}
use Rattle.pulse_parts.specs.Labels.{AreLabelled}
use Rattle.pulse_parts.specs.Runs.{ArePulsed}
use Rattle.pulse_parts.specs.Start.{PartsHold, LabelsStart, start_res, start_excess}
use Rattle.pulse_parts.proofs.AgreeingStateLaws.{sound_same, sound_pulse}
use Rattle.pulse_parts.proofs.LabelLaws.{labelled_parts}
use Rattle.pulse_parts.proofs.MarkLaws.{give_whole}
use Rattle.pulse_parts.proofs.SizeLaws.{sizes}
use Rattle.pulse_parts.proofs.StartStateLaws.{held_cut, start_agrees, start_is_sound, labels_fit}
use Rattle.pulse.specs.Values.{FlowState, flow_state}
use Rattle.pulse.specs.Conditions.{IsFlowOf, IsBetween, IsStart, IsTurnable, is_marked}
use Rattle.pulse.specs.Phases.{AfterPulse, Turns}
use Rattle.pulse.proofs.FlowLaws.{parts_of, flow_unspent, flow_with}
use Rattle.pulse.proofs.RangeLaws.{flow_ranges}

-- what the turn of the labels asks
pub turn_ready : (f : FlowState) (qs seen : List FlowPart) (ls lseen : List ℕ) (ds : List Bool) (cs : List ℕ) (b : Bool) → flow_state qs ls ds cs b ≡ f → IsTurnable f → seen ≡ qs → lseen ≡ ls → AreLabelled (length lseen) 0 seen
turn_ready f qs seen ls lseen ds cs b e t eq el =
    let fits : IsFlowOf t.net (flow_state qs ls ds cs b) = subst (λ (g : FlowState). IsFlowOf t.net g) (sym e) t.fits in
    subst (λ (x : List FlowPart). AreLabelled (length lseen) 0 x) (sym eq)
    (labelled_parts t.net (length lseen) qs (ap length el ∙ fits.labelled.each) (parts_of t.net f qs ls ds cs b e (flow_unspent f qs ls ds cs b e t.unspent) t.fits))

-- the new labels of a pulse over a sound state are one for each node, none above the number of
-- nodes
pub labels_after : (net : FlowNet) (s t : State) (next : List ℕ) → IsSound net s → length next ≡ node_count net → Agree (node_count net) (pulse (node_count net) s) t → ((v : ℕ) → t.label v ≡ slice_index next v) → LabelsFit net next
labels_after net s t next sound size agree e =
    let valid : IsValid (node_count net) (pulse (node_count net) s) = next_valid (node_count net) s sound.valid in
    record { each = size; small = λ w h. omega (arith, e w, agree.label w h, valid.small w h) }

-- a flow whose labels became the new ones, with no node marked, has made the turn
pub turned : (qs seen : List FlowPart) (ls lseen next lnow : List ℕ) (ds es dnow : List Bool) (cs : List ℕ) (b : Bool) → b ≡ false → seen ≡ qs → lseen ≡ ls → lnow ≡ next → dnow ≡ es
    → length next ≡ length lseen → ((v : ℕ) → v < length lseen → slice_index next v ≡ slice_index (cells_of seen).next v) → length es ≡ length ds → ((v : ℕ) → slice_index_or es v false ≡ false)
    → Turns (flow_state qs ls ds cs b) (flow_state qs lnow dnow cs b)
turned qs seen ls lseen next lnow ds es dnow cs b eb eq el en em size0 turn0 msize none =
    subst (λ (x : List ℕ). Turns (flow_state qs ls ds cs b) (flow_state qs x dnow cs b)) (sym en)
    (subst (λ (x : List Bool). Turns (flow_state qs ls ds cs b) (flow_state qs next x cs b)) (sym em)
    (λ net pushes opening ok fits all sound h g.
    let labels : (v : ℕ) → v < node_count net → slice_index next v ≡ slice_index (cells_of qs).next v = λ v vn.
    turn0 v (subst (λ (x : List ℕ). v < length x) (sym el) (subst (λ (x : ℕ). v < x) (sym fits.labelled.each) vn)) ∙ ap (λ (x : List FlowPart). slice_index (cells_of x).next v) eq in
    let agree : Agree (node_count net) (pulse (node_count net) (pairs net opening ls)) (pairs net (cells_of qs) next) =
    give_whole net ls next pushes (is_marked (flow_state qs ls ds cs b)) opening (cells_of qs) ok h all g labels in
    let size : length next ≡ node_count net = size0 ∙ (ap length el ∙ fits.labelled.each) in (
      record {
        fits = subst (λ (x : Bool). IsFlowOf net (flow_state qs next es cs x)) (sym eb)
            (flow_with net (flow_state qs ls ds cs b) qs next es ok fits (parts_of net (flow_state qs ls ds cs b) qs ls ds cs b refl eb fits)
            (labels_after net (pairs net opening ls) (pairs net (cells_of qs) next) next sound size agree (λ v. refl)) (msize ∙ fits.marks));
        unspent = eb;
        none = λ v vn. none v;
        sound = sound_same net (pulse (node_count net) (pairs net opening ls)) (pairs net (cells_of qs) next) ok agree (sound_pulse net (pairs net opening ls) sound);
      },
      agree,
    )))

-- a flow between two pulses, whose state is the one after a pulse
pub after_pulse : (net : FlowNet) (qs us : List FlowPart) (ls next lnow : List ℕ) (ds : List Bool) (cs : List ℕ) → IsFlowNet net → IsBetween net (flow_state qs ls ds cs false) → lnow ≡ next
    → ArePulsed net ls next qs us → AfterPulse net (flow_state qs ls ds cs false) (flow_state us lnow ds cs false)
after_pulse net qs us ls next lnow ds cs ok old en p =
    subst (λ (x : List ℕ). AfterPulse net (flow_state qs ls ds cs false) (flow_state us x ds cs false)) (sym en)
    record {
      between = record {
        fits = flow_with net (flow_state qs ls ds cs false) us next ds ok old.fits p.flow p.labelled old.fits.marks;
        unspent = refl;
        none = old.none;
        sound = sound_same net (pulse (node_count net) (pairs net (cells_of qs) ls)) (pairs net (cells_of us) next) ok p.agree (sound_pulse net (pairs net (cells_of qs) ls) old.sound);
      };
      agree = p.agree;
    }

-- the start
pub started_flow : (net : FlowNet) (qs : List FlowPart) (ls : List ℕ) (ds : List Bool) (cs : List ℕ) → IsFlowNet net → IsStartable net → PartsHold net (start_res net) (start_excess net) (node_count net) qs
    → length ls ≡ node_count net → LabelsStart net ls → length ds ≡ node_count net → ((v : ℕ) → v < node_count net → slice_index_or ds v false ≡ false)
    → length cs ≡ length net.heads → ((arc : ℕ) → arc < length cs → slice_index cs arc ≡ cap_at net arc) → IsStart net (flow_state qs ls ds cs false)
started_flow net qs ls ds cs ok able holds size starts marks none csize caps = record {
  between = record {
    fits = record {
      ranges = λ h. flow_ranges net 0 qs cut;
      sized = λ h. let z = sizes net qs ok cut in record { residuals = z.residuals; excess = z.excess; next = z.next };
      labelled = labels_fit net ls size starts;
      marks = marks;
      caps_sized = csize;
      caps = λ arc h. caps arc (subst (λ (x : ℕ). arc < x) (sym csize) h);
    };
    unspent = refl;
    none = none;
    sound = start_is_sound net ls qs ok able holds starts;
  };
  agree = start_agrees net ls qs ok holds starts;
}
  where
    cut : AreFlowParts net 0 qs
    cut = held_cut net (start_res net) (start_excess net) qs holds
