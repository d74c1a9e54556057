-- The fields of a flow and of pushes that aren't spent.
use Rattle.std.proofs.Common.{◌≡◌, ℕ, Bool, false, true, List, length, sym, ap, ◌∙◌, subst}
use Rattle.std.proofs.lemmas.Bool.{false≢true}
use Rattle.frame_net.specs.FlowNet.{FlowNet, node_count, IsFlowNet}
use Rattle.pulse_parts.specs.declared.parts.FlowPart.{FlowPart}
use Rattle.pulse_parts.specs.declared.parts.PushPart.{PushPart}
use Rattle.pulse_parts.specs.Parts.{AreFlowParts, ArePushParts, LabelsFit}
use Rattle.pulse_parts.proofs.SizeLaws.{sizes, push_size}
use Rattle.pulse.specs.Values.{FlowState, PushState, flow_state, push_state}
use Rattle.pulse.specs.Conditions.{IsFlowOf, ArePushesOf}
use Rattle.pulse.proofs.RangeLaws.{flow_parts, flow_ranges, push_parts, push_ranges}

-- the fields of a flow of the network that isn't spent
pub parts_of : (net : FlowNet) (f : FlowState) (qs : List FlowPart) (ls : List ℕ) (ds : List Bool) (cs : List ℕ) (b : Bool) → flow_state qs ls ds cs b ≡ f → b ≡ false → IsFlowOf net f → AreFlowParts net 0 qs
parts_of net f qs ls ds cs b e eb fits = flow_parts net 0 qs ((subst (λ (g : FlowState). IsFlowOf net g) (sym e) fits).ranges eb)

-- the parts of unspent pushes hold the network's rows, end to end
pub rows_of : (net : FlowNet) (p : PushState) (ps : List PushPart) (b : Bool) → push_state ps b ≡ p → b ≡ false → ArePushesOf net p → ArePushParts net 0 ps
rows_of net p ps b e eb fits = push_parts net 0 ps ((subst (λ (g : PushState). ArePushesOf net g) (sym e) fits).ranges eb)

-- parts seen, of slices
pub parts_seen : (net : FlowNet) (f : FlowState) (qs seen : List FlowPart) (ls : List ℕ) (ds : List Bool) (cs : List ℕ) (b : Bool) → flow_state qs ls ds cs b ≡ f → seen ≡ qs → b ≡ false → IsFlowOf net f → AreFlowParts net 0 seen
parts_seen net f qs seen ls ds cs b e es eb fits = subst (λ (x : List FlowPart). AreFlowParts net 0 x) (sym es) (parts_of net f qs ls ds cs b e eb fits)

-- a slice of the parts of unspent pushes holds the network's rows, end to end
pub rows_seen : (net : FlowNet) (p : PushState) (ps seen : List PushPart) (b : Bool) → push_state ps b ≡ p → seen ≡ ps → b ≡ false → ArePushesOf net p → ArePushParts net 0 seen
rows_seen net p ps seen b e es eb fits = subst (λ (x : List PushPart). ArePushParts net 0 x) (sym es) (rows_of net p ps b e eb fits)

-- a flow that isn't spent by what is seen of it isn't by its field
pub flow_unspent : (f : FlowState) (qs : List FlowPart) (ls : List ℕ) (ds : List Bool) (cs : List ℕ) (b : Bool) → flow_state qs ls ds cs b ≡ f → f.spent ≡ false → b ≡ false
flow_unspent f qs ls ds cs b e h = ap (λ (g : FlowState). g.spent) e ∙ h

-- pushes that aren't spent by what is seen of them aren't by their field
pub pushes_unspent : (p : PushState) (ps : List PushPart) (b : Bool) → push_state ps b ≡ p → p.spent ≡ false → b ≡ false
pushes_unspent p ps b e h = ap (λ (g : PushState). g.spent) e ∙ h

-- a flow with other parts and labels
pub flow_with : (net : FlowNet) (f : FlowState) (qs : List FlowPart) (ls : List ℕ) (ds : List Bool) → IsFlowNet net → IsFlowOf net f → AreFlowParts net 0 qs → LabelsFit net ls → length ds ≡ node_count net
    → IsFlowOf net (flow_state qs ls ds f.caps false)
flow_with net f qs ls ds ok fits cut labelled marks = record {
  ranges = λ h. flow_ranges net 0 qs cut;
  sized = λ h. let s = sizes net qs ok cut in record { residuals = s.residuals; excess = s.excess; next = s.next };
  labelled = labelled;
  marks = marks;
  caps_sized = fits.caps_sized;
  caps = fits.caps;
}

-- a spent flow
pub flow_spent : (net : FlowNet) (f : FlowState) (qs : List FlowPart) (ls : List ℕ) → IsFlowOf net f → LabelsFit net ls → IsFlowOf net (flow_state qs ls f.delivered f.caps true)
flow_spent net f qs ls fits labelled = record {
  ranges = λ h. absurd (false≢true (sym h));
  sized = λ h. absurd (false≢true (sym h));
  labelled = labelled;
  marks = fits.marks;
  caps_sized = fits.caps_sized;
  caps = fits.caps;
}

-- parts that hold the network's rows, end to end, are pushes of it
pub pushes_with : (net : FlowNet) (ps : List PushPart) → IsFlowNet net → ArePushParts net 0 ps → ArePushesOf net (push_state ps false)
pushes_with net ps ok cut = record { ranges = λ h. push_ranges net 0 ps cut; sized = λ h. push_size net ps ok cut }
