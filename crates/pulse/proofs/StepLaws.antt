-- What whole reads give, and what a run with exact labels now and then has left to do.
use Rattle.std.proofs.Common.{◌≡◌, ℕ, ◌<◌, ◌≤◌, ◌⊎◌, true, List, refl, arith, sym, ◌∙◌, subst, inl, inr}
use Rattle.std.proofs.lemmas.Bool.{false≢true}
use Rattle.frame_net.specs.Flow.{pulse}
use Rattle.frame_net.specs.FlowNet.{FlowNet, node_count, IsFlowNet}
use Rattle.pulse_parts.specs.Parts.{Agree, IsSound}
use Rattle.pulse_parts.specs.Delivering.{HoldPushes}
use Rattle.pulse_parts.specs.Marks.{DeliveredSoFar}
use Rattle.pulse_parts.specs.Runs.{any_active}
use Rattle.pulse_parts.proofs.ActiveLaws.{work, work_same, work_falls}
use Rattle.pulse_parts.proofs.MarkLaws.{read_whole}
use Rattle.pulse_parts.specs.Distances.{exact}
use Rattle.pulse_parts.proofs.RunLaws.{Paid, paid_exact, exact_falls}
use Rattle.pulse.specs.Values.{FlowState, PushState}
use Rattle.pulse.specs.Conditions.{IsBetween, is_marked, state_of}
use Rattle.pulse.specs.Phases.{RangeRead, AfterPulse}

-- ---- a pulse over the range of all nodes

-- pushes after Read of every node
pub whole_read : (net : FlowNet) (f : FlowState) (end : ℕ) (old new : PushState) → IsFlowNet net → end ≡ node_count net → RangeRead net f 0 end old new → HoldPushes net (state_of net f) new.values
whole_read net f end old new ok all r =
    read_whole net f.labels (λ v. true) f.cells new.values ok (λ v h. refl)
    record { rows = λ v k h m l. r.done v k h (omega arith) (omega (arith, h, all)) l }

-- between two pulses no node has been delivered
pub none_so_far : (net : FlowNet) (f : FlowState) (values : List ℕ) → IsBetween net f → DeliveredSoFar net f.labels values (is_marked f) f.cells f.cells
none_so_far net f values between = record {
  given = λ v h m. absurd (false≢true (sym (between.none v h) ∙ m));
  kept = λ v h m. record { row = λ k l. refl; excess = refl; next = refl };
}

-- ---- a run with labels that become exact now and then

-- labels that stay or become exact
pub paid_labels : (net : FlowNet) (k : ℕ) (f g : FlowState) → IsFlowNet net → Paid net k (state_of net f)
    → (g ≡ f) ⊎ Agree (node_count net) (exact (node_count net) (state_of net f)) (state_of net g) → Paid net k (state_of net g)
paid_labels net k f g ok p e = elim e [
  | inl same ↦ subst (λ (x : FlowState). Paid net k (state_of net x)) (sym same) p
  | inr agree ↦ paid_exact net k (state_of net f) (state_of net g) ok p agree
]

-- labels that stay, or become exact, leave no more to do
pub labels_left : (net : FlowNet) (f g : FlowState) → IsSound net (state_of net f)
    → (g ≡ f) ⊎ Agree (node_count net) (exact (node_count net) (state_of net f)) (state_of net g) → work (node_count net) (state_of net g) ≤ work (node_count net) (state_of net f)
labels_left net f g sound e = elim e [
  | inl same ↦ subst (λ (x : FlowState). work (node_count net) (state_of net x) ≤ work (node_count net) (state_of net f)) (sym same) (omega arith)
  | inr agree ↦ exact_falls net (state_of net f) (state_of net g) sound agree
]

-- a pulse and what becomes of the labels leave less to do
pub pulse_left : (net : FlowNet) (f g x : FlowState) → IsFlowNet net → IsSound net (state_of net f) → any_active (node_count net) (state_of net f) ≡ true → AfterPulse net f g
    → (x ≡ g) ⊎ Agree (node_count net) (exact (node_count net) (state_of net g)) (state_of net x) → work (node_count net) (state_of net x) < work (node_count net) (state_of net f)
pulse_left net f g x ok sound on after e =
    omega (
      arith,
      work_falls (node_count net) (state_of net f) sound.valid on,
      work_same (node_count net) (pulse (node_count net) (state_of net f)) (state_of net g) after.agree,
      labels_left net g x after.between.sound e,
    )
