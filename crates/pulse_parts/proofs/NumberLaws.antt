-- The parts are the workers' in their order, and stay so.
use Rattle.std.proofs.Common.{◌≡◌, ℕ, zero, suc, ◌+◌, ◌<◌, ◌⊎◌, inl, inr, List, [], ◌∷◌, length, get_or, arith, ap, sym, ◌∙◌, subst}
use Rattle.frame_net.specs.FlowNet.{FlowNet}
use Rattle.pulse_parts.specs.declared.parts.FlowPart.{FlowPart}
use Rattle.pulse_parts.specs.declared.parts.PushPart.{PushPart}
use Rattle.pulse_parts.specs.Parts.{Cells}
use Rattle.pulse_parts.specs.Delivering.{PartsDelivered}
use Rattle.pulse_parts.specs.Reading.{PartsRead, PartsReadOn}
use Rattle.pulse_parts.specs.Labels.{HoldLabels}
use Rattle.pulse_parts.specs.Start.{AreShares, AreFlowShares, ArePushShares, FlowNumbered, PushesNumbered}

shares_from : {P : Type 0} (worker first end : P → ℕ) (nodes workers k : ℕ) (ps : List P) → AreShares worker first end nodes workers k ps → (i : ℕ) (d : P) → i < length ps → worker (get_or ps i d) ≡ k + i
shares_from worker first end nodes workers k [] s i d h = absurd (omega (arith, h))
shares_from worker first end nodes workers k (p ∷ ps) s zero d h = let here : k ≡ k + zero = omega arith in s.0.number ∙ here
shares_from worker first end nodes workers k (p ∷ ps) s (suc i) d h =
    let next : k + 1 + i ≡ k + suc i = omega arith in
    shares_from worker first end nodes workers (k + 1) ps s.1 i d (omega (arith, h)) ∙ next

-- parts of a flow that are the workers' shares are the workers' in their order
pub flow_numbered : (nodes workers : ℕ) (qs : List FlowPart) → AreFlowShares nodes workers qs → FlowNumbered qs
flow_numbered nodes workers qs s i d h =
    let from : 0 + i ≡ i = omega arith in
    shares_from (λ q. q.worker) (λ q. q.first) (λ q. q.end) nodes workers 0 qs s i d h ∙ from

-- parts of pushes that are the workers' shares are the workers' in their order
pub pushes_numbered : (nodes workers : ℕ) (ps : List PushPart) → ArePushShares nodes workers ps → PushesNumbered ps
pushes_numbered nodes workers ps s i e h =
    let from : 0 + i ≡ i = omega arith in
    shares_from (λ p. p.worker) (λ p. p.first) (λ p. p.end) nodes workers 0 ps s i e h ∙ from

-- parts that stand as they were, or were made anew
pub flow_parted : (nodes workers : ℕ) (old new : List FlowPart) → (new ≡ old) ⊎ AreFlowShares nodes workers new → FlowNumbered old → FlowNumbered new
flow_parted nodes workers old new parted n = elim parted [
  | inl same ↦ subst (λ (qs : List FlowPart). FlowNumbered qs) (sym same) n
  | inr shares ↦ flow_numbered nodes workers new shares
]

-- parts of pushes that stay, or are made anew as shares, stay the workers' in their order
pub pushes_parted : (nodes workers : ℕ) (old new : List PushPart) → (new ≡ old) ⊎ ArePushShares nodes workers new → PushesNumbered old → PushesNumbered new
pushes_parted nodes workers old new parted n = elim parted [
  | inl same ↦ subst (λ (ps : List PushPart). PushesNumbered ps) (sym same) n
  | inr shares ↦ pushes_numbered nodes workers new shares
]

-- after a delivery, a read, and labels that are held
pub numbered_given : (net : FlowNet) (labels pushes : List ℕ) (first end : ℕ) (qs us : List FlowPart) → length us ≡ length qs → PartsDelivered net labels pushes first end qs us → FlowNumbered qs → FlowNumbered us
numbered_given net labels pushes first end qs us len g n i d h =
    let inside : i < length qs = omega (arith, h, len) in
    (g i d inside).same_worker ∙ n i d inside

-- after a read the parts of pushes are still the workers' in their order
pub numbered_read : (net : FlowNet) (labels : List ℕ) (first end : ℕ) (c : Cells) (ps rs : List PushPart) → length rs ≡ length ps → PartsRead net labels first end c ps rs → PushesNumbered ps → PushesNumbered rs
numbered_read net labels first end c ps rs len g n i e h =
    let inside : i < length ps = omega (arith, h, len) in
    (g i e inside).same_worker ∙ n i e inside

-- after a read that counts on the parts of pushes are still the workers' in their order
pub numbered_read_on : (net : FlowNet) (labels : List ℕ) (first end : ℕ) (c : Cells) (ps rs : List PushPart) → length rs ≡ length ps → PartsReadOn net labels first end c ps rs → PushesNumbered ps → PushesNumbered rs
numbered_read_on net labels first end c ps rs len g = numbered_read net labels first end c ps rs len (λ i e h. (g i e h).is_read)

-- if labels are held the parts of a flow are still the workers' in their order
pub numbered_held : (labels : List ℕ) (qs us : List FlowPart) → length us ≡ length qs → HoldLabels labels qs us → FlowNumbered qs → FlowNumbered us
numbered_held labels qs us len g n i d h =
    let inside : i < length qs = omega (arith, h, len) in
    ap (λ (q : FlowPart). q.worker) (g i d inside).same ∙ n i d inside
