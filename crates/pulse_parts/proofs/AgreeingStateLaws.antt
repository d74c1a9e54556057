-- States that agree at all nodes have one pulse.
use Rattle.std.proofs.Common.{◌≡◌, ℕ, suc, zero, ◌+◌, ◌<◌, ◌==◌, ◌&&◌, nat_lt, cond, Bool, arith, refl, ap, sym, ◌∙◌}
use Rattle.frame_net.specs.Flow.{State, greatest_below, admissible, push, outflow, inflow, next_res, relabelled, is_active, pulse, potential}
use Rattle.frame_net.proofs.SumLaws.{sum_below-same}
use Rattle.frame_net.proofs.OrderLaws.{least_below-same}
use Rattle.frame_net.proofs.PulseLaws.{next_preflow, next_valid}
use Rattle.frame_net.proofs.TotalLaws.{total_kept}
use Rattle.frame_net.specs.FlowNet.{FlowNet, node_count, IsFlowNet}
use Rattle.pulse_parts.specs.Parts.{Agree, IsSound, pair}

act_same : (n v e d l m : ℕ) → e ≡ d → l ≡ m → (nat_lt 1 v && nat_lt 0 e && nat_lt l n) ≡ (nat_lt 1 v && nat_lt 0 d && nat_lt m n)
act_same n v e d l m p q = cc

-- states that agree have equal active nodes
pub active_same : (n : ℕ) (s t : State) → Agree n s t → (v : ℕ) → v < n → is_active n s v ≡ is_active n t v
active_same n s t a v h = act_same n v (s.excess v) (t.excess v) (s.label v) (t.label v) (a.excess v h) (a.label v h)

room_choice : (b c : Bool) (x y p q r z : ℕ) → b ≡ c → x ≡ y → p ≡ q → r ≡ z → cond (b && (x + 1 == p)) r 0 ≡ cond (c && (y + 1 == q)) z 0
room_choice b c x y p q r z e f g h = cc

room_same : (n : ℕ) (s t : State) → Agree n s t → (v w : ℕ) → v < n → w < n → admissible n s v w ≡ admissible n t v w
room_same n s t a v w h k = room_choice (is_active n s v) (is_active n t v) (s.label w) (t.label w) (s.label v) (t.label v) (s.res v w) (t.res v w) (active_same n s t a v h) (a.label w k) (a.label v h) (a.res v w h k)

-- states that agree have equal pushes
pub push_same : (n : ℕ) (s t : State) → Agree n s t → (v w : ℕ) → v < n → w < n → push n s v w ≡ push n t v w
push_same n s t a v w h k = omega (arith, room_same n s t a v w h k, a.excess v h, sum_below-same w (admissible n s v) (admissible n t v) (λ x l. room_same n s t a v x h (omega arith)))

sent_same : (n : ℕ) (s t : State) → Agree n s t → (v : ℕ) → v < n → outflow n s v ≡ outflow n t v
sent_same n s t a v h = sum_below-same n (push n s v) (push n t v) (λ w k. push_same n s t a v w h k)

got_same : (n : ℕ) (s t : State) → Agree n s t → (v : ℕ) → v < n → inflow n s v ≡ inflow n t v
got_same n s t a v h = sum_below-same n (λ w. push n s w v) (λ w. push n t w v) (λ w k. push_same n s t a w v k h)

next_res_same : (n : ℕ) (s t : State) → Agree n s t → (v w : ℕ) → v < n → w < n → next_res n s v w ≡ next_res n t v w
next_res_same n s t a v w h k = omega (arith, a.res v w h k, push_same n s t a v w h k, push_same n s t a w v k h)

lifted_same : (n : ℕ) (s t : State) → Agree n s t → (v : ℕ) → v < n → relabelled n s v ≡ relabelled n t v
lifted_same n s t a v h = least_below-same n (λ w. cond (nat_lt 0 (next_res n s v w)) (s.label w + 1) n) (λ w. cond (nat_lt 0 (next_res n t v w)) (t.label w + 1) n) n
    (λ w k. ap (λ (x : ℕ). cond (nat_lt 0 x) (s.label w + 1) n) (next_res_same n s t a v w h k) ∙ ap (λ (y : ℕ). cond (nat_lt 0 (next_res n t v w)) (y + 1) n) (a.label w k))

label_choice : (b c : Bool) (x y e d l m p q : ℕ) → b ≡ c → x ≡ y → e ≡ d → l ≡ m → p ≡ q → cond (b && nat_lt x e) l p ≡ cond (c && nat_lt y d) m q
label_choice b c x y e d l m p q h1 h2 h3 h4 h5 = cc

-- a pulse of states that agree
pub agree_pulse : (n : ℕ) (s t : State) → Agree n s t → Agree n (pulse n s) (pulse n t)
agree_pulse n s t a = record {
  res = next_res_same n s t a;
  excess = λ v h. omega (arith, a.excess v h, got_same n s t a v h, sent_same n s t a v h);
  label = λ v h. label_choice (is_active n s v) (is_active n t v) (outflow n s v) (outflow n t v) (s.excess v) (t.excess v) (relabelled n s v) (relabelled n t v) (s.label v) (t.label v)
      (active_same n s t a v h) (sent_same n s t a v h) (a.excess v h) (lifted_same n s t a v h) (a.label v h);
}

-- a state that agrees with one that agrees with a third agrees with that
pub agree_then : (n : ℕ) (s t u : State) → Agree n s t → Agree n t u → Agree n s u
agree_then n s t u a b = record { res = λ v w h k. a.res v w h k ∙ b.res v w h k; excess = λ v h. a.excess v h ∙ b.excess v h; label = λ v h. a.label v h ∙ b.label v h }

-- a state agrees with itself
pub agree_self : (n : ℕ) (s : State) → Agree n s s
agree_self n s = record { res = λ v w h k. refl; excess = λ v h. refl; label = λ v h. refl }

-- a state that agrees with a sound one is sound
pub sound_same : (net : FlowNet) (s t : State) → IsFlowNet net → Agree (node_count net) s t → IsSound net s → IsSound net t
sound_same net s t ok a h = record {
  preflow = record {
    paired = λ v w p q. omega (arith, a.res v w p q, a.res w v q p, h.preflow.paired v w p q);
    conserved = λ v p q. omega (arith, a.excess v q, h.preflow.conserved v p q, sum_below-same (node_count net) (s.res v) (t.res v) (λ w k. a.res v w q k));
  };
  valid = record {
    source = sym (a.label 0 (omega (arith, ok.two))) ∙ h.valid.source;
    sink = sym (a.label 1 (omega (arith, ok.two))) ∙ h.valid.sink;
    small = λ v k. omega (arith, a.label v k, h.valid.small v k);
    steps = λ v w k l r. omega (arith, a.label v k, a.label w l, h.valid.steps v w k l (omega (arith, a.res v w k l)));
  };
  total = omega (arith, h.total, sum_below-same (node_count net) s.excess t.excess a.excess);
}

-- a pulse leaves a sound state sound
pub sound_pulse : (net : FlowNet) (s : State) → IsSound net s → IsSound net (pulse (node_count net) s)
sound_pulse net s h = record {
  preflow = next_preflow (node_count net) (pair net net.caps) s h.preflow;
  valid = next_valid (node_count net) s h.valid;
  total = omega (arith, h.total, total_kept (node_count net) s);
}

greatest_same : (n : ℕ) (f g : ℕ → ℕ) → ((i : ℕ) → i < n → f i ≡ g i) → greatest_below n f ≡ greatest_below n g
greatest_same zero f g e = refl
greatest_same (suc n) f g e = omega (arith, greatest_same n f g (λ i h. e i (omega arith)), e n (omega arith))

top_choice : (b c : Bool) (x y : ℕ) → b ≡ c → x ≡ y → cond b x 0 ≡ cond c y 0
top_choice b c x y p q = cc

-- states that agree have equal potentials
pub potential_same : (n : ℕ) (s t : State) → Agree n s t → potential n s ≡ potential n t
potential_same n s t a = omega (
  arith,
  sum_below-same n s.label t.label a.label,
  greatest_same n (λ v. cond (is_active n s v) (s.label v) 0) (λ v. cond (is_active n t v) (t.label v) 0) (λ v h. top_choice (is_active n s v) (is_active n t v) (s.label v) (t.label v) (active_same n s t a v h) (a.label v h)),
)
