-- Exact labels between pulses. The state stays sound and what is left to do doesn't grow, so a run
-- ends as early as without them.
use Rattle.std.proofs.Common.{◌≡◌, ℕ, suc, ◌+◌, ◌*◌, ◌%◌, ◌==◌, ◌&&◌, ◌<◌, ◌≤◌, ◌^◌, zero, Bool, true, false, arith, sym, ap, ◌∙◌, subst, inl, inr}
use Rattle.std.proofs.lemmas.Bool.{cases_lt, cases_Bool, cond-true, cond-false}
use Rattle.std.proofs.Math.Nat.{mul-le-mul_left}
use Rattle.frame_net.specs.Flow.{State, pulse, is_active, potential}
use Rattle.frame_net.proofs.PushLaws.{Active, active, is_active-true}
use Rattle.frame_net.proofs.ExactLabelLaws.{exact-rises, exact-valid, exact-potential}
use Rattle.frame_net.specs.FlowNet.{FlowNet, node_count, IsFlowNet}
use Rattle.pulse_parts.specs.Parts.{Agree, IsSound}
use Rattle.pulse_parts.specs.Runs.{any_active}
use Rattle.pulse_parts.proofs.AgreeingStateLaws.{agree_pulse, agree_then, sound_same, sound_pulse}
use Rattle.pulse_parts.proofs.ActiveLaws.{work, work_same, work_falls, work_bound, any_from, some_at, none_at, any_active_same}
use Rattle.pulse_parts.specs.Distances.{distance, exact}
use Rattle.pulse_parts.specs.ExactRuns.{after_pulse, run_state, IsRun}
use Rattle.pulse_parts.proofs.DistanceLaws.{distance_is, exact_same}

-- ---- one state

-- exact labels keep a sound state sound
pub exact_sound : (net : FlowNet) (s : State) → IsFlowNet net → IsSound net s → IsSound net (exact (node_count net) s)
exact_sound net s ok h = record {
  preflow = record { paired = h.preflow.paired; conserved = h.preflow.conserved };
  valid = exact-valid (node_count net) s (distance (node_count net) s) (omega (arith, ok.two)) h.valid (distance_is (node_count net) s);
  total = h.total;
}

-- exact labels make no node active
exact_active : (net : FlowNet) (s : State) → IsSound net s → any_active (node_count net) (exact (node_count net) s) ≡ true → any_active (node_count net) s ≡ true
exact_active net s h on =
    let n : ℕ = node_count net in
    let v = some_at n (is_active n (exact n s)) on in
    let late : Active n (exact n s) v.0 = active n (exact n s) v.0 v.1.1 in
    any_from n (is_active n s) v.0 v.1.0
    (is_active-true n s v.0 late.inner late.has_excess (omega (arith, late.below, exact-rises n s (distance n s) h.valid (distance_is n s) v.0 v.1.0)))

-- exact labels leave no more to do than the state's own
pub exact_work : (net : FlowNet) (s : State) → IsSound net s → work (node_count net) (exact (node_count net) s) ≤ work (node_count net) s
exact_work net s h = elim (cases_Bool (any_active (node_count net) (exact (node_count net) s))) [
  | inl on ↦ omega (
    arith,
    exact-potential (node_count net) s (distance (node_count net) s) h.valid (distance_is (node_count net) s),
    cond-true (any_active (node_count net) s) (potential (node_count net) s + 1) 0 (exact_active net s h on),
    cond-true (any_active (node_count net) (exact (node_count net) s)) (potential (node_count net) (exact (node_count net) s) + 1) 0 on,
  )
  | inr off ↦ omega (arith, cond-false (any_active (node_count net) (exact (node_count net) s)) (potential (node_count net) (exact (node_count net) s) + 1) 0 off)
]

-- ---- what a pulse's end makes of the state

-- after a pulse whose number is a multiple of n, and that leaves a node active, the labels become
-- exact
pub after-due : (n k : ℕ) (s : State) → (k % n == 0) && any_active n s ≡ true → after_pulse n k s ≡ exact n s
unfolding after_pulse
after-due n k s e = cond-true ((k % n == 0) && any_active n s) (exact n s) s e

-- after any other pulse the state stays as it is
pub after-not : (n k : ℕ) (s : State) → (k % n == 0) && any_active n s ≡ false → after_pulse n k s ≡ s
unfolding after_pulse
after-not n k s e = cond-false ((k % n == 0) && any_active n s) (exact n s) s e

after_sound : (net : FlowNet) (k : ℕ) (s : State) → IsFlowNet net → IsSound net s → IsSound net (after_pulse (node_count net) k s)
after_sound net k s ok h = elim (cases_Bool ((k % node_count net == 0) && any_active (node_count net) s)) [
  | inl due ↦ subst (λ (t : State). IsSound net t) (sym (after-due (node_count net) k s due)) (exact_sound net s ok h)
  | inr not_due ↦ subst (λ (t : State). IsSound net t) (sym (after-not (node_count net) k s not_due)) h
]

after_work : (net : FlowNet) (k : ℕ) (s : State) → IsSound net s → work (node_count net) (after_pulse (node_count net) k s) ≤ work (node_count net) s
after_work net k s h = elim (cases_Bool ((k % node_count net == 0) && any_active (node_count net) s)) [
  | inl due ↦ subst (λ (t : State). work (node_count net) t ≤ work (node_count net) s) (sym (after-due (node_count net) k s due)) (exact_work net s h)
  | inr not_due ↦ subst (λ (t : State). work (node_count net) t ≤ work (node_count net) s) (sym (after-not (node_count net) k s not_due)) (omega arith)
]

-- states that agree still agree after what follows a pulse
pub after_same : (n k : ℕ) (s t : State) → Agree n s t → Agree n (after_pulse n k s) (after_pulse n k t)
after_same n k s t a =
    let same : (k % n == 0) && any_active n s ≡ (k % n == 0) && any_active n t = ap (λ (b : Bool). (k % n == 0) && b) (any_active_same n s t a) in
    elim (cases_Bool ((k % n == 0) && any_active n s)) [
      | inl due ↦
          subst (λ (x : State). Agree n x (after_pulse n k t)) (sym (after-due n k s due))
          (subst (λ (x : State). Agree n (exact n s) x) (sym (after-due n k t (sym same ∙ due))) (exact_same n s t a))
      | inr not_due ↦
          subst (λ (x : State). Agree n x (after_pulse n k t)) (sym (after-not n k s not_due))
          (subst (λ (x : State). Agree n s x) (sym (after-not n k t (sym same ∙ not_due))) a)
    ]

-- ---- a run

-- a run that has made k pulses, from s to t
pub record Running (net : FlowNet) (k : ℕ) (s t : State) : Type 0 where
  -- the state now is sound
  pub sound : IsSound net t
  -- it agrees with the state that k pulses of the run lead to
  pub state : Agree (node_count net) (run_state (node_count net) k s) t
  -- before each of these pulses some node was active
  pub not_before : (j : ℕ) → j < k → any_active (node_count net) (run_state (node_count net) j s) ≡ true
  -- pulses made and what is left to do are at most what there was to do at the start
  pub paid : k + work (node_count net) t ≤ work (node_count net) s
  -- at the start there was at most twice the square of the number of nodes to do
  pub limit : work (node_count net) s ≤ 2 * (node_count net * node_count net)

-- a sound state has made no pulse of its run
pub running_none : (net : FlowNet) (s t : State) → IsFlowNet net → Agree (node_count net) s t → IsSound net t → Running net 0 s t
running_none net s t ok agree sound = record {
  sound = sound;
  state = agree;
  not_before = λ j h. absurd (omega arith);
  paid = omega (arith, work_same (node_count net) s t agree);
  limit = omega (arith, work_same (node_count net) s t agree, work_bound (node_count net) t (omega (arith, ok.two)) sound.valid);
}

-- what a pulse and its end leave to do
pulsed_work : (net : FlowNet) (k : ℕ) (t u x : State) → IsFlowNet net → IsSound net t → any_active (node_count net) t ≡ true → Agree (node_count net) (pulse (node_count net) t) u
    → Agree (node_count net) (after_pulse (node_count net) k u) x → work (node_count net) x < work (node_count net) t
pulsed_work net k t u x ok sound on agree after =
    let n : ℕ = node_count net in
    omega (
      arith,
      work_falls n t sound.valid on,
      work_same n (pulse n t) u agree,
      after_work net k u (sound_same net (pulse n t) u ok agree (sound_pulse net t sound)),
      work_same n (after_pulse n k u) x after,
    )

-- a pulse from a state with an active node, and what follows it, are one pulse more of the run
pub running_more : (net : FlowNet) (k : ℕ) (s t u x : State) → IsFlowNet net → Running net k s t → any_active (node_count net) t ≡ true → Agree (node_count net) (pulse (node_count net) t) u
    → Agree (node_count net) (after_pulse (node_count net) (k + 1) u) x → Running net (k + 1) s x
running_more net k s t u x ok r on agree after =
    let n : ℕ = node_count net in
    let one : k + 1 ≡ suc k = omega arith in
    let next : Agree n (after_pulse n (suc k) u) x = subst (λ (j : ℕ). Agree n (after_pulse n j u) x) one after in
    let pulsed : Agree n (pulse n (run_state n k s)) u = agree_then n (pulse n (run_state n k s)) (pulse n t) u (agree_pulse n (run_state n k s) t r.state) agree in
    record {
      sound = sound_same net (after_pulse n (k + 1) u) x ok after (after_sound net (k + 1) u ok (sound_same net (pulse n t) u ok agree (sound_pulse net t r.sound)));
      state = subst (λ (j : ℕ). Agree n (run_state n j s) x) (sym one)
          (agree_then n (after_pulse n (suc k) (pulse n (run_state n k s))) (after_pulse n (suc k) u) x (after_same n (suc k) (pulse n (run_state n k s)) u pulsed) next);
      not_before = λ j h. elim (cases_lt j k) [
        | inl lt ↦ r.not_before j lt
        | inr ge ↦ let e : k ≡ j = omega (arith, h, ge) in
            subst (λ (i : ℕ). any_active n (run_state n i s) ≡ true) e (any_active_same n (run_state n k s) t r.state ∙ on)
      ];
      paid = omega (arith, r.paid, pulsed_work net (k + 1) t u x ok r.sound on agree after);
      limit = r.limit;
    }

-- a pulse from a state with an active node, and what follows it, leave less to do
pub running_falls : (net : FlowNet) (k : ℕ) (t u x : State) → IsFlowNet net → IsSound net t → any_active (node_count net) t ≡ true → Agree (node_count net) (pulse (node_count net) t) u
    → Agree (node_count net) (after_pulse (node_count net) k u) x → work (node_count net) x < work (node_count net) t
running_falls net k t u x ok sound on agree after = pulsed_work net k t u x ok sound on agree after

-- twice the square of a network's nodes fits a word of 64 bits
pub pulses_fit : (net : FlowNet) (k : ℕ) → IsFlowNet net → k ≤ 2 * (node_count net * node_count net) → k + 1 < 2 ^ 64
pulses_fit net k ok few =
    let small : node_count net ≤ 2 ^ 31 = omega (arith, ok.short) in
    let square : node_count net * node_count net ≤ node_count net * 2 ^ 31 = mul-le-mul_left (node_count net) small in
    omega (arith, few, square, small)

-- the number of the next pulse of a run fits a word of 64 bits
pub running_fits : (net : FlowNet) (k : ℕ) (s t : State) → IsFlowNet net → Running net k s t → k + 1 < 2 ^ 64
running_fits net k s t ok r = pulses_fit net k ok (omega (arith, r.paid, r.limit))

-- a run that has come to a state without an active node has ended
pub running_done : (net : FlowNet) (k : ℕ) (s t : State) → Running net k s t → any_active (node_count net) t ≡ false → IsRun net k s t
running_done net k s t r off = record {
  state = r.state;
  sound = r.sound;
  ended = none_at (node_count net) (is_active (node_count net) t) off;
  not_before = r.not_before;
  bounded = omega (arith, r.paid, r.limit);
}

-- a run from a state is one from each state that agrees with it
agree_run : (n k : ℕ) (s t : State) → Agree n s t → Agree n (run_state n k s) (run_state n k t)
agree_run n zero s t a = a
agree_run n (suc k) s t a = after_same n (suc k) (pulse n (run_state n k s)) (pulse n (run_state n k t)) (agree_pulse n (run_state n k s) (run_state n k t) (agree_run n k s t a))

-- what a run from one state ends in is what a run from each state that agrees with it ends in
pub run_from : (net : FlowNet) (k : ℕ) (r s t : State) → Agree (node_count net) r s → IsRun net k s t → IsRun net k r t
run_from net k r s t a run = record {
  state = agree_then (node_count net) (run_state (node_count net) k r) (run_state (node_count net) k s) t (agree_run (node_count net) k r s a) run.state;
  sound = run.sound;
  ended = run.ended;
  not_before = λ j h. any_active_same (node_count net) (run_state (node_count net) j r) (run_state (node_count net) j s) (agree_run (node_count net) j r s a) ∙ run.not_before j h;
  bounded = run.bounded;
}

-- ---- a run whose labels become exact when they are worth it

-- k pulses, and so much left to do that no more than the bound are made in all
pub record Paid (net : FlowNet) (k : ℕ) (t : State) : Type 0 where
  -- the state now is sound
  pub sound : IsSound net t
  -- pulses made and what is left to do are at most twice the square of the number of nodes
  pub bounded : k + work (node_count net) t ≤ 2 * (node_count net * node_count net)

-- a sound state that has made no pulse is within the bound
pub paid_none : (net : FlowNet) (t : State) → IsFlowNet net → IsSound net t → Paid net 0 t
paid_none net t ok sound = record { sound = sound; bounded = omega (arith, work_bound (node_count net) t (omega (arith, ok.two)) sound.valid) }

-- a pulse from a state with an active node stays within the bound
pub paid_pulse : (net : FlowNet) (k : ℕ) (t u : State) → IsFlowNet net → Paid net k t → any_active (node_count net) t ≡ true → Agree (node_count net) (pulse (node_count net) t) u → Paid net (k + 1) u
paid_pulse net k t u ok p on agree = record {
  sound = sound_same net (pulse (node_count net) t) u ok agree (sound_pulse net t p.sound);
  bounded = omega (arith, p.bounded, work_falls (node_count net) t p.sound.valid on, work_same (node_count net) (pulse (node_count net) t) u agree);
}

-- making the labels exact stays within the bound
pub paid_exact : (net : FlowNet) (k : ℕ) (t u : State) → IsFlowNet net → Paid net k t → Agree (node_count net) (exact (node_count net) t) u → Paid net k u
paid_exact net k t u ok p agree = record {
  sound = sound_same net (exact (node_count net) t) u ok agree (exact_sound net t ok p.sound);
  bounded = omega (arith, p.bounded, exact_work net t p.sound, work_same (node_count net) (exact (node_count net) t) u agree);
}

-- a state with exact labels in place of another's has no more to do
pub exact_falls : (net : FlowNet) (t u : State) → IsSound net t → Agree (node_count net) (exact (node_count net) t) u → work (node_count net) u ≤ work (node_count net) t
exact_falls net t u sound agree = omega (arith, exact_work net t sound, work_same (node_count net) (exact (node_count net) t) u agree)
