-- Reads and deliveries in any order leave the state after the pulse.
use Rattle.std.proofs.Common.{◌≡◌, ℕ, suc, zero, ◌+◌, ◌<◌, ◌==◌, ◌&&◌, ◌||◌, nat_lt, cond, Bool, true, false, List, [], ◌∷◌, arith, refl, ap, sym, ◌∙◌, inl, inr}
use Rattle.std.proofs.lemmas.Bool.{cases_Bool, eqb-true, false≢true, or_parts}
use Rattle.frame_net.specs.Flow.{State, sum_below, least_below, push, is_active, next_res}
use Rattle.frame_net.specs.Events.{Moment, state_of, read_at, deliver_at, residual_after_delivery, excess_after_delivery, label_after_delivery, read_all, deliver_all, among, Distinct, EachOnce, IsAfterPulse}
use Rattle.frame_net.proofs.SumLaws.{sum_below-same}

-- reads change pushes alone
reads_keep : (n : ℕ) (t : Moment) (vs : List ℕ) → state_of (read_all n t vs) ≡ state_of t
reads_keep n t [] = refl
reads_keep n t (v ∷ vs) = reads_keep n (read_at n t v) vs

reads_push : (n : ℕ) (t : Moment) (vs : List ℕ) (u w : ℕ) → (read_all n t vs).pushes u w ≡ cond (among u vs) (push n (state_of t) u w) (t.pushes u w)
reads_push n t [] u w = refl
reads_push n t (v ∷ vs) u w = reads_push n (read_at n t v) vs u w ∙ both (u == v) (among u vs) (push n (state_of t) u w) (t.pushes u w)
  where
    both : (a b : Bool) (x y : ℕ) → cond b x (cond a x y) ≡ cond (a || b) x y
    both true true x y = refl
    both true false x y = refl
    both false true x y = refl
    both false false x y = refl

-- the second side of a disjunction whose first one is false
pub or_true : (a b : Bool) → a ≡ false → (a || b) ≡ true → b ≡ true
or_true true b e h = absurd (false≢true (sym e))
or_true false b e h = h

-- deliveries leave all pushes as they are
pub deliver_keep : (n : ℕ) (t : Moment) (vs : List ℕ) (u w : ℕ) → (deliver_all n t vs).pushes u w ≡ t.pushes u w
deliver_keep n t [] u w = refl
deliver_keep n t (v ∷ vs) u w = deliver_keep n (deliver_at n t v) vs u w

-- what is at a node: its row, its excess and its new label
record At (n : ℕ) (t : Moment) (u : ℕ) (res : ℕ → ℕ) (excess next : ℕ) : Type 0 where
  row : (w : ℕ) → t.res u w ≡ res w
  kept : t.excess u ≡ excess
  label : t.next u ≡ next

-- a delivery of other nodes leaves a node's row
deliver_other : (n : ℕ) (t : Moment) (vs : List ℕ) (u : ℕ) → among u vs ≡ false → At n (deliver_all n t vs) u (t.res u) (t.excess u) (t.next u)
deliver_other n t [] u off = record { row = λ w. refl; kept = refl; label = refl }
deliver_other n t (v ∷ vs) u off =
    let p = or_parts (u == v) (among u vs) off in
    let r = deliver_other n (deliver_at n t v) vs u p.1 in
    let e : (u == v) ≡ false = p.0 in
    record {
      row = λ w. r.row w ∙ ap (λ (b : Bool). cond b (residual_after_delivery t u w) (t.res u w)) e;
      kept = r.kept ∙ ap (λ (b : Bool). cond b (excess_after_delivery n t u) (t.excess u)) e;
      label = r.label ∙ ap (λ (b : Bool). cond b (label_after_delivery n t u) (t.next u)) e;
    }

-- the delivery of a node, whatever was delivered before and after it
deliver_here : (n : ℕ) (t : Moment) (vs : List ℕ) (u : ℕ) → Distinct vs → among u vs ≡ true → At n (deliver_all n t vs) u (residual_after_delivery t u) (excess_after_delivery n t u) (label_after_delivery n t u)
deliver_here n t [] u d on = absurd (false≢true on)
deliver_here n t (v ∷ vs) u d on = elim (cases_Bool (u == v)) [
  | inl same ↦
      let q : u ≡ v = eqb-true u v same in
      let off : among u vs ≡ false = ap (λ (x : ℕ). among x vs) q ∙ d.0 in
      let r = deliver_other n (deliver_at n t v) vs u off in
      record {
        row = λ w. r.row w ∙ ap (λ (b : Bool). cond b (residual_after_delivery t u w) (t.res u w)) same;
        kept = r.kept ∙ ap (λ (b : Bool). cond b (excess_after_delivery n t u) (t.excess u)) same;
        label = r.label ∙ ap (λ (b : Bool). cond b (label_after_delivery n t u) (t.next u)) same;
      }
  | inr other ↦
      let r = deliver_here n (deliver_at n t v) vs u d.1 (or_true (u == v) (among u vs) other on) in
      record {
        row = λ w. r.row w ∙ rw other refl;
        kept = r.kept ∙ rw other refl;
        label = r.label ∙ rw other refl;
      }
]

-- functions that agree below n have equal least values there
pub least_below-same : (n : ℕ) (f g : ℕ → ℕ) (m : ℕ) → ((i : ℕ) → i < n → f i ≡ g i) → least_below n f m ≡ least_below n g m
least_below-same zero f g m e = refl
least_below-same (suc n) f g m e = let a = least_below-same n f g m (λ i h. e i (omega arith)) in let b = e n (omega arith) in cc

same_choice : (a a' b b' : Bool) (x x' y y' : ℕ) → a ≡ a' → b ≡ b' → x ≡ x' → y ≡ y' → cond (a && b) x y ≡ cond (a' && b') x' y'
same_choice a a' b b' x x' y y' p q r e = cc

-- all reads of a pulse in any order, and then all deliveries in any order, leave the state after
-- the pulse
pub any_order : (n : ℕ) (t : Moment) (rs ds : List ℕ) → EachOnce n rs → EachOnce n ds → IsAfterPulse n (state_of t) (deliver_all n (read_all n t rs) ds)
any_order n t rs ds er ed =
    let r : Moment = read_all n t rs in
    let kept : state_of (read_all n t rs) ≡ state_of t = reads_keep n t rs in
    let res_same : (v w : ℕ) → (read_all n t rs).res v w ≡ t.res v w = λ v w. ap (λ (s : State). s.res v w) kept in
    let excess_same : (v : ℕ) → (read_all n t rs).excess v ≡ t.excess v = λ v. ap (λ (s : State). s.excess v) kept in
    let label_same : (v : ℕ) → (read_all n t rs).label v ≡ t.label v = λ v. ap (λ (s : State). s.label v) kept in
    let pushed : (v w : ℕ) → v < n → (read_all n t rs).pushes v w ≡ push n (state_of t) v w =
    λ v w h. reads_push n t rs v w ∙ ap (λ (b : Bool). cond b (push n (state_of t) v w) (t.pushes v w)) (er.all v h) in
    let here : (v : ℕ) → v < n → At n (deliver_all n (read_all n t rs) ds) v (residual_after_delivery (read_all n t rs) v) (excess_after_delivery n (read_all n t rs) v) (label_after_delivery n (read_all n t rs) v) =
    λ v h. deliver_here n (read_all n t rs) ds v ed.distinct (ed.all v h) in
    let given : (v w : ℕ) → v < n → w < n → residual_after_delivery (read_all n t rs) v w ≡ next_res n (state_of t) v w =
    λ v w h k. rw (res_same v w, pushed v w h, pushed w v k) refl in
    let sent_same : (v : ℕ) → v < n → sum_below n ((read_all n t rs).pushes v) ≡ sum_below n (push n (state_of t) v) =
    λ v h. sum_below-same n ((read_all n t rs).pushes v) (push n (state_of t) v) (λ w k. pushed v w h) in
    let got_same : (v : ℕ) → v < n → sum_below n (λ w. (read_all n t rs).pushes w v) ≡ sum_below n (λ w. push n (state_of t) w v) =
    λ v h. sum_below-same n (λ w. (read_all n t rs).pushes w v) (λ w. push n (state_of t) w v) (λ w k. pushed w v k) in
    record {
      res = λ v w h k. (here v h).row w ∙ given v w h k;
      excess = λ v h. (here v h).kept ∙ rw (excess_same v, got_same v h, sent_same v h) refl;
      label = λ v h. (here v h).label ∙ same_choice
          (is_active n (state_of (read_all n t rs)) v) (is_active n (state_of t) v)
          (nat_lt (sum_below n ((read_all n t rs).pushes v)) ((read_all n t rs).excess v)) (nat_lt (sum_below n (push n (state_of t) v)) (t.excess v))
          (least_below n (λ w. cond (nat_lt 0 (residual_after_delivery (read_all n t rs) v w)) ((read_all n t rs).label w + 1) n) n) (least_below n (λ w. cond (nat_lt 0 (next_res n (state_of t) v w)) (t.label w + 1) n) n)
          ((read_all n t rs).label v) (t.label v)
          (ap (λ (s : State). is_active n s v) kept)
          (ap (λ (x : ℕ). nat_lt x ((read_all n t rs).excess v)) (sent_same v h) ∙ ap (λ (x : ℕ). nat_lt (sum_below n (push n (state_of t) v)) x) (excess_same v))
          (least_below-same n (λ w. cond (nat_lt 0 (residual_after_delivery (read_all n t rs) v w)) ((read_all n t rs).label w + 1) n) (λ w. cond (nat_lt 0 (next_res n (state_of t) v w)) (t.label w + 1) n) n
          (λ w k. ap (λ (x : ℕ). cond (nat_lt 0 x) ((read_all n t rs).label w + 1) n) (given v w h k) ∙ ap (λ (y : ℕ). cond (nat_lt 0 (next_res n (state_of t) v w)) (y + 1) n) (label_same w)))
          (label_same v);
    }
