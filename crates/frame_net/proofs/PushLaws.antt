-- What a node pushes: no more than its excess, and all that is admissible if some excess is kept.
use Rattle.std.proofs.Common.{◌≡◌, ℕ, suc, zero, ◌+◌, ◌<◌, ◌≤◌, ◌==◌, ◌&&◌, nat_lt, min, cond, Bool, true, false, arith, refl, ap}
use Rattle.std.proofs.lemmas.Bool.{and_parts, ltb-true, eqb-true, lt-ltb, eq-eqb, and_from}
use Rattle.frame_net.specs.Flow.{State, sum_below, admissible, push, outflow, is_active}
use Rattle.frame_net.proofs.SumLaws.{sum_below-mono}

-- a push is within the admissible residual
pub push-le-admissible : (n : ℕ) (s : State) (v w : ℕ) → push n s v w ≤ admissible n s v w
push-le-admissible n s v w = omega arith

-- the pushes to the heads below w are the admissible residuals to them, as far as the excess goes
pub pushed-up_to : (n : ℕ) (s : State) (v w : ℕ) → sum_below w (push n s v) ≡ min (sum_below w (admissible n s v)) (s.excess v)
pushed-up_to n s v zero = omega arith
pushed-up_to n s v (suc w) = omega (arith, pushed-up_to n s v w)

-- a node pushes no more in all than its excess
pub outflow-le-excess : (n : ℕ) (s : State) (v : ℕ) → outflow n s v ≤ s.excess v
outflow-le-excess n s v = omega (arith, pushed-up_to n s v n)

-- if some excess is kept, every admissible residual is used up
pub push-is_admissible : (n : ℕ) (s : State) (v w : ℕ) → w < n → outflow n s v < s.excess v → push n s v w ≡ admissible n s v w
push-is_admissible n s v w h k = omega (arith, pushed-up_to n s v n, sum_below-mono (suc w) n (admissible n s v) (omega arith))

cond-le : (b : Bool) (x : ℕ) → cond b x 0 ≤ x
cond-le true x = omega arith
cond-le false x = omega arith

cond-pos : (b : Bool) (x : ℕ) → 0 < cond b x 0 → (b ≡ true) × (0 < x)
cond-pos true x h = (refl, h)
cond-pos false x h = absurd (omega arith)

pub record Active (n : ℕ) (s : State) (v : ℕ) : Type 0 where
  -- the node is neither the source nor the sink
  pub inner : 1 < v
  -- it has an excess
  pub has_excess : 0 < s.excess v
  -- its label is below the number of nodes
  pub below : s.label v < n

-- what a test for an active node says of it
pub active : (n : ℕ) (s : State) (v : ℕ) → is_active n s v ≡ true → Active n s v
active n s v e =
    let p = and_parts (nat_lt 1 v && nat_lt 0 (s.excess v)) (nat_lt (s.label v) n) e in
    let q = and_parts (nat_lt 1 v) (nat_lt 0 (s.excess v)) p.0 in
    record { inner = ltb-true 1 v q.0; has_excess = ltb-true 0 (s.excess v) q.1; below = ltb-true (s.label v) n p.1 }

-- a node that is neither source nor sink, with an excess and a label below n, is active
pub is_active-true : (n : ℕ) (s : State) (v : ℕ) → 1 < v → 0 < s.excess v → s.label v < n → is_active n s v ≡ true
is_active-true n s v a b c = and_from (nat_lt 1 v && nat_lt 0 (s.excess v)) (nat_lt (s.label v) n) (and_from (nat_lt 1 v) (nat_lt 0 (s.excess v)) (lt-ltb 1 v a) (lt-ltb 0 (s.excess v) b)) (lt-ltb (s.label v) n c)

-- what a push, or an admissible residual, above zero says
pub record Sends (n : ℕ) (s : State) (v w : ℕ) : Type 0 where
  -- the node is neither the source nor the sink
  pub inner : 1 < v
  -- it has an excess
  pub has_excess : 0 < s.excess v
  -- its label is below the number of nodes
  pub below : s.label v < n
  -- the label of the head is one less
  pub down : s.label w + 1 ≡ s.label v
  -- the pair has a residual
  pub residual : 0 < s.res v w

-- if something is admissible, the node is active, the head's label is one less and the pair has a
-- residual
pub sends_by_room : (n : ℕ) (s : State) (v w : ℕ) → 0 < admissible n s v w → Sends n s v w
sends_by_room n s v w h =
    let p = cond-pos (is_active n s v && (s.label w + 1 == s.label v)) (s.res v w) h in
    let q = and_parts (is_active n s v) (s.label w + 1 == s.label v) p.0 in
    let a : Active n s v = active n s v q.0 in
    record { inner = a.inner; has_excess = a.has_excess; below = a.below; down = eqb-true (s.label w + 1) (s.label v) q.1; residual = p.1 }

-- all the residual of an admissible arc is admissible
pub room-is_res : (n : ℕ) (s : State) (v w : ℕ) → is_active n s v ≡ true → s.label w + 1 ≡ s.label v → admissible n s v w ≡ s.res v w
room-is_res n s v w a d = ap (λ (b : Bool). cond b (s.res v w) 0) (and_from (is_active n s v) (s.label w + 1 == s.label v) a (eq-eqb (s.label w + 1) (s.label v) d))

-- if something is pushed, the node is active, the head's label is one less and the pair has a
-- residual
pub sends : (n : ℕ) (s : State) (v w : ℕ) → 0 < push n s v w → Sends n s v w
sends n s v w h = sends_by_room n s v w (omega arith)

-- what is admissible is within the residual
pub room-le-res : (n : ℕ) (s : State) (v w : ℕ) → admissible n s v w ≤ s.res v w
room-le-res n s v w = cond-le (is_active n s v && (s.label w + 1 == s.label v)) (s.res v w)

-- a push is within the residual
pub push-le-res : (n : ℕ) (s : State) (v w : ℕ) → push n s v w ≤ s.res v w
push-le-res n s v w = omega (arith, room-le-res n s v w)
