use Rattle.std.specs.Prelude.{◌≡◌, ℕ, ◌+◌, ◌-◌, ◌<◌, ◌==◌, nat_lt, ◌&&◌, ◌||◌, Bool, true, false, cond, List, [], ◌∷◌}
use Rattle.frame_net.specs.Flow.{State, sum_below, least_below, push, is_active, next_res, next_excess, next_label}

-- within a pulse: residuals, excess, the labels of its start, the new labels, and the pushes of
-- each pair
pub record Moment : Type 0 where
  pub res : ℕ → ℕ → ℕ
  pub excess : ℕ → ℕ
  pub label : ℕ → ℕ
  pub next : ℕ → ℕ
  pub pushes : ℕ → ℕ → ℕ

abbrev pub state_of : Moment → State
state_of t = record { res = t.res; excess = t.excess; label = t.label }

-- Read: node v writes its own row of pushes
abbrev pub read_at : ℕ → Moment → ℕ → Moment
read_at n t v = record t { pushes = λ u w. cond (u == v) (push n (state_of t) u w) (t.pushes u w) }

-- what Deliver of a node makes of its residuals, its excess and its label
abbrev pub residual_after_delivery : Moment → ℕ → ℕ → ℕ
residual_after_delivery t v w = (t.res v w + t.pushes w v) - t.pushes v w

abbrev pub excess_after_delivery : ℕ → Moment → ℕ → ℕ
excess_after_delivery n t v = (t.excess v + sum_below n (λ w. t.pushes w v)) - sum_below n (t.pushes v)

-- The label of v after its delivery. An active node that keeps some of its excess rises to one
-- above the least label of a node to which it has a residual. Others keep theirs.
abbrev pub label_after_delivery : ℕ → Moment → ℕ → ℕ
label_after_delivery n t v = cond (is_active n (state_of t) v && nat_lt (sum_below n (t.pushes v)) (t.excess v))
    (least_below n (λ w. cond (nat_lt 0 (residual_after_delivery t v w)) (t.label w + 1) n) n) (t.label v)

-- Deliver: node v writes its own row of residuals, its excess and its new label
abbrev pub deliver_at : ℕ → Moment → ℕ → Moment
deliver_at n t v = record t {
  res = λ u w. cond (u == v) (residual_after_delivery t u w) (t.res u w);
  excess = λ u. cond (u == v) (excess_after_delivery n t u) (t.excess u);
  next = λ u. cond (u == v) (label_after_delivery n t u) (t.next u);
}

-- the events of one phase, in the list's order
abbrev pub read_all : ℕ → Moment → List ℕ → Moment
read_all n t [] = t
read_all n t (v ∷ vs) = read_all n (read_at n t v) vs

abbrev pub deliver_all : ℕ → Moment → List ℕ → Moment
deliver_all n t [] = t
deliver_all n t (v ∷ vs) = deliver_all n (deliver_at n t v) vs

abbrev pub among : ℕ → List ℕ → Bool
among u [] = false
among u (v ∷ vs) = (u == v) || among u vs

abbrev pub Distinct : List ℕ → Type 0
Distinct [] = Unit {0}
Distinct (v ∷ vs) = (among v vs ≡ false) × Distinct vs

-- each node below n once, in any order
pub record EachOnce (n : ℕ) (vs : List ℕ) : Type 0 where
  pub distinct : Distinct vs
  pub all : (v : ℕ) → v < n → among v vs ≡ true

-- an event with the worker that does it
pub record Event : Type 0 where
  pub node : ℕ
  pub worker : ℕ

abbrev pub nodes_of_events : List Event → List ℕ
nodes_of_events [] = []
nodes_of_events (e ∷ es) = e.node ∷ nodes_of_events es

-- the moment after a pulse has the rows, excess and new labels of the pulse of a state
pub record IsAfterPulse (n : ℕ) (s : State) (t : Moment) : Type 0 where
  pub res : (v w : ℕ) → v < n → w < n → t.res v w ≡ next_res n s v w
  pub excess : (v : ℕ) → v < n → t.excess v ≡ next_excess n s v
  pub label : (v : ℕ) → v < n → t.next v ≡ next_label n s v

-- all reads in any order, then all deliveries in any order, leave the state after the pulse
abbrev pub AnyOrderIsPulse : Type 0
AnyOrderIsPulse = (n : ℕ) (t : Moment) (reads delivers : List Event) → EachOnce n (nodes_of_events reads) → EachOnce n (nodes_of_events delivers)
    → IsAfterPulse n (state_of t) (deliver_all n (read_all n t (nodes_of_events reads)) (nodes_of_events delivers))
