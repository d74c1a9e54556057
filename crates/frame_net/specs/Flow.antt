use Rattle.std.specs.Prelude.{◌≡◌, ℕ, suc, zero, ◌+◌, ◌-◌, ◌*◌, ◌<◌, ◌≤◌, ◌==◌, nat_lt, min, max, not, ◌&&◌, Bool, true, false, cond, ◌↔◌}

-- f 0 + .. + f (n - 1)
abbrev pub sum_below : ℕ → (ℕ → ℕ) → ℕ
sum_below zero f = 0
sum_below (suc n) f = sum_below n f + f n

-- the least of m, f 0, .., f (n - 1)
abbrev pub least_below : ℕ → (ℕ → ℕ) → ℕ → ℕ
least_below zero f m = m
least_below (suc n) f m = min (least_below n f m) (f n)

-- the greatest of 0, f 0, .., f (n - 1)
abbrev pub greatest_below : ℕ → (ℕ → ℕ) → ℕ
greatest_below zero f = 0
greatest_below (suc n) f = max (greatest_below n f) (f n)

-- the residual of each ordered pair of nodes (capacity less flow), and the excess and the label of
-- each node
pub record State : Type 0 where
  pub res : ℕ → ℕ → ℕ
  pub excess : ℕ → ℕ
  pub label : ℕ → ℕ

-- node v is neither the source 0 nor the sink 1, has excess, and its label is below n
abbrev pub is_active : ℕ → State → ℕ → Bool
is_active n s v = nat_lt 1 v && nat_lt 0 (s.excess v) && nat_lt (s.label v) n

-- what v may push to w: the residual, if v is active and the label of w is one less
abbrev pub admissible : ℕ → State → ℕ → ℕ → ℕ
admissible n s v w = cond (is_active n s v && (s.label w + 1 == s.label v)) (s.res v w) 0

-- what v pushes to w: its excess goes to the heads in rising order, to each as far as its
-- admissible residual
abbrev pub push : ℕ → State → ℕ → ℕ → ℕ
push n s v w = min (admissible n s v w) (s.excess v - sum_below w (admissible n s v))

-- what v pushes in all, and what is pushed to it
abbrev pub outflow : ℕ → State → ℕ → ℕ
outflow n s v = sum_below n (push n s v)

abbrev pub inflow : ℕ → State → ℕ → ℕ
inflow n s v = sum_below n (λ w. push n s w v)

-- the residual of a pair after the pulse
abbrev pub next_res : ℕ → State → ℕ → ℕ → ℕ
next_res n s v w = (s.res v w + push n s w v) - push n s v w

-- v is active and its pushes sum to less than its excess
abbrev pub has_excess_left : ℕ → State → ℕ → Bool
has_excess_left n s v = is_active n s v && nat_lt (outflow n s v) (s.excess v)

-- the lesser of n and one more than the least label of a node to which v has a residual after
-- delivery
abbrev pub relabelled : ℕ → State → ℕ → ℕ
relabelled n s v = least_below n (λ w. cond (nat_lt 0 (next_res n s v w)) (s.label w + 1) n) n

abbrev pub next_label : ℕ → State → ℕ → ℕ
next_label n s v = cond (has_excess_left n s v) (relabelled n s v) (s.label v)

abbrev pub next_excess : ℕ → State → ℕ → ℕ
next_excess n s v = (s.excess v + inflow n s v) - outflow n s v

-- the state after a pulse
abbrev pub pulse : ℕ → State → State
pulse n s = record { res = next_res n s; excess = next_excess n s; label = next_label n s }

-- residuals of capacities: the flows of a pair are each other's negative, and excess is inflow less
-- outflow
pub record IsPreflow (n : ℕ) (cap : ℕ → ℕ → ℕ) (s : State) : Type 0 where
  pub paired : (v w : ℕ) → v < n → w < n → s.res v w + s.res w v ≡ cap v w + cap w v
  pub conserved : (v : ℕ) → 0 < v → v < n → s.excess v + sum_below n (cap v) ≡ sum_below n (s.res v)

-- valid labels: n at the source, 0 at the sink, and at most one less at the head of an arc with
-- residual
pub record IsValid (n : ℕ) (s : State) : Type 0 where
  pub source : s.label 0 ≡ n
  pub sink : s.label 1 ≡ 0
  pub small : (v : ℕ) → v < n → s.label v ≤ n
  pub steps : (v w : ℕ) → v < n → w < n → 0 < s.res v w → s.label v ≤ s.label w + 1

-- the greatest label of an active node, or 0
abbrev pub greatest_active_label : ℕ → State → ℕ
greatest_active_label n s = greatest_below n (λ v. cond (is_active n s v) (s.label v) 0)

-- what falls in each pulse but the last
abbrev pub potential : ℕ → State → ℕ
potential n s = 2 * (n * n - sum_below n s.label) + greatest_active_label n s

-- the sum of f over the pairs whose first is in a and whose second is in b
abbrev pub between : ℕ → (ℕ → Bool) → (ℕ → Bool) → (ℕ → ℕ → ℕ) → ℕ
between n a b f = sum_below n (λ v. sum_below n (λ w. cond (a v && b w) (f v w) 0))

-- a set of nodes with the source and without the sink
pub record IsCut (side : ℕ → Bool) : Type 0 where
  pub with_source : side 0 ≡ true
  pub without_sink : side 1 ≡ false

-- the capacity of the arcs that leave a set
abbrev pub cut_value : ℕ → (ℕ → ℕ → ℕ) → (ℕ → Bool) → ℕ
cut_value n cap side = between n side (λ w. not (side w)) cap

-- a walk of k residual arcs from v to the sink
abbrev pub Walk : ℕ → State → ℕ → ℕ → Type 0
Walk n s zero v = v ≡ 1
Walk n s (suc k) v = (w : ℕ) × ((w < n) × ((0 < s.res v w) × Walk n s k w))

abbrev pub Reaches : ℕ → State → ℕ → Type 0
Reaches n s v = (k : ℕ) × Walk n s k v

-- the nodes of the set are those from which no residual arcs lead to the sink
abbrev pub IsSourceSide : ℕ → State → (ℕ → Bool) → Type 0
IsSourceSide n s side = (v : ℕ) → v < n → (side v ≡ false) ↔ Reaches n s v
