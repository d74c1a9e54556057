use Rattle.std.specs.Prelude.{◌≡◌, ℕ, ◌+◌, ◌-◌, ◌<◌, List, length, slice_index, ◌==◌, ◌&&◌, min, cond, Bool}
use Rattle.frame_net.specs.Flow.{sum_below, State, push, is_active}

-- what an active node of this label may push over the k-th arc of its row
abbrev pub row_admissible : List ℕ → List ℕ → List ℕ → ℕ → ℕ → ℕ
row_admissible heads residuals labels label k = cond (slice_index labels (slice_index heads k) + 1 == label) (slice_index residuals k) 0

-- what a node may push over the k-th arc of its row
abbrev pub node_admissible : Bool → List ℕ → List ℕ → List ℕ → ℕ → ℕ → ℕ
node_admissible active heads residuals labels label k = cond (active && (slice_index labels (slice_index heads k) + 1 == label)) (slice_index residuals k) 0

-- the excess goes to the row's arcs in order, to each as far as it may
abbrev pub IsRowOfPushes : (ℕ → ℕ) → ℕ → List ℕ → Type 0
IsRowOfPushes admissible excess row = (k : ℕ) → k < length row → slice_index row k ≡ min (admissible k) (excess - sum_below k admissible)

-- a row as a function of the head: the value of the arc to w, or 0 if there is none
abbrev pub sparse : ℕ → (ℕ → ℕ) → (ℕ → ℕ) → ℕ → ℕ
sparse len h f w = sum_below len (λ k. cond (h k == w) (f k) 0)

-- the heads of a row rise
abbrev pub Rises : ℕ → (ℕ → ℕ) → Type 0
Rises len h = (j k : ℕ) → j < k → k < len → h j < h k

-- a row of pushes by arcs is the pulse's pushes by heads
abbrev pub RowLaw : Type 0
RowLaw = (n : ℕ) (s : State) (v len : ℕ) (h r p : ℕ → ℕ) → Rises len h
    → ((w : ℕ) → s.res v w ≡ sparse len h r w)
    → ((k : ℕ) → k < len → p k ≡ min (cond (is_active n s v && (s.label (h k) + 1 == s.label v)) (r k) 0) (s.excess v - sum_below k (λ j. cond (is_active n s v && (s.label (h j) + 1 == s.label v)) (r j) 0)))
    → (w : ℕ) → push n s v w ≡ sparse len h p w
