-- Laws of a table of lanes by variable.
use Rattle.std.proofs.Common.{ℕ, ◌+◌, ◌-◌, ◌*◌, ◌%◌, ◌<◌, ◌≤◌, ◌≡◌, ◌≢◌, ◌==◌, ◌&&◌, true, false, nat_lt, arith, refl, sym, ap, ap₂, ◌∙◌, subst, get_or, set, slice_get, ◌∷◌, suc, map, Some, All, List, [], length, get_or-set_same, get_or-set_other}
use Rattle.std.proofs.lemmas.Bool.{eqb-true, eqb-false, ltb-true, ltb-false, cond-true, cond-false}
use Rattle.std.proofs.lemmas.Option.{slice_get-get_or, slice_get_within, get_or_from_slice_get, slice_get_read}
use Rattle.std.proofs.lemmas.List.Sums.{count_by_more_yes, count_by_more_no}
use Rattle.std.proofs.lemmas.List.{get_or_past}
use Rattle.aig_graph.specs.declared.graph.Gate.{Gate}
use Rattle.aig_graph.specs.declared.graph.Latch.{Latch}
use Rattle.aig_graph.specs.declared.graph.Reset.{Reset}
use Rattle.aig_graph.specs.declared.graph.Reset.TheVariants.{Zero, One, Free}
use Rattle.aig_graph.specs.Graph.{Graph, IsGraph, IsGateAt, variable, variables_end, first_latch, first_gate, is_free, free_before}
use Rattle.aig_graph.specs.Value.{signed, opening}
use Rattle.aig_graph.proofs.ValueLaws.{value_laws}
use Rattle.lane_sim.specs.declared.stimulus.InputSequence.{InputSequence}
use Rattle.lane_sim.specs.Lanes.{lane, held}
use Rattle.lane_sim.specs.Blocks.{in_lane, HoldsState, HoldsBelow, HoldsLatches}
use Rattle.lane_sim.specs.Traces.{inputs_of, choice_of, value_in}

-- what stands past the last latch
no_latch : Latch
no_latch = record { next = 0; reset = Zero }

-- one free latch more is passed, or none
pub free_before-yes : (g : Graph) (j : ℕ) (latch : Latch) → slice_get g.latches j ≡ Some latch → is_free latch ≡ true → free_before g (j + 1) ≡ free_before g j + 1
free_before-yes g j latch at free = count_by_more_yes is_free g.latches j latch (slice_get_within g.latches j latch at) (ap is_free (get_or_from_slice_get g.latches j latch latch at) ∙ free)

-- past a known latch there are as many free latches as before it
pub free_before-no : (g : Graph) (j : ℕ) (latch : Latch) → slice_get g.latches j ≡ Some latch → is_free latch ≡ false → free_before g (j + 1) ≡ free_before g j
free_before-no g j latch at known = count_by_more_no is_free g.latches j latch (slice_get_within g.latches j latch at) (ap is_free (get_or_from_slice_get g.latches j latch latch at) ∙ known)

-- an element that was read from a list, as the list's element
pub read_at : {X : Type 0} (xs ys : List X) (i : ℕ) (x : X) → ys ≡ xs → i < length ys → x ≡ get_or ys i x → slice_get xs i ≡ Some x
read_at xs ys i x same within is = ap (λ zs. slice_get zs i) (sym same) ∙ slice_get_read ys (length ys) i x refl within is

module _ (g : Graph) (valid : IsGraph g) (s : InputSequence) where
  -- a literal's value by its variable's
  pub value-signed : (t lit : ℕ) → value_in g s t lit ≡ signed lit (value_in g s t (2 * variable lit))
  value-signed t lit =
      elim (lit % 2 == 1) as (λ b. (lit % 2 == 1) ≡ b → value_in g s t lit ≡ signed lit (value_in g s t (2 * variable lit))) [
        | true ↦ λ e.
            let odd : lit % 2 ≡ 1 = eqb-true (lit % 2) 1 e in
            let is : lit ≡ 2 * variable lit + 1 = omega arith in
            ap (value_in g s t) is ∙ (value_laws g valid (inputs_of s) (choice_of s)).negation t (variable lit) ∙ sym (cond-true _ _ _ e)
        | false ↦ λ e.
            let even : lit % 2 ≢ 1 = eqb-false (lit % 2) 1 e in
            let is : lit ≡ 2 * variable lit = omega arith in
            ap (value_in g s t) is ∙ sym (cond-false _ _ _ e)
      ] refl

  -- what a table holds of a literal
  pub held-signed : (table : List (List ℕ)) (k t n lit : ℕ) → HoldsBelow g s table k t n → variable lit < n → signed lit (held table (variable lit) k) ≡ value_in g s t lit
  held-signed table k t n lit holds below = ap (signed lit) (holds.each (variable lit) below) ∙ sym (value-signed t lit)

  -- one gate more
  pub HoldsBelow-gate : (table : List (List ℕ)) (k t j : ℕ) (gate : Gate) (lanes : List ℕ)
      → slice_get g.gates j ≡ Some gate → HoldsBelow g s table k t (first_gate g + j) → first_gate g + j < length table
      → lane lanes k ≡ (signed gate.rhs0 (held table (variable gate.rhs0) k) && signed gate.rhs1 (held table (variable gate.rhs1) k))
      → HoldsBelow g s (set table (first_gate g + j) lanes) k t (first_gate g + (j + 1))
  HoldsBelow-gate table k t j gate lanes at holds room computed = record {
    each = λ v h.
        elim (v == first_gate g + j) as (λ b. (v == first_gate g + j) ≡ b → held (set table (first_gate g + j) lanes) v k ≡ value_in g s t (2 * v)) [
          | true ↦ λ e.
              let same : v ≡ first_gate g + j = eqb-true v (first_gate g + j) e in
              let here : IsGateAt (first_gate g + j) gate = valid.gates j gate at in
              ap (λ w. held (set table (first_gate g + j) lanes) w k) same
              ∙ ap (λ l. lane l k) (get_or-set_same table (first_gate g + j) lanes [] room)
              ∙ computed
              ∙ ap₂ (λ a b. a && b) (held-signed table k t (first_gate g + j) gate.rhs0 holds here.below) (held-signed table k t (first_gate g + j) gate.rhs1 holds (omega (arith, here.ordered, here.below)))
              ∙ sym ((value_laws g valid (inputs_of s) (choice_of s)).gate t j gate at)
              ∙ ap (λ (w : ℕ). value_in g s t (2 * w)) (sym same)
          | false ↦ λ e.
              let other : v ≢ first_gate g + j = eqb-false v (first_gate g + j) e in
              ap (λ l. lane l k) (get_or-set_other table (first_gate g + j) v lanes [] other) ∙ holds.each v (omega arith)
        ] refl;
  }

  -- the inputs loaded over a state
  pub HoldsBelow-inputs : (before after : List (List ℕ)) (k t : ℕ)
      → HoldsState g s before k t
      → ((i : ℕ) → i < g.inputs → held after (1 + i) k ≡ inputs_of s t i)
      → get_or after 0 [] ≡ get_or before 0 []
      → ((v : ℕ) → g.inputs < v → get_or after v [] ≡ get_or before v [])
      → HoldsBelow g s after k t (first_gate g)
  HoldsBelow-inputs before after k t state inputs constant latches = record {
    each = λ v h.
        let laws = value_laws g valid (inputs_of s) (choice_of s) in
        let P : ℕ → Type 0 = λ w. held after w k ≡ value_in g s t (2 * w) in
        elim (nat_lt v 1) as (λ b. nat_lt v 1 ≡ b → P v) [
          | true ↦ λ e.
              let first : 0 ≡ v = omega (arith, ltb-true v 1 e) in
              subst P first (ap (λ l. lane l k) constant ∙ state.constant ∙ sym (laws.constant t))
          | false ↦ λ e. elim (nat_lt g.inputs v) as (λ b. nat_lt g.inputs v ≡ b → P v) [
            | true ↦ λ l.
                let after_inputs : g.inputs < v = ltb-true g.inputs v l in
                let place : first_latch g + (v - first_latch g) ≡ v = omega arith in
                subst P place (ap (λ l. lane l k) (latches (first_latch g + (v - first_latch g)) (omega arith)) ∙ state.latches (v - first_latch g) (omega arith))
            | false ↦ λ l.
                let within : v ≤ g.inputs = ltb-false g.inputs v l in
                let place : 1 + (v - 1) ≡ v = omega (arith, ltb-false v 1 e) in
                let small : v - 1 < g.inputs = omega (arith, ltb-false v 1 e) in
                subst P place (inputs (v - 1) small ∙ sym (laws.input t (v - 1) small))
          ] refl
        ] refl;
  }

  -- the next values of the latches
  pub HoldsLatches-next : (before next : List (List ℕ)) (k t : ℕ)
      → HoldsBelow g s before k t (variables_end g)
      → ((j : ℕ) (latch : Latch) → slice_get g.latches j ≡ Some latch → lane (get_or next j []) k ≡ signed latch.next (held before (variable latch.next) k))
      → HoldsLatches g s next k (t + 1)
  HoldsLatches-next before next k t holds read = record {
    each = λ j h.
        let latch : Latch = get_or g.latches j no_latch in
        let at : slice_get g.latches j ≡ Some latch = slice_get-get_or g.latches j no_latch h in
        read j latch at ∙ held-signed before k t (variables_end g) latch.next holds (valid.latches j latch at)
        ∙ sym ((value_laws g valid (inputs_of s) (choice_of s)).latch_later t j latch at);
  }

  -- the constant's value
  pub HoldsBelow-constant : (table : List (List ℕ)) (k t : ℕ) → HoldsBelow g s table k t (variables_end g) → held table 0 k ≡ false
  HoldsBelow-constant table k t holds = holds.each 0 (omega arith) ∙ (value_laws g valid (inputs_of s) (choice_of s)).constant t

-- the latches below a place opened, and one more
pub opened : (g : Graph) → IsGraph g → (s : InputSequence) (table : List (List ℕ)) (k j : ℕ) (latch : Latch) (lanes : List ℕ)
    → slice_get g.latches j ≡ Some latch → j < length table
    → lane lanes k ≡ opening latch.reset (choice_of s (free_before g j))
    → ((i : ℕ) → i < j → held table i k ≡ value_in g s 0 (2 * (first_latch g + i)))
    → (i : ℕ) → i < j + 1 → held (set table j lanes) i k ≡ value_in g s 0 (2 * (first_latch g + i))
opened g valid s table k j latch lanes at room here before i h =
    elim (i == j) as (λ b. (i == j) ≡ b → held (set table j lanes) i k ≡ value_in g s 0 (2 * (first_latch g + i))) [
      | true ↦ λ e.
          let same : i ≡ j = eqb-true i j e in
          ap (λ (w : ℕ). held (set table j lanes) w k) same
          ∙ ap (λ l. lane l k) (get_or-set_same table j lanes [] room) ∙ here
          ∙ sym ((value_laws g valid (inputs_of s) (choice_of s)).latch_at_start j latch at)
          ∙ ap (λ (w : ℕ). value_in g s 0 (2 * (first_latch g + w))) (sym same)
      | false ↦ λ e.
          let other : i ≢ j = eqb-false i j e in
          ap (λ l. lane l k) (get_or-set_other table j i lanes [] other) ∙ before i (omega arith)
    ] refl

known_reset : (r : Reset) → r ≢ Free → elim r [ Zero ↦ false | One ↦ false | Free ↦ true ] ≡ false
known_reset Zero h = refl
known_reset One h = refl
known_reset Free h = absurd (h refl)

-- a latch whose reset isn't that of a free one is known
pub known_unless_free : (latch : Latch) → latch.reset ≢ Free → is_free latch ≡ false
known_unless_free latch h = known_reset latch.reset h

-- after the last sequence, each lane has its sequence's digit
pub digit_loaded : (sequences : List InputSequence) (k n t i : ℕ) → length sequences ≤ n
    → (nat_lt k n && inputs_of (in_lane sequences k) t i) ≡ inputs_of (in_lane sequences k) t i
digit_loaded sequences k n t i all =
    elim (nat_lt k n) as (λ b. nat_lt k n ≡ b → (b && inputs_of (in_lane sequences k) t i) ≡ inputs_of (in_lane sequences k) t i) [
      | true ↦ λ e. refl
      | false ↦ λ e.
          let past : in_lane sequences k ≡ record { choice = []; steps = [] } = get_or_past sequences k (record { choice = []; steps = [] }) (omega (arith, ltb-false k n e)) in
          ap (λ s. false) past ∙ sym (ap (λ (s : InputSequence). inputs_of s t i) past)
    ] refl

-- two functions that agree on the elements
pub map-same : {X Y : Type 0} (P : X → Type 0) (f h : X → Y) (xs : List X) → All P xs → ((x : X) → P x → f x ≡ h x) → map f xs ≡ map h xs
map-same P f h [] each same = refl
map-same P f h (x ∷ xs) each same = ap₂ (λ y ys. y ∷ ys) (same x (each 0 x (omega arith))) (map-same P f h xs (λ k d l. each (suc k) d (omega arith)) same)
