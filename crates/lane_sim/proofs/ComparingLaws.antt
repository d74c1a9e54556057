-- Laws of comparing rows.
use Rattle.std.proofs.Common.{ℕ, ◌+◌, ◌-◌, ◌*◌, ◌<◌, ◌≤◌, ◌≡◌, ◌≢◌, ◌∷◌, [], suc, nat_lt, Bool, true, false, not, List, length, drop, get_or, slice_get, Option, Some, None, refl, arith, sym, ap, ap₂, ◌∙◌, subst}
use mathlib.Core.Bool.{beq}
use Rattle.std.specs.Option.{option_map}
use Rattle.std.proofs.lemmas.Bool.{false≢true, ltb-true, ltb-false}
use Rattle.std.proofs.lemmas.List.{length-map, length-take}
use Rattle.std.proofs.lemmas.Simd.{get_or-chunk}
use Rattle.std.proofs.lemmas.Option.{slice_get-map, slice_get-get_or, same_Some}
use Rattle.aig_graph.specs.Circuits.{Netlist}
use Rattle.lane_sim.specs.declared.difference.Place.{Place}
use Rattle.lane_sim.specs.declared.stimulus.InputSequence.{InputSequence}
use Rattle.lane_sim.specs.Lanes.{lane}
use Rattle.lane_sim.specs.Blocks.{in_lane, row_in, block_of}
use Rattle.lane_sim.specs.Traces.{row_of}
use Rattle.lane_sim.specs.Comparing.{AreSame, AreSameAt, Compares, ComparesAt, IsFirstAt, IsFirstIn, IsFirstOf, lanes_before, later_or, rows_by, steps_below, steps_of}

-- rows whose lanes are equal at each place
pub rows_same : (k : ℕ) (xs ys : List (List ℕ)) → length ys ≡ length xs → ((q : ℕ) → q < length xs → lane (get_or xs q []) k ≡ lane (get_or ys q []) k) → row_in k xs ≡ row_in k ys
rows_same k [] [] long each = refl
rows_same k [] (y ∷ ys) long each = absurd (omega arith)
rows_same k (x ∷ xs) [] long each = absurd (omega arith)
rows_same k (x ∷ xs) (y ∷ ys) long each = ap₂ (λ (b : Bool) bs. b ∷ bs) (each 0 (omega arith)) (rows_same k xs ys (omega arith) (λ q h. each (suc q) (omega arith)))

row_at : (k : ℕ) (xs : List (List ℕ)) (q : ℕ) → q < length xs → slice_get (row_in k xs) q ≡ Some (lane (get_or xs q []) k)
row_at k xs q h = slice_get-map (λ lanes. lane lanes k) xs q ∙ ap (λ o. elim o [ None ↦ None | Some lanes ↦ Some (lane lanes k) ]) (slice_get-get_or xs q [] h)

-- if lanes differ at a place, and are equal before it, rows in that lane first differ there
pub first_in_row : (k : ℕ) (xs ys : List (List ℕ)) (p : ℕ) → length ys ≡ length xs → p < length xs
    → lane (get_or xs p []) k ≢ lane (get_or ys p []) k → ((q : ℕ) → q < p → lane (get_or xs q []) k ≡ lane (get_or ys q []) k)
    → IsFirstIn (row_in k xs) (row_in k ys) p
first_in_row k xs ys p long within differs before = record {
  differs = λ same. differs (same_Some _ _ (sym (row_at k xs p within) ∙ same ∙ row_at k ys p (omega arith)));
  before = λ q h. row_at k xs q (omega arith) ∙ ap Some (before q h) ∙ sym (row_at k ys q (omega arith));
}

-- two bits that aren't equal by the test differ
pub beq_apart : (a b : Bool) → not (beq a b) ≡ true → a ≢ b
beq_apart true true differs same = false≢true differs
beq_apart true false differs same = false≢true (sym same)
beq_apart false true differs same = false≢true same
beq_apart false false differs same = false≢true differs

-- equal rows are as long
pub as_long : (k : ℕ) (xs ys : List (List ℕ)) (u v : List Bool) → row_in k xs ≡ u → row_in k ys ≡ v → length v ≡ length u → length ys ≡ length xs
as_long k xs ys u v first second long =
    sym (length-map ys (λ lanes. lane lanes k)) ∙ ap length second ∙ long ∙ sym (ap length first) ∙ length-map xs (λ lanes. lane lanes k)

-- ---- a step after another

module _ (n : ℕ) (steps : ℕ → ℕ) (f g : ℕ → ℕ → List Bool) where
  -- in the sequences before the one that differs first, nothing differs
  same_before : (t : ℕ) (found : Option Place) → Compares 0 n (steps_below t steps) f g found → AreSame 0 (lanes_before n found) (steps_below t steps) f g
  same_before t None same = same
  same_before t (Some p) first = first.sequences_before

  -- nor in one step more
  same_more : (t m : ℕ) → AreSame 0 m (steps_below t steps) f g → AreSameAt m t steps (λ s. f s t) (λ s. g s t) → AreSame 0 m (steps_below (t + 1) steps) f g
  same_more t m before now s u low high within =
      elim (nat_lt u t) as (λ b. nat_lt u t ≡ b → f s u ≡ g s u) [
        | true ↦ λ e. before s u low high (omega (arith, ltb-true u t e, within))
        | false ↦ λ e.
            let here : t ≡ u = omega (arith, ltb-false u t e, within) in
            subst (λ (w : ℕ). f s w ≡ g s w) here (now s high (omega (arith, within)))
      ] refl

  -- the sequences before the one that differs first are no more than all
  pub lanes_few : (t : ℕ) (found : Option Place) → Compares 0 n (steps_below t steps) f g found → lanes_before n found ≤ n
  lanes_few t None same = omega arith
  lanes_few t (Some p) first = omega (arith, first.below_high)

  -- before the first step nothing has been found
  pub none_yet : Compares 0 n (steps_below 0 steps) f g None
  none_yet s t low high within = absurd (omega (arith, within))

  first_more : (t m : ℕ) (p : Place) → m ≤ n → AreSame 0 m (steps_below t steps) f g → IsFirstAt m t steps (λ s. f s t) (λ s. g s t) p
      → IsFirstOf 0 n (steps_below (t + 1) steps) f g p
  first_more t m p few before first = record {
    from_low = omega arith;
    below_high = omega (arith, first.below_high, few);
    has_step = omega (arith, first.has_step, first.step_is);
    here = subst (λ (w : ℕ). IsFirstIn (f p.sequence w) (g p.sequence w) p.place) (sym first.step_is) first.here;
    steps_before = λ u less. before p.sequence u (omega arith) first.below_high (omega (arith, less, first.step_is, first.has_step));
    sequences_before = same_more t p.sequence (λ s u low high within. before s u low (omega (arith, high, first.below_high)) within) first.before;
  }

  still_first : (t : ℕ) (p : Place) → IsFirstOf 0 n (steps_below t steps) f g p → AreSameAt p.sequence t steps (λ s. f s t) (λ s. g s t)
      → IsFirstOf 0 n (steps_below (t + 1) steps) f g p
  still_first t p first now = record {
    from_low = omega arith;
    below_high = first.below_high;
    has_step = omega (arith, first.has_step);
    here = first.here;
    steps_before = first.steps_before;
    sequences_before = same_more t p.sequence first.sequences_before now;
  }

  -- one step more, compared in the sequences before the one that differs first so far
  pub one_more : (t : ℕ) (found later : Option Place) → Compares 0 n (steps_below t steps) f g found
      → ComparesAt (lanes_before n found) t steps (λ s. f s t) (λ s. g s t) later → Compares 0 n (steps_below (t + 1) steps) f g (later_or found later)
  one_more t None None before now = same_more t n before now
  one_more t (Some p) None before now = still_first t p before now
  one_more t found (Some q) before now = first_more t (lanes_before n found) q (lanes_few t found before) (same_before t found before) now

  -- all steps
  pub all_steps : (t : ℕ) (found : Option Place) → ((s : ℕ) → s < n → steps s ≤ t) → Compares 0 n (steps_below t steps) f g found → Compares 0 n steps f g found
  all_steps t None all same = λ s u low high within. same s u low high (omega (arith, within, all s high))
  all_steps t (Some p) all first = record {
    from_low = first.from_low;
    below_high = first.below_high;
    has_step = omega (arith, first.has_step);
    here = first.here;
    steps_before = first.steps_before;
    sequences_before = λ s u low high within. first.sequences_before s u low high (omega (arith, within, all s (omega (arith, high, first.below_high))));
  }

-- equal rows, read otherwise
pub compares-rows : (high t : ℕ) (steps : ℕ → ℕ) (f g u v : ℕ → List Bool) (found : Option Place) → ((s : ℕ) → s < high → f s ≡ u s) → ((s : ℕ) → s < high → g s ≡ v s)
    → ComparesAt high t steps f g found → ComparesAt high t steps u v found
compares-rows high t steps f g u v None first second same = λ s within has. sym (first s within) ∙ same s within has ∙ second s within
compares-rows high t steps f g u v (Some p) first second found = record {
  below_high = found.below_high;
  step_is = found.step_is;
  has_step = found.has_step;
  here = subst (λ r. IsFirstIn r (v p.sequence) p.place) (first p.sequence found.below_high) (subst (λ r. IsFirstIn (f p.sequence) r p.place) (second p.sequence found.below_high) found.here);
  before = λ s within has. sym (first s (omega (arith, within, found.below_high))) ∙ found.before s within has ∙ second s (omega (arith, within, found.below_high));
}

module _ (c d : Netlist) (sequences others : List InputSequence) (b : ℕ) where
  in_part : (runs : List InputSequence) (k : ℕ) → k < 256 → in_lane (block_of runs b) k ≡ in_lane runs (256 * b + k)
  in_part runs k h = get_or-chunk (256 * b) 256 runs k (record { choice = []; steps = [] }) h

  short : length (block_of sequences b) ≤ 256
  short = omega (arith, length-take 256 (drop (256 * b) sequences))

  steps_same : (k : ℕ) → k < 256 → steps_of (block_of sequences b) k ≡ steps_of sequences (256 * b + k)
  steps_same k h = ap (λ (s : InputSequence). length s.steps) (in_part sequences k h)

  first_row : (k t : ℕ) → k < 256 → rows_by c (block_of sequences b) k t ≡ rows_by c sequences (256 * b + k) t
  first_row k t h = ap (λ (s : InputSequence). row_of c s t) (in_part sequences k h)

  second_row : (k t : ℕ) → k < 256 → rows_by d (block_of others b) k t ≡ rows_by d others (256 * b + k) t
  second_row k t h = ap (λ (s : InputSequence). row_of d s t) (in_part others k h)

  same_at : (k t : ℕ) → k < 256 → rows_by c (block_of sequences b) k t ≡ rows_by d (block_of others b) k t
      → rows_by c sequences (256 * b + k) t ≡ rows_by d others (256 * b + k) t
  same_at k t h same = sym (first_row k t h) ∙ same ∙ second_row k t h

  -- equal for the sequences below a lane
  same_below : (n : ℕ) → n ≤ length (block_of sequences b)
      → AreSame 0 n (steps_of (block_of sequences b)) (rows_by c (block_of sequences b)) (rows_by d (block_of others b))
      → AreSame (256 * b) (256 * b + n) (steps_of sequences) (rows_by c sequences) (rows_by d others)
  same_below n within same s t low high =
      let place : 256 * b + (s - 256 * b) ≡ s = omega arith in
      let inside : s - 256 * b < 256 = omega (arith, within, short) in
      subst (λ w. t < steps_of sequences w → rows_by c sequences w t ≡ rows_by d others w t) place
      (λ l. same_at (s - 256 * b) t inside (same (s - 256 * b) t (omega arith) (omega arith) (omega (arith, l, steps_same (s - 256 * b) inside))))

  -- what comparing the sequences of two blocks finds, numbered from the block's first on
  pub compared : (found : Option Place)
      → Compares 0 (length (block_of sequences b)) (steps_of (block_of sequences b)) (rows_by c (block_of sequences b)) (rows_by d (block_of others b)) found
      → Compares (256 * b) (256 * b + length (block_of sequences b)) (steps_of sequences) (rows_by c sequences) (rows_by d others)
      (option_map (λ p. record { sequence = 256 * b + p.sequence; step = p.step; place = p.place }) found)
  compared None same = same_below (length (block_of sequences b)) (omega arith) same
  compared (Some p) h =
      let k : ℕ = p.sequence in
      let inside : k < 256 = omega (arith, h.below_high, short) in
      record {
        from_low = omega arith;
        below_high = omega (arith, h.below_high);
        has_step = omega (arith, steps_same k inside, h.has_step);
        here = subst (λ r. IsFirstIn r (rows_by d others (256 * b + k) p.step) p.place) (first_row k p.step inside)
            (subst (λ r. IsFirstIn (rows_by c (block_of sequences b) k p.step) r p.place) (second_row k p.step inside) h.here);
        steps_before = λ t l. same_at k t inside (h.steps_before t l);
        sequences_before = same_below k (omega (arith, h.below_high)) h.sequences_before;
      }
