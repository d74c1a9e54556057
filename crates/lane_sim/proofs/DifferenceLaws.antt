-- Laws of the first difference of two traces.
use Rattle.std.proofs.Common.{ℕ, ◌+◌, ◌-◌, ◌*◌, ◌/◌, ◌<◌, ◌≤◌, ◌≡◌, inl, inr, ◌∷◌, [], zero, suc, nat_lt, min, Bool, true, false, List, length, map, drop, get_or, slice_get, Option, Some, None, refl, arith, sym, ap, ap₂, ◌∙◌, subst}
use Rattle.std.specs.Option.{option_map, IfNone, IfSome, IsSomeAnd, MatchOption}
use Rattle.std.specs.List.{range_with_len}
use Rattle.lane_sim.proofs.TableLaws.{map-same}
use Rattle.std.proofs.lemmas.Bool.{ltb-true, ltb-false}
use Rattle.std.proofs.lemmas.List.{length-take, length-drop, length-map}
use Rattle.std.proofs.lemmas.List.FromFn.{length-range_with_len, get_or-range_with_len}
use Rattle.std.proofs.lemmas.Option.{slice_get-map, slice_get-get_or, slice_get_within, get_or_from_slice_get, slice_get_past}
use Rattle.aig_graph.specs.Circuits.{Netlist}
use Rattle.lane_sim.specs.declared.difference.Place.{Place}
use Rattle.lane_sim.specs.declared.stimulus.InputSequence.{InputSequence}
use Rattle.lane_sim.specs.Blocks.{in_lane, block_of}
use Rattle.lane_sim.specs.Traces.{row_of, trace, then_at, at_place}
use Rattle.lane_sim.specs.Comparing.{AreAlike, IsFoundIn, AreSame, IsFirstOf, Compares, rows_by, steps_of}
use Rattle.lane_sim.specs.Kept.{for_kept}
use Rattle.lane_sim.specs.Differences.{IsBefore, IsFirstDifference, at}

-- what a search says of an answer, by its parts
pub where_none : {A : Type 0} (o : Option A) (P : Type 0) (Q : A → Type 0) → MatchOption o P Q → IfNone o P
where_none None P Q all = all
where_none (Some x) P Q all = tt

-- an answer that is one has what a search says of one
pub where_some : {A : Type 0} (o : Option A) (P : Type 0) (Q : A → Type 0) → MatchOption o P Q → IfSome o Q
where_some None P Q all = tt
where_some (Some x) P Q all = all

module _ (sequences : List InputSequence) (f g : ℕ → ℕ → List Bool) (found : List (Option Place))
    (each : (b : ℕ) → 256 * b < length sequences → IsSomeAnd (slice_get found b) (Compares (256 * b) (256 * b + length (block_of sequences b)) (steps_of sequences) f g)) where
  part_end : (b : ℕ) → length (block_of sequences b) ≡ min 256 (length sequences - 256 * b)
  part_end b = length-take 256 (drop (256 * b) sequences) ∙ ap (λ (n : ℕ). min 256 n) (length-drop (256 * b) sequences)

  in_block : (b : ℕ) (o : Option Place) → get_or found b None ≡ o → 256 * b < length sequences
      → Compares (256 * b) (256 * b + length (block_of sequences b)) (steps_of sequences) f g o
  in_block b o is inside = of_option (slice_get found b) refl (each b inside) where
    of_option : (r : Option (Option Place)) → slice_get found b ≡ r → IsSomeAnd r (Compares (256 * b) (256 * b + length (block_of sequences b)) (steps_of sequences) f g)
        → Compares (256 * b) (256 * b + length (block_of sequences b)) (steps_of sequences) f g o
    of_option None here h = absurd h
    of_option (Some p) here h = subst (Compares (256 * b) (256 * b + length (block_of sequences b)) (steps_of sequences) f g) (sym (get_or_from_slice_get found b p None here) ∙ is) h

  same_where_none : (s t : ℕ) → s < length sequences → t < steps_of sequences s → get_or found (s / 256) None ≡ None → f s t ≡ g s t
  same_where_none s t inside step none =
      in_block (s / 256) None none (omega arith) s t (omega arith) (omega (arith, part_end (s / 256))) step

  -- if no block has a difference, all sequences have equal rows
  pub none_found : ((i : ℕ) → i < length found → get_or found i None ≡ None) → ((i : ℕ) → 256 * i < length sequences → i < length found)
      → AreSame 0 (length sequences) (steps_of sequences) f g
  none_found none all s t low high step = same_where_none s t high step (none (s / 256) (all (s / 256) (omega arith)))

  -- if no block before has a difference, that of the next block is the first of all sequences
  pub some_found : (p : Place) (i : ℕ) → 256 * i < length sequences → get_or found i None ≡ Some p → ((j : ℕ) → j < i → get_or found j None ≡ None)
      → IsFirstOf 0 (length sequences) (steps_of sequences) f g p
  some_found p i inside here before =
      let h = in_block i (Some p) here inside in
      record {
        from_low = omega arith;
        below_high = omega (arith, h.below_high, part_end i);
        has_step = h.has_step;
        here = h.here;
        steps_before = h.steps_before;
        sequences_before = λ s t low below step. elim (nat_lt s (256 * i)) as (λ b. nat_lt s (256 * i) ≡ b → f s t ≡ g s t) [
          | true ↦ λ e.
              let earlier : s < 256 * i = ltb-true s (256 * i) e in
              same_where_none s t (omega arith) step (before (s / 256) (omega arith))
          | false ↦ λ e. h.sequences_before s t (ltb-false s (256 * i) e) below step
        ] refl;
      }

some_within : {X : Type 0} (P : X → Type 0) (xs : List X) (i : ℕ) (o : Option X) → slice_get xs i ≡ o → IsSomeAnd o P → i < length xs
some_within P xs i None at h = absurd h
some_within P xs i (Some x) at h = slice_get_within xs i x at

map_both : {X Y : Type 0} (xs ys : List X) (f g : X → Y) → length xs ≡ length ys → ((i : ℕ) (x y : X) → slice_get xs i ≡ Some x → slice_get ys i ≡ Some y → f x ≡ g y)
    → map f xs ≡ map g ys
map_both [] [] f g long same = refl
map_both [] (y ∷ ys) f g long same = absurd (omega arith)
map_both (x ∷ xs) [] f g long same = absurd (omega arith)
map_both (x ∷ xs) (y ∷ ys) f g long same = ap₂ (λ z zs. z ∷ zs) (same 0 x y refl refl) (map_both xs ys f g (omega arith) (λ i w z at other. same (suc i) w z at other))

module _ (c : Netlist) (sequences : List InputSequence) where
  at_sequence : (s t p : ℕ) → s < length sequences
      → at_place (trace c sequences) s t p ≡ then_at (slice_get (map (rows_by c sequences s) (range_with_len 0 (steps_of sequences s))) t) p
  unfolding trace
  at_sequence s t p inside =
      ap (λ o. then_at (then_at o t) p) (slice_get-map (λ r. map (row_of c r) (range_with_len 0 (length r.steps))) sequences s
      ∙ ap (option_map (λ r. map (row_of c r) (range_with_len 0 (length r.steps)))) (slice_get-get_or sequences s (record { choice = []; steps = [] }) inside))

  -- at a step that a sequence has, the trace has the circuit's row
  pub at_step : (s t p : ℕ) → s < length sequences → t < steps_of sequences s → at_place (trace c sequences) s t p ≡ slice_get (rows_by c sequences s t) p
  at_step s t p inside step =
      let n = steps_of sequences s in
      let long : length (range_with_len 0 n) ≡ n = length-range_with_len 0 n in
      let number : get_or (range_with_len 0 n) t 0 ≡ t = get_or-range_with_len 0 n t 0 step ∙ omega arith in
      at_sequence s t p inside
      ∙ ap (λ o. then_at o p) (slice_get-map (rows_by c sequences s) (range_with_len 0 n) t
      ∙ ap (option_map (rows_by c sequences s)) (slice_get-get_or (range_with_len 0 n) t 0 (omega arith) ∙ ap Some number))

  -- at a step that a sequence doesn't have, the trace has nothing
  pub at_no_step : (s t p : ℕ) → s < length sequences → steps_of sequences s ≤ t → at_place (trace c sequences) s t p ≡ None
  at_no_step s t p inside past =
      let n = steps_of sequences s in
      at_sequence s t p inside
      ∙ ap (λ o. then_at o p) (slice_get_past (map (rows_by c sequences s) (range_with_len 0 n)) t (omega (arith, length-map (range_with_len 0 n) (rows_by c sequences s), length-range_with_len 0 n)))

module _ (c d : Netlist) (sequences others : List InputSequence) (alike : AreAlike sequences others) where
  step_of_other : (s t : ℕ) → t < steps_of sequences s → t < steps_of others s
  step_of_other s t step = omega (arith, step, alike.long s)

  other_step : (s t p : ℕ) → s < length sequences → t < steps_of sequences s → at_place (trace d others) s t p ≡ slice_get (rows_by d others s t) p
  other_step s t p inside step = at_step d others s t p (omega (arith, inside, alike.many)) (step_of_other s t step)

  -- if no row differs at any step of any sequence, the traces are equal
  pub traces_same : AreSame 0 (length sequences) (steps_of sequences) (rows_by c sequences) (rows_by d others) → trace c sequences ≡ trace d others
  unfolding trace
  traces_same same =
      map_both sequences others (λ r. map (row_of c r) (range_with_len 0 (length r.steps))) (λ r. map (row_of d r) (range_with_len 0 (length r.steps))) (sym alike.many) (λ s r q at other.
      let here : in_lane sequences s ≡ r = get_or_from_slice_get sequences s r (record { choice = []; steps = [] }) at in
      let there : in_lane others s ≡ q = get_or_from_slice_get others s q (record { choice = []; steps = [] }) other in
      let inside = slice_get_within sequences s r at in
      subst (λ (z : InputSequence). map (row_of c z) (range_with_len 0 (length z.steps)) ≡ map (row_of d q) (range_with_len 0 (length q.steps))) here
      (subst (λ (z : InputSequence). map (rows_by c sequences s) (range_with_len 0 (steps_of sequences s)) ≡ map (row_of d z) (range_with_len 0 (length z.steps))) there
      (map-same (λ t. t < steps_of sequences s) (rows_by c sequences s) (rows_by d others s) (range_with_len 0 (steps_of sequences s))
      (λ k e h.
      let long = length-range_with_len 0 (steps_of sequences s) in
      let number = get_or-range_with_len 0 (steps_of sequences s) k e (omega (arith, h, long)) in omega (arith, number, h, long))
      (λ t step. same s t (omega arith) inside step)
      ∙ ap (λ (n : ℕ). map (rows_by d others s) (range_with_len 0 n)) (sym (alike.long s)))))

  agree : (s t p : ℕ) → s < length sequences → (t < steps_of sequences s → rows_by c sequences s t ≡ rows_by d others s t) → at_place (trace c sequences) s t p ≡ at_place (trace d others) s t p
  agree s t p inside same =
      elim (nat_lt t (steps_of sequences s)) as (λ b. nat_lt t (steps_of sequences s) ≡ b → at_place (trace c sequences) s t p ≡ at_place (trace d others) s t p) [
        | true ↦ λ e.
            let step = ltb-true t (steps_of sequences s) e in
            at_step c sequences s t p inside step ∙ ap (λ row. slice_get row p) (same step) ∙ sym (other_step s t p inside step)
        | false ↦ λ e.
            let past = ltb-false t (steps_of sequences s) e in
            at_no_step c sequences s t p inside past ∙ sym (at_no_step d others s t p (omega (arith, inside, alike.many)) (omega (arith, past, alike.long s)))
      ] refl

  agree_before : (p q : Place) → IsFirstOf 0 (length sequences) (steps_of sequences) (rows_by c sequences) (rows_by d others) p → IsBefore q p
      → at (trace c sequences) q ≡ at (trace d others) q
  agree_before p q h (inl earlier) =
      agree q.sequence q.step q.place (omega (arith, h.below_high)) (λ step. h.sequences_before q.sequence q.step (omega arith) earlier step)
  agree_before p q h (inr (same, inl earlier)) =
      subst (λ s. at_place (trace c sequences) s q.step q.place ≡ at_place (trace d others) s q.step q.place) (sym same)
      (agree p.sequence q.step q.place h.below_high (λ step. h.steps_before q.step earlier))
  agree_before p q h (inr (same, inr (step, earlier))) =
      subst (λ s. at_place (trace c sequences) s q.step q.place ≡ at_place (trace d others) s q.step q.place) (sym same)
      (subst (λ t. at_place (trace c sequences) p.sequence t q.place ≡ at_place (trace d others) p.sequence t q.place) (sym step)
      (at_step c sequences p.sequence p.step q.place h.below_high h.has_step ∙ h.here.before q.place earlier ∙ sym (other_step p.sequence p.step q.place h.below_high h.has_step)))

  -- the first place at which rows differ is the first difference of the traces
  pub difference : (p : Place) → IsFirstOf 0 (length sequences) (steps_of sequences) (rows_by c sequences) (rows_by d others) p
      → IsFirstDifference (trace c sequences) (trace d others) p
  difference p h = record {
    differs = λ same. h.here.differs (sym (at_step c sequences p.sequence p.step p.place h.below_high h.has_step) ∙ same ∙ other_step p.sequence p.step p.place h.below_high h.has_step);
    first = λ q before. agree_before p q h before;
  }

  -- what the blocks give in all
  pub answered : (found : List (Option Place)) (result : Option Place)
      → ((b : ℕ) → 256 * b < length sequences → IsSomeAnd (slice_get found b) (IsFoundIn c d sequences others b))
      → ((i : ℕ) → i < length found → 256 * i < length sequences)
      → MatchOption result ((i : ℕ) → i < length found → get_or found i None ≡ None)
      (λ p. (i : ℕ) × (i < length found) × (get_or found i None ≡ Some p) × ((j : ℕ) → j < i → get_or found j None ≡ None))
      → MatchOption result (trace c sequences ≡ trace d others) (IsFirstDifference (trace c sequences) (trace d others))
  unfolding IsFoundIn
  answered found None each all none =
      traces_same (none_found sequences (rows_by c sequences) (rows_by d others) found each none (λ i h. some_within (IsFoundIn c d sequences others i) found i (slice_get found i) refl (each i h)))
  answered found (Some p) each all first =
      difference p (some_found sequences (rows_by c sequences) (rows_by d others) found each p first.0 (all first.0 first.1) first.2 first.3)

-- these sequences, and those for the free latches that were kept
pub alike_itself : (sequences : List InputSequence) → AreAlike sequences sequences
alike_itself sequences = record { many = refl; long = λ k. refl }

-- sequences with the kept free latches alone are as many, and each as long
pub alike_kept : (kept : List ℕ) (sequences : List InputSequence) → AreAlike sequences (map (for_kept kept) sequences)
alike_kept kept sequences = record { many = length-map sequences (for_kept kept); long = long sequences } where
  long : (runs : List InputSequence) (k : ℕ) → steps_of (map (for_kept kept) runs) k ≡ steps_of runs k
  long [] k = refl
  long (r ∷ runs) zero = refl
  long (r ∷ runs) (suc k) = long runs k
