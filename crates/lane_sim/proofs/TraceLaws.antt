-- Laws of what blocks hold as a trace.
use Rattle.std.proofs.Common.{ℕ, ◌+◌, ◌*◌, ◌/◌, ◌%◌, ◌<◌, ◌≤◌, ◌≡◌, ◌∷◌, [], Bool, zero, suc, min, refl, arith, sym, ap, ap₂, ◌∙◌, subst, get_or, slice_get, Option, Some, None, unwrap_or, List, length, map, take, drop}
use Rattle.std.specs.Option.{option_map, IsSomeAnd}
use Rattle.std.specs.List.{enumerate_from, range_with_len}
use Rattle.std.proofs.lemmas.Option.{slice_get-map, slice_get_within, get_or_from_slice_get, slice_get_past, unwrap_or-slice_get}
use Rattle.std.proofs.lemmas.List.{length-take, length-drop, get_or-map, get_or-take}
use Rattle.std.proofs.lemmas.List.{length-map}
use Rattle.std.proofs.lemmas.List.FromFn.{length-enumerate_from}
use Rattle.std.proofs.lemmas.Simd.{get_or-chunk}
use Rattle.aig_graph.specs.Circuits.{Netlist}
use Rattle.aig_graph.specs.Streams.{property_literals}
use Rattle.lane_sim.specs.declared.stimulus.InputSequence.{InputSequence}
use Rattle.lane_sim.specs.Lanes.{lane}
use Rattle.lane_sim.specs.Blocks.{in_lane, row_in, steps_in, IsBlock, block_of, recorded}
use Rattle.lane_sim.specs.Traces.{row_of, trace, then_at}

-- a list by its places from a on
by_places : {X Y : Type 0} (f : X → Y) (h : ℕ → Y) (xs : List X) (a n : ℕ) → ((t : ℕ) → t < n → IsSomeAnd (slice_get xs t) (λ x. f x ≡ h (a + t)))
    → map f (take n xs) ≡ map h (range_with_len a n)
by_places f h xs a zero each = refl
by_places f h [] a (suc n) each = absurd (each 0 (omega arith))
by_places f h (x ∷ xs) a (suc n) each =
    let here : a + 0 ≡ a = omega arith in
    ap₂ (λ y ys. y ∷ ys) (each 0 (omega arith) ∙ ap h here) (by_places f h xs (a + 1) n (λ t l.
    let place : a + suc t ≡ a + 1 + t = omega arith in
    subst (λ w. IsSomeAnd (slice_get xs t) (λ z. f z ≡ h w)) place (each (suc t) (omega arith))))

-- a list whose elements are numbered from a on
by_numbers : {X N Y : Type 0} (size : X → N) (f : ℕ → N → Y) (h : X → Y) (xs : List X) (a : ℕ)
    → ((i : ℕ) (x : X) → slice_get xs i ≡ Some x → f (a + i) (size x) ≡ h x)
    → map (λ e. f e.0 e.1) (enumerate_from a (map size xs)) ≡ map h xs
by_numbers size f h [] a each = refl
by_numbers size f h (x ∷ xs) a each =
    let here : a + 0 ≡ a = omega arith in
    ap₂ (λ y ys. y ∷ ys) (ap (λ (w : ℕ). f w (size x)) (sym here) ∙ each 0 x refl) (by_numbers size f h xs (a + 1) (λ i z at.
    let place : a + 1 + i ≡ a + suc i = omega arith in
    ap (λ (w : ℕ). f w (size z)) place ∙ each (suc i) z at))

module _ (c : Netlist) (sequences : List InputSequence) (blocks : List (List (List (List ℕ))))
    (each : (b : ℕ) → 256 * b < length sequences → IsSomeAnd (slice_get blocks b) (IsBlock c.aig (property_literals c.props) (block_of sequences b))) where
  -- the rows of a sequence, from its block
  rows_of : (s : ℕ) (run : InputSequence) → slice_get sequences s ≡ Some run
      → (o : Option (List (List (List ℕ)))) → slice_get blocks (s / 256) ≡ o → IsSomeAnd o (IsBlock c.aig (property_literals c.props) (block_of sequences (s / 256)))
      → steps_in blocks s (length run.steps) ≡ map (row_of c run) (range_with_len 0 (length run.steps))
  rows_of s run at None found h = absurd h
  rows_of s run at (Some rows) found h =
      let short = slice_get_within sequences s run at in
      let place : 256 * (s / 256) + s % 256 ≡ s = omega arith in
      let empty : InputSequence = record { choice = []; steps = [] } in
      let here : in_lane (block_of sequences (s / 256)) (s % 256) ≡ run =
      get_or-chunk (256 * (s / 256)) 256 sequences (s % 256) empty (omega arith) ∙ ap (λ (n : ℕ). get_or sequences n empty) place ∙ get_or_from_slice_get sequences s run empty at in
      let long : s % 256 < length (block_of sequences (s / 256)) =
      omega (arith, length-take 256 (drop (256 * (s / 256)) sequences), length-drop (256 * (s / 256)) sequences) in
      ap (λ rs. map (row_in (s % 256)) (take (length run.steps) rs)) (get_or_from_slice_get blocks (s / 256) rows [] found)
      ∙ by_places (row_in (s % 256)) (row_of c run) rows 0 (length run.steps) (λ t within.
      let zeroth : t ≡ 0 + t = omega arith in
      subst (λ w. IsSomeAnd (slice_get rows t) (λ row. row_in (s % 256) row ≡ row_of c run w)) zeroth
      (subst (λ (r : InputSequence). t < length r.steps → IsSomeAnd (slice_get rows t) (λ row. row_in (s % 256) row ≡ row_of c r t)) here
      (h.each (s % 256) t long) within))

  -- what the blocks hold of all sequences is the circuit's trace
  pub recorded-trace : (steps : List ℕ) → steps ≡ map (λ r. length r.steps) sequences → recorded steps blocks ≡ trace c sequences
  unfolding recorded trace
  recorded-trace steps lengths =
      ap (λ ns. map (λ e. steps_in blocks e.0 e.1) (enumerate_from 0 ns)) lengths
      ∙ by_numbers (λ (r : InputSequence). length r.steps) (steps_in blocks) (λ s. map (row_of c s) (range_with_len 0 (length s.steps))) sequences 0 (λ i run at.
      let short = slice_get_within sequences i run at in
      let zeroth : i ≡ 0 + i = omega arith in
      subst (λ w. steps_in blocks w (length run.steps) ≡ map (row_of c run) (range_with_len 0 (length run.steps))) zeroth
      (rows_of i run at (slice_get blocks (i / 256)) refl (each (i / 256) (omega arith))))

-- ---- what stands at a place

slice_get-take : {X : Type 0} (xs : List X) (n t : ℕ) → t < n → slice_get (take n xs) t ≡ slice_get xs t
slice_get-take xs zero t h = absurd (omega arith)
slice_get-take [] (suc n) t h = refl
slice_get-take (x ∷ xs) (suc n) zero h = refl
slice_get-take (x ∷ xs) (suc n) (suc t) h = slice_get-take xs n t (omega arith)

-- a step that the lane doesn't have
pub no_step : (k n t p : ℕ) (rows : List (List (List ℕ))) → min n (length rows) ≤ t → then_at (slice_get (map (row_in k) (take n rows)) t) p ≡ None
no_step k n t p rows past =
    ap (λ o. then_at o p) (slice_get_past (map (row_in k) (take n rows)) t (omega (arith, length-map (take n rows) (row_in k), length-take n rows)))

-- what a sequence's row has at a place is the lane of the block's row there
pub in_step : (k n t p : ℕ) (rows : List (List (List ℕ))) (row : List (List ℕ)) → t < n → slice_get rows t ≡ Some row
    → then_at (slice_get (map (row_in k) (take n rows)) t) p ≡ option_map (λ lanes. lane lanes k) (slice_get row p)
in_step k n t p rows row within at =
    ap (λ o. then_at o p) (slice_get-map (row_in k) (take n rows) t ∙ ap (option_map (row_in k)) (slice_get-take rows n t within ∙ at))
    ∙ slice_get-map (λ lanes. lane lanes k) row p

recorded_from : (blocks : List (List (List (List ℕ)))) (a : ℕ) (steps : List ℕ) (s : ℕ)
    → slice_get (map (λ e. steps_in blocks e.0 e.1) (enumerate_from a steps)) s ≡ option_map (λ n. steps_in blocks (a + s) n) (slice_get steps s)
recorded_from blocks a [] s = refl
recorded_from blocks a (n ∷ steps) zero = let here : a ≡ a + 0 = omega arith in ap (λ (w : ℕ). Some (steps_in blocks w n)) here
recorded_from blocks a (n ∷ steps) (suc s) =
    let place : a + 1 + s ≡ a + suc s = omega arith in
    recorded_from blocks (a + 1) steps s ∙ ap (λ (w : ℕ). option_map (λ m. steps_in blocks w m) (slice_get steps s)) place

-- what is recorded of a sequence are its steps from the blocks
pub recorded-at : (steps : List ℕ) (blocks : List (List (List (List ℕ)))) (s : ℕ)
    → slice_get (recorded steps blocks) s ≡ option_map (λ n. steps_in blocks s n) (slice_get steps s)
unfolding recorded
recorded-at steps blocks s =
    let zeroth : 0 + s ≡ s = omega arith in
    recorded_from blocks 0 steps s ∙ ap (λ (w : ℕ). option_map (λ m. steps_in blocks w m) (slice_get steps s)) zeroth

-- ---- the sizes of a trace

-- each sequence is recorded once
pub recorded-length : (steps : List ℕ) (blocks : List (List (List (List ℕ)))) → length (recorded steps blocks) ≡ length steps
unfolding recorded
recorded-length steps blocks = length-map (enumerate_from 0 steps) (λ e. steps_in blocks e.0 e.1) ∙ length-enumerate_from 0 steps

-- the steps of a sequence, from its block
pub recorded-steps : (steps : List ℕ) (blocks : List (List (List (List ℕ)))) (s n : ℕ) → slice_get steps s ≡ Some n
    → get_or (recorded steps blocks) s [] ≡ steps_in blocks s n
recorded-steps steps blocks s n at =
    get_or_from_slice_get (recorded steps blocks) s (steps_in blocks s n) [] (recorded-at steps blocks s ∙ ap (option_map (λ m. steps_in blocks s m)) at)

-- none of a sequence that there isn't
recorded-none : (steps : List ℕ) (blocks : List (List (List (List ℕ)))) (s : ℕ) → slice_get steps s ≡ None → get_or (recorded steps blocks) s [] ≡ []
recorded-none steps blocks s none =
    sym (unwrap_or-slice_get (recorded steps blocks) s [])
    ∙ ap (λ o. unwrap_or o []) (recorded-at steps blocks s ∙ ap (option_map (λ m. steps_in blocks s m)) none)

-- of a sequence that there isn't no step is recorded
pub recorded-past : (steps : List ℕ) (blocks : List (List (List (List ℕ)))) (s : ℕ) → length steps ≤ s → get_or (recorded steps blocks) s [] ≡ []
recorded-past steps blocks s past = recorded-none steps blocks s (slice_get_past steps s past)

-- of a sequence as many steps come from its block as it has, and no more than the block has
pub steps_in-length : (blocks : List (List (List (List ℕ)))) (s n : ℕ) → length (steps_in blocks s n) ≡ min n (length (get_or blocks (s / 256) []))
steps_in-length blocks s n = length-map (take n (get_or blocks (s / 256) [])) (row_in (s % 256)) ∙ length-take n (get_or blocks (s / 256) [])

-- a step that a sequence has, in its block
pub record InBlock (blocks : List (List (List (List ℕ)))) (s t : ℕ) (row : List Bool) : Type 0 where
  -- the block has the step
  pub within : t < length (get_or blocks (s / 256) [])
  -- the row is the sequence's lane of the block's
  pub row_is : row ≡ row_in (s % 256) (get_or (get_or blocks (s / 256) []) t [])

in_block : (blocks : List (List (List (List ℕ)))) (s t n : ℕ) → t < length (steps_in blocks s n) → InBlock blocks s t (get_or (steps_in blocks s n) t [])
in_block blocks s t n h =
    let rows = get_or blocks (s / 256) [] in
    let short = steps_in-length blocks s n in
    record {
      within = omega (arith, short, h);
      row_is = get_or-map (row_in (s % 256)) (take n rows) t [] [] (omega (arith, short, h, length-take n rows)) ∙ ap (row_in (s % 256)) (get_or-take n rows t [] (omega (arith, short, h)));
    }

in_block_of : (steps : List ℕ) (blocks : List (List (List (List ℕ)))) (s t : ℕ) (o : Option ℕ) → slice_get steps s ≡ o → t < length (get_or (recorded steps blocks) s [])
    → InBlock blocks s t (get_or (get_or (recorded steps blocks) s []) t [])
in_block_of steps blocks s t None at h =
    absurd (omega (arith, h, ap length (recorded-none steps blocks s at)))
in_block_of steps blocks s t (Some n) at h =
    let here = recorded-steps steps blocks s n at in
    subst (λ (rows : List (List Bool)). InBlock blocks s t (get_or rows t [])) (sym here) (in_block blocks s t n (omega (arith, h, ap length here)))

-- a step that is recorded of a sequence is in the sequence's block, in its lane
pub recorded-row : (steps : List ℕ) (blocks : List (List (List (List ℕ)))) (s t : ℕ) → t < length (get_or (recorded steps blocks) s [])
    → InBlock blocks s t (get_or (get_or (recorded steps blocks) s []) t [])
recorded-row steps blocks s t h = in_block_of steps blocks s t (slice_get steps s) refl h
