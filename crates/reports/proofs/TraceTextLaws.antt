-- The text of a trace, by numbers.
use Rattle.std.proofs.Common.{ℕ, ◌+◌, ◌≡◌, ◌<◌, ◌++◌, Bool, false, suc, List, [], ◌∷◌, length, map, get_or, slice_get, Option, Some, None, unwrap_or, refl, ap, ap₂, sym, ◌∙◌, arith, subst, zero-add}
use Rattle.std.specs.List.{flat_map, range_with_len}
use Rattle.std.proofs.lemmas.Option.{unwrap_or-slice_get}
use Rattle.counted_io.specs.Output.{Output}
use Rattle.counted_io.specs.Buffered.{Puts}
use Rattle.counted_io.specs.declared.buffered.Buffered.{Buffered}
use Rattle.counted_io.proofs.BufferedLaws.{puts-range_next}
use Rattle.lane_sim.specs.Traces.{at_place, then_at}
use Rattle.reports.specs.Traces.{digit, digit_at, values_at, step_at, steps_at, sequence_at, sequences_at, step_line, sequence_lines, trace_text}

-- what a list has at a number, if it is there
then_or : {X : Type 0} (o : Option (List X)) (k : ℕ) (d : X) → unwrap_or (then_at o k) d ≡ get_or (unwrap_or o []) k d
then_or None k d = refl
then_or (Some xs) k d = unwrap_or-slice_get xs k d

-- the value of a property at a step of a sequence, false if the trace has none
pub value_is : (t : List (List (List Bool))) (s k p : ℕ) → unwrap_or (at_place t s k p) false ≡ get_or (get_or (get_or t s []) k []) p false
value_is t s k p =
    then_or (then_at (slice_get t s) k) p false
    ∙ ap (λ row. get_or row p false) (then_or (slice_get t s) k [] ∙ ap (λ steps. get_or steps k []) (unwrap_or-slice_get t s []))

-- a text of each element, by the elements' numbers
pub by_number : {X : Type 0} (f : X → List ℕ) (g : ℕ → List ℕ) (d : X) (xs : List X) (a : ℕ) → ((i : ℕ) → i < length xs → g (a + i) ≡ f (get_or xs i d))
    → flat_map g (range_with_len a (length xs)) ≡ flat_map f xs
by_number f g d [] a each = refl
by_number f g d (x ∷ xs) a each =
    let here : a + 0 ≡ a = omega arith in
    ap₂ (λ y ys. y ++ ys) (ap g (sym here) ∙ each 0 (omega arith)) (by_number f g d xs (a + 1) (λ i l.
    let there : a + 1 + i ≡ a + suc i = omega arith in
    ap g there ∙ each (suc i) (omega arith)))

digits_flat : (row : List Bool) → flat_map (λ b. digit b ∷ []) row ≡ map digit row
digits_flat [] = refl
digits_flat (b ∷ row) = ap (λ xs. digit b ∷ xs) (digits_flat row)

values_are : (t : List (List (List Bool))) (s k : ℕ) → values_at t s k ≡ map digit (get_or (get_or t s []) k [])
unfolding values_at
values_are t s k =
    by_number (λ b. digit b ∷ []) (digit_at t s k) false (get_or (get_or t s []) k []) 0 (λ i l. ap (digit_at t s k) (zero-add i)) ∙ digits_flat (get_or (get_or t s []) k [])

step_is : (t : List (List (List Bool))) (s k : ℕ) → step_at t s k ≡ step_line (get_or (get_or t s []) k [])
unfolding step_at
step_is t s k = ap (λ xs. 58 ∷ (xs ++ 10 ∷ [])) (values_are t s k)

steps_are : (t : List (List (List Bool))) (s : ℕ) → steps_at t s ≡ flat_map step_line (get_or t s [])
unfolding steps_at
steps_are t s = by_number step_line (step_at t s) [] (get_or t s []) 0 (λ i l. ap (step_at t s) (zero-add i) ∙ step_is t s i)

sequence_is : (t : List (List (List Bool))) (s : ℕ) → sequence_at t s ≡ sequence_lines (get_or t s [])
unfolding sequence_at
sequence_is t s = ap (λ xs. 61 ∷ 10 ∷ xs) (steps_are t s)

-- the text by numbers is the text
pub text_is : (t : List (List (List Bool))) → sequences_at t ≡ trace_text t
unfolding sequences_at trace_text
text_is t = by_number sequence_lines (sequence_at t) [] t 0 (λ i l. ap (sequence_at t) (zero-add i) ∙ sequence_is t i)

module _ {W : Type 0} {output : W → Output} where
  -- the text of one number more, from 0 on
  pub puts-up : {b c d : Buffered W} (f : ℕ → List ℕ) (n : ℕ) → Puts output b c (flat_map f (range_with_len 0 n)) → Puts output c d (f n)
      → Puts output b d (flat_map f (range_with_len 0 (n + 1)))
  puts-up {c = c} {d = d} f n before text = puts-range_next f 0 n before (subst (λ k. Puts output c d (f k)) (sym (zero-add n)) text)
