-- The text of a trace that is simulated while it is printed.
use Rattle.std.proofs.Common.{ℕ, ◌≡◌, ◌++◌, Bool, List, [], ◌∷◌, length, map, refl, ap, ap₂}
use Rattle.std.specs.List.{flat_map, range_with_len}
use Rattle.aig_graph.specs.Circuits.{Netlist}
use Rattle.aig_graph.specs.Streams.{property_literals}
use Rattle.lane_sim.specs.declared.stimulus.InputSequence.{InputSequence}
use Rattle.lane_sim.specs.Traces.{row_of, trace, value_in}
use Rattle.reports.specs.Traces.{digit, sequence_lines, step_line, trace_text}
use Rattle.reports.specs.Simulating.{digits_of, lines_of, sequence_of, step_of, steps_of}

digits_are : (v : ℕ → Bool) (literals : List ℕ) → digits_of v literals ≡ map digit (map v literals)
digits_are v [] = refl
digits_are v (lit ∷ literals) = ap (λ xs. digit (v lit) ∷ xs) (digits_are v literals)

step_is : (v : ℕ → Bool) (literals : List ℕ) → step_of v literals ≡ step_line (map v literals)
unfolding step_of
step_is v literals = ap (λ xs. 58 ∷ (xs ++ 10 ∷ [])) (digits_are v literals)

each_step : (c : Netlist) (s : InputSequence) (ts : List ℕ) → flat_map (λ t. step_of (value_in c.aig s t) (property_literals c.props)) ts ≡ flat_map step_line (map (row_of c s) ts)
each_step c s [] = refl
each_step c s (t ∷ ts) = ap₂ (λ xs ys. xs ++ ys) (step_is (value_in c.aig s t) (property_literals c.props)) (each_step c s ts)

sequence_is : (c : Netlist) (s : InputSequence) → sequence_of c s ≡ sequence_lines (map (row_of c s) (range_with_len 0 (length s.steps)))
unfolding sequence_of steps_of
sequence_is c s = ap (λ xs. 61 ∷ 10 ∷ xs) (each_step c s (range_with_len 0 (length s.steps)))

-- the text by sequences is that of the trace
pub lines_are : (c : Netlist) (sequences : List InputSequence) → lines_of c sequences ≡ trace_text (trace c sequences)
unfolding trace trace_text
lines_are c [] = refl
lines_are c (s ∷ sequences) = ap₂ (λ xs ys. xs ++ ys) (sequence_is c s) (lines_are c sequences)
