use Rattle.aig_graph.specs.Tables.{table}
use Rattle.std.proofs.Common.{List, ap, arith, length, ℕ, ◌+◌, ◌*◌, ◌∙◌, ap₂}
use Rattle.aig_graph.specs.declared.graph.Latch.{Latch}
use Rattle.map_miters.proofs.begun.leaves_of.Goals as goal

pub numbered-requires : goal.numbered-requires
numbered-requires c = omega (arith, c.inputs.ensures.value, c.requires)

pub numbered-requires-2 : goal.numbered-requires-2
numbered-requires-2 c = omega (arith, c.first_latch-first_latch.ensures.value, ap (λ (ls : List Latch). length ls) c.latches-own.ensures.value, c.requires)

pub numbered-requires-3 : goal.numbered-requires-3
numbered-requires-3 c =
    omega (arith, c.first_latch-first_latch.ensures.value, ap (λ (ls : List Latch). length ls) c.latches-own.ensures.value, ap (λ (ls : List Latch). length ls) c.latches.ensures.value, c.requires)

pub overflow_add-first_latch : goal.overflow_add-first_latch
overflow_add-first_latch c = omega (arith, c.first_latch-first_latch.ensures.value, ap (λ (ls : List Latch). length ls) c.latches-own.ensures.value, c.requires)

pub overflow_cast-own : goal.overflow_cast-own
overflow_cast-own c = omega (arith, ap (λ (ls : List Latch). length ls) c.latches-own.ensures.value, c.requires)

pub returns : goal.returns
returns c = record {
  inputs = c.in_ok-inputs.ensures ∙ ap (λ (n : ℕ). table 0 n (λ i. 2 * (1 + i))) c.inputs.ensures.value;
  first = c.in_ok-of_first.ensures ∙ ap₂ (λ (n f : ℕ). table 0 n (λ j. 2 * (f + j))) (ap (λ (ls : List Latch). length ls) c.latches-own.ensures.value) c.first_latch-first_latch.ensures.value;
  second = c.in_ok-of_second.ensures
      ∙ ap₂ (λ (n f : ℕ). table 0 n (λ j. 2 * (f + j))) (ap (λ (ls : List Latch). length ls) c.latches.ensures.value)
      (ap₂ (λ (f n : ℕ). f + n) c.first_latch-first_latch.ensures.value (ap (λ (ls : List Latch). length ls) c.latches-own.ensures.value));
}
