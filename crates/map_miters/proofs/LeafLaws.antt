-- The leaves of the graph of both circuits hold what its inputs and latches do.
use Rattle.std.proofs.Common.{ℕ, ◌+◌, ◌*◌, ◌<◌, ◌≤◌, ◌≡◌, Bool, List, ◌++◌, length, map, arith, ap, ◌∙◌, sym, subst}
use Rattle.std.proofs.lemmas.List.{length-append, length-map}
use Rattle.aig_graph.specs.Tables.{table}
use Rattle.aig_graph.proofs.TableLaws.{length-table, table-at}
use Rattle.aig_graph.specs.declared.graph.Latch.{Latch}
use Rattle.aig_graph.specs.declared.graph.Reset.{Reset}
use Rattle.aig_graph.specs.Graph.{Graph, IsGraph, first_gate, first_latch}
use Rattle.aig_graph.specs.Value.{value_within}
use Rattle.witness_circuits.proofs.ViewLaws.{input-value, latch-value, table-within}
use Rattle.map_circuits.specs.Growing.{Extends}
use Rattle.map_miters.specs.Holding.{HoldAs}
use Rattle.map_miters.specs.declared.begun.Leaves.{Leaves}
use Rattle.map_miters.specs.Products.{product_resets, start_resets}
use Rattle.map_miters.specs.Sides.{AreListed, IsBegun, beside_digits, beside_first, beside_second}
use Rattle.map_miters.specs.Ties.{HasLatches}

-- there are as many resets as latches of both and of what tells the first step
pub length-resets : (c d : Graph) (tied : Bool) → length (product_resets c d tied) ≡ length c.latches + length d.latches + length (start_resets tied)
length-resets c d tied =
    let reset : Latch → Reset = λ l. l.reset in
    omega (
      arith,
      length-append (map reset c.latches ++ map reset d.latches) (start_resets tied),
      length-append (map reset c.latches) (map reset d.latches),
      length-map c.latches reset,
      length-map d.latches reset,
    )

-- the graph without gates has its latches
pub begun-latches : (c d g : Graph) (tied : Bool) → IsBegun c d tied g → HasLatches c d tied g
begun-latches c d g tied begun = record {
  inputs = ap (λ (h : Graph). h.inputs) begun;
  latches = ap (λ (h : Graph). length h.latches) begun ∙ length-map (product_resets c d tied) (λ (r : Reset). record { next = 0; reset = r });
}

-- a graph that grows keeps its latches
pub latches-stay : (c d g h : Graph) (tied : Bool) → Extends g h → HasLatches c d tied g → HasLatches c d tied h
latches-stay c d g h tied more p = record { inputs = more.inputs ∙ p.inputs; latches = ap (λ ls. length ls) more.latches ∙ p.latches }

-- there is room for the latches of both
pub latches-room : (c d h : Graph) (tied : Bool) → HasLatches c d tied h → length c.latches + length d.latches ≤ length h.latches
latches-room c d h tied p = omega (arith, p.latches, length-resets c d tied)

-- leaves that are listed for two graphs are listed for those that these are
pub leaves-listed : (c d g h : Graph) (leaves : Leaves) → g ≡ c → h ≡ d → AreListed g h leaves → AreListed c d leaves
leaves-listed c d g h leaves first second p = subst (λ (i : Graph). AreListed c i leaves) second (subst (λ (i : Graph). AreListed i h leaves) first p)

inputs-hold : (h : Graph) → IsGraph h → (n : ℕ) → n ≡ h.inputs → HoldAs h (table 0 n (λ i. 2 * (1 + i))) beside_digits
inputs-hold h valid n wide = record {
  within = table-within h 1 n (omega (arith, wide));
  values = λ z u k less.
      let short : k < n = omega (arith, less, length-table 0 n (λ i. 2 * (1 + i))) in
      let at : 2 * (1 + (0 + k)) ≡ 2 * (1 + k) = omega arith in
      ap (value_within h z u) (table-at 0 n (λ i. 2 * (1 + i)) k 0 short ∙ at) ∙ input-value h valid z u k (omega (arith, short, wide));
}

first-hold : (h : Graph) → IsGraph h → (first n : ℕ) → first ≡ first_latch h → n ≤ length h.latches → HoldAs h (table 0 n (λ j. 2 * (first + j))) beside_first
first-hold h valid first n at room = record {
  within = table-within h first n (omega (arith, at, room));
  values = λ z u k less.
      let short : k < n = omega (arith, less, length-table 0 n (λ j. 2 * (first + j))) in
      let place : 2 * (first + (0 + k)) ≡ 2 * (first_latch h + k) = omega (arith, at) in
      ap (value_within h z u) (table-at 0 n (λ j. 2 * (first + j)) k 0 short ∙ place) ∙ latch-value h valid z u k (omega (arith, short, room));
}

second-hold : (h c : Graph) → IsGraph h → (first n : ℕ) → first ≡ first_latch h + length c.latches → length c.latches + n ≤ length h.latches
    → HoldAs h (table 0 n (λ j. 2 * (first + j))) (beside_second c)
second-hold h c valid first n at room = record {
  within = table-within h first n (omega (arith, at, room));
  values = λ z u k less.
      let short : k < n = omega (arith, less, length-table 0 n (λ j. 2 * (first + j))) in
      let place : 2 * (first + (0 + k)) ≡ 2 * (first_latch h + (length c.latches + k)) = omega (arith, at) in
      ap (value_within h z u) (table-at 0 n (λ j. 2 * (first + j)) k 0 short ∙ place) ∙ latch-value h valid z u (length c.latches + k) (omega (arith, short, room));
}

-- the literals of the leaves hold what the inputs and the latches of either circuit do
pub record AreHeld (h c d : Graph) (leaves : Leaves) : Type 0 where
  -- there is a literal for each input
  pub wide : length leaves.inputs.items ≡ c.inputs
  -- there is one for each latch of the first
  pub first_long : length leaves.first.items ≡ length c.latches
  -- there is one for each latch of the second
  pub second_long : length leaves.second.items ≡ length d.latches
  -- those of the inputs hold the digits
  pub inputs : HoldAs h leaves.inputs.items beside_digits
  -- those of the first's latches hold what these do
  pub first : HoldAs h leaves.first.items beside_first
  -- so those of the second's
  pub second : HoldAs h leaves.second.items (beside_second c)

-- leaves that are listed in a graph with the latches of both are such literals
pub leaves-held : (h c d : Graph) (tied : Bool) (leaves : Leaves) → IsGraph h → HasLatches c d tied h → AreListed c d leaves → AreHeld h c d leaves
leaves-held h c d tied leaves valid has listed =
    let room = latches-room c d h tied has in
    let wide : c.inputs ≡ h.inputs = sym has.inputs in
    record {
      wide = ap (λ ls. length ls) listed.inputs ∙ length-table 0 c.inputs (λ i. 2 * (1 + i));
      first_long = ap (λ ls. length ls) listed.first ∙ length-table 0 (length c.latches) (λ j. 2 * (first_latch c + j));
      second_long = ap (λ ls. length ls) listed.second ∙ length-table 0 (length d.latches) (λ j. 2 * (first_gate c + j));
      inputs = subst (λ (ls : List ℕ). HoldAs h ls beside_digits) (sym listed.inputs) (inputs-hold h valid c.inputs wide);
      first = subst (λ (ls : List ℕ). HoldAs h ls beside_first) (sym listed.first) (first-hold h valid (first_latch c) (length c.latches) (omega (arith, wide)) (omega (arith, room)));
      second = subst (λ (ls : List ℕ). HoldAs h ls (beside_second c)) (sym listed.second)
          (second-hold h c valid (first_gate c) (length d.latches) (omega (arith, wide)) room);
    }
