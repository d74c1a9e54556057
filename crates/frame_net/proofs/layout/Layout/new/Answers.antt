use Rattle.std.proofs.Common.{◌≡◌, ◌∙◌, arith, ap, sym, subst, List, ℕ, Bool, length, take}
use Rattle.aig_graph.specs.Counting.{count_below, places}
use Rattle.aig_graph.specs.Tables.{table}
use Rattle.aig_graph.specs.Marking.{AreAllMarks}
use Rattle.aig_graph.proofs.TableLaws.{length-table}
use Rattle.aig_graph.specs.declared.graph.Latch.{Latch}
use Rattle.aig_graph.specs.Graph.{first_latch, latches_and_gates}
use Rattle.frame_net.specs.Capacity.{has_node, latch_number}
use Rattle.frame_net.proofs.LayoutLaws.{node-marks, latch-marks}
use Rattle.frame_net.proofs.layout.Layout.new.Goals as goal

pub number_marks-requires : goal.number_marks-requires
number_marks-requires c =
    let g = c.args.aig.now in
    let long : length c.as_slice-nodes.result.now ≡ latches_and_gates g =
    ap (λ (xs : List Bool). length xs) (c.as_slice-nodes.ensures.value ∙ c.in_ok-marks.ensures c.args.keep.now c.requires) ∙ length-table (first_latch g) (latches_and_gates g) (has_node g c.args.keep.now) in
    omega (arith, long, c.first_latch-first.ensures.graph.small)

pub marked_variables-requires : goal.marked_variables-requires
marked_variables-requires c =
    let g = c.args.aig.now in
    let long : length c.as_slice-nodes.result.now ≡ latches_and_gates g =
    ap (λ (xs : List Bool). length xs) (c.as_slice-nodes.ensures.value ∙ c.in_ok-marks.ensures c.args.keep.now c.requires) ∙ length-table (first_latch g) (latches_and_gates g) (has_node g c.args.keep.now) in
    omega (arith, long, c.first_latch-first.ensures.graph.small, c.first_latch-first.ensures.value)

pub count_latches-requires-clause-among : goal.count_latches-requires-clause-among
count_latches-requires-clause-among c =
    let g = c.args.aig.now in
    let long : length c.as_slice-nodes.result.now ≡ latches_and_gates g =
    ap (λ (xs : List Bool). length xs) (c.as_slice-nodes.ensures.value ∙ c.in_ok-marks.ensures c.args.keep.now c.requires) ∙ length-table (first_latch g) (latches_and_gates g) (has_node g c.args.keep.now) in
    omega (arith, long, ap (λ (xs : List Latch). length xs) c.latches.ensures.value)

pub count_latches-requires-clause-small : goal.count_latches-requires-clause-small
count_latches-requires-clause-small c = omega (arith, c.first_latch-first.ensures.graph.small, ap (λ (xs : List Latch). length xs) c.latches.ensures.value)

pub invariant_of-result : goal.invariant_of-result
invariant_of-result c =
    let g = c.args.aig.now in
    let held = c.args.keep.now in
    let filled : c.as_slice-nodes.result.now ≡ table (first_latch g) (latches_and_gates g) (has_node g held) = c.as_slice-nodes.ensures.value ∙ c.in_ok-marks.ensures held c.requires in
    let long : length c.as_slice-nodes.result.now ≡ latches_and_gates g = ap (λ (xs : List Bool). length xs) filled ∙ length-table (first_latch g) (latches_and_gates g) (has_node g held) in
    let marks : AreAllMarks (first_latch g) c.as_slice-nodes.result.now (has_node g held) = node-marks g held c.as_slice-nodes.result.now filled in
    let count : length c.latches.result.now ≡ length g.latches = ap (λ (xs : List Latch). length xs) c.latches.ensures.value in
    record {
      graph = c.first_latch-first.ensures.graph;
      leaving_are = c.in_ok-leaving.ensures;
      numbers_are = c.in_ok-numbers.ensures (first_latch g) (has_node g held) marks ∙ ap (λ (n : ℕ). table (first_latch g) n (latch_number g held)) long;
      variables_are = c.in_ok-variables.ensures (has_node g held) (subst (λ (n : ℕ). AreAllMarks n c.as_slice-nodes.result.now (has_node g held)) (sym c.first_latch-first.ensures.value) marks)
          ∙ ap (λ (n : ℕ). places (has_node g held) n) (omega (arith, long, c.first_latch-first.ensures.value));
      latches_are = c.count_latches.ensures (first_latch g) (has_node g held)
          (latch-marks g held c.as_slice-nodes.result.now (take (length c.latches.result.now) c.as_slice-nodes.result.now) filled (ap (λ (n : ℕ). take n c.as_slice-nodes.result.now) count))
          ∙ ap (λ (n : ℕ). count_below (has_node g held) n) (omega (arith, count));
    }
