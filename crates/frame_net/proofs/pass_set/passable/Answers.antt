use Rattle.std.proofs.Common.{◌≡◌, ◌∙◌, length, arith, ap, List, Bool}
use Rattle.aig_graph.specs.Tables.{table}
use Rattle.aig_graph.proofs.TableLaws.{length-table}
use Rattle.aig_graph.specs.Graph.{first_latch, latches_and_gates}
use Rattle.frame_net.specs.Passable.{is_passable}
use Rattle.frame_net.proofs.PassableLaws.{pass-marks, pass_set-count}
use Rattle.frame_net.proofs.pass_set.passable.Goals as goal

pub count_marks-count-requires : goal.count_marks-count-requires
count_marks-count-requires c =
    let long : length c.as_slice.result.now ≡ latches_and_gates c.args.aig.now = ap (λ (xs : List Bool). length xs) (c.as_slice.ensures.value ∙ c.in_ok-push_gates.ensures.filled) ∙ length-table (first_latch c.args.aig.now) (latches_and_gates c.args.aig.now) (is_passable c.args.aig.now c.args.keep.now) in
    omega (arith, long, c.push_gates.ensures.small)

pub returns : goal.returns
returns c =
    let g = c.args.aig.now in
    let held = c.args.keep.now in
    let filled : c.as_slice.result.now ≡ table (first_latch g) (latches_and_gates g) (is_passable g held) = c.as_slice.ensures.value ∙ c.in_ok-push_gates.ensures.filled in
    record {
      first = c.first_latch.ensures.value;
      marks = c.in_ok-push_gates.ensures.filled;
      count = pass_set-count g held c.as_slice.result.now c.count_marks-count.result filled (c.count_marks-count.ensures (first_latch g) (is_passable g held) (pass-marks g held (latches_and_gates g) c.as_slice.result.now filled));
    }
