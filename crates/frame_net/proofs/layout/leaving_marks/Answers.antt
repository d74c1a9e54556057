use Rattle.std.proofs.Common.{◌∙◌, ap, ℕ}
use Rattle.std.proofs.lemmas.List.{with_items_is}
use Rattle.aig_graph.specs.Tables.{table}
use Rattle.aig_graph.specs.Graph.{first_latch}
use Rattle.frame_net.specs.Capacity.{is_observed}
use Rattle.frame_net.proofs.LayoutLaws.{leaving-table, read-marks}
use Rattle.frame_net.proofs.layout.leaving_marks.Goals as goal

pub returns : goal.returns
returns c =
    let g = c.args.aig.now in
    let held = c.args.keep.now in
    with_items_is c.in_ok-leaving.leaving c.mark_read.new.read (c.mark_read.ensures.as_long ∙ c.mark_held.ensures.as_long ∙ c.as_mut_slice-marks.ensures.len)
    ∙ leaving-table g c.args.props.now held c.latches_and_gates.result c.marks.result.now c.as_mut_slice-marks.result.now c.mark_held.new.marks c.mark_read.new.read
    (read-marks g held c.args.pass.now.first c.args.pass.now.marks.items c.marks.result.now c.requires.first c.requires.marks c.marks.ensures)
    (c.as_mut_slice-marks.ensures.value ∙ c.in_ok-leaving.ensures.items_if_clones_equal (λ y h. h)) c.mark_held.ensures c.mark_read.ensures
    ∙ ap (λ (n : ℕ). table (first_latch g) n (is_observed g c.args.props.now held)) c.latches_and_gates.ensures.value
