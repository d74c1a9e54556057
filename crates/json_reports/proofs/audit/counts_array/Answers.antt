use Rattle.std.proofs.Common.{◌≤◌, ◌<◌, ◌∙◌, List, ap, arith, length, map, min, sym}
use Rattle.serde_json.specs.Data.{Data, array}
use Rattle.serde_json.specs.View.{items_of, view}
use Rattle.serde_json.proofs.Views.{view-Array}
use Rattle.json_reports.specs.Audits.{block_data, confirmed_blocks}
use Rattle.json_reports.proofs.CountLaws.{all-blocks, parts-pushed}
use Rattle.json_reports.proofs.audit.counts_array.Goals as goal

pub loop-place-init : goal.loop-place-init
unfolding confirmed_blocks
loop-place-init c = ap (map view) c.new-list.ensures.items

pub loop-place-preserved : goal.loop-place-preserved
loop-place-preserved c =
    let parts = c.args.parts.now in
    let audits = c.args.audits.now in
    let some : c.loop-place.place < length parts = omega (arith, c.loop-place-test.true, c.min-place-end.ensures) in
    let others : c.loop-place.place < length audits = omega (arith, c.loop-place-test.true, c.min-place-end.ensures) in
    let pushed = rw (c.first_blocks.ensures, c.as_slice-blocks.ensures, sym c.index-parts-place.is) at c.in_ok-push_counts.ensures in
    parts-pushed parts audits c.loop-place.place c.index-parts-place.result _ _ _ some others c.index-parts-place.is c.loop-place.invariant pushed

pub returns : goal.returns
returns c =
    let parts = c.args.parts.now in
    let audits = c.args.audits.now in
    let past : min (length parts) (length audits) ≤ c.loop-place.place = omega (arith, c.loop-place-test.false, c.min-place-end.ensures) in
    view-Array c.loop-place.list ∙ ap (λ (ds : List Data). array (items_of ds)) (c.loop-place.invariant ∙ ap (map block_data) (all-blocks parts audits c.loop-place.place past))
