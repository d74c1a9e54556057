use Rattle.std.proofs.Common.{rules}
use Rattle.counted_io.proofs.BufferedLaws.{puts-then, writes-whole}
use Rattle.command_endings.specs.progress.Lines.{cleared, cut_at_width, wrap_at_width}
use Rattle.command_endings.proofs.progress.lines.write_in_place.Goals as goal

pub returns : goal.returns
returns g c =
    let begun = puts-then {xs = cleared} {ys = cut_at_width} c.put.ensures c.put-2.ensures in
    let shown = puts-then (puts-then begun c.put_state.ensures) c.put_seconds.ensures in
    writes-whole c.new-out.ensures (puts-then {ys = wrap_at_width} shown c.put-3.ensures) c.flush.ensures (search rules)
