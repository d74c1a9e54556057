use Rattle.std.proofs.Common.{◌≡◌, take}
use Rattle.json_reports.specs.Retimings.{merged_lines}
use Rattle.json_reports.proofs.retiming.merged_lines.Given as goal

abbrev pub invariant-loop-part : goal.invariant-loop-part
invariant-loop-part l = l.all.items ≡ merged_lines (take l.part-index l.parts)
