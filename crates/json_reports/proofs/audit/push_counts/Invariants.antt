use Rattle.std.proofs.Common.{◌≡◌, ◌++◌, map, take}
use Rattle.serde_json.specs.View.{view}
use Rattle.json_reports.specs.Audits.{block_data}
use Rattle.json_reports.proofs.audit.push_counts.Given as goal

abbrev pub invariant-loop-block : goal.invariant-loop-block
invariant-loop-block l = map view l.list.items ≡ map view l.fn.list.items ++ map block_data (take l.block-index l.blocks)
