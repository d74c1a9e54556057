use Rattle.std.proofs.Common.{◌≡◌, map, take}
use Rattle.serde_json.specs.View.{view}
use Rattle.json_reports.specs.Audits.{block_data, confirmed_blocks}
use Rattle.json_reports.proofs.audit.counts_array.Given as goal

abbrev pub invariant-loop-place : goal.invariant-loop-place
invariant-loop-place l = map view l.list.items ≡ map block_data (confirmed_blocks (take l.place l.parts) (take l.place l.audits))
