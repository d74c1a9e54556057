use Rattle.std.proofs.Common.{arith}
use Rattle.reports.proofs.WaveNameLaws.{name-set, none-past, none-without_bytes}
use Rattle.reports.proofs.waves.names.set_name.Goals.{else-place-names-via-then-place-names+else-not-is_empty, else-place-names-via-else-place-names}
use Rattle.reports.proofs.waves.names.set_name.Goals as goal

pub returns-in_ok-names : goal.returns-in_ok-names
returns-in_ok-names c =
    name-set c.args.names.now c.args.symbol.now _ c.is_empty.result c.if-place-names.true c.is_empty.ensures c.if-not-is_empty.true
    (rw c.as_slice.ensures at c.in_ok-names.ensures)

pub returns-else-place-names : goal.returns-else-place-names
returns-else-place-names c = elim c.else-place-names.branch [
  | else-place-names-via-then-place-names+else-not-is_empty w ↦ none-without_bytes c.args.names.now c.args.symbol.now w.is_empty.result w.is_empty.ensures w.if-not-is_empty.false
  | else-place-names-via-else-place-names w ↦ none-past c.args.names.now c.args.symbol.now (omega (arith, w.if-place-names.false))
]
