use Rattle.std.proofs.Common.{◌∙◌}
use Rattle.path_levels.proofs.MarkedLaws.{bounded-marked, none-barred}
use Rattle.path_levels.proofs.bounding.bounded_if_barred.Goals as goal

pub returns-then-is_unmarked : goal.returns-then-is_unmarked
returns-then-is_unmarked c =
    none-barred c.args.bound c.args.keep.now c.args.circuit.now.aig c.aig.result.now c.in_ok-barred.barred.items c.as_slice.result.now
    c.aig.ensures.value c.in_ok-barred.ensures c.as_slice.ensures.value (c.is_unmarked.ensures.0 c.if-is_unmarked.true)

pub returns : goal.returns
returns c =
    c.in_ok-with_barred.ensures
    ∙ bounded-marked c.args.bound c.args.keep.now c.args.circuit.now c.aig.result.now c.in_ok-barred.barred.items c.as_slice-2.result.now c.aig.ensures.value c.in_ok-barred.ensures c.as_slice-2.ensures.value
