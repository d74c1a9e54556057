use Rattle.aag_text.specs.Resolving.{placed_reads}
use Rattle.aag_text.proofs.GraphLaws.{distinct}
use Rattle.aag_text.proofs.ArrangeLaws.{arranged_parts}
use Rattle.aag_text.proofs.circuit.resolving.without_names.Goals as goal

pub ranks-requires-clause-distinct : goal.ranks-requires-clause-distinct
ranks-requires-clause-distinct c = distinct (placed_reads c.args.header.now c.args.placed.now) c.args.order.now c.requires.order

pub returns : goal.returns
returns c = λ names.
    arranged_parts c.args.header.now c.args.sizes.now c.args.placed.now c.args.order.now c.in_ok-ranks.ranks.items c.as_slice-ranks.result.now c.in_ok-ranks.ensures c.as_slice-ranks.ensures.value
    c.in_ok-aig.aig c.in_ok-props.props c.in_ok-aig.ensures c.in_ok-props.ensures names
