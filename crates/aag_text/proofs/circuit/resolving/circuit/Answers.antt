use Rattle.aag_text.proofs.ArrangeLaws.{netlist_arranged}
use Rattle.aag_text.proofs.circuit.resolving.circuit.Goals as goal

pub named-requires : goal.named-requires
named-requires c =
    netlist_arranged c.args.header.now c.args.sizes.now c.args.placed.now c.args.order.now c.requires.placed c.requires.order c.args.names c.requires.names _ (c.in-Ok.ensures c.args.names)
