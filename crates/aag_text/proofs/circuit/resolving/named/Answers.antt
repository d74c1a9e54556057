use Rattle.aag_text.proofs.circuit.resolving.named.Goals as goal

pub new-requires : goal.new-requires
new-requires c = rw (c.in_ok-symbols.ensures) c.requires
