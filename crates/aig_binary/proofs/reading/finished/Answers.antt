use Rattle.std.proofs.Common.{◌∙◌, sym}
use Rattle.aig_binary.proofs.EndingLaws.{no-circuit}
use Rattle.aig_binary.proofs.reading.finished.Goals as goal

pub unreachable-requires : goal.unreachable-requires
unreachable-requires g c =
    let bytes = c.requires.0 in
    let held = c.requires.1 in
    no-circuit bytes c.in_ok-circuit.circuit (sym (c.spelling-spelling.ensures bytes held) ∙ c.in-None.is) (c.in_ok-circuit.ensures.ok bytes held)
