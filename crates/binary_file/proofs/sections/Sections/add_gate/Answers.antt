use Rattle.std.proofs.Common.{length, ap, arith}
use Rattle.binary_file.specs.Contents.{Contents, gate_literal}
use Rattle.binary_file.proofs.KeptLaws.{gate_kept}
use Rattle.binary_file.proofs.sections.Sections.add_gate.Goals as goal

pub invariant_of-self-2 : goal.invariant_of-self-2
invariant_of-self-2 c =
    let same = ap gate_literal c.self.view_is in
    let gates = ap (λ (d : Contents). length d.gates) c.self.view_is in
    let most = ap (λ (d : Contents). d.header.gates) c.self.view_is in
    let missing = c.requires.missing in
    let ordered = c.requires.ordered in
    let below = c.requires.below in
    rw c.in_ok-push.ensures.items (gate_kept _ (record { rhs0 = c.literal.result; rhs1 = c.literal-2.result }) (omega (arith, gates, most, missing)) (omega (arith, ordered)) (omega (arith, same, below)) c.self.invariant)
