use Rattle.std.proofs.Common.{◌<◌, ◌∙◌, arith}
use Rattle.binary_file.specs.Contents.{gate_literal}
use Rattle.binary_file.proofs.ContentsLaws.{section_is, gate_literal_is}
use Rattle.binary_file.proofs.TakingLaws.{given_takes}
use Rattle.binary_file.proofs.GateReadingLaws.{gate_agrees}
use Rattle.binary_file.proofs.sections.Sections.take_gate.Goals as goal

pub returns : goal.returns
returns c h raw is here falls =
    let literal = gate_literal_is c.args.self.now h raw is in
    let below : c.args.rhs0 < gate_literal c.args.self.now = omega (arith, literal, falls) in
    given_takes h _ _ _ _ (c.push_gate.ensures (section_is c.args.self.now h raw is ∙ here) below) (gate_agrees c.args.self.now h raw c.args.at c.args.rhs0 c.args.delta is (omega arith))
