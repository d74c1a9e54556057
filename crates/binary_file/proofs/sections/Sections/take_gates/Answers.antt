use Rattle.std.proofs.Common.{length, ap, arith, ◌∙◌}
use Rattle.binary_file.specs.Contents.{Contents}
use Rattle.binary_file.proofs.ContentsLaws.{section_is}
use Rattle.binary_file.proofs.WholeGateLaws.{none_taken, gate_taken}
use Rattle.binary_file.proofs.sections.Sections.take_gates.Goals as goal

pub loop-left-init : goal.loop-left-init
loop-left-init c = (omega arith, λ h raw at is here. (none_taken h raw at c.args.self.now c.args.bytes.now is here, λ room. section_is c.args.self.now h raw is ∙ here))

pub loop-left-preserved : goal.loop-left-preserved
loop-left-preserved c =
    let fewer = c.loop-left.invariant.0 in
    let gates = ap (λ (d : Contents). length d.gates) c.self.view_is in
    let most = ap (λ (d : Contents). d.header.gates) c.self.view_is in
    let whole = c.in-Some.ensures in
    let few = whole.1 in
    let enough = c.loop-left-test.true in (
      omega arith,
      λ h raw at is here.
          let before = c.loop-left.invariant.1 h raw at is here in
          gate_taken h raw at c.loop-left.self c.add_gate.new.self c.gate_literal.result c.in-Some.gate c.args.bytes.now c.loop-left.left.now before.0
          (before.1 (omega (arith, gates, most, c.len.ensures, c.if-len-self.true))) c.gate_literal.ensures.value whole (omega (arith, few, enough)) fewer c.in_ok-add_gate.ensures.gate,
    )
