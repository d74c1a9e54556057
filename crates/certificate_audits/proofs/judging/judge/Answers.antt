use Rattle.std.proofs.Common.{◌≡◌, ◌∙◌, ap, arith, subst}
use Rattle.aig_graph.specs.Graph.{known_latches}
use Rattle.certificates.specs.declared.verdict.Verdict.{Verdict}
use Rattle.certificates.specs.declared.verdict.Verdict.TheVariants.{Yes}
use Rattle.certificate_audits.specs.Audits.{IsVerdictBy}
use Rattle.certificate_audits.proofs.AuditLaws.{confirmed-by}
use Rattle.certificate_audits.proofs.judging.judge.Goals as goal

pub judge_saving-requires-clause-in_range : goal.judge_saving-requires-clause-in_range
judge_saving-requires-clause-in_range c = c.requires

pub judge_saving-requires-clause-saves : goal.judge_saving-requires-clause-saves
judge_saving-requires-clause-saves c =
    let stage = c.args.stage.now in
    let V : Verdict → Type 0 = IsVerdictBy c.args.bound stage.keep stage.circuit c.args.block.now in
    let passes : V Yes = subst V c.in-Yes.is c.in_ok-objection.ensures in
    let known : c.known_latches-known.result ≡ known_latches stage.circuit.aig = c.known_latches-known.ensures ∙ ap known_latches c.aig.ensures.value in
    record {
      confirmed = confirmed-by c.args.bound stage.keep stage.circuit c.args.block.now c.known.ensures.graph c.known.ensures.netlist passes;
      fewer = omega (arith, c.if-block-known.true, known);
    }

pub returns-in-Yes-2 : goal.returns-in-Yes-2
returns-in-Yes-2 c =
    let stage = c.args.stage.now in
    let V : Verdict → Type 0 = IsVerdictBy c.args.bound stage.keep stage.circuit c.args.block.now in
    let passes : V Yes = subst V c.in-Yes-2.is c.in_ok-objection.ensures in
    let known : c.known_latches-known.result ≡ known_latches stage.circuit.aig = c.known_latches-known.ensures ∙ ap known_latches c.aig.ensures.value in
    record {
      confirmed = confirmed-by c.args.bound stage.keep stage.circuit c.args.block.now c.known.ensures.graph c.known.ensures.netlist passes;
      no_fewer = omega (arith, c.if-block-known.false, known);
    }
