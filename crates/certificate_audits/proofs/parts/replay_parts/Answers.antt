use Rattle.std.proofs.Common.{Option, subst}
use Rattle.certificate_audits.specs.declared.moving.Stage.{Stage}
use Rattle.certificate_audits.proofs.PartLaws.{HaveComeTo, all-judged, ends-early, none-there, one-judged}
use Rattle.certificate_audits.proofs.parts.replay_parts.Goals as goal

pub returns-in_default : goal.returns-in_default
returns-in_default c =
    ends-early c.args.bound c.args.first c.loop-part.last c.args.parts.now c.loop-part.part-index c.loop-part.audits.items (none-there c.loop-part.last c.in_default.not-Some) c.loop-part.invariant

pub loop-part-preserved : goal.loop-part-preserved
loop-part-preserved c =
    let before = subst (λ (last : Option Stage). HaveComeTo c.args.bound c.args.first c.args.parts.now c.loop-part.part-index c.loop-part.audits.items last) c.in-Some.is c.loop-part.invariant in
    one-judged c.args.bound c.args.first c.args.parts.now c.loop-part.part-index c.loop-part.audits.items _ c.in-Some.stage c.part-item.result c.in_ok-audit.field-0 c.loop-part-test.true c.part-item.is
    c.in_ok-push.ensures.items before c.in_ok-audit.ensures

pub returns : goal.returns
returns c = all-judged c.args.bound c.args.first c.loop-part.last c.args.parts.now c.loop-part.part-index c.loop-part.audits.items c.loop-part-test.false c.loop-part.invariant
