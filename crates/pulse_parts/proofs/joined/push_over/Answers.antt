use Rattle.std.proofs.Common.{arith, ◌∙◌}
use Rattle.std.proofs.lemmas.Grind.{get_or_default_zero}
use Rattle.pulse_parts.specs.declared.parts.PushPart.{PushPart}
use Rattle.pulse_parts.proofs.joined.push_over.Goals as goal
use Rattle.pulse_parts.proofs.JoinedLaws.{ahead_first, ahead_next, ahead_here}

pub loop-part-init : goal.loop-part-init
loop-part-init c = ahead_first (λ (p : PushPart). p.values.items) c.args.parts.now c.args.arc c.requires

pub loop-part-preserved : goal.loop-part-preserved
loop-part-preserved c = ahead_next (λ (p : PushPart). p.values.items) c.args.parts.now c.args.arc c.loop-part.place c.loop-part.part-index c.len-size.result c.part-item.result (omega arith) c.part-item.is (omega arith) (omega arith) c.loop-part.invariant

pub returns-then-place-size : goal.returns-then-place-size
returns-then-place-size c =
    c.index.ensures ∙ (get_or_default_zero c.part-item.result.values.items c.loop-part.place c.index.result.now (omega arith)
    ∙ ahead_here (λ (p : PushPart). p.values.items) c.args.parts.now c.args.arc c.loop-part.place c.loop-part.part-index c.part-item.result (omega arith) c.part-item.is (omega arith) c.loop-part.invariant)
