use Rattle.std.proofs.Common.{◌-◌, arith, ◌∙◌, sym}
use Rattle.std.proofs.lemmas.Grind.{get_or_default_zero}
use Rattle.pulse_parts.proofs.places.push_at.Goals as goal
use Rattle.pulse_parts.proofs.PushPartLaws.{ahead_all, ahead_more, here_at}

pub loop-part-init : goal.loop-part-init
loop-part-init c = ahead_all c.args.net.now c.args.w c.args.parts.now c.known.ensures.network c.requires.parts

pub loop-part-preserved : goal.loop-part-preserved
loop-part-preserved c = ahead_more c.args.net.now c.args.w c.args.parts.now c.loop-part.part-index c.part-item.result c.known.ensures.network (omega arith) c.part-item.is c.if-w-part.false c.loop-part.invariant

pub index-requires : goal.index-requires
index-requires c =
    let h = here_at c.args.net.now c.args.w c.args.parts.now c.loop-part.part-index c.part-item.result c.known.ensures.network c.requires.w (omega arith) c.part-item.is c.if-w-part.true c.loop-part.invariant in
    omega (arith, h.before, h.after, c.requires.from, c.requires.to)

pub returns-then-w-part : goal.returns-then-w-part
returns-then-w-part c =
    let h = here_at c.args.net.now c.args.w c.args.parts.now c.loop-part.part-index c.part-item.result c.known.ensures.network c.requires.w (omega arith) c.part-item.is c.if-w-part.true c.loop-part.invariant in
    c.index.ensures ∙ (get_or_default_zero c.part-item.result.values.items (c.args.arc - c.part-item.result.base) c.index.result.now (omega (arith, h.before, h.after, c.requires.from, c.requires.to)) ∙ sym (h.value c.args.arc c.requires.from c.requires.to))
