use Rattle.std.proofs.Common.{◌∙◌, ◌||◌, ap, sym, Bool}
use Rattle.frame_net.proofs.PassableLaws.{has-passable}
use Rattle.frame_net.proofs.LayoutLaws.{has_node-marked}
use Rattle.frame_net.proofs.layout.has_node.Goals as goal

pub returns-else-is_known_latch : goal.returns-else-is_known_latch
returns-else-is_known_latch c = λ held pass.
    ap (λ (b : Bool). b || c.has.result) (sym c.if-is_known_latch.false)
    ∙ has_node-marked c.args.aig.now held c.args.var c.is_known_latch.result c.has.result c.is_known_latch.ensures
    (c.has.ensures.value ∙ has-passable c.args.aig.now held c.args.pass.now.first c.args.pass.now.marks.items c.args.var pass.first pass.marks)
