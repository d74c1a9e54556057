use Rattle.std.proofs.Common.{inl, arith}
use Rattle.binary_file.proofs.WholeGateLaws.{gates_fed, still_in_first, no_bytes}
use Rattle.binary_file.proofs.items.Items.feed_gates.Goals as goal

pub returns-then-left-piece-clause-fed : goal.returns-then-left-piece-clause-fed
returns-then-left-piece-clause-fed c state offset is place =
    c.feed_first-then-left-piece.ensures.fed state offset
    (still_in_first c.args.self.now.sections c.take_gates.new.self c.args.self.now.at offset c.args.delta state c.args.piece.now c.in-Ok.left.now is (c.in-Ok.ensures.taken is.h is.raw c.args.self.now.at is.contents is.section)
    c.if-left-piece.true) place

pub returns-else-left-piece-clause-fed : goal.returns-else-left-piece-clause-fed
returns-else-left-piece-clause-fed c state offset is place =
    gates_fed c.args.self.now.sections c.take_gates.new.self c.args.self.now.at offset c.args.delta state c.args.piece.now c.in-Ok.left.now is (c.in-Ok.ensures.taken is.h is.raw c.args.self.now.at is.contents is.section) c.begin.new.self
    c.args.end c.offset_of.result (no_bytes c.args.delta c.is_new.result c.is_new.ensures c.if-not-is_new.false) place c.offset_of.ensures (λ raw there. c.begin.ensures is.h raw there)

pub returns-else-left-piece-clause-shorter : goal.returns-else-left-piece-clause-shorter
returns-else-left-piece-clause-shorter c = omega (arith, c.in-Ok.ensures.fewer, c.if-left-piece.false)

pub returns-in-Err-clause-fed : goal.returns-in-Err-clause-fed
returns-in-Err-clause-fed c state offset is place = inl (c.in-Err.ensures.taken is.h is.raw c.args.self.now.at is.contents is.section)
