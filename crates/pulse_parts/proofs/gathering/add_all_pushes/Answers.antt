use Rattle.std.proofs.Common.{◌≡◌, ℕ, arith, subst, length}
use Rattle.pulse_parts.proofs.gathering.add_all_pushes.Goals as goal
use Rattle.pulse_parts.proofs.GatheredLaws.{GathersParts, all_listed, from_nodes, parts_none, parts_more, pushing_lists}

pub loop-i-init : goal.loop-i-init
loop-i-init c = parts_none c.args.net.now c.args.pushes.now c.args.first c.args.end c.args.list.now

pub add_pushes-requires-clause-from : goal.add_pushes-requires-clause-from
add_pushes-requires-clause-from c =
    from_nodes c.args.net.now c.args.pushes.now c.loop-i.i c.index-pushes-i.result c.as_slice-from.result.now c.requires.pushes (pushing_lists c.args.net.now c.args.pushes.now c.requires.pushes) (omega arith) c.index-pushes-i.is c.if-not-part.false c.as_slice-from.ensures.value

pub loop-i-preserved : goal.loop-i-preserved
loop-i-preserved c =
    parts_more c.args.net.now c.args.pushes.now c.args.first c.args.end c.loop-i.i c.index-pushes-i.result c.as_slice-from.result.now c.args.list.now c.loop-i.list c.add_pushes.new.list (omega arith) c.index-pushes-i.is c.if-not-part.false
    c.as_slice-from.ensures.value c.add_pushes.ensures.extends c.add_pushes.ensures.listed c.loop-i.invariant

pub returns-clause-listed : goal.returns-clause-listed
returns-clause-listed c =
    let all : c.loop-i.i ≡ length c.args.pushes.now = omega arith in
    all_listed c.args.net.now c.args.pushes.now c.args.first c.args.end c.args.list.now c.loop-i.list c.known.ensures.network c.requires.pushes (pushing_lists c.args.net.now c.args.pushes.now c.requires.pushes)
    (subst (λ (m : ℕ). GathersParts c.args.net.now c.args.pushes.now c.args.first c.args.end m c.args.list.now c.loop-i.list) all c.loop-i.invariant)
