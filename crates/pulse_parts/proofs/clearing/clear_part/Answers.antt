use Rattle.std.proofs.Common.{arith}
use Rattle.pulse_parts.proofs.clearing.clear_part.Goals as goal
use Rattle.pulse_parts.proofs.ClearLaws.{all_cleared, listed_cleared}

pub returns-then-part : goal.returns-then-part
returns-then-part c =
    listed_cleared c.args.net.now c.args.part.now c.as_slice-list.result.now c.as_mut_slice.result.now c.clear_listed.new.values c.if-part.true c.requires.part.lists c.as_slice-list.ensures.value c.as_mut_slice.ensures.value
    (omega arith) c.clear_listed.ensures

pub returns-else-part : goal.returns-else-part
returns-else-part c =
    all_cleared c.args.net.now c.args.part.now c.len-size.result c.as_mut_slice-else-part.result.now c.clear.new.values c.known.ensures.network c.requires.part c.as_mut_slice-else-part.ensures.value
    (omega arith) (omega arith) c.clear.ensures
