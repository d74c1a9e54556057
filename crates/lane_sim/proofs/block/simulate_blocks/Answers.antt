use Rattle.std.proofs.Common.{◌≡◌, ◌-◌, ◌*◌, ◌<◌, ◌≤◌, ◌∙◌, ap, arith, length}
use Rattle.std.specs.List.{range_with_len}
use Rattle.rayon.specs.Numbers.{nat_range}
use Rattle.rayon.proofs.ToStd.{nat_range-All}
use Rattle.aig_graph.specs.declared.memory.NoMemory.{NoMemory}
use Rattle.lane_sim.specs.Blocks.{IsBlock, block_of}
use Rattle.lane_sim.proofs.BlockLaws.{collected, in_blocks, of_blocks}
use Rattle.lane_sim.proofs.block.simulate_blocks.Goals as goal

pub collect-requires-clause-ready : goal.collect-requires-clause-ready
collect-requires-clause-ready g c κs within =
    let ends = c.into_par_iter.ensures in
    let inside = nat_range-All (λ i. 256 * i ≤ length c.args.sequences.now) 0 c.div_ceil.result (λ i low high. of_blocks (length c.args.sequences.now) i (omega (arith, c.div_ceil.ensures))) in
    rw (c.map.ensures.base, c.map.ensures.f, c.with_min_len.ensures.base, ends.0, ends.1) (λ k d lt. ((inside k d lt, c.requires), λ y p. tt))

pub returns : goal.returns
returns g c =
    let ends = c.into_par_iter.ensures in
    let n = c.div_ceil.result in
    let whole : n - 0 ≡ n = omega arith in
    let made = c.in_ok-blocks.ensures in
    let chain = rw (c.map.ensures.base, c.map.ensures.f, c.with_min_len.ensures.base) at made.1 in
    let numbers = chain.1 ∙ (λ i. nat_range (ends.0 i) (ends.1 i)) ∙ ap (range_with_len 0) whole in
    collected NoMemory (λ b. IsBlock c.args.aig.now c.args.literals.now (block_of c.args.sequences.now b)) (λ v. v.items) n chain.0 made.0 c.in_ok-blocks.blocks numbers chain.2 _ made.2
    (λ b. 256 * b < length c.args.sequences.now) (λ b h. rw c.div_ceil.ensures (in_blocks (length c.args.sequences.now) b h))
