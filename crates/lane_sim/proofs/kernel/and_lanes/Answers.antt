use Rattle.std.proofs.Common.{◌≡◌, ◌<◌, ◌∙◌, ap₂, rules, arith, get_or, length, bit_and, below_more, get_or-set_same, get_or-set_other, ◌≢◌}
use Rattle.std.specs.Int.RustNames.{bit_xor}
use Rattle.lane_sim.specs.Words.{and_words}
use Rattle.lane_sim.proofs.WordLaws.{and_flips, four_more}
use Rattle.lane_sim.proofs.kernel.and_lanes.Goals as goal

pub chunks-preserved : goal.chunks-preserved
chunks-preserved c = (
  omega arith,
  four_more (λ k. get_or c.and_chunk.new.out k 0 ≡ and_words c.args.neg_a c.args.neg_b (get_or c.args.a.now k 0) (get_or c.args.b.now k 0)) c.chunks.at
      (λ k h. c.and_chunk.ensures.before k h ∙ c.chunks.invariant.1 k h) c.and_chunk.ensures.each,
)

pub words-preserved : goal.words-preserved
words-preserved c =
    let a = c.args.a.now in
    let b = c.args.b.now in
    let at = c.words.at in
    let word = ap₂ (λ p q. bit_and (bit_xor (get_or a at 0) p) (bit_xor (get_or b at 0) q)) c.flip-flip_a.ensures c.flip-flip_b.ensures ∙ and_flips c.args.neg_a c.args.neg_b (get_or a at 0) (get_or b at 0) (omega (arith, c.type_inv.a at)) (omega (arith, c.type_inv.b at)) in (
      search rules,
      below_more _ _
          (λ k h. let other : k ≢ at = omega arith in rw get_or-set_other (c.words.invariant.1 k h))
          (let inside : at < length c.words.out = c.words-test.true in rw get_or-set_same word),
    )
