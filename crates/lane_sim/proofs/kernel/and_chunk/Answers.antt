use Rattle.std.proofs.Common.{◌+◌, ◌∙◌, ap₂, arith, get_or, bit_and}
use Rattle.std.specs.Int.RustNames.{bit_xor}
use Rattle.std.proofs.lemmas.Simd.{get_or-put_chunk_at, get_or-put_chunk_below}
use Rattle.lane_sim.proofs.WordLaws.{and_vectors, and_vectors-lane, and_vectors-length, and_flips}
use Rattle.lane_sim.proofs.kernel.and_chunk.Goals as goal

pub returns-clause-before : goal.returns-clause-before
returns-clause-before c = λ k h. get_or-put_chunk_below c.args.at c.args.out.now _ k 0 h

pub returns-clause-each : goal.returns-clause-each
returns-clause-each c = λ j h.
    let a = c.args.a.now in
    let b = c.args.b.now in
    let at = c.args.at in
    let four = and_vectors-length a b at c.flip.result c.flip-2.result (omega arith) (omega arith) in
    get_or-put_chunk_at at c.args.out.now (and_vectors a b at c.flip.result c.flip-2.result) j 0 (omega arith) (omega arith)
    ∙ and_vectors-lane a b at c.flip.result c.flip-2.result j (omega arith) (omega arith) h
    ∙ ap₂ (λ p q. bit_and (bit_xor (get_or a (at + j) 0) p) (bit_xor (get_or b (at + j) 0) q)) c.flip.ensures c.flip-2.ensures
    ∙ and_flips c.args.neg_a c.args.neg_b (get_or a (at + j) 0) (get_or b (at + j) 0) (omega (arith, c.type_inv.a (at + j))) (omega (arith, c.type_inv.b (at + j)))
