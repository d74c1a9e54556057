use Rattle.aag_text.proofs.AnswerLaws.{consistent, not_both, are_placed, fails_by_places, answers}
use Rattle.aag_text.proofs.circuit.resolving.resolve.Goals as goal

pub returns-then-not-are_consistent : goal.returns-then-not-are_consistent
returns-then-not-are_consistent c = λ symbols read. absurd (not_both c.are_consistent.result (c.are_consistent.ensures.1 (consistent c.args.lists symbols read)) c.if-not-are_consistent.true)

pub returns-in-Err : goal.returns-in-Err
returns-in-Err c = λ symbols read. fails_by_places c.args.lists symbols read _ c.in-Err.ensures

pub in_order-circuit-requires-clause-placed : goal.in_order-circuit-requires-clause-placed
in_order-circuit-requires-clause-placed c = are_placed c.args.lists (c.are_consistent.ensures.0 c.if-not-are_consistent.false) c.requires.small c.sizes.result.now c.sizes.ensures c.in-Ok.placed c.in-Ok.ensures

pub returns-in-Ok : goal.returns-in-Ok
returns-in-Ok c = λ symbols read. answers c.args.lists symbols read c.sizes.result.now c.sizes.ensures c.in-Ok.placed c.in-Ok.ensures c.in_order-circuit.result c.in_order-circuit.ensures.ok c.in_order-circuit.ensures.err
