use Rattle.reports.proofs.waves.room.advance_block.Goals as goal

pub evaluate-requires-2-clause-state : goal.evaluate-requires-2-clause-state
evaluate-requires-2-clause-state c = c.advance.ensures.next c.args.sequences.now c.args.step c.evaluate.ensures

pub returns-clause-state : goal.returns-clause-state
returns-clause-state c = c.advance.ensures.next c.args.sequences.now c.args.step c.evaluate.ensures
