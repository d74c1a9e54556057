use Rattle.simulation_commands.proofs.WordLaws.{state-drawn, word-drawn}
use Rattle.simulation_commands.proofs.generating.next_word.Goals as goal

pub returns-clause-word : goal.returns-clause-word
returns-clause-word c = λ seed k before. word-drawn seed k c.args.generator.now c.next_word.new.self c.next_word.result before c.next_word.ensures

pub returns-clause-state : goal.returns-clause-state
returns-clause-state c = λ seed k before. state-drawn seed k c.args.generator.now c.next_word.new.self c.next_word.result before c.next_word.ensures
