use Rattle.std.proofs.Common.{sym, ◌∙◌}
use Rattle.fretime.proofs.RunLaws.{where_refused, where_unasked, where_memory_lacks}
use Rattle.fretime.proofs.run.run_words.Goals as goal

pub returns-clause-refused : goal.returns-clause-refused
returns-clause-refused g c = λ one. where_refused c.run_line.result _ _ c.run_line.ensures (sym c.status.ensures ∙ one)

pub returns-clause-quiet : goal.returns-clause-quiet
returns-clause-quiet g c = λ two. where_unasked c.run_line.result _ _ c.run_line.ensures (sym c.status.ensures ∙ two)

pub returns-clause-memory : goal.returns-clause-memory
returns-clause-memory g c = λ four. where_memory_lacks c.run_line.result _ _ c.run_line.ensures (sym c.status.ensures ∙ four)
