use Rattle.std.proofs.Common.{rules, ◌∙◌}
use Rattle.indexmap.proofs.CallerLemmas.{insert_entry-new}
use Rattle.clean.proofs.kept.insert_new.Goals as goal

pub returns-clause-ok : goal.returns-clause-ok
returns-clause-ok c = c.in_ok-insert.ensures.entries ∙ insert_entry-new _ c.args.rest.now c.args.gate c.args.lit (search rules)
