use Rattle.std.proofs.Common.{rules, ◌∙◌, ◌++◌, ◌∷◌, [], ap, ℕ, List}
use Rattle.aig_graph.specs.declared.graph.Latch.{Latch}
use Rattle.indexmap.proofs.CallerLemmas.{insert_entry-new}
use Rattle.clean.proofs.firsts.FirstLatches.add.Goals as goal

pub returns : goal.returns
returns c =
    c.in_ok-insert.ensures.entries ∙ insert_entry-new _ c.self.inside.literals c.args.latch c.args.own (search rules)
    ∙ ap (λ (xs : List (Latch × ℕ)). xs ++ (c.args.latch, c.args.own) ∷ []) c.self.view_is
