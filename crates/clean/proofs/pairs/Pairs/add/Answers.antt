use Rattle.std.proofs.Common.{rules, ◌∙◌, ◌++◌, ◌∷◌, [], ap, ℕ, List}
use Rattle.aig_graph.specs.declared.graph.Gate.{Gate}
use Rattle.indexmap.proofs.CallerLemmas.{insert_entry-new}
use Rattle.clean.proofs.pairs.Pairs.add.Goals as goal

pub returns : goal.returns
returns c =
    c.in_ok-insert.ensures.entries ∙ insert_entry-new _ c.self.inside.gates c.args.gate 0 (search rules)
    ∙ ap (λ (xs : List (Gate × ℕ)). xs ++ (c.args.gate, 0) ∷ []) c.self.view_is
