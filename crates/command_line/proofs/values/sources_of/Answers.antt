use Rattle.std.proofs.Common.{List, [], ◌∷◌, ◌++◌, ◌∙◌, ap₂, sym}
use Rattle.std.proofs.lemmas.List.{map_more}
use Rattle.counted_io.specs.declared.source.Source.{Source}
use Rattle.counted_io.specs.Streams.{source_of}
use Rattle.command_line.proofs.values.sources_of.Goals as goal

pub loop-path-preserved : goal.loop-path-preserved
loop-path-preserved c =
    c.in_ok-push.ensures.items ∙ ap₂ (λ (xs : List Source) (x : Source). xs ++ x ∷ []) c.loop-path.invariant c.of.ensures
    ∙ sym (map_more source_of _ _ _ c.loop-path-test.true)
