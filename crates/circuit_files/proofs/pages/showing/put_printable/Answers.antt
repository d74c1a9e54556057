use Rattle.std.proofs.Common.{ℕ, List, [], ◌∷◌, ◌++◌, ◌∙◌, ap, ap₂, append_assoc, map, sym}
use Rattle.std.proofs.lemmas.List.{map_more, take_all}
use Rattle.circuit_files.specs.pages.Lines.{printable}
use Rattle.circuit_files.proofs.pages.showing.put_printable.Goals as goal

pub loop-byte-preserved : goal.loop-byte-preserved
loop-byte-preserved c =
    c.in_ok-push.ensures.items ∙ ap₂ (λ (xs : List ℕ) (x : ℕ). xs ++ x ∷ []) c.loop-byte.invariant c.printable.ensures
    ∙ append_assoc c.args.text.now.items _ _ ∙ ap (λ (xs : List ℕ). c.args.text.now.items ++ xs) (sym (map_more printable _ _ _ c.loop-byte-test.true))

pub returns : goal.returns
returns c = c.loop-byte.invariant ∙ ap (λ (xs : List ℕ). c.args.text.now.items ++ map printable xs) (take_all _ _ c.loop-byte-test.false)
