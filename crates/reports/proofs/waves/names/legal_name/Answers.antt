use Rattle.std.proofs.Common.{ℕ, List, [], ◌∷◌, ◌++◌, ◌∙◌, ap₂, sym}
use Rattle.std.proofs.lemmas.List.{map_more}
use Rattle.reports.specs.waves.Names.{legal_byte}
use Rattle.reports.proofs.waves.names.legal_name.Goals as goal

pub loop-byte-preserved : goal.loop-byte-preserved
loop-byte-preserved c =
    c.in_ok-push.ensures.items ∙ ap₂ (λ (xs : List ℕ) (x : ℕ). xs ++ x ∷ []) c.loop-byte.invariant c.legal_byte.ensures
    ∙ sym (map_more legal_byte _ _ _ c.loop-byte-test.true)
