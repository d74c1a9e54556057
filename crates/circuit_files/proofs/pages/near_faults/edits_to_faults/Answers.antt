use Rattle.std.proofs.Common.{ℕ, List, [], ◌∷◌, ◌++◌, ◌∙◌, ap, ap₂, map, sym}
use Rattle.std.proofs.lemmas.List.{map_more, take_all}
use Rattle.circuit_files.specs.pages.Faults.{name_of}
use Rattle.circuit_files.specs.pages.Nearest.{edits}
use Rattle.circuit_files.specs.declared.pages.named_fault.Fault.{Fault}
use Rattle.circuit_files.proofs.pages.near_faults.edits_to_faults.Goals as goal

pub loop-fault-preserved : goal.loop-fault-preserved
loop-fault-preserved c =
    c.in_ok-push.ensures.items
    ∙ ap₂ (λ (xs : List ℕ) (x : ℕ). xs ++ x ∷ []) c.loop-fault.invariant
    (c.in_ok-edits.ensures ∙ ap (edits c.args.name.now) (c.as_bytes.ensures.value ∙ c.name.ensures))
    ∙ sym (map_more (λ (fault : Fault). edits c.args.name.now (name_of fault)) _ _ _ c.loop-fault-test.true)

pub returns : goal.returns
returns c = c.loop-fault.invariant ∙ ap (map (λ (fault : Fault). edits c.args.name.now (name_of fault))) (take_all _ _ c.loop-fault-test.false)
