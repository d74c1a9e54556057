use Rattle.std.proofs.Common.{ℕ, ◌≡◌, List, map, slice_get, ap, ◌∙◌}
use Rattle.std.specs.Prelude.{option_and_then}
use Rattle.circuit_files.specs.declared.pages.named_fault.Fault.{Fault}
use Rattle.circuit_files.specs.pages.Faults.{all_faults, name_of}
use Rattle.circuit_files.specs.pages.Nearest.{edits, nearest_of}
use Rattle.circuit_files.proofs.pages.named_fault.Fault.nearest.Goals as goal

pub returns-in-Some : goal.returns-in-Some
returns-in-Some c =
    let there : c.in_ok-counts.counts.items ≡ map (λ fault. edits c.args.name.now (name_of fault)) all_faults =
    c.in_ok-counts.ensures ∙ ap (λ (faults : List Fault). map (λ fault. edits c.as_bytes.result.now (name_of fault)) faults) c.all-faults.ensures
    ∙ ap (λ (name : List ℕ). map (λ fault. edits name (name_of fault)) all_faults) c.as_bytes.ensures.value in
    c.fault_at.ensures ∙ ap (λ (faults : List Fault). slice_get faults c.in-Some.place) c.all-faults.ensures
    ∙ ap (option_and_then (slice_get all_faults)) (c.in-Some.ensures ∙ ap nearest_of (c.as_slice.ensures.value ∙ there))
