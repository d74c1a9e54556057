use Rattle.std.proofs.Common.{List, ℕ, ◌∙◌, Err, ap, length, subst}
use Rattle.std.specs.Global.{Vec}
use Rattle.aig_graph.specs.Keep.{AreLatches, IsFirstNoLatch, NoneMissing, held_of, names_of}
use Rattle.aig_graph.specs.declared.holding.HoldError.{HoldError}
use Rattle.frame_runs.specs.Codes.{of_hold_error}
use Rattle.frame_runs.proofs.HoldLaws.{at-latch, latch-of}
use Rattle.frame_runs.proofs.holding.hold_by.Goals as goal

pub returns-clause-keep : goal.returns-clause-keep
returns-clause-keep c =
    let before = c.args.circuit.now in
    let H : List (Vec ℕ) → List ℕ → List ℕ = λ names positions. held_of (record { names = names_of names; positions = positions }) before in
    c.in_ok-keep.ensures.ok ∙ ap (λ (names : List (Vec ℕ)). H names c.as_slice.result.now) c.as_slice-names.ensures.value ∙ ap (H c.args.options.now.keep.items) c.as_slice.ensures.value

pub returns-clause-latches : goal.returns-clause-latches
returns-clause-latches c = subst (AreLatches (length c.args.circuit.now.aig.latches)) c.as_slice.ensures.value c.in_ok-keep.ensures.latches

pub returns-clause-none_missing : goal.returns-clause-none_missing
returns-clause-none_missing c =
    let P : List (Vec ℕ) → Type 0 = λ names. NoneMissing (names_of names) c.args.circuit.now in
    subst P c.as_slice-names.ensures.value c.in_ok-keep.ensures.none_missing

pub returns-in_err-keep-clause-no_latch : goal.returns-in_err-keep-clause-no_latch
returns-in_err-keep-clause-no_latch c =
    let e = c.in_err-keep.field-0.0 in
    let P : List ℕ → ℕ → Type 0 = λ positions place. IsFirstNoLatch (length c.args.circuit.now.aig.latches) positions place in
    at-latch c.from_residual.result (of_hold_error e) (P c.args.options.now.keep_latches.items) c.from_residual.ensures.1
    (λ place is. subst (λ (positions : List ℕ). P positions place) c.as_slice.ensures.value (c.in_err-keep.ensures.no_latch place (ap (λ (x : HoldError). Err x) (latch-of e place is))))
