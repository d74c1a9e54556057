use Rattle.std.proofs.Common.{ℕ, List, ◌∙◌, ap}
use Rattle.std.specs.Borrow.{Bor}
use Rattle.std.specs.Global.{Vec}
use Rattle.aig_graph.specs.Keep.{held_of, names_of}
use Rattle.command_endings.specs.HeldNames.{texts_of}
use Rattle.command_endings.proofs.names.held_latches.Goals as goal

pub returns-in-Ok-hold-clause-held : goal.returns-in-Ok-hold-clause-held
returns-in-Ok-hold-clause-held c =
    let H : List (List ℕ) → List ℕ → List ℕ = λ names positions. held_of (record { names = names; positions = positions }) c.args.circuit.now in
    let positions = c.as_slice-positions.result.now in
    c.in-Ok-hold.ensures.ok
    ∙ ap (λ (names : List (Vec ℕ)). H (names_of names) positions) c.as_slice.ensures.value
    ∙ ap (λ (names : List (List ℕ)). H names positions) c.in-Ok.ensures
    ∙ ap (λ (names : List (Bor (List ℕ))). H (texts_of names) positions) c.as_slice-keep.ensures.value
    ∙ ap (H (texts_of c.args.options.now.keep.items)) c.as_slice-positions.ensures.value
