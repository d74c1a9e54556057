use Rattle.std.proofs.Common.{ℕ, ◌≡◌, ◌<◌, ◌∙◌, ◌+◌, ◌*◌, List, Option, arith, ap, sym, length, slice_get}
use Rattle.aig_graph.proofs.TableLaws.{length-table}
use Rattle.witness_circuits.proofs.parts.input_sources.Goals as goal

pub sources-requires-clause-below : goal.sources-requires-clause-below
sources-requires-clause-below c = λ k at e.
    let below : at < c.args.first.now.inputs = c.requires.below k at (ap (λ (ls : List (Option ℕ)). slice_get ls k) (sym c.as_slice.ensures) ∙ e) in
    let many : length c.as_slice-2.result.now ≡ c.inputs.result =
    ap (λ (ls : List ℕ). length ls) (c.as_slice-2.ensures.value ∙ c.in_ok-shared.ensures) ∙ length-table 0 c.inputs.result (λ i. 2 * (1 + i)) in
    omega (arith, below, many, c.inputs.ensures.value)
