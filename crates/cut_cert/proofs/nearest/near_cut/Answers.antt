use Rattle.std.proofs.Common.{◌∙◌, sym, subst, ℕ, Bool, List, slice_index_or, false}
use Rattle.std.specs.List.Sorted.{IsStrictlyIncreasing}
use Rattle.aig_graph.specs.Border.{IsSmallestLeast}
use Rattle.cut_cert.proofs.GateLaws.{are-gates}
use Rattle.cut_cert.specs.Steps.{AreUsed, AreOfSource}
use Rattle.cut_cert.proofs.NearSetLaws.{near-set}
use Rattle.cut_cert.proofs.nearest.near_cut.Goals as goal

pub returns-in-Some : goal.returns-in-Some
returns-in-Some c = λ n held is shown.
    let marks : List Bool = c.as_slice-2.result.now in
    let side : ℕ → Bool = λ u. slice_index_or marks u false in
    let used = subst (λ (xs : List Bool). AreUsed c.args.net.now c.args.routes.now xs) (sym c.as_slice.ensures.value) c.in_ok-used.ensures in
    let spread = subst (λ (xs : List Bool). AreOfSource c.args.net.now c.as_slice.result.now xs) (sym c.as_slice-2.ensures.value) c.in_ok-side.ensures in
    subst (λ (s : List ℕ). IsSmallestLeast n held s) (sym (c.in-Some.ensures.1 ∙ c.in_ok-gates.ensures))
    (near-set n held c.args.net.now is c.known.ensures.network c.args.routes.now shown c.as_slice.result.now used side spread.side)

pub returns : goal.returns
returns c = λ n held is shown.
    let side : ℕ → Bool = λ u. slice_index_or c.as_slice-2.result.now u false in
    absurd (c.in-None.ensures (subst IsStrictlyIncreasing (sym c.in_ok-gates.ensures) (are-gates n held c.args.net.now is side).rising))
