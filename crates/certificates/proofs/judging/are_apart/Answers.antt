use Rattle.std.proofs.Common.{◌≡◌, ℕ, Bool, List, length, All, arith, sym, ap, ◌∙◌, subst}
use Rattle.std.proofs.lemmas.List.{length-replicate}
use Rattle.aig_graph.specs.Marking.{mark_at}
use Rattle.aig_graph.proofs.MarkingLaws.{none-marked}
use Rattle.aig_graph.specs.Graph.{first_latch, latches_and_gates}
use Rattle.certificates.specs.Routes.{passed}
use Rattle.certificates.proofs.RangeLaws.{IsIn, routes-in}
use Rattle.certificates.proofs.judging.are_apart.Goals as goal

pub are_distinct-requires-clause-none : goal.are_distinct-requires-clause-none
are_distinct-requires-clause-none c = λ v.
    ap (λ (marks : List Bool). mark_at c.first_latch.result marks v) (c.as_mut_slice.ensures.value ∙ c.in_ok-marks.ensures.items_if_clones_equal (λ y h. h))
    ∙ none-marked c.first_latch.result c.latches_and_gates.result v

pub are_distinct-requires-clause-covered : goal.are_distinct-requires-clause-covered
are_distinct-requires-clause-covered c =
    let g = c.args.circuit.now.aig in
    let all : All (IsIn g) (passed c.points.result.now) = subst (λ (vs : List ℕ). All (IsIn g) vs) (sym c.points.ensures) (routes-in c.args.circuit.now c.args.keep.now c.args.routes.now c.requires) in
    let first : c.first_latch.result ≡ first_latch g = c.first_latch.ensures.value ∙ ap first_latch c.aig-aig.ensures.value in
    let long : length c.as_mut_slice.result.now ≡ latches_and_gates g = ap length (c.as_mut_slice.ensures.value ∙ c.in_ok-marks.ensures.items_if_clones_equal (λ y h. h))
    ∙ length-replicate c.latches_and_gates.result _ ∙ c.latches_and_gates.ensures.value ∙ ap latches_and_gates c.aig-aig.ensures.value in
    λ k d h. (omega (arith, first, (all k d h).0), omega (arith, first, long, (all k d h).1))
