use Rattle.std.proofs.Common.{◌≡◌, ◌∙◌, ◌++◌, ◌∷◌, [], ◌+◌, ap, sym, arith, length, take, List, ℕ}
use Rattle.std.proofs.lemmas.List.{length-take-le, take_all}
use Rattle.aig_graph.specs.Graph.{Graph, first_latch}
use Rattle.cleaned_circuits.specs.Merged.{merge_gates, merging_from, substitutes_after}
use Rattle.clean.specs.Substitutions.{from_first, own_literals}
use Rattle.clean.proofs.SubstitutionLaws.{length-from_first, from_first-nil, from_first-push}
use Rattle.latch_readings.proofs.SubstituteLaws.{leaves-is, take-more}
use Rattle.latch_readings.proofs.substitutes.substitutes_by.Goals as goal

pub loop-lit-init : goal.loop-lit-init
loop-lit-init c = c.in_ok-substitutes.ensures ∙ ap own_literals c.first_latch.ensures.value ∙ sym (from_first-nil (first_latch c.args.aig.now))

pub push-requires : goal.push-requires
push-requires c =
    let reads : List ℕ = c.args.reads.now in
    omega (
      arith,
      ap (λ (xs : List ℕ). length xs) c.loop-lit.invariant,
      length-from_first (first_latch c.args.aig.now) (take c.loop-lit.lit-index reads),
      length-take-le c.loop-lit.lit-index reads (omega (arith, c.loop-lit-test.true)),
      c.loop-lit-test.true,
      c.requires,
      c.first_latch.ensures.graph.small,
    )

pub loop-lit-preserved : goal.loop-lit-preserved
loop-lit-preserved c =
    let reads : List ℕ = c.args.reads.now in
    let k : ℕ = c.loop-lit.lit-index in
    c.in_ok-push.ensures ∙ ap (λ (xs : List ℕ). xs ++ c.lit-item.result ∷ []) c.loop-lit.invariant
    ∙ sym (from_first-push (first_latch c.args.aig.now) (take k reads) (take (k + 1) reads) c.lit-item.result (take-more reads k c.lit-item.result c.loop-lit-test.true c.lit-item.is))

pub merge_gates-requires : goal.merge_gates-requires
merge_gates-requires c =
    let reads : List ℕ = c.args.reads.now in
    let all : take c.loop-lit.lit-index reads ≡ reads = take_all c.loop-lit.lit-index reads (omega (arith, c.loop-lit-test.false)) in
    omega (
      arith,
      ap (λ (xs : List ℕ). length xs) c.loop-lit.invariant,
      length-from_first (first_latch c.args.aig.now) (take c.loop-lit.lit-index reads),
      ap (λ (xs : List ℕ). length xs) all,
      c.requires,
    )

pub returns : goal.returns
unfolding substitutes_after
returns c =
    let g : Graph = c.args.aig.now in
    let reads : List ℕ = c.args.reads.now in
    let all : take c.loop-lit.lit-index reads ≡ reads = take_all c.loop-lit.lit-index reads (omega (arith, c.loop-lit-test.false)) in
    c.in_ok-merge_gates.ensures
    ∙ ap (λ (xs : List ℕ). (merge_gates g.gates (merging_from xs)).substitutes) (c.loop-lit.invariant ∙ ap (from_first (first_latch g)) all ∙ leaves-is g reads)
