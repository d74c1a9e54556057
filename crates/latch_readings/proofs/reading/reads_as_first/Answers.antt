use Rattle.std.proofs.Common.{ℕ, ◌-◌, ◌+◌, ◌<◌, ◌≡◌, List, Some, slice_get, length, arith, ap, sym, ◌∙◌}
use Rattle.std.proofs.lemmas.Bool.{eqb-true, eq-eqb}
use Rattle.std.proofs.lemmas.Option.{slice_get_within}
use Rattle.aig_graph.specs.declared.graph.Latch.{Latch}
use Rattle.aig_graph.specs.Graph.{Graph, first_latch, variable}
use Rattle.clean.proofs.MappingLaws.{latch-there}
use Rattle.latch_readings.proofs.ReadingLaws.{first-literal, first-reads, item-read, not-both, of-first-at, of-first-variable}
use Rattle.latch_readings.proofs.reading.reads_as_first.Goals as goal
use Rattle.latch_readings.proofs.reading.reads_as_first.Goals.{then-may_merge, else-may_merge}

pub returns-then-var-first_latch-clause-only : goal.returns-then-var-first_latch-clause-only
returns-then-var-first_latch-clause-only c = λ f.
    absurd (omega (arith, of-first-variable c.args.aig.now c.args.held.now.positions.now c.args.reads.now c.args.place c.args.latch.now c.args.lit f, c.if-var-first_latch.true, c.var.ensures.variable, c.first_latch.ensures.value))

pub returns-then-earlier-place-clause-only : goal.returns-then-earlier-place-clause-only
returns-then-earlier-place-clause-only c = λ f.
    absurd (omega (arith, of-first-variable c.args.aig.now c.args.held.now.positions.now c.args.reads.now c.args.place c.args.latch.now c.args.lit f, f.less, c.if-earlier-place.true, c.var-2.ensures.variable, c.first_latch-2.ensures.value))

pub returns-then-is_first-clause-so : goal.returns-then-is_first-clause-so
returns-then-is_first-clause-so c = λ same.
    let g : Graph = c.args.aig.now in
    let reads : List ℕ = c.args.reads.now in
    let i : ℕ = c.var-2.result - c.first_latch-2.result in
    let within : i < length reads = omega (arith, c.if-earlier-place.false, c.requires.reads, slice_get_within g.latches c.args.place c.args.latch.now c.requires.there) in
    let there : slice_get g.latches i ≡ Some c.index-latches-earlier.result =
    latch-there g c.latches.result.now i c.index-latches-earlier.result c.latches.ensures.value
    (omega (arith, within, c.requires.reads, ap (λ (xs : List Latch). length xs) c.latches.ensures.value)) c.index-latches-earlier.is in
    elim c.if-may_merge.branch [
      | then-may_merge w ↦
          first-reads g c.args.held.now.positions.now reads c.args.place i c.args.latch.now c.index-latches-earlier.result c.own_literal-own.result c.constant_of.result c.signed_as-started.result
          c.constant_of-then-is_first.result c.signed_as.result c.args.lit (omega (arith, c.if-earlier-place.false)) there (sym c.may_merge.ensures ∙ w.if-may_merge.true)
          (sym (item-read reads i w.index-reads-earlier.result within w.index-reads-earlier.is) ∙ eqb-true _ _ (sym w.eq-is_first.ensures ∙ sym w.is_first-is ∙ c.if-is_first.true))
          c.own_literal-own.ensures c.constant_of.ensures c.signed_as-started.ensures c.constant_of-then-is_first.ensures c.signed_as.ensures (eqb-true _ _ (sym c.eq.ensures ∙ same))
      | else-may_merge w ↦ absurd (not-both c.if-may_merge.is_first (w.is_first-is ∙ w.if-may_merge.false) c.if-is_first.true)
    ]

pub returns-then-is_first-clause-only : goal.returns-then-is_first-clause-only
returns-then-is_first-clause-only c = λ f.
    let g : Graph = c.args.aig.now in
    let reads : List ℕ = c.args.reads.now in
    let i : ℕ = c.var-2.result - c.first_latch-2.result in
    let within : i < length g.latches = omega (arith, c.if-earlier-place.false, slice_get_within g.latches c.args.place c.args.latch.now c.requires.there) in
    let there : slice_get g.latches i ≡ Some c.index-latches-earlier.result =
    latch-there g c.latches.result.now i c.index-latches-earlier.result c.latches.ensures.value (omega (arith, within, ap (λ (xs : List Latch). length xs) c.latches.ensures.value)) c.index-latches-earlier.is in
    let at : variable c.args.lit ≡ first_latch g + i = omega (arith, c.if-var-first_latch.false, c.var.ensures.variable, c.first_latch.ensures.value, c.var-2.ensures.variable, c.first_latch-2.ensures.value) in
    let of = of-first-at g c.args.held.now.positions.now reads c.args.place c.args.latch.now c.args.lit i c.index-latches-earlier.result at there f in
    c.eq.ensures
    ∙ eq-eqb c.args.lit c.signed_as.result
    (of.2 ∙ sym (first-literal g i c.args.latch.now c.index-latches-earlier.result c.own_literal-own.result c.constant_of.result c.signed_as-started.result
    c.constant_of-then-is_first.result c.signed_as.result c.own_literal-own.ensures c.constant_of.ensures c.signed_as-started.ensures c.constant_of-then-is_first.ensures c.signed_as.ensures))

pub returns-else-is_first-clause-only : goal.returns-else-is_first-clause-only
returns-else-is_first-clause-only c = λ f.
    let g : Graph = c.args.aig.now in
    let reads : List ℕ = c.args.reads.now in
    let i : ℕ = c.var-2.result - c.first_latch-2.result in
    let within : i < length reads = omega (arith, c.if-earlier-place.false, c.requires.reads, slice_get_within g.latches c.args.place c.args.latch.now c.requires.there) in
    let there : slice_get g.latches i ≡ Some c.index-latches-earlier.result =
    latch-there g c.latches.result.now i c.index-latches-earlier.result c.latches.ensures.value
    (omega (arith, within, c.requires.reads, ap (λ (xs : List Latch). length xs) c.latches.ensures.value)) c.index-latches-earlier.is in
    let at : variable c.args.lit ≡ first_latch g + i = omega (arith, c.if-var-first_latch.false, c.var.ensures.variable, c.first_latch.ensures.value, c.var-2.ensures.variable, c.first_latch-2.ensures.value) in
    let of = of-first-at g c.args.held.now.positions.now reads c.args.place c.args.latch.now c.args.lit i c.index-latches-earlier.result at there f in
    elim c.if-may_merge.branch [
      | then-may_merge w ↦
          absurd (not-both c.if-may_merge.is_first c.if-is_first.false
          (w.is_first-is ∙ w.eq-is_first.ensures ∙ eq-eqb w.index-reads-earlier.result c.own_literal-own.result
          (item-read reads i w.index-reads-earlier.result within w.index-reads-earlier.is ∙ of.1 ∙ sym c.own_literal-own.ensures)))
      | else-may_merge w ↦ absurd (not-both c.may_merge.result w.if-may_merge.false (c.may_merge.ensures ∙ of.0))
    ]
