use Rattle.std.proofs.Common.{ℕ, ◌≡◌, ◌++◌, ◌∷◌, [], ◌∙◌, List, length, arith, ap, sym}
use Rattle.aig_graph.specs.Graph.{Graph}
use Rattle.certificates.specs.declared.merged.MergedLatch.{MergedLatch}
use Rattle.merged_circuits.specs.Lines.{is_merged, latch_line}
use Rattle.merged_circuits.proofs.LineLaws.{lines_below, lines-all, lines-more, lines-none, lines-stay}
use Rattle.latch_readings.proofs.ReadingLaws.{line-is, merged-is}
use Rattle.latch_readings.proofs.lines.merged_lines.Goals as goal
use Rattle.latch_readings.proofs.lines.merged_lines.Goals.{then-ne+in_ok-push, else-ne}

pub loop-place-init : goal.loop-place-init
loop-place-init c = c.new-lines.ensures.items ∙ sym (lines-none c.args.aig.now c.args.reads.now)

pub loop-place-preserved : goal.loop-place-preserved
loop-place-preserved c =
    let g : Graph = c.args.aig.now in
    let reads : List ℕ = c.args.reads.now in
    let k : ℕ = c.loop-place.place in
    let is : c.ne.result ≡ is_merged (latch_line g reads k) =
    merged-is g reads k c.index-reads-place.result c.own_literal-own.result c.ne.result c.loop-place-test.true c.index-reads-place.is c.own_literal-own.ensures c.ne.ensures in
    elim c.if-ne.branch [
      | then-ne+in_ok-push w ↦
          ap (λ v. v.items) w.lines-is ∙ w.in_ok-push.ensures.items
          ∙ ap (λ (xs : List MergedLatch). xs ++ record { latch = w.var.result; reads = c.index-reads-place.result } ∷ []) c.loop-place.invariant
          ∙ ap (λ (x : MergedLatch). lines_below g reads k ++ x ∷ [])
          (line-is g reads k c.index-reads-place.result c.own_literal-own.result w.var.result c.loop-place-test.true c.index-reads-place.is c.own_literal-own.ensures w.var.ensures.variable)
          ∙ sym (lines-more g reads k (sym is ∙ w.if-ne.true))
      | else-ne w ↦ ap (λ v. v.items) w.lines-is ∙ c.loop-place.invariant ∙ sym (lines-stay g reads k (sym is ∙ w.if-ne.false))
    ]

pub returns : goal.returns
returns c =
    let g : Graph = c.args.aig.now in
    let reads : List ℕ = c.args.reads.now in
    let all : c.loop-place.place ≡ length g.latches = omega (arith, c.loop-place-test.false, c.loop-place.auto.place-end, c.requires) in
    c.from_vec.ensures ∙ c.loop-place.invariant ∙ ap (lines_below g reads) all ∙ lines-all g reads
