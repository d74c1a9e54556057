use Rattle.std.proofs.Common.{ℕ, ◌<◌, ◌≡◌, ◌∙◌, ◌+◌, List, length, arith, ap, sym, subst}
use Rattle.std.proofs.lemmas.Bool.{ltb-true}
use Rattle.aig_graph.specs.declared.graph.Latch.{Latch}
use Rattle.aig_graph.specs.Graph.{Graph}
use Rattle.certificates.specs.declared.merged.MergedLatch.{MergedLatch}
use Rattle.latch_readings.proofs.LineLaws.{AreSaid, AreTaken, named, said-all, said-more, said-none, said-own, taken-all, taken-more, taken-none, taken-own}
use Rattle.latch_readings.proofs.lines.reading_of.Goals as goal
use Rattle.latch_readings.proofs.lines.reading_of.Goals.{in-Some+in_ok-push-in-Some, in-None+in_ok-push-in-None}

pub loop-place-init : goal.loop-place-init
loop-place-init c =
    let g : Graph = c.args.aig.now in
    let lines : List MergedLatch = c.args.lines.now in
    (subst (λ (reads : List ℕ). AreSaid g lines reads 0 0) (sym c.in_ok-reads.ensures.items) (said-none g lines), taken-none g lines)

pub loop-place-preserved : goal.loop-place-preserved
loop-place-preserved c =
    let g : Graph = c.args.aig.now in
    let lines : List MergedLatch = c.args.lines.now in
    let place : ℕ = c.loop-place.place in
    let at : ℕ = c.loop-place.at in
    let so : AreSaid g lines c.loop-place.reads.items place at = c.loop-place.invariant.0 in
    let taken : AreTaken g lines place at = c.loop-place.invariant.1 in
    let P : List ℕ → ℕ → Type 0 = λ reads n. AreSaid g lines reads (place + 1) n × AreTaken g lines (place + 1) n in
    elim c.match-line_for.branch [
      | in-Some+in_ok-push-in-Some w ↦
          subst (P c.match-line_for.reads.items) (sym w.at-is)
          (subst (λ (reads : List ℕ). P reads (at + 1)) (sym (ap (λ v. v.items) w.reads-is ∙ w.in_ok-push-in-Some.ensures.items))
          (said-more g lines c.loop-place.reads.items place at w.in-Some.lit so w.in-Some.ensures.0 w.in-Some.ensures.1, taken-more g lines place at w.in-Some.lit taken w.in-Some.ensures.0 w.in-Some.ensures.1))
      | in-None+in_ok-push-in-None w ↦
          let within : place < length g.latches = omega (arith, c.loop-place-test.true, ap (λ (xs : List Latch). length xs) c.latches-place-end.ensures.value) in
          subst (P c.match-line_for.reads.items) (sym w.at-is)
          (subst (λ (reads : List ℕ). P reads at) (sym (ap (λ v. v.items) w.reads-is ∙ w.in_ok-push-in-None.ensures.items))
          (said-own g lines c.loop-place.reads.items place at w.own_literal.result so w.own_literal.ensures, taken-own g lines place at within so.within taken w.in-None.ensures))
    ]

pub returns-in-Some-get : goal.returns-in-Some-get
returns-in-Some-get c =
    let g : Graph = c.args.aig.now in
    let lines : List MergedLatch = c.args.lines.now in
    let at : ℕ = c.loop-place.at in
    let found = c.in-Some-get.ensures.lookup in
    let left : at < length lines = ltb-true at (length lines) (sym found.0) in
    let end : c.loop-place.place ≡ length g.latches = omega (arith, c.loop-place-test.false, c.loop-place.auto.place-end, ap (λ (xs : List Latch). length xs) c.latches-place-end.ensures.value) in
    (named lines at c.in-Some-get.line.now left (sym found.1), taken-all g lines c.loop-place.place at c.loop-place.invariant.1 end left)

pub returns-in-None-get : goal.returns-in-None-get
returns-in-None-get c =
    let many = ap (λ (xs : List Latch). length xs) c.latches-place-end.ensures.value in
    let end : c.loop-place.place ≡ length c.args.aig.now.latches = omega (arith, c.loop-place-test.false, c.loop-place.auto.place-end, many) in
    said-all c.args.aig.now c.args.lines.now c.loop-place.reads.items c.loop-place.place c.loop-place.at c.loop-place.invariant.0 end c.in-None-get.ensures.lookup.3
