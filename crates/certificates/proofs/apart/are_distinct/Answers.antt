use Rattle.std.proofs.Common.{◌||◌, ◌==◌, ◌≤◌, ◌<◌, ◌+◌, ℕ, Bool, List, false, slice_index_or, length, arith, refl, sym, ap, subst, ◌∙◌}
use Rattle.std.specs.List.{IsDistinct}
use Rattle.frame_net.specs.declared.net.Point.{Point}
use Rattle.aig_graph.specs.Marking.{has, mark_at}
use Rattle.certificates.proofs.PassedLaws.{passed-none, passed-same}
use Rattle.certificates.proofs.DistinctLaws.{distinct-none, distinct-seen, distinct-more, has-more, mark-more, all-here}
use Rattle.certificates.proofs.apart.are_distinct.Goals as goal
use Rattle.certificates.proofs.apart.are_distinct.Goals.{then-point+else-mark_at, else-point}

abbrev none : Point
none = record { var = 0; behind = false }

abbrev IsCovered : ℕ → List Bool → ℕ → Type 0
IsCovered first marks v = (first ≤ v) × (v < first + length marks)

pub loop-point-init : goal.loop-point-init
loop-point-init c = record {
  long = refl;
  each = λ v low high. c.requires.none v ∙ sym (ap (λ (xs : List ℕ). has xs v) passed-none);
  distinct = subst (λ (xs : List ℕ). IsDistinct (λ v w. v == w) xs) (sym passed-none) distinct-none;
}

pub returns-then-mark_at : goal.returns-then-mark_at
returns-then-mark_at c =
    let points = c.args.points.now in
    let k = c.loop-point.point-index in
    let x = (slice_index_or points k none).var in
    let here = all-here points k none c.loop-point-test.true c.if-point.true (IsCovered c.args.first c.args.marks.now) c.requires.covered in (
      (λ e. absurd (cc)),
      (λ all. absurd (distinct-seen points k none c.loop-point-test.true c.if-point.true
          (sym (c.loop-point.invariant.each x here.0 here.1) ∙ sym c.mark_at.ensures ∙ c.if-mark_at.true) all)),
    )

pub loop-point-preserved : goal.loop-point-preserved
loop-point-preserved c =
    let points = c.args.points.now in
    let k = c.loop-point.point-index in
    let x = (slice_index_or points k none).var in
    elim c.if-point.branch [
      | then-point+else-mark_at w ↦
          let here = all-here points k none c.loop-point-test.true w.if-point.true (IsCovered c.args.first c.args.marks.now) c.requires.covered in
          record {
            long = ap length w.marks-is ∙ w.mark_variable.ensures.as_long ∙ c.loop-point.invariant.long;
            each = λ v low high.
                ap (λ (m : List Bool). mark_at c.args.first m v) w.marks-is
                ∙ mark-more c.args.first c.loop-point.marks w.mark_variable.new.marks x v w.mark_variable.ensures low (omega (arith, high, c.loop-point.invariant.long))
                ∙ ap (λ (b : Bool). b || (x == v)) (c.loop-point.invariant.each v low high) ∙ sym (has-more points k none c.loop-point-test.true w.if-point.true v);
            distinct = distinct-more points k none c.loop-point-test.true w.if-point.true c.loop-point.invariant.distinct
                (sym (c.loop-point.invariant.each x here.0 here.1) ∙ sym w.mark_at.ensures ∙ w.if-mark_at.false);
          }
      | else-point w ↦
          let same = passed-same points k none c.loop-point-test.true w.if-point.false in
          record {
            long = ap length w.marks-is ∙ c.loop-point.invariant.long;
            each = λ v low high.
                ap (λ (m : List Bool). mark_at c.args.first m v) w.marks-is ∙ c.loop-point.invariant.each v low high ∙ sym (ap (λ (xs : List ℕ). has xs v) same);
            distinct = subst (λ (xs : List ℕ). IsDistinct (λ v w. v == w) xs) (sym same) c.loop-point.invariant.distinct;
          }
    ]
