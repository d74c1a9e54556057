use Rattle.std.proofs.Common.{ℕ, ◌<◌, ◌≡◌, ◌+◌, ◌∙◌, List, length, refl, arith, ap, sym, subst}
use Rattle.std.proofs.lemmas.List.{length-set}
use Rattle.map_circuits.specs.Gathering.{GathersOn, IsGathered}
use Rattle.map_circuits.proofs.GatheringLaws.{gathered-kept, gathered-left}
use Rattle.map_circuits.proofs.gathering.gather_each.Goals as goal
use Rattle.map_circuits.proofs.gathering.gather_each.Goals.{then-marks-k, else-marks-k}

pub loop-k-init : goal.loop-k-init
loop-k-init c = record {
  few = c.requires.before;
  long = refl;
  gathered = λ first p old all g. g;
}

pub loop-k-preserved : goal.loop-k-preserved
loop-k-preserved c =
    let xs : List ℕ = c.loop-k.entries in
    let k : ℕ = c.loop-k.k in
    let inside : k < length xs = omega (arith, c.loop-k-test.true, c.requires.within, c.requires.entries, c.loop-k.invariant.long) in
    elim c.if-marks-k.branch [
      | then-marks-k w ↦ record {
        few = omega (arith, w.after-is, c.loop-k.invariant.few);
        long = ap (λ (ys : List ℕ). length ys) w.entries-is ∙ length-set xs c.loop-k.after w.index-entries-k.result ∙ c.loop-k.invariant.long;
        gathered = λ first p old all g.
            let P : ℕ → Type 0 = λ n. IsGathered first p n old c.if-marks-k.entries c.if-marks-k.after in
            let pass = sym (all.each k (omega (arith, c.loop-k-test.true, c.requires.within))) ∙ w.if-marks-k.true in
            subst P (omega arith) (gathered-kept first p old (first + k) k c.loop-k.after c.if-marks-k.after xs c.if-marks-k.entries w.index-entries-k.result (c.loop-k.invariant.gathered first p old all g) refl inside
            pass w.index-entries-k.is w.entries-is w.after-is);
      }
      | else-marks-k w ↦ record {
        few = omega (arith, w.after-is, c.loop-k.invariant.few);
        long = ap (λ (ys : List ℕ). length ys) w.entries-is ∙ c.loop-k.invariant.long;
        gathered = λ first p old all g.
            let P : ℕ → Type 0 = λ n. IsGathered first p n old xs c.loop-k.after in
            let Q : List ℕ → Type 0 = λ ys. IsGathered first p (first + (k + 1)) old ys c.loop-k.after in
            let R : ℕ → Type 0 = λ after. IsGathered first p (first + (k + 1)) old c.if-marks-k.entries after in
            let fails = sym (all.each k (omega (arith, c.loop-k-test.true, c.requires.within))) ∙ w.if-marks-k.false in
            subst R (sym w.after-is) (subst Q (sym w.entries-is) (subst P (omega arith) (gathered-left first p old (first + k) c.loop-k.after xs (c.loop-k.invariant.gathered first p old all g) fails)));
      }
    ]

pub returns-clause-gathered : goal.returns-clause-gathered
returns-clause-gathered c =
    let P : ℕ → Type 0 = λ n. GathersOn c.args.from n c.args.marks.now c.args.entries.now c.loop-k.entries c.args.kept c.loop-k.after in
    let ends : c.loop-k.k ≡ c.args.to = omega (arith, c.loop-k-test.false, c.loop-k.auto.k-end, c.requires.ordered) in
    subst P ends c.loop-k.invariant.gathered
