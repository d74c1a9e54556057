use Rattle.std.proofs.Common.{ℕ, ◌≡◌, ◌+◌, ◌-◌, ◌∙◌, ◌≤◌, ◌<◌, true, false, arith, ap, sym}
use Rattle.map_circuits.proofs.GatheringLaws.{block-all, gathered-run, gathered-skip}
use Rattle.map_circuits.proofs.gathering.gather_block.Goals as goal

pub returns-then-not-contains-clause-gathered : goal.returns-then-not-contains-clause-gathered
returns-then-not-contains-clause-gathered c = λ first p old all g.
    let from : ℕ = c.args.from in
    let to : ℕ = c.args.to in
    let fails : (v : ℕ) → first + from ≤ v → v < first + to → p v ≡ false =
    λ v low less.
    let at : v ≡ first + (v - first) = omega (arith, low) in
    ap p at ∙ sym (all.each (v - first) (omega (arith, low, less, c.requires.within)))
    ∙ block-all false c.args.marks.now from to c.requires.ordered c.requires.within c.if-not-contains.ensures.cases (v - first) (omega (arith, low)) (omega (arith, low, less)) in
    gathered-skip first p old (first + from) (first + to) c.args.kept c.args.entries.now g (omega (arith, c.requires.ordered)) fails

pub returns-then-not-contains-2-clause-gathered : goal.returns-then-not-contains-2-clause-gathered
returns-then-not-contains-2-clause-gathered c = λ first p old all g.
    let from : ℕ = c.args.from in
    let to : ℕ = c.args.to in
    let pass : (k : ℕ) → from ≤ k → k < to → p (first + k) ≡ true =
    λ k low less. sym (all.each k (omega (arith, less, c.requires.within)))
    ∙ block-all true c.args.marks.now from to c.requires.ordered c.requires.within c.if-not-contains-2.ensures.cases k low less in
    gathered-run first p old from to c.args.kept c.args.entries.now c.move_run.new.entries g c.requires.ordered c.requires.before c.move_run.ensures.long
    pass c.move_run.ensures.moved c.move_run.ensures.below c.move_run.ensures.above
