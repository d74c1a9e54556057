use Rattle.std.proofs.Common.{ℕ, ◌≡◌, ◌+◌, ◌∙◌, refl, arith, subst}
use Rattle.map_circuits.specs.Gathering.{IsGathered}
use Rattle.map_circuits.proofs.GatheringLaws.{gathered-none}
use Rattle.map_circuits.proofs.gathering.gather_marked.Goals as goal

pub loop-from-init : goal.loop-from-init
loop-from-init c = record {
  few = omega arith;
  inside = omega arith;
  long = refl;
  gathered = λ first p all. gathered-none first p c.args.entries.now (first + 0) (λ v h. all.before v (omega (arith, h)));
}

pub loop-from-preserved : goal.loop-from-preserved
loop-from-preserved c = record {
  few = c.gather_block-kept.ensures.few;
  inside = omega (arith, c.min.ensures, c.loop-from.invariant.inside);
  long = c.gather_block-kept.auto.entries ∙ c.loop-from.invariant.long;
  gathered = λ first p all. c.gather_block-kept.ensures.gathered first p c.args.entries.now all (c.loop-from.invariant.gathered first p all);
}

pub returns-clause-gathered : goal.returns-clause-gathered
returns-clause-gathered c = λ first p all.
    let P : ℕ → Type 0 = λ n. IsGathered first p (first + n) c.args.entries.now c.loop-from.entries c.loop-from.kept in
    let ends : c.loop-from.from ≡ c.args.count = omega (arith, c.loop-from-test.false, c.loop-from.invariant.inside) in
    subst P ends (c.loop-from.invariant.gathered first p all)
