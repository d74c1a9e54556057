use Rattle.std.proofs.Common.{◌∙◌, ◌∷◌, [], ap, arith, ℕ}
use Rattle.counted_io.proofs.BufferedLaws.{puts-next, puts-end}
use Rattle.lane_sim.specs.Blocks.{in_lane}
use Rattle.lane_sim.specs.Traces.{value_in}
use Rattle.reports.specs.Traces.{digit}
use Rattle.reports.proofs.simulating.put_digits.Goals as goal

pub loop-lit-preserved : goal.loop-lit-preserved
loop-lit-preserved g c = λ h sequences t at.
    let value = c.digit.ensures ∙ ap digit (c.get.ensures h sequences t at) in
    puts-next (λ (lit : ℕ). digit (value_in h (in_lane sequences 0) t lit) ∷ []) _ _ _ c.loop-lit-test.true c.lit-item.is (c.loop-lit.invariant h sequences t at) (rw value at c.put_byte.ensures)

pub returns : goal.returns
returns g c = λ h sequences t at.
    puts-end (λ (lit : ℕ). digit (value_in h (in_lane sequences 0) t lit) ∷ []) c.args.literals.now _ (omega (arith, c.loop-lit-test.false)) (c.loop-lit.invariant h sequences t at)
