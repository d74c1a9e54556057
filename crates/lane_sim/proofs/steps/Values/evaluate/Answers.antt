use Rattle.std.proofs.Common.{ℕ, List, ap, arith, length, subst, sym, ◌∙◌}
use Rattle.std.proofs.lemmas.List.{with_items_is}
use Rattle.lane_sim.specs.Blocks.{in_lane, HoldsLatches}
use Rattle.lane_sim.specs.Lanes.{held}
use Rattle.lane_sim.proofs.StepLaws.{are_at}
use Rattle.lane_sim.proofs.steps.Values.evaluate.Goals as goal

pub returns : goal.returns
returns c =
    let g = c.args.aig.now in
    let sequences = c.args.sequences.now in
    let step = c.args.step in
    let table = c.as_mut_slice.ensures.value in
    are_at g sequences _ step c.fill.new.table (with_items_is c.args.self.now.table c.fill.new.table (omega (arith, c.fill.auto.table, c.as_mut_slice.ensures.len))) c.fill.ensures.graph
    (omega (arith, c.fill.auto.table, ap length table, c.requires.room.long))
    (λ k h. c.fill.ensures.values k h (ap (λ (xs : List (List ℕ)). held xs 0 k) table ∙ c.requires.room.constant k h)
    (subst (λ (xs : List (List ℕ)). HoldsLatches g (in_lane sequences k) xs k step) (sym c.as_slice.ensures.value) (c.requires.state.each k h)))
