use Rattle.std.proofs.Common.{List, Option, subst, sym, length, ◌+◌, ◌*◌}
use Rattle.lane_sim.specs.declared.difference.Place.{Place}
use Rattle.lane_sim.specs.declared.stimulus.InputSequence.{InputSequence}
use Rattle.lane_sim.specs.Blocks.{block_of}
use Rattle.lane_sim.specs.Comparing.{Compares, IsFoundIn, rows_by, steps_of}
use Rattle.lane_sim.proofs.ComparingLaws.{compared}
use Rattle.lane_sim.proofs.difference.compare_block.Goals as goal

pub returns : goal.returns
unfolding IsFoundIn
returns c =
    let a = c.args.a.now in
    let b = c.args.b.now in
    let sequences = c.args.sequences.now in
    let others = c.args.others.now in
    let found = c.in_ok-found.found in
    let Found : List InputSequence → List InputSequence → Type 0 = λ part other. Compares 0 (length part) (steps_of part) (rows_by a part) (rows_by b other) found in
    subst (λ (o : Option Place). Compares (256 * c.args.number) (256 * c.args.number + length (block_of sequences c.args.number)) (steps_of sequences) (rows_by a sequences) (rows_by b others) o) (sym c.after.ensures)
    (compared a b sequences others c.args.number found
    (subst (λ (part : List InputSequence). Found part (block_of others c.args.number)) c.block.ensures.value (subst (λ (other : List InputSequence). Found c.block.result.now other) c.block-2.ensures.value c.in_ok-found.ensures)))
