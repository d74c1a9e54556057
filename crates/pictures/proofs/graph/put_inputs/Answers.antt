use Rattle.std.proofs.Common.{◌+◌, ◌-◌, ◌≡◌, ℕ, true, rules, subst}
use Rattle.std.specs.List.{flat_map, range_with_len}
use Rattle.counted_io.specs.Buffered.{Puts}
use Rattle.counted_io.proofs.BufferedLaws.{puts-range_next, puts-range_ended}
use Rattle.pictures.specs.Pictures.{input_lines}
use Rattle.pictures.specs.Views.{drawn_in, look_in}
use Rattle.pictures.proofs.graph.put_inputs.Goals as goal

pub loop-input-preserved : goal.loop-input-preserved
loop-input-preserved g c =
    puts-range_next (input_lines (look_in c.args.view.now) (drawn_in c.args.view.now)) 1 c.loop-input.input c.loop-input.invariant c.put_drawn_input.ensures

pub returns-then-has_failed : goal.returns-then-has_failed
returns-then-has_failed g c =
    let bad : c.loop-input.out.failed ≡ true = search rules in
    let whole : c.loop-input.input + (c.args.inputs - c.loop-input.input) ≡ c.args.inputs = search rules in
    let lines = input_lines (look_in c.args.view.now) (drawn_in c.args.view.now) in
    subst (λ (n : ℕ). Puts g.W.CountedWrite.output c.args.out.now c.loop-input.out (flat_map lines (range_with_len 1 n))) whole
    (puts-range_ended lines 1 c.loop-input.input (c.args.inputs - c.loop-input.input) bad c.loop-input.invariant)
