use Rattle.std.proofs.Common.{ℕ, ◌+◌, ◌-◌, ◌*◌, ◌≡◌, [], ◌∷◌, true, rules, subst}
use Rattle.counted_io.specs.Buffered.{Puts}
use Rattle.counted_io.specs.Line.{line}
use Rattle.counted_io.proofs.BufferedLaws.{puts-range_next, puts-range_ended}
use Rattle.file_words.specs.Text.{input_rows}
use Rattle.aag_text.proofs.graph.put_inputs.Goals as goal

pub loop-input-preserved : goal.loop-input-preserved
loop-input-preserved g c = puts-range_next (λ (v : ℕ). line (2 * v ∷ [])) 1 c.loop-input.input c.loop-input.invariant c.put_line.ensures

pub returns-then-has_failed : goal.returns-then-has_failed
returns-then-has_failed g c =
    let bad : c.loop-input.out.failed ≡ true = search rules in
    let whole : c.loop-input.input + (c.args.inputs - c.loop-input.input) ≡ c.args.inputs = search rules in
    subst (λ (n : ℕ). Puts g.W.CountedWrite.output c.args.out.now c.loop-input.out (input_rows n)) whole
    (puts-range_ended (λ (v : ℕ). line (2 * v ∷ [])) 1 c.loop-input.input (c.args.inputs - c.loop-input.input) bad c.loop-input.invariant)
