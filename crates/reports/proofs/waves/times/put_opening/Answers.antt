use Rattle.std.proofs.Common.{◌*◌, ◌<◌, ◌≡◌, ◌∙◌, arith, length, min, rules, sym}
use Rattle.lane_sim.specs.Traces.{trace}
use Rattle.lane_sim.proofs.BlockLaws.{inside_blocks}
use Rattle.reports.specs.waves.Dumps.{values, values_of}
use Rattle.reports.specs.waves.Moments.{HasRoom, IsAt}
use Rattle.reports.proofs.WaveMomentLaws.{all-blocks, all-sequences, puts-block, trace-length}
use Rattle.reports.proofs.waves.times.put_opening.Goals as goal

pub loop-block-init : goal.loop-block-init
loop-block-init g c =
    record {
      room = record {
        literals = c.requires.literals;
        before = c.requires.before;
        values = c.requires.values;
        many = c.requires.many;
        done = λ b d none within. absurd (omega (arith, none));
        waiting = c.requires.waiting;
      };
      text = search rules;
    }

pub loop-block-preserved : goal.loop-block-preserved
loop-block-preserved g c =
    let shown = c.args.shown.now in
    let sequences = shown.sequences.now in
    let k = c.loop-block.block in
    let inside : 256 * k < length sequences = inside_blocks (length sequences) k (omega (arith, c.loop-block-test.true, c.len-block-end.ensures, c.requires.many)) in
    record {
      room = c.put_first.ensures.room;
      text = puts-block (values_of (trace shown.circuit.now sequences) shown.places 0) sequences k inside c.loop-block.invariant.text c.put_first.ensures.puts;
    }

pub returns-clause-room : goal.returns-clause-room
returns-clause-room g c =
    let shown = c.args.shown.now in
    let sequences = shown.sequences.now in
    all-blocks shown.circuit.now sequences (IsAt shown.circuit.now sequences 0) (HasRoom shown.circuit.now) (IsAt shown.circuit.now sequences 0) c.loop-block.block c.loop-block.room
    (omega (arith, c.loop-block-test.false, c.len-block-end.ensures, c.requires.many, c.loop-block.invariant.room.many)) c.loop-block.invariant.room

pub returns-clause-puts : goal.returns-clause-puts
unfolding values
returns-clause-puts g c =
    let shown = c.args.shown.now in
    let sequences = shown.sequences.now in
    let end : min (256 * c.loop-block.block) (length sequences) ≡ length (trace shown.circuit.now sequences) =
    all-sequences (length sequences) c.loop-block.block (omega (arith, c.loop-block-test.false, c.len-block-end.ensures, c.requires.many))
    ∙ sym (trace-length shown.circuit.now sequences) in
    rw end at c.loop-block.invariant.text
