use Rattle.std.proofs.Common.{◌∙◌, List, arith, length, refl, subst, sym}
use Rattle.aig_graph.specs.Circuits.{AreLiteralsOf}
use Rattle.aig_graph.specs.Graph.{Graph}
use Rattle.lane_sim.specs.Blocks.{block_of}
use Rattle.lane_sim.specs.Steps.{AreAt, HoldsAt}
use Rattle.lane_sim.specs.declared.stimulus.InputSequence.{InputSequence}
use Rattle.lane_sim.proofs.BlockLaws.{inside_blocks}
use Rattle.aig_graph.proofs.PropsLaws.{properties-within}
use Rattle.reports.specs.waves.Moments.{HasRoom, IsAt}
use Rattle.reports.proofs.WaveMomentLaws.{one-more_block}
use Rattle.reports.proofs.waves.times.put_first.Goals as goal

pub block_at-sequences-requires : goal.block_at-sequences-requires
block_at-sequences-requires g c = omega (arith, inside_blocks (length c.args.shown.now.sequences.now) c.args.block (omega (arith, c.requires.block, c.requires.room.many)))

pub put_block-requires-clause-moment : goal.put_block-requires-clause-moment
put_block-requires-clause-moment g c =
    let circuit = c.args.shown.now.circuit.now in
    let runs : List InputSequence = block_of c.args.shown.now.sequences.now c.args.block in
    let values = c.open_block.new.values in
    let literals = c.as_slice.ensures.value ∙ c.requires.room.literals in
    let at : AreAt circuit.aig runs values 0 =
    subst (λ (graph : Graph). AreAt graph runs values 0) c.aig.ensures.value
    (subst (λ (xs : List InputSequence). AreAt c.aig.result.now xs values 0) c.block_at-sequences.ensures.value c.open_block.ensures.values) in
    record {
      literals = literals;
      inside = subst (AreLiteralsOf circuit.aig) (sym literals) (properties-within circuit c.known.ensures.netlist);
      before = at;
      values = at;
    }

pub returns-clause-room : goal.returns-clause-room
returns-clause-room g c =
    let circuit = c.args.shown.now.circuit.now in
    let sequences = c.args.shown.now.sequences.now in
    let runs : List InputSequence = block_of sequences c.args.block in
    let values = c.open_block.new.values in
    let state = c.open_block.new.state in
    let at : AreAt circuit.aig runs values 0 =
    subst (λ (graph : Graph). AreAt graph runs values 0) c.aig.ensures.value
    (subst (λ (xs : List InputSequence). AreAt c.aig.result.now xs values 0) c.block_at-sequences.ensures.value c.open_block.ensures.values) in
    let held : HoldsAt circuit.aig runs state 0 =
    subst (λ (graph : Graph). HoldsAt graph runs state 0) c.aig.ensures.value
    (subst (λ (xs : List InputSequence). HoldsAt c.aig.result.now xs state 0) c.block_at-sequences.ensures.value c.open_block.ensures.state) in
    one-more_block circuit sequences (IsAt circuit sequences 0) (HasRoom circuit) c.args.block c.args.room.now _ state c.requires.room c.requires.block refl refl c.requires.room.before at.room held
