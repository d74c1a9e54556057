use Rattle.std.proofs.Common.{ℕ, ◌≡◌, ◌+◌, ◌-◌, ◌∙◌, List, arith, length, refl, subst, sym}
use Rattle.aig_graph.specs.Circuits.{AreLiteralsOf}
use Rattle.aig_graph.specs.Graph.{Graph}
use Rattle.lane_sim.specs.Blocks.{block_of}
use Rattle.lane_sim.specs.Steps.{AreAt, HoldsAt}
use Rattle.lane_sim.specs.declared.stimulus.InputSequence.{InputSequence}
use Rattle.lane_sim.proofs.BlockLaws.{inside_blocks}
use Rattle.aig_graph.proofs.PropsLaws.{properties-within}
use Rattle.reports.specs.waves.Moments.{IsAt}
use Rattle.reports.proofs.WaveMomentLaws.{one-more_block}
use Rattle.reports.proofs.waves.times.put_next.Goals as goal

pub block_at-sequences-requires : goal.block_at-sequences-requires
block_at-sequences-requires g c = omega (arith, inside_blocks (length c.args.shown.now.sequences.now) c.args.block (omega (arith, c.requires.block, c.requires.room.many)))

pub put_block-requires-clause-moment : goal.put_block-requires-clause-moment
put_block-requires-clause-moment g c =
    let circuit = c.args.shown.now.circuit.now in
    let runs : List InputSequence = block_of c.args.shown.now.sequences.now c.args.block in
    let step = c.args.step in
    let next : ℕ = step + 1 in
    let values = c.advance_block.new.values in
    let before = c.advance_block.new.before in
    let literals = c.as_slice.ensures.value ∙ c.requires.room.literals in
    let earlier : step ≡ step + 1 - 1 = omega arith in
    let at : AreAt circuit.aig runs values next =
    subst (λ (graph : Graph). AreAt graph runs values next) c.aig.ensures.value
    (subst (λ (xs : List InputSequence). AreAt c.aig.result.now xs values next) c.block_at-sequences.ensures.value c.advance_block.ensures.values) in
    let at_step : AreAt circuit.aig runs before step =
    subst (λ (graph : Graph). AreAt graph runs before step) c.aig.ensures.value
    (subst (λ (xs : List InputSequence). AreAt c.aig.result.now xs before step) c.block_at-sequences.ensures.value c.advance_block.ensures.before) in
    record {
      literals = literals;
      inside = subst (AreLiteralsOf circuit.aig) (sym literals) (properties-within circuit c.known.ensures.netlist);
      before = subst (AreAt circuit.aig runs before) earlier at_step;
      values = at;
    }

pub returns-clause-room : goal.returns-clause-room
returns-clause-room g c =
    let circuit = c.args.shown.now.circuit.now in
    let sequences = c.args.shown.now.sequences.now in
    let runs : List InputSequence = block_of sequences c.args.block in
    let step = c.args.step in
    let next : ℕ = step + 1 in
    let values = c.advance_block.new.values in
    let before = c.advance_block.new.before in
    let state = c.advance_block.new.state in
    let at : AreAt circuit.aig runs values next =
    subst (λ (graph : Graph). AreAt graph runs values next) c.aig.ensures.value
    (subst (λ (xs : List InputSequence). AreAt c.aig.result.now xs values next) c.block_at-sequences.ensures.value c.advance_block.ensures.values) in
    let at_step : AreAt circuit.aig runs before step =
    subst (λ (graph : Graph). AreAt graph runs before step) c.aig.ensures.value
    (subst (λ (xs : List InputSequence). AreAt c.aig.result.now xs before step) c.block_at-sequences.ensures.value c.advance_block.ensures.before) in
    let held : HoldsAt circuit.aig runs state next =
    subst (λ (graph : Graph). HoldsAt graph runs state next) c.aig.ensures.value
    (subst (λ (xs : List InputSequence). HoldsAt c.aig.result.now xs state next) c.block_at-sequences.ensures.value c.advance_block.ensures.state) in
    one-more_block circuit sequences (IsAt circuit sequences next) (IsAt circuit sequences step) c.args.block c.args.room.now _ state c.requires.room c.requires.block refl refl at_step.room at.room held
