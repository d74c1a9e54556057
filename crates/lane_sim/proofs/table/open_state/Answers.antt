use Rattle.std.proofs.Common.{ℕ, ◌+◌, ◌<◌, ◌∙◌, sym, ap, arith, length}
use Rattle.lane_sim.proofs.TableLaws.{read_at, opened, free_before-yes, free_before-no, known_unless_free}
use Rattle.lane_sim.specs.Blocks.{in_lane}
use Rattle.lane_sim.specs.Traces.{choice_of}
use Rattle.aig_graph.specs.Value.{opening}
use Rattle.aig_graph.proofs.FreeLaws.{free-where}
use Rattle.lane_sim.proofs.table.open_state.Goals.{in-Free, in_default}
use Rattle.lane_sim.proofs.table.open_state.Goals as goal

pub loop-j-preserved : goal.loop-j-preserved
loop-j-preserved c =
    let latches = c.latches-latch-items.ensures.value in
    let at = read_at c.args.aig.now.latches c.latches-latch-items.result.now c.loop-j.j c.latch-item.result latches c.loop-j-test.true c.latch-item.is in
    let room : c.loop-j.j < length c.loop-j.state = omega (arith, c.loop-j.auto.state, c.requires.latches, c.loop-j-test.true, ap length latches) in
    record {
      free = elim c.match-latch.branch [
        | in-Free w ↦ w.free-is ∙ ap (λ (n : ℕ). n + 1) c.loop-j.invariant.free ∙ sym (free_before-yes c.args.aig.now c.loop-j.j c.latch-item.result at (free-where c.latch-item.result w.in-Free.is))
        | in_default w ↦ w.free-is ∙ c.loop-j.invariant.free ∙ sym (free_before-no c.args.aig.now c.loop-j.j c.latch-item.result at (known_unless_free c.latch-item.result w.in_default.not-Free))
      ];
      before = λ k j h l. opened c.args.aig.now c.latches-latch-items.ensures.graph (in_lane c.args.sequences.now k) c.loop-j.state k c.loop-j.j c.latch-item.result c.opening_lanes.result at room
          (c.opening_lanes.ensures k h ∙ ap (λ (n : ℕ). opening c.latch-item.result.reset (choice_of (in_lane c.args.sequences.now k) n)) c.loop-j.invariant.free)
          (λ i. c.loop-j.invariant.before k i h) j l;
    }

pub returns : goal.returns
returns c = λ k h. record { each = λ j less. c.loop-j.invariant.before k j h (omega (arith, less, c.loop-j-test.false, ap length c.latches-latch-items.ensures.value)) }

pub opening_lanes-requires : goal.opening_lanes-requires
opening_lanes-requires c = c.requires.lanes
