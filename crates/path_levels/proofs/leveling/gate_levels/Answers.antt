use Rattle.std.proofs.Common.{◌∙◌, refl, sym}
use Rattle.aig_graph.proofs.TableLaws.{table-none}
use Rattle.aig_graph.specs.Graph.{first_gate}
use Rattle.path_levels.specs.Levels.{level}
use Rattle.path_levels.proofs.EntryLaws.{entries-low, gate-more}
use Rattle.path_levels.proofs.LevelLaws.{level-before, level-low, level-gate}
use Rattle.path_levels.proofs.leveling.gate_levels.Goals as goal

pub loop-gate-init : goal.loop-gate-init
loop-gate-init c = c.in_ok-entries.ensures.items ∙ sym (table-none (first_gate c.args.aig.now) (level c.args.aig.now))

pub loop-gate-preserved : goal.loop-gate-preserved
loop-gate-preserved c =
    let g = c.args.aig.now in
    gate-more g (first_gate g) c.first_gate-first.result c.loop-gate.gate-index c.loop-gate.gate-index c.entry_above-level.result (level g) c.gate-item.result c.gates-gate-items.result.now
    c.loop-gate.entries.items c.as_slice.result.now c.push.new.self.items
    c.gates-gate-items.ensures.graph (level-gate g c.gates-gate-items.ensures.graph) (level-before g) c.first_gate-first.ensures.value refl c.gates-gate-items.ensures.value c.loop-gate-test.true c.gate-item.is
    c.loop-gate.invariant c.as_slice.ensures.value c.in_ok-push.ensures.items c.entry_above-level.ensures

pub entry_above-level-requires : goal.entry_above-level-requires
entry_above-level-requires c =
    let g = c.args.aig.now in
    entries-low (first_gate g) c.first_gate-first.result c.loop-gate.gate-index _ (level g) c.loop-gate.entries.items c.as_slice.result.now
    c.first_gate-first.ensures.value c.loop-gate.invariant c.as_slice.ensures.value (level-low g c.gates-gate-items.ensures.graph)
