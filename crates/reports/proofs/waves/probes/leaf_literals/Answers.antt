use Rattle.std.proofs.Common.{◌∙◌, arith, sym}
use Rattle.aig_graph.proofs.TableLaws.{entry, table-end, table-none}
use Rattle.reports.specs.waves.Probes.{literal}
use Rattle.reports.proofs.waves.probes.leaf_literals.Goals as goal

pub loop-k-init : goal.loop-k-init
loop-k-init c = c.in_ok-literals.ensures.items ∙ sym (table-none 1 _)

pub loop-k-preserved : goal.loop-k-preserved
loop-k-preserved c =
    entry 1 c.loop-k.k literal c.loop-k.literals.items c.push.new.self.items c.new.result c.loop-k.invariant c.in_ok-push.ensures.items
    (omega (arith, c.new.ensures))

pub returns : goal.returns
returns c =
    let g = c.args.aig.now in
    table-end 1 c.loop-k.k _ literal c.loop-k.literals.items (omega (arith, c.loop-k.auto.k-end, c.first_gate-count.ensures.value)) (omega (arith, c.loop-k-test.false, c.first_gate-count.ensures.value)) c.loop-k.invariant
