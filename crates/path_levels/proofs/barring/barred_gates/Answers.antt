use Rattle.std.proofs.Common.{◌∙◌, ◌+◌, ◌<◌, ◌≡◌, List, length, ap, arith, sym}
use Rattle.aig_graph.proofs.TableLaws.{table-none}
use Rattle.aig_graph.specs.declared.graph.Gate.{Gate}
use Rattle.aig_graph.specs.Graph.{first_gate}
use Rattle.path_levels.specs.Bounded.{is_barred}
use Rattle.path_levels.proofs.MarkedLaws.{barred-more}
use Rattle.path_levels.proofs.barring.barred_gates.Goals as goal

pub loop-k-init : goal.loop-k-init
loop-k-init c = c.in_ok-barred.ensures.items ∙ sym (table-none (first_gate c.args.aig.now) (is_barred c.args.bound c.args.aig.now c.args.keep.now))

pub loop-k-preserved : goal.loop-k-preserved
loop-k-preserved c =
    let g = c.args.aig.now in
    let within : c.loop-k.k < length g.gates = omega (arith, c.loop-k-test.true, ap (λ (xs : List Gate). length xs) c.gates-gates.ensures.value) in
    let place : c.first_gate.result + c.loop-k.k ≡ first_gate g + c.loop-k.k = omega (arith, c.first_gate.ensures.value) in
    barred-more c.args.bound g c.args.keep.now c.first_latch-first.result c.loop-k.k (c.first_gate.result + c.loop-k.k) c.entry_at-arrival.result c.in_ok-pass.pass c.in_ok-arrivals.arrivals.items c.as_slice.result.now
    c.loop-k.barred.items c.push.new.self.items c.has.result c.is_late.result c.in_ok-pass.ensures c.has.ensures.value place within
    c.first_latch-first.ensures.value c.in_ok-arrivals.ensures c.as_slice.ensures.value c.entry_at-arrival.ensures c.is_late.ensures c.loop-k.invariant c.in_ok-push.ensures.items
