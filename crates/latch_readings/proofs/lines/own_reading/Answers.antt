use Rattle.std.proofs.Common.{ℕ, ◌∙◌, List, length, zero-add, arith, ap, sym}
use Rattle.aig_graph.specs.declared.graph.Latch.{Latch}
use Rattle.aig_graph.specs.Graph.{Graph}
use Rattle.aig_graph.proofs.TableLaws.{entry, table-end, table-none}
use Rattle.merged_circuits.specs.Readings.{own_literal, own_reading}
use Rattle.latch_readings.proofs.lines.own_reading.Goals as goal

pub loop-place-init : goal.loop-place-init
loop-place-init c = c.in_ok-reads.ensures.items ∙ sym (table-none 0 (own_literal c.args.aig.now))

pub loop-place-preserved : goal.loop-place-preserved
loop-place-preserved c =
    let g : Graph = c.args.aig.now in
    let k : ℕ = c.loop-place.place in
    entry 0 k (own_literal g) c.loop-place.reads.items c.push.new.self.items c.own_literal.result c.loop-place.invariant c.in_ok-push.ensures.items (c.own_literal.ensures ∙ sym (ap (own_literal g) (zero-add k)))

pub returns : goal.returns
unfolding own_reading
returns c =
    let g : Graph = c.args.aig.now in
    let many = ap (λ (xs : List Latch). length xs) c.latches-place-end.ensures.value in
    table-end 0 c.loop-place.place (length g.latches) (own_literal g) c.loop-place.reads.items
    (omega (arith, c.loop-place.auto.place-end, many)) (omega (arith, c.loop-place-test.false, many)) c.loop-place.invariant
