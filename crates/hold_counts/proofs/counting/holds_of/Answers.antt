use Rattle.std.proofs.Common.{◌≡◌, ℕ, ◌∙◌, ◌+◌, arith, sym, ap, length}
use Rattle.aig_graph.specs.Graph.{first_latch}
use Rattle.aig_graph.proofs.TableLaws.{entry, table-end, table-none}
use Rattle.hold_counts.specs.Holds.{hold_at}
use Rattle.hold_counts.proofs.counting.holds_of.Goals as goal

pub loop-place-init : goal.loop-place-init
loop-place-init c = c.in_ok-found.ensures.items ∙ sym (table-none (first_latch c.args.aig.now) _)

pub loop-place-preserved : goal.loop-place-preserved
loop-place-preserved c =
    let k : ℕ = c.loop-place.place in
    let first : ℕ = first_latch c.args.aig.now in
    let f : ℕ → ℕ = hold_at c.args.aig.now c.args.keep.now in
    let here : c.hold_at.result ≡ f (first + k) = c.hold_at.ensures ∙ ap f (omega (arith, c.first_latch-first.ensures.value)) in
    entry first k f c.loop-place.found.items c.push.new.self.items c.hold_at.result c.loop-place.invariant c.in_ok-push.ensures.items here

pub returns : goal.returns
returns c =
    let first : ℕ = first_latch c.args.aig.now in
    let many : ℕ = length c.args.aig.now.latches in
    let f : ℕ → ℕ = hold_at c.args.aig.now c.args.keep.now in
    table-end first c.loop-place.place many f c.loop-place.found.items
    (omega (arith, c.loop-place.auto.place-end, c.first_latch-first.ensures.value, c.first_gate-end.ensures.value))
    (omega (arith, c.loop-place-test.false, c.first_latch-first.ensures.value, c.first_gate-end.ensures.value)) c.loop-place.invariant
