use Rattle.std.proofs.Common.{ℕ, ◌≡◌, ◌∙◌, ◌+◌, ◌*◌, arith, sym}
use Rattle.aig_graph.proofs.TableLaws.{entry, table-end, table-none}
use Rattle.retiming_maps.proofs.start.input_literals.Goals as goal

pub loop-place-init : goal.loop-place-init
loop-place-init c = c.in_ok-literals.ensures.items ∙ sym (table-none 0 _)

pub loop-place-preserved : goal.loop-place-preserved
loop-place-preserved c =
    let k : ℕ = c.loop-place.place in
    let f : ℕ → ℕ = λ j. 2 * (1 + j) in
    let here : c.new.result ≡ f (0 + k) = omega (arith, c.new.ensures) in
    entry 0 k f c.loop-place.literals.items c.push.new.self.items c.new.result c.loop-place.invariant c.in_ok-push.ensures.items here

pub returns : goal.returns
returns c =
    let f : ℕ → ℕ = λ j. 2 * (1 + j) in
    table-end 0 c.loop-place.place c.args.count f c.loop-place.literals.items (omega (arith, c.loop-place.auto.place-end)) (omega (arith, c.loop-place-test.false)) c.loop-place.invariant
