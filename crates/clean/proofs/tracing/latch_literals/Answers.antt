use Rattle.std.proofs.Common.{ℕ, ◌≡◌, ◌∙◌, ◌+◌, List, arith, ap, sym, length, slice_get, zero-add}
use Rattle.aig_graph.specs.declared.graph.Latch.{Latch}
use Rattle.aig_graph.specs.Graph.{variables_end}
use Rattle.aig_graph.proofs.TableLaws.{entry, table-end, table-none}
use Rattle.cleaned_circuits.specs.Latches.{latch_substitute}
use Rattle.clean.proofs.MappingLaws.{latch-entry, substitutes-long}
use Rattle.clean.proofs.tracing.latch_literals.Goals as goal

pub loop-place-init : goal.loop-place-init
loop-place-init c =
    c.in_ok-literals.ensures.items ∙ sym (table-none 0 (λ j. latch_substitute c.args.aig.now c.args.held.now j (slice_get c.args.aig.now.latches j)))

pub literal-requires : goal.literal-requires
literal-requires c =
    let g = c.args.aig.now in
    let long : length c.args.substitutes.now ≡ variables_end g = substitutes-long g c.args.held.now c.args.substitutes.now c.requires in
    let many = ap (λ (xs : List Latch). length xs) c.latches-place-end.ensures.value in
    omega (arith, long, many, c.loop-place-test.true, c.own_literal.ensures)

pub loop-place-preserved : goal.loop-place-preserved
loop-place-preserved c =
    let g = c.args.aig.now in
    let held : List ℕ = c.args.held.now in
    let place : ℕ = c.loop-place.place in
    let f : ℕ → ℕ = λ j. latch_substitute g held j (slice_get g.latches j) in
    let many = ap (λ (xs : List Latch). length xs) c.latches-place-end.ensures.value in
    let here : c.literal.result ≡ f (0 + place) =
    c.literal.ensures ∙ latch-entry g held c.args.substitutes.now place c.own_literal.result c.requires (omega (arith, many, c.loop-place-test.true)) c.own_literal.ensures ∙ ap f (sym (zero-add place)) in
    entry 0 place f c.loop-place.literals.items c.push.new.self.items c.literal.result c.loop-place.invariant c.in_ok-push.ensures.items here

pub returns : goal.returns
returns c =
    let g = c.args.aig.now in
    let f : ℕ → ℕ = λ j. latch_substitute g c.args.held.now j (slice_get g.latches j) in
    let many = ap (λ (xs : List Latch). length xs) c.latches-place-end.ensures.value in
    table-end 0 c.loop-place.place (length g.latches) f c.loop-place.literals.items (omega (arith, c.loop-place.auto.place-end, many)) (omega (arith, c.loop-place-test.false, many)) c.loop-place.invariant
